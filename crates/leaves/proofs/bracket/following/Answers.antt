-- `leaves::bracket::following` meets its contract: by the byte behind the value.
-- Assumes nothing.
use Rattle.leaves.proofs.Values.{continues_not, continues_on, continues_shut}
use Rattle.tokens.proofs.Scans.{none_there}
use mathlib.Core.Path.{sym, ◌∙◌}
use native.Mathlib.Omega.{arith}
use Rattle.leaves.proofs.bracket.following.Goals as goal

pub returns-in-Some-eq44 : goal.returns-in-Some-eq44
returns-in-Some-eq44 c =
    continues_on c.args.s.now c.args.at c.args.close c.skip-here.result c.requires.1
    c.requires.0 c.skip-here.ensures
    (sym (c.in-Some-eq44.ensures.lookup.3.1 0) ∙ c.in-Some-eq44.field-0-test) c.skip.result c.skip.ensures

pub returns-in-Some : goal.returns-in-Some
returns-in-Some c =
    continues_shut c.args.s.now c.args.at c.args.close c.skip-here.result c.requires.1
    c.skip-here.ensures (sym (c.in-Some.ensures.lookup.3.1 0) ∙ c.if-c-close.true)

pub returns-in_default : goal.returns-in_default
returns-in_default c =
    continues_not c.args.s.now c.args.at c.args.close c.skip-here.result c.requires.1
    c.skip-here.ensures (λ q. c.in-Some.c-test.1 (c.in-Some.ensures.lookup.3.1 0 ∙ q))
    (λ q. c.if-c-close.false (c.in-Some.ensures.lookup.3.1 0 ∙ q))

pub returns-in_default-2 : goal.returns-in_default-2
returns-in_default-2 c =
    let z = none_there c.args.s.now c.skip-here.result (c.get.ensures.lookup.4 (omega arith) 0) c.in_default.is in
    continues_not c.args.s.now c.args.at c.args.close c.skip-here.result c.requires.1
    c.skip-here.ensures (λ q. omega arith) (λ q. omega (arith, c.requires.1))
