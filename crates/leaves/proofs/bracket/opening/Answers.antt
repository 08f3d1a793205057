-- `leaves::bracket::opening` meets its contract: by the byte behind the bracket.
-- Assumes nothing.
use Rattle.leaves.proofs.Values.{opens_on, opens_shut}
use Rattle.tokens.proofs.Scans.{none_there}
use mathlib.Core.Path.{sym, ◌∙◌}
use native.Mathlib.Omega.{arith}
use Rattle.leaves.proofs.bracket.opening.Goals as goal

pub returns-in-Some : goal.returns-in-Some
returns-in-Some c =
    opens_shut c.args.s.now c.args.at c.args.close c.skip-here.result c.requires.1
    c.requires.0 c.skip-here.ensures (sym (c.in-Some.ensures.lookup.3.1 0) ∙ c.if-c-close.true)

pub returns-in_default : goal.returns-in_default
returns-in_default c =
    opens_on c.args.s.now c.args.at c.args.close c.skip-here.result c.requires.1
    c.requires.0 c.skip-here.ensures
    (λ q. c.if-c-close.false (c.in-Some.ensures.lookup.3.1 0 ∙ q))

pub returns-in_default-2 : goal.returns-in_default-2
returns-in_default-2 c =
    let z = none_there c.args.s.now c.skip-here.result (c.get.ensures.lookup.4 (omega arith) 0) c.in_default.is in
    opens_on c.args.s.now c.args.at c.args.close c.skip-here.result c.requires.1
    c.requires.0 c.skip-here.ensures (λ q. omega (arith, c.requires.1))
