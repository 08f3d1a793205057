-- `tokens::scan::byte` meets its contract: by what stands at the place.
-- Assumes nothing.
use Rattle.tokens.proofs.Scans.{byte_is, byte_not, none_there}
use Rattle.strings.specs.Answers.{scan_of}
use mathlib.Core.Path.{sym, ◌∙◌}
use native.Mathlib.Omega.{arith}
use Rattle.tokens.proofs.scan.byte.Goals as goal

pub returns-in-Some : goal.returns-in-Some
unfolding scan_of
returns-in-Some c = byte_is c.args.c c.args.s.now c.args.at (sym (c.in-Some.ensures.lookup.3.1 0) ∙ c.if-d-c.true)

pub returns-in_default : goal.returns-in_default
unfolding scan_of
returns-in_default c = byte_not c.args.c c.args.s.now c.args.at (λ q. c.if-d-c.false (c.in-Some.ensures.lookup.3.1 0 ∙ q))

pub returns-in_default-2 : goal.returns-in_default-2
unfolding scan_of
returns-in_default-2 c =
    let z = none_there c.args.s.now c.args.at (c.get.ensures.lookup.4 (omega arith) 0) c.in_default.is in
    byte_not c.args.c c.args.s.now c.args.at (λ q. omega (arith, c.requires))
