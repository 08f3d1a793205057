-- `skip` meets its contract: skipping from here on is the whole.
-- Assumes nothing.
use Rattle.strings.proofs.Leaves.{Skipping}
use Rattle.tokens.proofs.scan.skip.Given as goal

abbrev pub invariant-loop-here : goal.invariant-loop-here
invariant-loop-here l = Skipping l.s l.at l.here
