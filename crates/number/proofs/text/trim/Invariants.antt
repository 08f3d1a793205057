-- `trim` meets its contract: zeros passed are none of what is left.
-- Assumes nothing.
use Rattle.std.proofs.Common.{◌≡◌, length}
use Rattle.number.specs.Compare.{trim}
use Rattle.number.proofs.text.trim.Given as goal

abbrev pub invariant-loop-rest : goal.invariant-loop-rest
invariant-loop-rest l = trim l.rest ≡ trim l.s

abbrev pub decreases-loop-rest : goal.decreases-loop-rest
decreases-loop-rest l = length l.rest
