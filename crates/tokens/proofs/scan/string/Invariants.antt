-- `string` meets its contract: the scan from here on is the whole scan.
-- Assumes nothing.
use Prim.Native.Nat.{◌-◌}
use lib.ListN.{length}
use Rattle.strings.proofs.Leaves.{Scanning}
use Rattle.tokens.proofs.scan.string.Given as goal

abbrev pub invariant-loop-here : goal.invariant-loop-here
invariant-loop-here l = Scanning l.s l.at l.here

abbrev pub decreases-loop-here : goal.decreases-loop-here
decreases-loop-here l = length l.s - l.here
