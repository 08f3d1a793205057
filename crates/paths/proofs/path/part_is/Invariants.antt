-- `paths::path::part_is` meets its contract: up to the first escape or difference the bytes of the part and the text are those that stand there, and
-- the same.
-- Assumes nothing.
use Prim.Native.Nat.{◌-◌}
use lib.ListN.{length}
use Rattle.paths.proofs.Matching.{Alongside}
use Rattle.paths.proofs.path.part_is.Given as goal

abbrev pub invariant-loop-name : goal.invariant-loop-name
invariant-loop-name l = Alongside l.path l.s l.name l.n

abbrev pub decreases-loop-name : goal.decreases-loop-name
decreases-loop-name l = length l.path - l.n
