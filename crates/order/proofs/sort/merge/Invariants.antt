-- `order::sort::merge` meets its contract: a turn puts the least of what is left in its place.
-- Assumes nothing.
use Prim.Native.Nat.{◌-◌}
use lib.ListN.{length}
use Rattle.order.proofs.InPlace.{Merging}
use Rattle.order.proofs.sort.merge.Given as goal

abbrev pub invariant-loop-i : goal.invariant-loop-i
invariant-loop-i l = Merging l.s l.work l.left l.initial.nodes l.nodes l.i l.j l.k

abbrev pub decreases-loop-i : goal.decreases-loop-i
decreases-loop-i l = length l.initial.nodes - l.k
