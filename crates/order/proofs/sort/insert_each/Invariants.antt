-- `insert_each` meets its contract: the loop says that the nodes from here on are in order.
-- Assumes nothing.
use mathlib.Core.Path.{◌≡◌}
use Prim.Native.Nat.{◌≤◌}
use lib.ListN.{length}
use Rattle.order.proofs.Inserting.{sorted_from}
use Rattle.order.proofs.sort.insert_each.Given as goal

abbrev pub invariant-loop-i : goal.invariant-loop-i
invariant-loop-i l = (l.i ≤ length l.initial.nodes) × (l.nodes ≡ sorted_from l.s l.work l.initial.nodes l.i)
