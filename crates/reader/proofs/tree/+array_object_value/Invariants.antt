-- The cycle of `reader::tree::value`, `array` and `object` meets its contracts: the measures are the brackets left, doubled; each loop says what its separator decides.
-- Assumes nothing.
use Rattle.reader.proofs.ArrayLoop.{ArrayTurn, reach}
use Rattle.reader.proofs.ObjectLoop.{ObjectTurn}
use Prim.Native.Nat.{◌*◌, ◌+◌}
use Rattle.reader.proofs.tree.+array_object_value.Given as goal

abbrev pub decreases-array : goal.decreases-array
decreases-array l = 2 * l.left + 1

abbrev pub decreases-object : goal.decreases-object
decreases-object l = 2 * l.left + 1

abbrev pub decreases-value : goal.decreases-value
decreases-value l = 2 * l.left

abbrev pub invariant-array-loop-sep : goal.invariant-array-loop-sep
invariant-array-loop-sep l =
    ArrayTurn l.s l.left l.at l.node l.initial.work l.work l.initial.seen l.seen l.count l.sep

abbrev pub decreases-array-loop-sep : goal.decreases-array-loop-sep
decreases-array-loop-sep l = reach l.s l.sep

abbrev pub invariant-object-loop-sep : goal.invariant-object-loop-sep
invariant-object-loop-sep l =
    ObjectTurn l.s l.left l.at l.node l.initial.work l.work l.initial.seen l.seen l.count l.sep

abbrev pub decreases-object-loop-sep : goal.decreases-object-loop-sep
decreases-object-loop-sep l = reach l.s l.sep
