-- Equality and the walk over parts meet their contracts: classes first, then part by part. What falls is the number of layers left.
-- Assumes nothing.
use Prim.Native.Nat.{◌+◌, ◌*◌}
use Rattle.paths.specs.Comparing.{alike}
use Rattle.paths.specs.Layered.{alike_nodes, kids, part_at}
use Rattle.members.specs.Sheet.{sheet_in}
use Rattle.paths.specs.Stored.{frames_of, table}
use Rattle.resolving.proofs.Alike.{Comparing}
use Rattle.operands.proofs.equal.+equal_at_equal_parts.Given as goal

abbrev pub decreases-equal_at : goal.decreases-equal_at
decreases-equal_at l = 2 * l.left

abbrev pub decreases-equal_parts : goal.decreases-equal_parts
decreases-equal_parts l = 2 * l.left + 1

abbrev pub invariant-equal_parts-loop-p : goal.invariant-equal_parts-loop-p
invariant-equal_parts-loop-p l =
    Comparing l.s (table l.work) (alike (sheet_in l.s) l.left (frames_of l.s (table l.work) l.scope.frames)) l.named
    (part_at (sheet_in l.s) l.s (table l.work) (frames_of l.s (table l.work) l.scope.frames) l.a)
    (part_at (sheet_in l.s) l.s (table l.work) (frames_of l.s (table l.work) l.scope.frames) l.b)
    (alike_nodes l.s (table l.work) (alike (sheet_in l.s) l.left (frames_of l.s (table l.work) l.scope.frames)) l.named
    (part_at (sheet_in l.s) l.s (table l.work) (frames_of l.s (table l.work) l.scope.frames) l.a)
    (part_at (sheet_in l.s) l.s (table l.work) (frames_of l.s (table l.work) l.scope.frames) l.b)
    (kids l.s (table l.work) l.a.node l.named) (kids l.s (table l.work) l.b.node l.named)) l.x l.y

abbrev pub decreases-equal_parts-loop-p : goal.decreases-equal_parts-loop-p
decreases-equal_parts-loop-p l = l.x.left
