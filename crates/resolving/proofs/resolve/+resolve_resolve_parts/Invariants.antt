-- Resolving and the walk over parts meet their contracts: what was seen so far and the parts left make the whole. What falls is the brackets left.
-- Assumes nothing.
use Prim.Native.Nat.{◌+◌, ◌*◌, ◌-◌}
use Rattle.paths.specs.Lazy.{operand}
use Rattle.members.specs.Sheet.{sheet_in}
use Rattle.paths.specs.Stored.{frames_of, table, tree}
use Rattle.resolving.proofs.Wholes.{Gathering}
use Rattle.resolving.proofs.resolve.+resolve_resolve_parts.Given as goal

abbrev pub decreases-resolve : goal.decreases-resolve
decreases-resolve l = 2 * l.left + 1

abbrev pub decreases-resolve_parts : goal.decreases-resolve_parts
decreases-resolve_parts l = 2 * l.left

abbrev pub invariant-resolve_parts-loop-x : goal.invariant-resolve_parts-loop-x
invariant-resolve_parts-loop-x l =
    Gathering l.quiet l.s l.initial.work (sheet_in l.s) (frames_of l.s (table l.initial.work) l.scope.frames) l.node l.scope.frames.depth l.named
    (l.left - 1) (operand (sheet_in l.s) (frames_of l.s (table l.initial.work) l.scope.frames) (tree l.s (table l.initial.work) l.node)) l.work l.whole
    l.c

abbrev pub decreases-resolve_parts-loop-x : goal.decreases-resolve_parts-loop-x
decreases-resolve_parts-loop-x l = l.c.left
