-- `operands::holds::is_element` meets its contract: an equal one is looked for among the elements left.
-- Assumes nothing.
use mathlib.Core.Bool.{false}
use Rattle.paths.specs.Comparing.{alike}
use Rattle.paths.specs.Layered.{each_node, kids, part_at}
use Rattle.members.specs.Sheet.{sheet_in}
use Rattle.paths.specs.Shape.{one_alike}
use Rattle.paths.specs.Stored.{frames_of, operand_of, table}
use Rattle.operands.proofs.Pairs.{Looking}
use Rattle.operands.proofs.holds.is_element.Given as goal

abbrev pub invariant-loop-x : goal.invariant-loop-x
invariant-loop-x l =
    Looking l.s (table l.work) false
    (one_alike (alike (sheet_in l.s) l.left (frames_of l.s (table l.work) l.scope.frames)) (operand_of l.s (table l.work) l.o)
    (each_node (part_at (sheet_in l.s) l.s (table l.work) (frames_of l.s (table l.work) l.scope.frames) l.whole)
    (kids l.s (table l.work) l.whole.node false)))
    (λ ks. one_alike (alike (sheet_in l.s) l.left (frames_of l.s (table l.work) l.scope.frames)) (operand_of l.s (table l.work) l.o)
    (each_node (part_at (sheet_in l.s) l.s (table l.work) (frames_of l.s (table l.work) l.scope.frames) l.whole) ks)) l.c

abbrev pub decreases-loop-x : goal.decreases-loop-x
decreases-loop-x l = l.c.left
