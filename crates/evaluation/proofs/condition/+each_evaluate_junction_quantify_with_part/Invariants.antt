-- A condition, a junction, a quantifier, the walk over what it binds and its body for one part meet their contracts. What falls is the brackets left.
-- Assumes nothing.
use Prim.Native.Nat.{◌*◌, ◌+◌, ◌-◌}
use Rattle.members.specs.Answers.{mode_of}
use Rattle.members.specs.Sheet.{sheet_in}
use Rattle.paths.specs.Stored.{frames_of, table}
use Rattle.evaluation.proofs.Junctions.{Collecting}
use Rattle.evaluation.proofs.Quantifiers.{Turning}
use Rattle.evaluation.proofs.condition.+each_evaluate_junction_quantify_with_part.Given as goal

abbrev pub decreases-each : goal.decreases-each
decreases-each l = 3 * l.left + 2

abbrev pub decreases-evaluate : goal.decreases-evaluate
decreases-evaluate l = 3 * l.left

abbrev pub decreases-junction : goal.decreases-junction
decreases-junction l = 3 * l.left + 1

abbrev pub decreases-quantify : goal.decreases-quantify
decreases-quantify l = 3 * l.left + 2

abbrev pub decreases-with_part : goal.decreases-with_part
decreases-with_part l = 3 * l.left + 1

abbrev pub invariant-each-loop-x : goal.invariant-each-loop-x
invariant-each-loop-x l =
    Turning l.s l.initial.work (sheet_in l.s) l.scope.frames (mode_of l.q.mode) l.q.name l.q.body l.o l.named l.work l.truth l.c

abbrev pub decreases-each-loop-x : goal.decreases-each-loop-x
decreases-each-loop-x l = l.c.left

abbrev pub invariant-junction-loop-k : goal.invariant-junction-loop-k
invariant-junction-loop-k l =
    Collecting l.s l.initial.work (sheet_in l.s) (frames_of l.s (table l.initial.work) l.scope.frames) (mode_of l.mode) l.node (l.left - 1) l.end l.work
    l.truth l.k

abbrev pub decreases-junction-loop-k : goal.decreases-junction-loop-k
decreases-junction-loop-k l = l.end - l.k
