-- The proof of the cycle of calls {condition, conditions, quantifier}: the measure is the brackets left, and each answer is the first fault by what was read of the node.
-- Assumes nothing.
use Prim.Native.Nat.{◌*◌, ◌+◌, ◌-◌}
use Rattle.json_text.specs.Table.{value_at}
use Rattle.members.proofs.Conditions.{faults_in}
use Rattle.members.proofs.Walks.{OverNodes}
use Rattle.members.specs.Condition.{condition_array}
use Rattle.members.specs.Verdicts.{fault_of}
use Rattle.strings.proofs.Nodes.{Along}
use Rattle.strings.specs.Leads.{of_array}
use Rattle.strings.specs.Nodes.{elements_left}
use Rattle.syntax.proofs.condition.+condition_conditions_quantifier.Given as goal

abbrev pub decreases-condition : goal.decreases-condition
decreases-condition l = 2 * l.left + 1

abbrev pub decreases-conditions : goal.decreases-conditions
decreases-conditions l = 2 * l.left

abbrev pub decreases-quantifier : goal.decreases-quantifier
decreases-quantifier l = 2 * l.left

abbrev pub invariant-conditions-loop-k : goal.invariant-conditions-loop-k
invariant-conditions-loop-k l =
    Along l.work of_array l.end (OverNodes l.s l.work (l.left - 1) l.end (fault_of (condition_array (value_at l.s l.work l.node))) faults_in) (elements_left l.k-iterator)
