-- `sheet::written::under_each` meets its contract: the loop says that the first fault from here on is the first of all.
-- Assumes nothing.
use Rattle.json_text.specs.Json.{elements}
use Rattle.json_text.specs.Table.{value_at}
use Rattle.members.proofs.Soundness.{soundness}
use Rattle.members.proofs.Walks.{OverNodes}
use Rattle.members.specs.Sheet.{in_array, member_of_each}
use Rattle.strings.proofs.Nodes.{Along}
use Rattle.strings.specs.Leads.{of_array}
use Rattle.strings.specs.Nodes.{elements_left}
use Rattle.sheet.proofs.written.under_each.Given as goal

abbrev pub invariant-loop-k : goal.invariant-loop-k
invariant-loop-k l =
    Along l.work of_array l.end
    (OverNodes l.s l.work 64 l.end (soundness (in_array l.word (value_at l.s l.work l.node))) (λ vs. soundness (member_of_each l.word (elements vs))))
    (elements_left l.k-iterator)
