-- `all_of` meets its contract: the loop says that the nodes from here on decide.
-- Assumes nothing.
use Rattle.json_text.specs.Table.{values_at}
use Rattle.members.proofs.Elements.{Testing}
use Rattle.members.specs.Verdicts.{all_of}
use Rattle.members.specs.Wants.{Tells}
use Rattle.strings.proofs.Nodes.{Along}
use Rattle.strings.specs.Leads.{of_array}
use Rattle.strings.specs.Nodes.{elements_left}
use Rattle.members.proofs.kinds.all_of.Given as goal

abbrev pub invariant-loop-k : goal.invariant-loop-k
invariant-loop-k g l =
    Along l.work of_array l.end (Testing l.s l.work l.end (Tells (goal.F-post g l.test)) (λ p. all_of p (values_at l.s l.work l.from l.end))) (elements_left l.k-iterator)
