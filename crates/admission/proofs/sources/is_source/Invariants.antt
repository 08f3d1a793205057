-- `admission::sources::is_source` meets its contract: the loop says that the outcomes from its node on decide.
-- Assumes nothing.
use Rattle.json_text.specs.Spans.{text_at}
use Rattle.members.specs.Condition.{condition}
use Rattle.members.specs.Outcome.{an_outcome}
use Rattle.answers.specs.Admission.{is_source}
use Rattle.rules.proofs.Walking.{Walking}
use Rattle.strings.proofs.Nodes.{Along}
use Rattle.strings.specs.Leads.{of_array}
use Rattle.strings.specs.Nodes.{elements_left}
use Rattle.admission.proofs.sources.is_source.Given as goal

abbrev pub invariant-loop-k : goal.invariant-loop-k
invariant-loop-k l =
    Along l.work of_array l.end
    (Walking (an_outcome condition) l.s l.work l.from l.end (is_source (text_at l.s l.text)) (is_source (text_at l.s l.text)))
    (elements_left l.k-iterator)
