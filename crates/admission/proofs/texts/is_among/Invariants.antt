-- `admission::texts::is_among` meets its contract: the loop says that the texts from its node on decide.
-- Assumes nothing.
use Rattle.members.specs.Kinds.{a_text}
use Rattle.json_text.specs.Bytes.{is_one_of}
use Rattle.json_text.specs.Spans.{text_at}
use Rattle.rules.proofs.Walking.{Walking}
use Rattle.strings.proofs.Nodes.{Along}
use Rattle.strings.specs.Leads.{of_array}
use Rattle.strings.specs.Nodes.{elements_left}
use Rattle.admission.proofs.texts.is_among.Given as goal

abbrev pub invariant-loop-k : goal.invariant-loop-k
invariant-loop-k l =
    Along l.work of_array l.end (Walking a_text l.s l.work l.from l.end (is_one_of (text_at l.s l.text)) (is_one_of (text_at l.s l.text))) (elements_left l.k-iterator)
