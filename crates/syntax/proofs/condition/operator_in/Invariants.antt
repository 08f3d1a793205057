-- `operator_in` meets its contract: the loop says that the rows from here on decide.
-- Assumes nothing.
use lib.ListN.{drop}
use Rattle.json_text.specs.Spans.{text_at}
use Rattle.syntax.proofs.Operators.{Seeking}
use Rattle.syntax.proofs.condition.operator_in.Given as goal

abbrev pub invariant-loop-word : goal.invariant-loop-word
invariant-loop-word l = Seeking (text_at l.s l.at) l.table (drop l.word-index l.table)
