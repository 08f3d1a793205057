-- `leaves::names::slot` meets its contract: the loop says that the rest of the text from this number on decides the whole.
-- Assumes nothing.
use Rattle.json_text.specs.Naming.{hashed}
use Rattle.json_text.specs.Spans.{text_at}
use Rattle.leaves.proofs.Marks.{Hashing}
use Rattle.strings.specs.Decoded.{left_of}
use Rattle.leaves.proofs.names.slot.Given as goal

abbrev pub invariant-loop-b : goal.invariant-loop-b
invariant-loop-b l = Hashing (hashed l.object (text_at l.s l.name)) l.mark (left_of l.b-iterator)
