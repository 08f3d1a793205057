-- `writer::lay::Output::quoted` meets its contract: the loop says that what is left of the text is left to lay.
-- Assumes nothing.
use Rattle.json_text.specs.Spans.{text_at}
use Rattle.strings.specs.Decoded.{left_of}
use Rattle.writer.proofs.Quotes.{Quoting}
use Rattle.writer.proofs.lay.Output.quoted.Given as goal

abbrev pub invariant-loop-b : goal.invariant-loop-b
invariant-loop-b l = Quoting (text_at l.s l.text) l.initial.self l.self (left_of l.b-iterator)
