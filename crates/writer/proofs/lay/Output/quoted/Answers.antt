-- `writer::lay::Output::quoted` meets its contract: the loop says that what is left of the text is left to lay.
-- Assumes nothing.
use Rattle.json_text.specs.Spans.{text_at}
use Rattle.writer.proofs.Laying.{then}
use Rattle.writer.proofs.Quotes.{closed, on, quoting}
use Rattle.writer.proofs.lay.Output.quoted.Goals as goal

pub loop-b-init : goal.loop-b-init
loop-b-init c = rw (c.into_iter-b-iterator.ensures.into_iter_gives, c.new-b-items.ensures) (quoting (text_at c.args.s.now c.args.text) c.byte.new.self)

pub loop-b-preserved : goal.loop-b-preserved
loop-b-preserved c = on c.loop-b.invariant _ _ c.in-Some.ensures.steps c.quoted_byte.ensures

pub returns : goal.returns
returns c = then c.byte.ensures (closed c.loop-b.invariant c.in-None.ensures.steps.0 c.byte-2.ensures)
