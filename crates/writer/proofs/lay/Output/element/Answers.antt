-- `writer::lay::Output::element` meets its contract: a space, and then the text.
-- Assumes nothing.
use Rattle.writer.proofs.Laying.{then}
use Rattle.writer.proofs.lay.Output.element.Goals as goal

pub returns : goal.returns
returns c = then c.byte.ensures c.quoted.ensures
