-- `writer::lay::Output::sources` meets its contract: the loop says that the texts from its node on are left to lay.
-- Assumes nothing.
use Rattle.writer.proofs.Sourcing.{Sourcing}
use Rattle.writer.specs.Texts.{texts_in}
use Rattle.json_text.specs.Table.{value_at}
use Rattle.strings.proofs.Nodes.{Along}
use Rattle.strings.specs.Leads.{of_array}
use Rattle.strings.specs.Nodes.{elements_left}
use Rattle.writer.proofs.lay.Output.sources.Given as goal

abbrev pub invariant-loop-k : goal.invariant-loop-k
invariant-loop-k l =
    Along l.work of_array l.end (λ k. Sourcing l.s l.work (texts_in (value_at l.s l.work l.node)) l.initial.self l.self k l.end) (elements_left l.k-iterator)
