-- `writer::lay::Output::each_once` meets its contract: the texts from its place on that are not the one before them are left to lay.
-- Assumes nothing.
use Rattle.writer.proofs.Gathered.{Laying}
use Rattle.writer.proofs.lay.Output.each_once.Given as goal

abbrev pub invariant-loop-node : goal.invariant-loop-node
invariant-loop-node l = Laying l.s l.work l.nodes l.initial.self l.self l.last l.node-index
