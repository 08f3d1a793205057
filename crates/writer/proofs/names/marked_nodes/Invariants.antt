-- `writer::names::marked_nodes` meets its contract: what was found and the nodes from k on are all.
-- Assumes nothing.
use Rattle.writer.proofs.Gathered.{Gathering}
use Rattle.writer.proofs.names.marked_nodes.Given as goal

abbrev pub invariant-loop-k : goal.invariant-loop-k
invariant-loop-k l = Gathering l.work l.nodes l.count l.k
