-- `writer::lay::Output::bytes` meets its contract: the loop says that the bytes from the index on are left to lay.
-- Assumes nothing.
use lib.ListN.{drop}
use Rattle.writer.proofs.Laying.{Going}
use Rattle.writer.proofs.lay.Output.bytes.Given as goal

abbrev pub invariant-loop-b : goal.invariant-loop-b
invariant-loop-b l = Going l.initial.self l.bs l.self (drop l.b-index l.bs)
