-- `chain` meets its contract: the links that are written, and those still to be, are the whole chain.
-- Assumes nothing.
use Rattle.order.proofs.Chains.{Chaining}
use Rattle.order.proofs.links.chain.Given as goal

abbrev pub invariant-loop-name : goal.invariant-loop-name
invariant-loop-name l = Chaining l.initial.work l.node l.names l.end l.work l.at l.name-index
