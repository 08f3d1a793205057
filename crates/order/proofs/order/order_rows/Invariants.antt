-- `order::order::order_rows` meets its contract: the objects passed are linked.
-- Assumes nothing.
use Rattle.order.specs.Ordered.{LinkedUpto}
use Rattle.order.proofs.order.order_rows.Given as goal

abbrev pub invariant-loop-k : goal.invariant-loop-k
invariant-loop-k l = LinkedUpto l.s l.initial.work l.work l.k
