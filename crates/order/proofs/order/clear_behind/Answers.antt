-- `order::order::clear_behind` meets its contract: by what `fill` writes.
-- Assumes nothing.
use Rattle.order.proofs.Clearing.{cleared_behind}
use Rattle.order.proofs.order.clear_behind.Goals as goal

pub returns : goal.returns
returns c = cleared_behind c.args.work.now c.args.count c.fill.new.self c.requires.0 c.requires.1 c.fill.ensures.after
