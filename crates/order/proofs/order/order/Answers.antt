-- `order::order::order` meets its contract: the tree's objects are linked, and behind it there is none.
-- Assumes nothing.
use mathlib.Core.Path.{◌≡◌}
use native.Mathlib.Omega.{arith}
use lib.ListN.{length}
use Rattle.json_text.proofs.Walk.{after_node}
use Rattle.order.proofs.Ordering.{cleared_count, cleared_table, ordered}
use Rattle.order.proofs.order.order.Goals as goal

pub clear_behind-requires : goal.clear_behind-requires
clear_behind-requires c = (
  c.requires.long,
  omega (
    arith,
    c.after_at-count.ensures,
    after_node c.args.s.now c.args.work.now c.requires.root,
  ),
)

pub order_rows-requires : goal.order_rows-requires
order_rows-requires c =
    let long : length c.clear_behind.new.work ≡ length c.args.work.now =
    omega (arith, c.clear_behind) in
    record {
      table = cleared_table c.requires c.after_at-count.ensures c.clear_behind.ensures long;
      counted = cleared_count c.requires c.after_at-count.ensures c.clear_behind.ensures long;
      room = omega arith;
      more = omega arith;
    }

pub returns : goal.returns
returns c =
    let long : length c.clear_behind.new.work ≡ length c.args.work.now =
    omega (arith, c.clear_behind) in
    let still : length c.order_rows.new.work ≡ length c.clear_behind.new.work =
    omega (arith, c.order_rows) in
    ordered c.requires c.after_at-count.ensures c.clear_behind.ensures long
    c.order_rows.ensures still
