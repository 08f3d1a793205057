-- `order::order::order_rows` meets its contract: the objects passed are linked.
-- Assumes nothing.
use mathlib.Core.Path.{◌∙◌}
use Prim.Native.Nat.{◌<◌}
use native.Mathlib.Omega.{arith}
use Rattle.strings.proofs.KindCodes.{is_kind, is_other}
use Rattle.strings.specs.declared.rows.Kind.TheVariants.{Object}
use Rattle.order.proofs.Ordering.{row_within, its_members, linked_none, linked_one, passed}
use Rattle.json_text.specs.Table.{after_at}
use Rattle.order.proofs.order.order_rows.Goals.{then-eq, else-eq}
use Rattle.order.proofs.order.order_rows.Goals as goal

pub loop-k-init : goal.loop-k-init
loop-k-init c = linked_none c.args.s.now c.args.work.now

pub kind_at-requires : goal.kind_at-requires
kind_at-requires c =
    omega (arith, row_within c.requires.table c.requires.counted c.loop-k-test.true)

pub order_at-requires : goal.order_at-requires
order_at-requires c =
    let below : c.loop-k.k < after_at c.args.work.now 0 = omega (arith, c.requires.counted, c.loop-k-test.true) in
    record {
      long = omega (arith, c.requires.table.long);
      members = its_members c.requires.table c.loop-k.auto.work c.loop-k.invariant below (is_kind _ Object c.kind_at.ensures c.if-eq.ensures);
      room = omega (arith, c.requires.room);
      more = omega (arith, c.requires.more);
    }

pub loop-k-preserved : goal.loop-k-preserved
loop-k-preserved c =
    let below : c.loop-k.k < after_at c.args.work.now 0 = omega (arith, c.requires.counted, c.loop-k-test.true) in
    elim c.if-eq.branch [
      | then-eq w ↦
          rw (w.work-is ∙ w.order_at.ensures)
          (linked_one c.requires.table c.loop-k.auto.work c.loop-k.invariant below (is_kind _ Object c.kind_at.ensures w.if-eq.ensures))
      | else-eq w ↦
          rw w.work-is (passed c.requires.table c.loop-k.auto.work c.loop-k.invariant below (is_other _ Object c.kind_at.ensures w.if-eq.ensures))
    ]
