-- `join` meets its contract: it is in order, or the first part is copied and merged with the other.
-- Assumes nothing.
use mathlib.Core.Path.{sym, ◌∙◌}
use Prim.Native.Nat.{◌-◌}
use native.Mathlib.Omega.{arith}
use Rattle.order.proofs.ByText.{text_get_d}
use Rattle.order.proofs.Joining.{halves, in_order_lem, merged}
use Rattle.order.proofs.sort.join.Goals as goal

pub is_after-requires : goal.is_after-requires
is_after-requires c = (
  c.requires.0.long,
  rw c.from.ensures (text_get_d c.args.s.now c.args.work.now c.args.nodes.now (c.args.mid - 1) c.requires.0.texts (omega arith)),
  rw c.from-2.ensures (text_get_d c.args.s.now c.args.work.now c.args.nodes.now c.args.mid c.requires.0.texts c.requires.0.within),
)

pub merge-requires : goal.merge-requires
merge-requires c = halves c.args.s.now c.args.work.now c.args.nodes.now c.args.mid c.requires.0 _ c.copy.ensures

pub returns-then-is_after : goal.returns-then-is_after
returns-then-is_after c =
    merged c.args.s.now c.args.work.now c.args.nodes.now c.args.mid c.requires.0 _ c.copy.ensures _ c.merge.ensures

pub returns-else-is_after : goal.returns-else-is_after
returns-else-is_after c =
    in_order_lem c.args.s.now c.args.work.now c.args.nodes.now c.args.mid c.requires.0 (rw (← c.from.ensures, ← c.from-2.ensures) (sym c.is_after.ensures ∙ c.if-is_after.false))
