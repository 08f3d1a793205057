-- `insert_each` meets its contract: the loop says that the nodes from here on are in order.
-- Assumes nothing.
use mathlib.Core.Path.{ap, ◌∙◌, ◌≡◌}
use Prim.Native.Nat.{◌+◌, ◌-◌}
use native.Mathlib.Omega.{arith}
use lib.ListN.{length}
use Rattle.order.proofs.Inserting.{can_merge, merged_in, none_sorted, sorted_long}
use Rattle.order.proofs.sort.insert_each.Goals as goal

pub loop-i-init : goal.loop-i-init
loop-i-init c =
    (omega arith, none_sorted c.args.s.now c.args.work.now c.args.nodes.now)

pub bounds-nodes-i : goal.bounds-nodes-i
bounds-nodes-i c =
    omega (
      arith,
      ap length c.loop-i.invariant.1,
      sorted_long c.args.s.now c.args.work.now c.args.nodes.now c.loop-i.i c.loop-i.invariant.0,
    )

pub slice_bounds-merge-count : goal.slice_bounds-merge-count
slice_bounds-merge-count c =
    omega (
      arith,
      ap length c.loop-i.invariant.1,
      sorted_long c.args.s.now c.args.work.now c.args.nodes.now c.loop-i.i c.loop-i.invariant.0,
    )

pub merge-requires : goal.merge-requires
merge-requires c =
    let i = c.loop-i.i - 1 in
    let whole : c.loop-i.i ≡ i + 1 = omega arith in
    can_merge c.args.s.now c.args.work.now c.args.nodes.now i (omega arith) c.loop-i.nodes
    (rw whole at c.loop-i.invariant.1) c.requires.0 c.requires.1

pub loop-i-preserved : goal.loop-i-preserved
loop-i-preserved c =
    let i = c.loop-i.i - 1 in
    let whole : c.loop-i.i ≡ i + 1 = omega arith in (
      omega arith,
      merged_in c.args.s.now c.args.work.now c.args.nodes.now i (omega arith) c.loop-i.nodes
          (rw whole at c.loop-i.invariant.1) _ c.merge.ensures,
    )

pub shape_of-nodes : goal.shape_of-nodes
shape_of-nodes c =
    ap length c.loop-i.invariant.1 ∙ sorted_long c.args.s.now c.args.work.now c.args.nodes.now c.loop-i.i c.loop-i.invariant.0

pub returns : goal.returns
returns c = let z : c.loop-i.i ≡ 0 = omega arith in rw z at c.loop-i.invariant.1
