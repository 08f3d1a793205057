-- `order::sort::merge` meets its contract: a turn puts the least of what is left in its place.
-- Assumes nothing.
use native.Mathlib.Omega.{arith}
use Rattle.order.proofs.InPlace.{begins, ended, some_right, turn_left, turn_right}
use Rattle.order.proofs.sort.merge.Goals.{else-right_first, then-right_first}
use Rattle.order.proofs.sort.merge.Goals as goal

pub loop-i-init : goal.loop-i-init
loop-i-init c =
    begins c.args.s.now c.args.work.now c.args.left.now c.args.nodes.now c.requires

pub right_first-requires : goal.right_first-requires
right_first-requires c =
    (c.requires.long, c.requires.texts, c.loop-i.invariant.texts, c.loop-i-test.true)

pub bounds-nodes-j : goal.bounds-nodes-j
bounds-nodes-j c =
    omega (
      arith,
      some_right c.args.s.now c.args.work.now c.args.left.now c.args.nodes.now c.loop-i.nodes c.loop-i.i c.loop-i.j c.loop-i.k
          c.loop-i.invariant c.loop-i-test.true _
          c.right_first.ensures c.if-right_first.true,
    )

pub loop-i-preserved : goal.loop-i-preserved
loop-i-preserved c =
    elim c.if-right_first.branch [
      | then-right_first w ↦ rw (w.nodes-is, w.i-is, w.j-is)
          (turn_right c.args.s.now c.args.work.now c.args.left.now c.args.nodes.now c.loop-i.nodes c.loop-i.i c.loop-i.j c.loop-i.k
          c.loop-i.invariant c.loop-i-test.true _ c.right_first.ensures
          w.if-right_first.true)
      | else-right_first w ↦ rw (w.nodes-is, w.i-is, w.j-is)
          (turn_left c.args.s.now c.args.work.now c.args.left.now c.args.nodes.now c.loop-i.nodes c.loop-i.i c.loop-i.j c.loop-i.k
          c.loop-i.invariant c.loop-i-test.true _ c.right_first.ensures
          w.if-right_first.false)
    ]

pub shape_of-nodes : goal.shape_of-nodes
shape_of-nodes c = c.loop-i.invariant.long

pub returns : goal.returns
returns c =
    ended c.args.s.now c.args.work.now c.args.left.now c.args.nodes.now c.loop-i.nodes c.loop-i.i c.loop-i.j c.loop-i.k c.loop-i.invariant
    c.loop-i-test.false
