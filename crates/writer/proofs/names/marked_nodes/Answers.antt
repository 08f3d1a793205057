-- `writer::names::marked_nodes` meets its contract: what was found and the nodes from k on are all.
-- Assumes nothing.
use native.Mathlib.Omega.{arith}
use Rattle.writer.proofs.Gathered.{gather, gathered, note, pass}
use Rattle.writer.proofs.names.marked_nodes.Goals as goal
use Rattle.writer.proofs.names.marked_nodes.Goals.{then-work-k-eq1, else-work-k-eq1}

pub loop-k-init : goal.loop-k-init
loop-k-init c = gather c.args.work.now c.args.nodes.now

pub loop-k-preserved : goal.loop-k-preserved
loop-k-preserved c =
    elim c.if-work-k-eq1.branch [
      | then-work-k-eq1 w ↦ rw (w.nodes-is, w.count-is) (note c.loop-k.invariant (omega arith) c.loop-k-test.true w.if-work-k-eq1.true)
      | else-work-k-eq1 w ↦ rw (w.nodes-is, w.count-is) (pass c.loop-k.invariant (omega arith) c.loop-k-test.true w.if-work-k-eq1.false)
    ]

pub returns : goal.returns
returns c = gathered c.loop-k.invariant (omega arith) (omega arith) c.loop-k-test.false
