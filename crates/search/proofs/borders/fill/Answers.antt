-- `search::borders::fill` meets its contract: the part is looked for in itself, and each place reached has its entry.
-- Assumes nothing.
use native.Mathlib.Omega.{arith}
use lib.ListN.{length-set}
use Rattle.search.proofs.Laws.{fill_grow, fill_jump, fill_skip, filled}
use Rattle.search.proofs.borders.fill.Goals as goal

pub loop-start-preserved-then-part-start : goal.loop-start-preserved-then-part-start
loop-start-preserved-then-part-start c = (
  c.loop-start.invariant.0,
  c.loop-start.invariant.1,
  simp length-set (simp length-set at c.loop-start.invariant.2),
  fill_grow c.args.part.now c.loop-start.table
      c.loop-start.start c.loop-start.k c.loop-start.invariant.3 (omega arith) c.if-part-start.true,
)

pub loop-start-preserved-then-k-eq0 : goal.loop-start-preserved-then-k-eq0
loop-start-preserved-then-k-eq0 c = (
  c.loop-start.invariant.0,
  c.loop-start.invariant.1,
  simp length-set (simp length-set at c.loop-start.invariant.2),
  fill_skip c.args.part.now c.loop-start.table
      c.loop-start.start c.loop-start.k c.loop-start.invariant.3 (omega arith) c.if-part-start.false c.if-k-eq0.true,
)

pub loop-start-preserved : goal.loop-start-preserved
loop-start-preserved c = (
  c.loop-start.invariant.0,
  c.loop-start.invariant.1,
  c.loop-start.invariant.2,
  rw
      c.from-f.ensures
      (fill_jump c.args.part.now c.loop-start.table c.loop-start.start c.loop-start.k c.loop-start.invariant.3 (omega arith) c.if-part-start.false
      c.if-k-eq0.false),
)

pub returns : goal.returns
returns c =
    filled c.args.part.now c.loop-start.table c.loop-start.start c.loop-start.k c.loop-start.invariant.3
    (omega arith)
