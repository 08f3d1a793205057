-- `writer::lay::Output::each_once` meets its contract: the texts from its place on that are not the one before them are left to lay.
-- Assumes nothing.
use mathlib.Core.Path.{sym, ◌∙◌}
use native.Mathlib.Omega.{arith}
use Rattle.writer.proofs.Gathered.{again_laid, element_laid, laid, lay_on, laying, on_text_lem}
use Rattle.order.proofs.ByText.{text_get_d}
use Rattle.writer.proofs.lay.Output.each_once.Goals as goal
use Rattle.writer.proofs.lay.Output.each_once.Goals.{then-not-is_again, else-not-is_again}

pub loop-node-init : goal.loop-node-init
loop-node-init c = laying c.args.s.now c.args.work.now c.args.nodes.now c.args.self.now

pub start_at-text-requires : goal.start_at-text-requires
start_at-text-requires c =
    let n = text_get_d c.args.s.now c.args.work.now c.args.nodes.now c.loop-node.node-index c.requires.1 c.loop-node-test.true in
    (omega (arith, n.small, c.requires.0), rw c.from.ensures n.small)

pub is_again-requires : goal.is_again-requires
is_again-requires c = (
  c.loop-node.invariant.is_text,
  on_text_lem (text_get_d c.args.s.now c.args.work.now c.args.nodes.now c.loop-node.node-index c.requires.1 c.loop-node-test.true) (rw c.from.ensures at c.start_at-text.ensures),
)

pub element-requires : goal.element-requires
element-requires c =
    on_text_lem (text_get_d c.args.s.now c.args.work.now c.args.nodes.now c.loop-node.node-index c.requires.1 c.loop-node-test.true) (rw c.from.ensures at c.start_at-text.ensures)

pub loop-node-preserved : goal.loop-node-preserved
loop-node-preserved c =
    let n = text_get_d c.args.s.now c.args.work.now c.args.nodes.now c.loop-node.node-index c.requires.1 c.loop-node-test.true in
    let t = on_text_lem n (rw c.from.ensures at c.start_at-text.ensures) in
    elim c.if-not-is_again.branch [
      | then-not-is_again w ↦
          rw (w.self-is, w.last-is)
          (lay_on c.loop-node.invariant c.loop-node-test.true (rw c.from.ensures at c.start_at-text.ensures) t
          (element_laid _ _ (sym c.is_again.ensures ∙ w.if-not-is_again.true) w.element.ensures))
      | else-not-is_again w ↦
          rw (w.self-is, w.last-is)
          (lay_on c.loop-node.invariant c.loop-node-test.true (rw c.from.ensures at c.start_at-text.ensures) t
          (again_laid _ _ c.loop-node.self (sym c.is_again.ensures ∙ w.if-not-is_again.false)))
    ]

pub returns : goal.returns
returns c = laid c.loop-node.invariant c.loop-node-test.false
