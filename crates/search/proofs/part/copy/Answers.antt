-- `search::part::copy` meets its contract: the bytes copied and what is left of the text are the text.
-- Assumes nothing.
use mathlib.Core.Path.{refl}
use native.Mathlib.Omega.{arith}
use lib.ListN.{length-set}
use Rattle.json_text.specs.Spans.{text_at}
use Rattle.search.proofs.Reading.{copied_all, copy_end, copy_grow, copying}
use Rattle.search.specs.Told.{CopiedTold}
use Rattle.search.proofs.part.copy.Goals as goal

pub loop-n-init : goal.loop-n-init
loop-n-init c = (refl, rw c.new-rest.ensures (copying (text_at c.args.s.now c.args.text) c.args.out.now))

pub returns-in_default : goal.returns-in_default
unfolding CopiedTold
returns-in_default c = (
  c.loop-n.invariant.1.room,
  copy_end (text_at c.args.s.now c.args.text) c.loop-n.out _ c.loop-n.n c.loop-n.invariant.1 c.in_default.ensures.steps.0,
)

pub loop-n-preserved : goal.loop-n-preserved
loop-n-preserved c = (
  simp length-set c.loop-n.invariant.0,
  copy_grow (text_at c.args.s.now c.args.text) c.loop-n.out _ c.loop-n.n c.loop-n.invariant.1 _ _ c.in-Some.ensures.steps (λ e. omega arith),
)

pub returns : goal.returns
returns c =
    rw
    c.then_some.ensures
    (copied_all (text_at c.args.s.now c.args.text) c.loop-n.out _ (let r = c.loop-n.invariant.1.room in omega arith)
    c.loop-n.invariant.1 _ c.next-2.result c.next-2.ensures.steps c.is_none.result c.is_none.ensures)
