-- `search::start::begins` meets its contract: what is left of the part and of the text answers as the whole.
-- Assumes nothing.
use mathlib.Core.Path.{sym, ◌∙◌}
use Rattle.json_text.proofs.Cursor.{begins_none}
use Rattle.search.proofs.Reading.{begins_more, begins_no}
use Rattle.search.proofs.start.begins.Goals as goal

pub loop-p-init : goal.loop-p-init
loop-p-init c = rw c.into_iter-p-iterator.ensures.into_iter_gives

pub returns-then-ne : goal.returns-then-ne
returns-then-ne c = begins_no c.in-Some.ensures.steps _ _ c.next-in-loop-p.result c.next-in-loop-p.ensures.steps c.if-ne.ensures ∙ sym c.loop-p.invariant

pub loop-p-preserved : goal.loop-p-preserved
loop-p-preserved c =
    c.loop-p.invariant ∙ begins_more c.in-Some.ensures.steps _ _ c.next-in-loop-p.result c.next-in-loop-p.ensures.steps c.if-ne.ensures

pub returns : goal.returns
returns c = sym (c.loop-p.invariant ∙ begins_none _ c.in-None.ensures.steps.0)
