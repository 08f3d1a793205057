-- `leaves::names::slot` meets its contract: the loop says that the rest of the text from this number on decides the whole.
-- Assumes nothing.
use Rattle.leaves.proofs.Marks.{hashed_all, hashed_on}
use Rattle.leaves.proofs.names.slot.Goals as goal

pub loop-b-init : goal.loop-b-init
loop-b-init c = record { small = c.requires.1; same = rw (c.into_iter-b-iterator.ensures.into_iter_gives, c.new-b-items.ensures) }

pub loop-b-preserved : goal.loop-b-preserved
loop-b-preserved c = hashed_on c.loop-b.invariant _ _ _ c.in-Some.ensures.steps c.from.ensures

pub returns : goal.returns
returns c = (hashed_all c.loop-b.invariant c.in-None.ensures.steps.0, c.loop-b.invariant.small)
