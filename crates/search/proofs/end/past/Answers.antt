-- `search::end::past` meets its contract: as much is read of both, until the first ends.
-- Assumes nothing.
use Rattle.search.proofs.Reading.{pair_grow, pair_past, pair_short, paired}
use Rattle.search.specs.Told.{PastTold}
use Rattle.search.proofs.end.past.Goals as goal

pub loop-init : goal.loop-init
loop-init c = rw c.into_iter-iterator.ensures.into_iter_gives (paired _ _)

pub loop-preserved : goal.loop-preserved
loop-preserved c = pair_grow _ _ _ _ c.loop.invariant _ _ c.in-Some.ensures.steps _ _ c.in_ok-next.ensures.steps

pub returns-in_err-next : goal.returns-in_err-next
unfolding PastTold
returns-in_err-next c =
    rw
    c.from_residual.ensures
    (pair_short _ _ _ _ c.loop.invariant _ _ c.in-Some.ensures.steps c.in_err-next.ensures.steps.0)

pub returns : goal.returns
unfolding PastTold
returns c = pair_past _ _ _ _ c.loop.invariant c.in-None.ensures.steps.0
