-- `check_list` meets its contract: what was counted are records that were checked.
-- Assumes nothing.
use Rattle.records.proofs.Tallies.{checked_on}
use Rattle.records.proofs.check_list.Goals as goal

pub loop-preserved : goal.loop-preserved
loop-preserved g c = (
  c.more-n-in-loop.ensures,
  c.check_all-all.ensures.at_most c.loop.invariant.1,
  λ p t. checked_on p _ _ _ (c.loop.invariant.2 p t) (c.check_all-all.ensures.counts p t),
)

pub returns-then-n-eq0-clause-counts : goal.returns-then-n-eq0-clause-counts
returns-then-n-eq0-clause-counts g c = λ p t. checked_on p _ _ _ (c.loop.invariant.2 p t) (c.check_all-all.ensures.counts p t)

pub returns-then-n-eq0-clause-at_most : goal.returns-then-n-eq0-clause-at_most
returns-then-n-eq0-clause-at_most g c = c.check_all-all.ensures.at_most c.loop.invariant.1

pub returns-after-loop-clause-counts : goal.returns-after-loop-clause-counts
returns-after-loop-clause-counts g c = λ p t. c.loop.invariant.2 p t

pub returns-after-loop-clause-at_most : goal.returns-after-loop-clause-at_most
returns-after-loop-clause-at_most g c = c.loop.invariant.1
