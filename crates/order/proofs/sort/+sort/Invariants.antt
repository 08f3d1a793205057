-- `order::sort::sort` meets its contract: a few are inserted one by one; else each half is shorter than the whole, and the two are sorted and joined.
-- Assumes nothing.
use lib.ListN.{length}
use Rattle.order.proofs.sort.+sort.Given as goal

abbrev pub decreases-sort : goal.decreases-sort
decreases-sort l = length l.nodes.now
