-- `check_all` meets its contract: what is left of the text decides what is counted in the end.
-- Assumes nothing.
use Rattle.std.proofs.Common.{length, ◌≤◌}
use Rattle.records.proofs.Tallies.{Counting}
use Rattle.records.specs.Records.{most}
use Rattle.records.proofs.check_all.Given as goal

abbrev pub invariant-loop-at : goal.invariant-loop-at
invariant-loop-at g l =
    (l.all.ran ≤ most) × (l.all.differ ≤ most) × (l.fn.before.differ ≤ l.fn.before.ran → l.all.differ ≤ l.all.ran) × Counting (goal.F-post g l.check) l.fn.before l.text l.all l.rest

abbrev pub decreases-loop-at : goal.decreases-loop-at
decreases-loop-at g l = length l.rest
