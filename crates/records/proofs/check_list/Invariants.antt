-- `check_list` meets its contract: so many bytes of the list are in hand, and what was counted are records that were checked.
-- Assumes nothing.
use Rattle.std.proofs.Common.{Bool, length, ◌≤◌}
use Rattle.records.specs.Records.{Bytes, Checked, Tells}
use Rattle.records.proofs.check_list.Given as goal

abbrev pub invariant-loop : goal.invariant-loop
invariant-loop g l = (l.n ≤ length l.list) × (l.all.differ ≤ l.all.ran) × ((p : Bytes → Bool) → Tells (goal.F-post g l.check) p → Checked p l.all)
