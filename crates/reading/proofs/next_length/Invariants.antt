-- `reading::next_length` is safe: the number stays below 100,000.
-- Assumes nothing.
use Rattle.std.proofs.Common.{◌<◌}
use Rattle.reading.proofs.next_length.Given as goal

abbrev pub invariant-loop : goal.invariant-loop
invariant-loop g l = l.n < 100000
