-- `records::decimal` is safe and ends: the number stays below 100,000,000,000.
-- Assumes nothing.
use Rattle.std.proofs.Common.{◌<◌}
use Rattle.records.proofs.decimal.Given as goal

abbrev pub invariant-loop-c : goal.invariant-loop-c
invariant-loop-c l = l.n < 100000000000
