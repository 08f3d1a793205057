-- `intake::run::each_chunk` meets its contract: what is kept leaves room for a chunk.
-- Assumes nothing.
use Rattle.std.proofs.Common.{length, ◌≡◌, ◌≤◌}
use Rattle.intake.proofs.run.each_chunk.Given as goal

abbrev pub invariant-loop : goal.invariant-loop
invariant-loop g l =
    (length l.input ≡ length l.initial.input) × (length l.work ≡ length l.initial.work) × (length l.out ≡ length l.initial.out) × (l.n ≤ 32769)
