-- `intake::run::hand_on` meets its contract: the lines that were answered are within the input, and each turn answers one at least.
-- Assumes nothing.
use Rattle.std.proofs.Common.{length, ◌-◌, ◌≡◌, ◌≤◌}
use Rattle.intake.proofs.run.hand_on.Given as goal

abbrev pub invariant-loop-at : goal.invariant-loop-at
invariant-loop-at g l =
    (length l.work ≡ length l.initial.work) × (length l.out ≡ length l.initial.out) × (l.at ≤ length l.input)

abbrev pub decreases-loop-at : goal.decreases-loop-at
decreases-loop-at g l = length l.input - l.at
