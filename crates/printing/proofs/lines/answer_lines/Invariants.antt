-- `printing::lines::answer_lines` meets its contract: the answers put so far stand for what was used.
-- Assumes nothing.
use mathlib.Core.Path.{◌≡◌}
use Prim.Native.Nat.{◌-◌}
use lib.ListN.{length}
use Rattle.printing.proofs.Answering.{Answering}
use Rattle.printing.proofs.lines.answer_lines.Given as goal

abbrev pub invariant-loop-out : goal.invariant-loop-out
invariant-loop-out l =
    (length l.work ≡ length l.initial.work) × (length l.out ≡ length l.initial.out) × Answering l.input l.out l.used l.put

abbrev pub decreases-loop-out : goal.decreases-loop-out
decreases-loop-out l = length l.input - l.used
