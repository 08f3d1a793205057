-- `word` meets its contract: the rest of the word at this place decides the whole.
-- Assumes nothing.
use Prim.Native.Nat.{◌+◌}
use lib.ListN.{length}
use Rattle.strings.proofs.Leaves.{Wording}
use Rattle.tokens.proofs.scan.word.Given as goal

abbrev pub invariant-loop-c : goal.invariant-loop-c
invariant-loop-c l = Wording l.w l.s l.at (l.at + length l.yielded) (length l.yielded)
