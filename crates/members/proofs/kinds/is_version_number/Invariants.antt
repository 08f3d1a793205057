-- `is_version_number` meets its contract: the loop says that the digits from here on decide, after the number that was read.
-- Assumes nothing.
use Rattle.members.proofs.Digits.{Counting}
use Rattle.members.proofs.kinds.is_version_number.Given as goal

abbrev pub invariant-loop-c : goal.invariant-loop-c
invariant-loop-c l = Counting l.digits l.n l.c-index
