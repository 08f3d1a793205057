-- `arguments::place::number` meets its contract: the digits from here on decide, after the number that was read.
-- Assumes nothing.
use Rattle.arguments.proofs.Digits.{Spelling}
use Rattle.arguments.proofs.place.number.Given as goal

abbrev pub invariant-loop-c : goal.invariant-loop-c
invariant-loop-c l = Spelling l.text l.n l.c-index
