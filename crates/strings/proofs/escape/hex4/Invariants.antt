-- `strings::escape::hex4` meets its contract: the digits so far and those that are left decide the whole.
-- Assumes nothing.
use Rattle.strings.proofs.Leaves.{Spelling}
use Rattle.strings.proofs.escape.hex4.Given as goal

abbrev pub invariant-loop-c : goal.invariant-loop-c
invariant-loop-c l = Spelling l.s l.at l.c-index l.unit
