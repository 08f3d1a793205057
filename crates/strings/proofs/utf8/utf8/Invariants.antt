-- `strings::utf8::utf8` meets its contract: what is left of the text decides the whole.
-- Assumes nothing.
use Rattle.strings.proofs.Encoding.{Checking}
use Rattle.strings.proofs.utf8.utf8.Given as goal

abbrev pub invariant-loop-c : goal.invariant-loop-c
invariant-loop-c l = Checking l.s l.e l.c-index
