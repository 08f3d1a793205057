-- `matches` meets its contract: up to the first escape a byte of the text is one of the sheet, and from there on `spells` answers.
-- Assumes nothing.
use Rattle.members.proofs.Words.{Spelling}
use Rattle.members.proofs.word.matches.Given as goal

abbrev pub invariant-loop-i : goal.invariant-loop-i
invariant-loop-i l = Spelling l.s l.at l.word l.i
