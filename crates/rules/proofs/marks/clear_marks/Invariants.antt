-- `rules::marks::clear_marks` meets its contract: the loop says that the words passed are without their mark.
-- Assumes nothing.
use Rattle.rules.proofs.Unmarking.{Clearing}
use Rattle.rules.proofs.marks.clear_marks.Given as goal

abbrev pub invariant-loop-word : goal.invariant-loop-word
invariant-loop-word l = Clearing l.initial.word-items l.word-items l.word-index
