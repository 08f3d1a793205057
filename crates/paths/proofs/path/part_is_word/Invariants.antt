-- `paths::path::part_is_word` meets its contract: up to the first escape or difference the part's bytes are those that stand there, and the word's.
-- Assumes nothing.
use Rattle.paths.proofs.Matching.{Spelled}
use Rattle.paths.proofs.path.part_is_word.Given as goal

abbrev pub invariant-loop-n : goal.invariant-loop-n
invariant-loop-n l = Spelled l.path l.word l.n
