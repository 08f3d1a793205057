-- `arguments::asked::read` meets its contract: no argument, or the word of the first one.
-- Assumes nothing.
use borrow.Author.Tests.{eq-eqb, ne_eqb}
use Rattle.arguments.specs.Asked.{asks_for}
use Rattle.arguments.proofs.asked.read.Goals as goal

pub returns-then-count-eq0 : goal.returns-then-count-eq0
unfolding asks_for
returns-then-count-eq0 c = rw (eq-eqb _ _ c.if-count-eq0.true)

pub returns : goal.returns
unfolding asks_for
returns c = rw (ne_eqb _ _ c.if-count-eq0.false, ← c.word_of.ensures) c.by_word.ensures
