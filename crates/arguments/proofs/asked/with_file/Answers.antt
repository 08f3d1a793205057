-- `arguments::asked::with_file` meets its contract: by how many arguments there are.
-- Assumes nothing.
use borrow.Author.Tests.{eq-eqb, le-leb, lt-leb, ne_eqb}
use Rattle.arguments.specs.Asked.{with_file}
use Rattle.arguments.proofs.asked.with_file.Goals as goal

pub returns-then-count-passed : goal.returns-then-count-passed
unfolding with_file
returns-then-count-passed c = rw (le-leb _ _ c.if-count-passed.true)

pub returns-then-count-passed-eq1 : goal.returns-then-count-passed-eq1
unfolding with_file
returns-then-count-passed-eq1 c = rw (lt-leb _ _ c.if-count-passed.false, eq-eqb _ _ c.if-count-passed-eq1.true)

pub returns : goal.returns
unfolding with_file
returns c = rw (lt-leb _ _ c.if-count-passed.false, ne_eqb _ _ c.if-count-passed-eq1.false)
