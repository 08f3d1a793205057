-- `arguments::asked::alone` meets its contract: by how many arguments there are.
-- Assumes nothing.
use borrow.Author.Tests.{le-ltb, lt-ltb}
use Rattle.arguments.specs.Asked.{alone}
use Rattle.arguments.proofs.asked.alone.Goals as goal

pub returns-then-count-gt1 : goal.returns-then-count-gt1
unfolding alone
returns-then-count-gt1 c = rw (lt-ltb _ _ c.if-count-gt1.true)

pub returns : goal.returns
unfolding alone
returns c = rw (le-ltb _ _ c.if-count-gt1.false)
