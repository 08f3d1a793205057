-- `needs` meets its contract: from what the test says of the node.
-- Assumes nothing.
use Rattle.members.proofs.Wanted.{needs_nothing, needs_found, found_node}
use Rattle.members.proofs.kinds.needs.Goals as goal

pub test-requires : goal.test-requires
test-requires g c = c.requires.test _ _ _ (found_node c.in-Some.n c.in-Some.is c.requires.node)

pub returns-in-None : goal.returns-in-None
returns-in-None g c = λ p h. needs_nothing c.args.s.now c.args.work.now p _ c.in-None.is

pub returns : goal.returns
returns g c = λ p h. needs_found c.args.s.now c.args.work.now p _ c.in-Some.n _ c.in-Some.is (h _ _ _ _ c.test.ensures)
