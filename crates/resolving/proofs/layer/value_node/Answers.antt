-- `resolving::layer::value_node` meets its contract: by whether the child is a name.
-- Assumes nothing.
use Rattle.paths.specs.Layered.{value_node}
use Rattle.resolving.proofs.layer.value_node.Goals as goal

pub returns-then-named : goal.returns-then-named
unfolding value_node
returns-then-named c = rw c.if-named.true

pub returns-else-named : goal.returns-else-named
unfolding value_node
returns-else-named c = rw c.if-named.false
