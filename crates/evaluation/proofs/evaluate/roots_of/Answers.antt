-- `roots_of` meets its contract: each member by its node.
-- Assumes nothing.
use mathlib.Core.Path.{refl}
use Rattle.comparison.specs.Entry.{roots_of}
use Rattle.evaluation.proofs.evaluate.roots_of.Goals as goal

pub returns : goal.returns
unfolding roots_of
returns c = refl
