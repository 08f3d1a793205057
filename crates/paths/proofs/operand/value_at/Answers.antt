-- `paths::operand::value_at` meets its contract: the row's kind says how its value is read.
-- Assumes nothing.
use Rattle.paths.proofs.Trees.{value_means}
use Rattle.paths.specs.Stored.{table}
use Rattle.paths.proofs.operand.value_at.Goals as goal

pub returns : goal.returns
returns c =
    λ s h. rw (c.at.ensures, c.value_kind.ensures)
    (value_means s (table c.args.work.now) c.args.node _ c.kind_at.ensures h)
