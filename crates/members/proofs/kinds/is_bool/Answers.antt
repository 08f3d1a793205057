-- `is_bool` meets its contract: by the row's kind.
-- Assumes nothing.
use mathlib.Core.Path.{◌∙◌}
use Rattle.members.proofs.Shapes.{code_bool, either, neither, tag_at}
use Rattle.members.proofs.Walks.{room}
use Rattle.members.proofs.kinds.is_bool.Goals as goal

pub kind_at-requires : goal.kind_at-requires
kind_at-requires c = room c.requires

pub returns-in-True : goal.returns-in-True
returns-in-True c = either _ c.in-True.is ∙ code_bool _ _ (c.kind_at.ensures ∙ tag_at c.requires)

pub returns-in_default : goal.returns-in_default
returns-in_default c = neither _ c.in_default.not-True c.in_default.not-False ∙ code_bool _ _ (c.kind_at.ensures ∙ tag_at c.requires)
