-- `is_present` meets its contract: by the row's kind.
-- Assumes nothing.
use mathlib.Core.Bool.{not}
use mathlib.Core.Path.{ap, ◌∙◌}
use Rattle.strings.specs.declared.rows.Kind.TheVariants as kinds
use Rattle.members.proofs.Shapes.{present_tag, same_kind, tag_at}
use Rattle.members.proofs.Walks.{room}
use Rattle.members.proofs.kinds.is_present.Goals as goal

pub kind_at-requires : goal.kind_at-requires
kind_at-requires c = room c.requires

pub returns : goal.returns
returns c = c.ne.ensures ∙ ap not (same_kind _ kinds.Null (c.kind_at.ensures ∙ tag_at c.requires)) ∙ present_tag _
