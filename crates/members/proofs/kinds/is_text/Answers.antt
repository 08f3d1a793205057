-- `is_text` meets its contract: by the row's kind.
-- Assumes nothing.
use mathlib.Core.Path.{◌∙◌}
use Rattle.strings.specs.declared.rows.Kind.TheVariants as kinds
use Rattle.members.proofs.Shapes.{text_tag, same_kind, tag_at}
use Rattle.members.proofs.Walks.{room}
use Rattle.members.proofs.kinds.is_text.Goals as goal

pub kind_at-requires : goal.kind_at-requires
kind_at-requires c = room c.requires

pub returns : goal.returns
returns c = c.eq.ensures ∙ same_kind _ kinds.Text (c.kind_at.ensures ∙ tag_at c.requires) ∙ text_tag _
