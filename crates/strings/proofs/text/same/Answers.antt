-- `strings::text::same` meets its contract: from the order of the two texts.
-- Assumes nothing.
use mathlib.Core.Path.{◌∙◌}
use Rattle.strings.proofs.Members.{same_is_eq}
use Rattle.strings.proofs.text.same.Goals as goal

pub returns : goal.returns
returns c = c.is_eq.ensures ∙ same_is_eq _ _ c.compare.result c.compare.ensures
