-- `is_text_or_texts` meets its contract: one text stands for an array of it.
-- Assumes nothing.
use mathlib.Core.Path.{◌∙◌}
use Rattle.members.proofs.Shapes.{text_or_texts}
use Rattle.members.proofs.kinds.is_text_or_texts.Goals as goal

pub returns-then-is_text : goal.returns-then-is_text
returns-then-is_text c = c.if-is_text.true ∙ text_or_texts _ c.if-is_text.ensures

pub returns-else-is_text : goal.returns-else-is_text
returns-else-is_text c = c.are_texts.ensures ∙ text_or_texts _ c.if-is_text.ensures
