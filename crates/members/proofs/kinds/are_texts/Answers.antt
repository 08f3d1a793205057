-- `are_texts` meets its contract: an array of texts.
-- Assumes nothing.
use mathlib.Core.Path.{◌∙◌}
use Rattle.members.proofs.Shapes.{array_test}
use Rattle.members.specs.Kinds.{a_text}
use Rattle.members.specs.Verdicts.{is_ok}
use Rattle.members.proofs.kinds.are_texts.Goals as goal

pub returns : goal.returns
returns c = c.is_array_of.ensures (λ v. is_ok (a_text v)) (λ s w n b h. h) ∙ array_test a_text _
