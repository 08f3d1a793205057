-- `are_outcomes` meets its contract: an array of outcomes.
-- Assumes nothing.
use mathlib.Core.Path.{◌∙◌}
use Rattle.members.proofs.Shapes.{array_test}
use Rattle.members.specs.Kinds.{not_null}
use Rattle.members.specs.Outcome.{an_outcome}
use Rattle.members.specs.Verdicts.{is_ok}
use Rattle.sheet.proofs.outcome.are_outcomes.Goals as goal

pub returns : goal.returns
returns c = c.is_array_of.ensures (λ v. is_ok (an_outcome not_null v)) (λ s w n b h. h) ∙ array_test (an_outcome not_null) _
