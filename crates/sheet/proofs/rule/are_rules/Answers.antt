-- `are_rules` meets its contract: an array of rules.
-- Assumes nothing.
use mathlib.Core.Path.{◌∙◌}
use Rattle.members.proofs.Shapes.{array_test}
use Rattle.members.specs.Kinds.{not_null}
use Rattle.members.specs.Rule.{a_rule}
use Rattle.members.specs.Verdicts.{is_ok}
use Rattle.sheet.proofs.rule.are_rules.Goals as goal

pub returns : goal.returns
returns c = c.is_array_of.ensures (λ v. is_ok (a_rule not_null v)) (λ s w n b h. h) ∙ array_test (a_rule not_null) _
