-- The call of a list of rules.
-- Assumes nothing.
use Rattle.answers.specs.Decide.{invariants_call, preconditions_call}
use Rattle.answers.specs.Verdict.{Verdict}
use Rattle.json_text.specs.Refusal.{Result}
use Rattle.members.specs.Condition.{Condition}
use Rattle.members.specs.Sheet.{Sheet}
use Rattle.writer.specs.declared.answer.Rules.{Rules}
use Rattle.writer.specs.declared.answer.Rules.TheVariants as rules

abbrev pub rules_call : Rules → Sheet Condition → Result Verdict
rules_call rules.Preconditions sheet = preconditions_call sheet
rules_call rules.Invariants sheet = invariants_call sheet
