-- What an answer of the code says of the sheet and the table: the verdict or refusal with its texts and names.
-- Assumes nothing.
use Rattle.std.specs.Prelude.{List, ℕ}
use Rattle.semantics.specs.Names.{Names, ascending}
use Rattle.semantics.specs.Truth as truths
use Rattle.writer.specs.Texts.{IsText, NamesHeld, TextsHeld, text_of, texts_in}
use Rattle.answers.specs.Verdict.{Verdict, admitted, answered, passed, selected}
use Rattle.json_text.specs.Bytes.{Bytes}
use Rattle.json_text.specs.Cursor.{OnText}
use Rattle.json_text.specs.Marks.{marked}
use Rattle.json_text.specs.Refusal as refusals
use Rattle.json_text.specs.Refusal.{Result, guard_unknown, no_id, no_input, no_outcome, not_a_source, ok, refused, rule_false, rule_unknown, unknown_expression, wrong_state}
use Rattle.json_text.specs.Spans.{text_at}
use Rattle.json_text.specs.Table.{value_at}
use Rattle.writer.specs.declared.answer.Answer.{Answer}
use Rattle.writer.specs.declared.answer.Answer.TheVariants as answers
use Rattle.writer.specs.declared.answer.Rule.{Rule}
use Rattle.writer.specs.declared.answer.Rules.{Rules}
use Rattle.writer.specs.declared.answer.Rules.TheVariants as rules

-- the names, each once and ascending
abbrev pub names_in : Bytes → List ℕ → Names
names_in s w = ascending (marked s w)

unfoldable pub rules_of : Rules → refusals.Rules
rules_of rules.Preconditions = refusals.preconditions
rules_of rules.Invariants = refusals.invariants

unfoldable pub meaning : Bytes → List ℕ → Answer → Result Verdict
meaning s w answers.True = ok (answered truths.True (names_in s w))
meaning s w answers.False = ok (answered truths.False (names_in s w))
meaning s w answers.Unknown = ok (answered truths.Unknown (names_in s w))
meaning s w answers.Passed = ok passed
meaning s w (answers.Selected o) = ok (selected o.place (text_at s o.name))
meaning s w (answers.Admitted o) = ok (admitted o.place (text_at s o.name))
meaning s w answers.NoInput = refused no_input
meaning s w (answers.UnknownExpression e) = refused (unknown_expression (text_at s e))
meaning s w answers.NoId = refused no_id
meaning s w (answers.RuleFalse r) = refused (rule_false (rules_of r.rules) r.place (text_of s r.name) (text_of s r.message))
meaning s w (answers.RuleUnknown r) = refused (rule_unknown (rules_of r.rules) r.place (text_of s r.name) (text_of s r.message) (names_in s w))
meaning s w answers.NoOutcome = refused no_outcome
meaning s w (answers.GuardUnknown o) = refused (guard_unknown o.place (text_at s o.name) (names_in s w))
meaning s w (answers.WrongState e) = refused (wrong_state (text_at s e))
meaning s w (answers.NotASource m) = refused (not_a_source m.outcome.place (text_at s m.outcome.name) (text_at s m.state) (texts_in (value_at s w m.from)))

-- where the texts of an answer stand
pub record RuleHeld (s : Bytes) (r : Rule) : Type 0 where
  pub name : IsText s r.name
  pub message : IsText s r.message

unfoldable pub Held : Bytes → List ℕ → Answer → Type 0
Held s w answers.True = NamesHeld s w
Held s w answers.False = NamesHeld s w
Held s w answers.Unknown = NamesHeld s w
Held s w answers.Passed = Unit {0}
Held s w (answers.Selected o) = OnText s o.name 0
Held s w (answers.Admitted o) = OnText s o.name 0
Held s w answers.NoInput = Unit {0}
Held s w (answers.UnknownExpression e) = OnText s e 0
Held s w answers.NoId = Unit {0}
Held s w (answers.RuleFalse r) = RuleHeld s r
Held s w (answers.RuleUnknown r) = RuleHeld s r × NamesHeld s w
Held s w answers.NoOutcome = Unit {0}
Held s w (answers.GuardUnknown o) = OnText s o.name 0 × NamesHeld s w
Held s w (answers.WrongState e) = OnText s e 0
Held s w (answers.NotASource m) = OnText s m.outcome.name 0 × OnText s m.state 0 × TextsHeld s w m.from
