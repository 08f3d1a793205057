-- What rules read from the sheet, and when rules are clean.
-- Assumes nothing.
use Rattle.std.specs.Prelude.{Bool, false, true, ◌&&◌}
use mathlib.Core.List.{List, Memᴰ, [], ◌++◌, ◌∷◌}
use Rattle.std.specs.Prelude.{Option, None, Some}
use Rattle.semantics.specs.Expression.{gives, parts}
use Rattle.semantics.specs.Operand.{escaped, expression, plain, read_text}
use Rattle.semantics.specs.Semantics.{Semantics}
use Rattle.json_text.specs.Bytes.{Bytes, is_one_of}
use Rattle.json_text.specs.Json.{Members, Value, Values, array, bool, cons, empty, member, nil, null, number, object, text}
use Rattle.json_text.specs.Refusal.{Result, ok, refused}
use Rattle.members.specs.Condition.{Condition, Conditions, also, exists, junction, literal, negation, no_more, pair, quantified}
use Rattle.members.specs.Outcome.{Outcome}
use Rattle.members.specs.Rule.{Rule}
use Rattle.members.specs.Sheet.{Sheet}

-- A reading: the text after `$` of an expression that no binder in force takes. It is exact where a repeated decision must find it exactly as before:
-- where it stands under `exists`, which answers by whether it is there.
pub record Reading : Type 0 where
  pub text : Bytes
  pub exact : Bool

-- whether a binder takes an expression, by its parts
abbrev pub is_taken_by : List Bytes → List Bytes → Bool
is_taken_by binders [] = false
is_taken_by binders (name ∷ path) = is_one_of name binders

unfoldable pub text_readings : Bool → List Bytes → Bytes → List Reading
unfolding parts is_one_of
text_readings ex binders s =
    elim
    (read_text s) [
      | plain ↦
          []
      | escaped t ↦
          []
      | expression e ↦
          elim (is_taken_by binders (parts e)) [ true ↦ [] | false ↦ record { text = e; exact = ex } ∷ [] ]
    ]

unfoldable mutual
  unfolding text_readings

  pub operand_readings : Bool → List Bytes → Value → List Reading
  operand_readings ex binders null = []
  operand_readings ex binders (bool b) = []
  operand_readings ex binders (number s) = []
  operand_readings ex binders (text s) = text_readings ex binders s
  operand_readings ex binders (array vs) = readings_in ex binders vs
  operand_readings ex binders (object ms) = readings_of ex binders ms

  pub readings_in : Bool → List Bytes → Values → List Reading
  readings_in ex binders nil = []
  readings_in ex binders (cons v vs) = operand_readings ex binders v ++ readings_in ex binders vs

  pub readings_of : Bool → List Bytes → Members → List Reading
  readings_of ex binders empty = []
  readings_of ex binders (member k v ms) = operand_readings ex binders v ++ readings_of ex binders ms

unfoldable mutual
  unfolding operand_readings

  pub readings : List Bytes → Condition → List Reading
  readings binders (literal b) = []
  readings binders (junction m cs) = all_readings binders cs
  readings binders (negation c) = readings binders c
  readings binders (exists v) = operand_readings true binders v
  readings binders (pair f v w) = operand_readings false binders v ++ operand_readings false binders w
  readings binders (quantified m v x c) = operand_readings false binders v ++ readings (x ∷ binders) c

  pub all_readings : List Bytes → Conditions → List Reading
  all_readings binders no_more = []
  all_readings binders (also c cs) = readings binders c ++ all_readings binders cs

unfoldable pub rule_readings : List (Rule Condition) → List Reading
unfolding readings
rule_readings [] = []
rule_readings (r ∷ rs) = readings [] r.assert ++ rule_readings rs

abbrev pub when_readings : Option Condition → List Reading
when_readings None = []
when_readings (Some c) = readings [] c

unfoldable pub guard_readings : List (Outcome Condition) → List Reading
unfolding readings
guard_readings [] = []
guard_readings (o ∷ os) = when_readings o.when ++ guard_readings os

-- what the preconditions and guards read
abbrev pub sheet_readings : Sheet Condition → List Reading
sheet_readings s = rule_readings s.preconditions ++ guard_readings s.outcomes

abbrev pub IsReading : Sheet Condition → Reading → Type 0
IsReading s r = Memᴰ r (sheet_readings s)

-- Clean: no reading is an unknown expression, or `$id` without an id.
abbrev pub is_answer : Result (Option Value) → Bool
is_answer (ok g) = true
is_answer (refused r) = false

unfoldable pub all_known : Semantics → Sheet Condition → List Reading → Bool
unfolding gives
all_known sem s [] = true
all_known sem s (r ∷ rs) = is_answer (gives sem s [] r.text) && all_known sem s rs

abbrev pub clean : Semantics → Sheet Condition → Bool
clean sem s = all_known sem s (sheet_readings s)
