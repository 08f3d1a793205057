-- What each answer of the code says of the sheet and the table.
-- Assumes nothing.
use Rattle.std.specs.Prelude.{Result as Fallible}
use Rattle.std.specs.Prelude.{List, ℕ, Ok, Err}
use Rattle.std.specs.Prelude.{Option, None, Some}
use Rattle.strings.specs.Answers.{FoundTold}
use Rattle.json_text.specs.Bytes.{Bytes}
use Rattle.json_text.specs.Held.{AreMembers, IsNode}
use Rattle.json_text.specs.Json.{Value}
use Rattle.json_text.specs.Refusal.{Refusal, not_carried, wrong_shape}
use Rattle.members.specs.Condition as conditions
use Rattle.members.specs.declared.told.Fault.{Fault}
use Rattle.members.specs.declared.told.Fault.TheVariants as faults
use Rattle.members.specs.declared.told.Form.{Form}
use Rattle.members.specs.declared.told.Form.TheVariants as forms
use Rattle.members.specs.declared.told.Mode.{Mode}
use Rattle.members.specs.declared.told.Mode.TheVariants as modes
use Rattle.members.specs.declared.told.Operator.{Operator}
use Rattle.members.specs.declared.told.Operator.TheVariants as operators

-- a member that was found, by its node: no more brackets are open in it than in the members
unfoldable pub FoundLeft : Bytes → List ℕ → ℕ → Option ℕ → Type 0
FoundLeft s w left None = Unit {0}
FoundLeft s w left (Some n) = IsNode s w left n

pub record Located (s : Bytes) (w : List ℕ) (from end : ℕ) (whole : Option Value) (r : Option ℕ) : Type 0 where
  pub told : FoundTold s w whole r
  pub within : (left : ℕ) → AreMembers s w left from end → FoundLeft s w left r

-- an operator, by its name
unfoldable pub mode_of : Mode → conditions.Mode
mode_of modes.Every = conditions.every
mode_of modes.Any = conditions.Mode.any

unfoldable pub form_of : Form → conditions.Form
form_of forms.Eq = conditions.eq
form_of forms.Ne = conditions.ne
form_of forms.Gt = conditions.gt
form_of forms.Gte = conditions.gte
form_of forms.Lt = conditions.lt
form_of forms.Lte = conditions.lte
form_of forms.In = conditions.is_in
form_of forms.Contains = conditions.contains
form_of forms.StartsWith = conditions.starts_with
form_of forms.EndsWith = conditions.ends_with

unfoldable pub operator_of : Operator → conditions.Operator
unfolding mode_of form_of
operator_of (operators.Junction m) = conditions.op_junction (mode_of m)
operator_of operators.Negation = conditions.op_negation
operator_of operators.Exists = conditions.op_exists
operator_of (operators.Pair f) = conditions.op_pair (form_of f)
operator_of (operators.Quantified m) = conditions.op_quantified (mode_of m)
operator_of operators.NotCarried = conditions.op_not_carried

-- a condition's fault: none, 10 or 11
unfoldable pub fault_is : Fallible (Unit {0}) Fault → Option Refusal
fault_is (Ok tt) = None
fault_is (Err faults.Shape) = Some wrong_shape
fault_is (Err faults.NotCarried) = Some not_carried
