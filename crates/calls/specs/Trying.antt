-- Outcomes tried by place: whether one is taken, or passed over, or a refusal ends the selection; and what the code says of it.
-- Assumes nothing.
use Rattle.std.specs.Prelude.{Result as Fallible}
use Rattle.std.specs.Prelude.{Bool, false, true, List, ◌≡◌, ℕ, Ok, Err}
use Rattle.semantics.specs.Evaluate.{Answer}
use Rattle.semantics.specs.Names.{ascending}
use Rattle.semantics.specs.Truth.{False, True, Unknown}
use Rattle.answers.specs.Verdict.{Verdict}
use Rattle.writer.specs.declared.answer.Answer as code
use Rattle.json_text.specs.Bytes.{Bytes}
use Rattle.json_text.specs.Refusal.{Result, ◌>>=◌, guard_unknown, ok, refused}
use Rattle.sheet.specs.Accepted.{Gives}
use Rattle.members.specs.Condition.{Condition, condition}
use Rattle.members.specs.Outcome.{Outcome, an_outcome}
use Rattle.members.specs.Sheet.{Sheet}
use Rattle.answers.specs.Admission.{admit}
use Rattle.rules.specs.Alone.{OnlyMarks}
use Rattle.answers.specs.Outcomes.{Placed, eligible, guard, select}
use Rattle.rules.specs.Told.{Stops, admission}
use Rattle.rules.specs.declared.placed.Placed.{Placed as Spot}

-- whether a guard that answered so takes the outcome at a place
unfoldable pub by_guard : ℕ → Bytes → Result Answer → Result Bool
unfolding ascending
by_guard i name x = do
  a ← x
  elim a.truth [ True ↦ ok true | False ↦ ok false | Unknown ↦ refused (guard_unknown i name (ascending a.names)) ]

-- whether the outcome at a place is taken
unfoldable pub taken : Sheet Condition → ℕ → Outcome Condition → Result Bool
unfolding by_guard eligible guard
taken sheet i o = elim (eligible sheet.state o) [ false ↦ ok false | true ↦ by_guard i o.name (guard sheet o.when) ]

-- the outcome selected, admitted in a state
unfoldable pub admit_selected : Sheet Condition → Bytes → Result Verdict
unfolding select admit
admit_selected sheet state = select sheet 0 sheet.outcomes >>= (λ (p : Placed). admission (admit sheet.states sheet.outcomes state p))

unfoldable pub TriedAs : Bytes → List ℕ → Result Bool → Fallible Bool code.Answer → Type 0
TriedAs s w x (Ok b) = x ≡ ok b
TriedAs s w x (Err a) = Stops s w x a

unfoldable pub SelectedAs : Bytes → List ℕ → Result Placed → Fallible Spot code.Answer → Type 0
SelectedAs s w x (Ok p) = (o : Outcome Condition) × (x ≡ ok (record { place = p.place; outcome = o })) × Gives (an_outcome condition) s w p.node o
SelectedAs s w x (Err a) = Stops s w x a

pub record Tries (s : Bytes) (w w' : List ℕ) (whole : Result Bool) (r : Fallible Bool code.Answer) : Type 0 where
  pub is : TriedAs s w' whole r
  pub only : OnlyMarks w w'

pub record Selects (s : Bytes) (w w' : List ℕ) (whole : Result Placed) (r : Fallible Spot code.Answer) : Type 0 where
  pub is : SelectedAs s w' whole r
  pub only : OnlyMarks w w'
