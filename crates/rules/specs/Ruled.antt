-- What is said of one rule, and of a rule that an answer names.
-- Assumes nothing.
use Rattle.std.specs.Prelude.{Result as Fallible}
use Rattle.std.specs.Prelude.{List, ◌∷◌, ◌≡◌, ℕ, ◌+◌, Ok, Err}
use Rattle.answers.specs.Verdict.{Verdict, passed}
use Rattle.writer.specs.declared.answer.Answer.{Answer}
use Rattle.writer.specs.Texts.{TextTold}
use Rattle.writer.specs.declared.answer.Rule.{Rule as Entry}
use Rattle.writer.specs.declared.answer.Rules.{Rules as Kind}
use Rattle.json_text.specs.Bytes.{Bytes}
use Rattle.json_text.specs.Refusal.{Result, Rules, ok}
use Rattle.members.specs.Condition.{Condition}
use Rattle.members.specs.Rule.{Rule}
use Rattle.members.specs.Sheet.{Sheet}
use Rattle.rules.specs.Alone.{OnlyMarks}
use Rattle.answers.specs.Rules.{check}
use Rattle.rules.specs.Told.{Stops}

-- a rule as an answer names it: its place, and where its texts stand
pub record RuleEntered (s : Bytes) (kind : Kind) (place : ℕ) (x : Rule Condition) (r : Entry) : Type 0 where
  pub is_kind : r.rules ≡ kind
  pub is_place : r.place ≡ place
  pub name : TextTold s x.name r.name
  pub message : TextTold s x.message r.message

-- a rule that holds leaves the verdict to those behind it; any other settles it
abbrev pub RuledAs : Bytes → List ℕ → Sheet Condition → Rules → ℕ → Rule Condition → Fallible (Unit {0}) Answer → Type 0
RuledAs s w sheet kind i x (Ok _) = (xs : List (Rule Condition)) → check sheet kind i (x ∷ xs) ≡ check sheet kind (i + 1) xs
RuledAs s w sheet kind i x (Err a) = (xs : List (Rule Condition)) → Stops s w (check sheet kind i (x ∷ xs)) a

pub record Ruled (s : Bytes) (w w' : List ℕ) (sheet : Sheet Condition) (kind : Rules) (i : ℕ) (x : Rule Condition) (r : Fallible (Unit {0}) Answer) : Type 0 where
  pub is : RuledAs s w' sheet kind i x r
  pub only : OnlyMarks w w'

-- rules that passed, or the refusal of the first that is not True
abbrev pub CheckedAs : Bytes → List ℕ → Result Verdict → Fallible (Unit {0}) Answer → Type 0
CheckedAs s w whole (Ok _) = whole ≡ ok passed
CheckedAs s w whole (Err a) = Stops s w whole a

pub record Checked (s : Bytes) (w w' : List ℕ) (whole : Result Verdict) (r : Fallible (Unit {0}) Answer) : Type 0 where
  pub is : CheckedAs s w' whole r
  pub only : OnlyMarks w w'
