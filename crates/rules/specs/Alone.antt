-- A condition evaluated alone: the marks are cleared, so that only its own names are marked then.
-- Assumes nothing.
use Rattle.std.specs.Prelude.{Result as Fallible}
use Rattle.std.specs.Prelude.{List, ◌≡◌, ℕ, ◌%◌, ◌<◌, ◌≤◌, drop, get_or, length, Ok, Err}
use Rattle.paths.specs.declared.operand.EvalError.{EvalError}
use Rattle.paths.specs.declared.operand.EvalError.TheVariants as errors
use Rattle.writer.specs.Meaning.{names_in}
use Rattle.writer.specs.Texts.{NamesHeld}
use Rattle.writer.specs.declared.answer.Answer as code
use Rattle.paths.specs.Stored.{HasKind, table}
use Rattle.json_text.specs.Bytes.{Bytes}
use Rattle.json_text.specs.Refusal.{Result, ok}
use Rattle.rules.specs.Told.{Stops}
use Rattle.semantics.specs.Evaluate.{Answer}
use Rattle.semantics.specs.Names.{Names, ascending}
use Rattle.semantics.specs.Told.{truth_of}
use Rattle.semantics.specs.declared.truth.Truth.{Truth as CodeTruth}

-- all but the marks is as before
pub record OnlyMarks (w w' : List ℕ) : Type 0 where
  pub rows : table w' ≡ table w
  pub long : length w' ≡ length w
  pub further : drop 16384 w' ≡ drop 16384 w

-- no word below one is marked
pub record Unmarked (w w' : List ℕ) (upto : ℕ) : Type 0 where
  pub only : OnlyMarks w w'
  pub unmarked : (i : ℕ) → 12288 ≤ i → i < upto → get_or w' i 0 % 2 ≡ 0

-- the node of a refused expression is a text's
abbrev pub RefusedAt : Bytes → List ℕ → EvalError → Type 0
RefusedAt s w (errors.UnknownExpression n) = HasKind s (table w) n 4
RefusedAt s w errors.NoId = Unit {0}

-- a judged condition: marked are its names, each at a text's node
pub record Judged (s : Bytes) (w : List ℕ) (whole : Result Answer) (t : CodeTruth) : Type 0 where
  pub names : Names
  pub is : whole ≡ ok (record { truth = truth_of t; names = names })
  pub held : NamesHeld s w
  pub marked : names_in s w ≡ ascending names

abbrev pub AloneAs : Bytes → List ℕ → Result Answer → Fallible CodeTruth code.Answer → Type 0
AloneAs s w whole (Ok t) = Judged s w whole t
AloneAs s w whole (Err a) = Stops s w whole a

pub record Alone (s : Bytes) (w w' : List ℕ) (r : Fallible CodeTruth code.Answer) (whole : Result Answer) : Type 0 where
  pub is : AloneAs s w' whole r
  pub only : OnlyMarks w w'
