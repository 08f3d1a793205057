-- What is said of an answer that the code gives of an accepted sheet.
-- Assumes nothing.
use Rattle.std.specs.Prelude.{List, ◌≡◌, ℕ, drop, length}
use Rattle.writer.specs.Meaning.{Held, meaning}
use Rattle.answers.specs.Verdict.{Verdict}
use Rattle.writer.specs.declared.answer.Answer.{Answer}
use Rattle.writer.specs.declared.answer.Answer.TheVariants as answers
use Rattle.writer.specs.declared.answer.Outcome.{Outcome as Entry}
use Rattle.paths.specs.Stored.{table}
use Rattle.json_text.specs.Bytes.{Bytes}
use Rattle.json_text.specs.Cursor.{OnText}
use Rattle.json_text.specs.Refusal.{Result, ◌>>=◌, ok}
use Rattle.json_text.specs.Spans.{text_at}
use Rattle.semantics.specs.declared.truth.Truth.{Truth}
use Rattle.semantics.specs.declared.truth.Truth.TheVariants as truths
use Rattle.answers.specs.Decide.{as_admitted}
use Rattle.answers.specs.Outcomes.{Placed}

-- the verdict on an outcome that is kept
abbrev pub admission : Result Placed → Result Verdict
admission x = x >>= (λ q. ok (as_admitted q))

-- an outcome as an answer names it: its place, and where its name stands
pub record Entered (s : Bytes) (place : ℕ) (name : Bytes) (r : Entry) : Type 0 where
  pub is_place : r.place ≡ place
  pub is_name : text_at s r.name ≡ name
  pub on_text : OnText s r.name 0

-- an answer that means a verdict or a refusal, its texts where they stand
pub record Told (s : Bytes) (w : List ℕ) (whole : Result Verdict) (r : Answer) : Type 0 where
  pub means : meaning s w r ≡ whole
  pub held : Held s w r

-- an answer that is told whatever were to follow: a refusal
abbrev pub Stops : {A : Type 0} → Bytes → List ℕ → Result A → Answer → Type 0
Stops {A} s w x a = (f : A → Result Verdict) → Told s w (x >>= f) a

-- the answer of a truth
abbrev pub answer_of : Truth → Answer
answer_of truths.True = answers.True
answer_of truths.False = answers.False
answer_of truths.Unknown = answers.Unknown

-- an answer told over the table that it leaves: rows and links stay, and so do the words behind the table
pub record Answered (s : Bytes) (w w' : List ℕ) (whole : Result Verdict) (r : Answer) : Type 0 where
  pub told : Told s w' whole r
  pub rows : table w' ≡ table w
  pub long : length w' ≡ length w
  pub further : drop 16384 w' ≡ drop 16384 w
