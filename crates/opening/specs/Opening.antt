-- What opening a sheet promises: the refusal that the calls give, or the sheet with the node of each member; and the words that it leaves.
-- Assumes nothing.
use Rattle.std.specs.Prelude.{List, ◌≡◌, ℕ, ◌*◌, ◌<◌, ◌≤◌, drop, get_or, length}
use Rattle.std.specs.Prelude.{None, Result as Fallible, Ok, Err}
use Rattle.answers.specs.Line.{refusal_line}
use Rattle.json_text.specs.Bytes.{Bytes}
use Rattle.json_text.specs.Limits.{max_nodes}
use Rattle.json_text.specs.Marks.{first_mark}
use Rattle.json_text.specs.Refusal.{Refusal, Result, not_carried, refused, wrong_shape, wrong_sheet, ◌>>=◌}
use Rattle.json_text.specs.Table.{after_at}
use Rattle.sheet.specs.Accepted.{Accepted}
use Rattle.members.specs.Condition.{Condition}
use Rattle.members.specs.Sheet.{Sheet, read_sheet}
use Rattle.sheet.specs.declared.shape.Members.{Members}
use Rattle.answers.specs.Entry.{enough}
use Rattle.strings.specs.Answers.{refusal_of}
use Rattle.sheet.specs.declared.shape.Misshapen.TheVariants as misshapen
use Rattle.opening.specs.declared.open.NotOpened.{NotOpened}
use Rattle.opening.specs.declared.open.NotOpened.TheVariants as not_opened

-- 1 for a work table of so many words, else what `read_sheet` says
unfoldable pub opening : ℕ → Bytes → Result (Sheet Condition)
unfolding enough read_sheet
opening words s = enough words >>= (λ _. read_sheet s)

-- why bytes are no sheet, as a refusal of the paper
abbrev pub why_not : NotOpened → Refusal
why_not (not_opened.Unread why) = refusal_of why
why_not (not_opened.Misshapen misshapen.WrongSheet) = wrong_sheet
why_not (not_opened.Misshapen misshapen.WrongShape) = wrong_shape
why_not (not_opened.Misshapen misshapen.NotCarried) = not_carried

-- a refusal that has no line
pub record Stopped (whole : Result (Sheet Condition)) (why : NotOpened) : Type 0 where
  pub is : whole ≡ refused (why_not why)
  pub no_line : refusal_line (why_not why) ≡ None

-- rows that are zero from behind the last node on
pub record Bounded (w : List ℕ) : Type 0 where
  pub few : after_at w 0 ≤ max_nodes
  pub behind : (i : ℕ) → 3 * after_at w 0 ≤ i → i < first_mark → get_or w i 0 ≡ 0

-- a sheet accepted over a table that is large enough
pub record Ready (words : ℕ) (s : Bytes) (w : List ℕ) (m : Members) : Type 0 where
  pub long : 16384 ≤ words
  pub bounded : Bounded w
  pub sheet : Sheet Condition
  pub accepted : Accepted s w m sheet

unfoldable pub OpenedAs : ℕ → Bytes → List ℕ → Fallible Members NotOpened → Type 0
unfolding opening
OpenedAs words s w (Err why) = Stopped (opening words s) why
OpenedAs words s w (Ok m) = Ready words s w m

pub record Opening (s : Bytes) (w w' : List ℕ) (r : Fallible Members NotOpened) : Type 0 where
  pub is : OpenedAs (length w) s w' r
  pub small : length w < 16384 → w' ≡ w
  pub past : 16384 ≤ length w → drop 16384 w' ≡ drop 16384 w
