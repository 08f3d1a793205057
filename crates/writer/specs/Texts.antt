-- Texts of the sheet by their places, and what the marks must be for the names to be read from them.
-- Assumes nothing.
use Rattle.std.specs.Prelude.{true, List, [], ◌≡◌, ℕ, ◌<◌, ◌≤◌, length}
use Rattle.std.specs.Prelude.{Option, None, Some}
use Rattle.json_text.specs.Bytes.{Bytes}
use Rattle.json_text.specs.Cursor.{OnText}
use Rattle.json_text.specs.Held.{HasNode}
use Rattle.json_text.specs.Json.{Value}
use Rattle.json_text.specs.Limits.{max_nodes}
use Rattle.json_text.specs.Marks.{is_marked}
use Rattle.json_text.specs.Refusal.{Result, ok, refused}
use Rattle.json_text.specs.Spans.{text_at}
use Rattle.json_text.specs.Table.{start_at, value_at}
use Rattle.members.specs.Kinds.{each_of, some_texts}

-- a text that may be missing
unfoldable pub text_of : Bytes → Option ℕ → Option Bytes
unfolding text_at
text_of s None = None
text_of s (Some p) = Some (text_at s p)

unfoldable pub IsText : Bytes → Option ℕ → Type 0
IsText s None = Unit {0}
IsText s (Some p) = OnText s p 0

-- an answer that is a text
pub record TextTold (s : Bytes) (whole : Option Bytes) (r : Option ℕ) : Type 0 where
  pub is : text_of s r ≡ whole
  pub is_text : IsText s r

-- every marked node is a text
pub record NamesHeld (s : Bytes) (w : List ℕ) : Type 0 where
  pub size : 16384 ≤ length w
  pub texts : (k : ℕ) → k < max_nodes → is_marked w k ≡ true → OnText s (start_at w k) 0

-- the texts of a value that is a text or an array of texts, in written order
abbrev pub or_none : Result (List Bytes) → List Bytes
or_none (ok ts) = ts
or_none (refused r) = []

unfoldable pub texts_in : Value → List Bytes
unfolding each_of
texts_in v = or_none (some_texts v)

-- a node whose value is one
pub record TextsHeld (s : Bytes) (w : List ℕ) (n : ℕ) : Type 0 where
  pub has_node : HasNode s w n
  pub texts : List Bytes
  pub are : some_texts (value_at s w n) ≡ ok texts
