-- A tree that was read from a sheet: its texts and numbers stand where it says.
-- Assumes nothing.
use Rattle.std.specs.Prelude.{◌≡◌, ℕ, ◌+◌, ◌<◌, ◌≤◌, length}
use Rattle.json_text.specs.Bytes.{Bytes}
use Rattle.json_text.specs.Placing.{chars_at, digits_at}
use Rattle.json_text.specs.Refusal.{ok}
use Rattle.json_text.specs.Spans.{Fields, Node, Nodes, Plain, arr, field, leaf, no_field, no_node, node, obj}

-- a text between its quotes, and a number
pub record Text (s : Bytes) (a e : ℕ) : Type 0 where
  pub read : chars_at s a ≡ ok (e + 1)
  pub order : a ≤ e
  pub upto : e < length s

pub record Numeral (s : Bytes) (a e : ℕ) : Type 0 where
  pub read : digits_at s a ≡ ok e
  pub order : a < e
  pub upto : e ≤ length s

-- every text and number of a tree was read where it stands, and no place is past the sheet
pub record Span (s : Bytes) (a e : ℕ) : Type 0 where
  pub order : a < e
  pub upto : e ≤ length s

abbrev pub FitsLeaf : Bytes → Plain → ℕ → ℕ → Type 0
FitsLeaf s Plain.is_null a e = Span s a e
FitsLeaf s Plain.is_true a e = Span s a e
FitsLeaf s Plain.is_false a e = Span s a e
FitsLeaf s Plain.is_number a e = Numeral s a e
FitsLeaf s Plain.is_text a e = Text s a e

mutual
  pub data Fits (s : Bytes) : Node → Type 0 where
    fits_leaf : {k : Plain} {a e : ℕ} → FitsLeaf s k a e → Fits s (leaf k a e)
    fits_arr : {a e : ℕ} {ts : Nodes} → Span s a e → FitsIn s ts → Fits s (arr a e ts)
    fits_obj : {a e : ℕ} {fs : Fields} → Span s a e → FitsOf s fs → Fits s (obj a e fs)

  pub data FitsIn (s : Bytes) : Nodes → Type 0 where
    fits_none : FitsIn s no_node
    fits_node : {t : Node} {ts : Nodes} → Fits s t → FitsIn s ts → FitsIn s (node t ts)

  pub data FitsOf (s : Bytes) : Fields → Type 0 where
    fits_empty : FitsOf s no_field
    fits_field : {a e : ℕ} {t : Node} {fs : Fields} → Text s a e → Fits s t → FitsOf s fs → FitsOf s (field a e t fs)
