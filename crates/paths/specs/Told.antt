-- What each answer of the code stands for.
-- Assumes nothing.
use Rattle.std.specs.Prelude.{[], ◌++◌, ◌∷◌, ◌≡◌, ℕ, ◌<◌, ◌≤◌, length, Option, None, Some}
use Rattle.json_text.specs.Bytes.{Bytes}
use Rattle.json_text.specs.Cursor.{OnText}
use Rattle.json_text.specs.Spans.{text_at}
use Rattle.semantics.specs.Operand.{escaped, expression, plain, read_text}
use Rattle.paths.specs.Path.{further}
use Rattle.strings.specs.declared.escape.Scalar.{Scalar}
use Rattle.paths.specs.declared.written.Written as writtens
use Rattle.paths.specs.declared.written.Written.TheVariants as written

-- bytes past ASCII: parts of longer characters
unfoldable pub High : Bytes → Type 0
High [] = Unit {0}
High (c ∷ s) = (128 ≤ c) × High s

-- the bytes of a unit, and the text behind it
pub record UnitIs (s : Bytes) (at u next : ℕ) : Type 0 where
  pub first : ℕ
  pub others : Bytes
  pub bytes : text_at s at ≡ first ∷ (others ++ text_at s next)
  pub low : u < 128 → (first ≡ u) × (others ≡ [])
  pub high : 128 ≤ u → (128 ≤ first) × High others
  pub on_text : OnText s next 0
  pub past : at < next
  pub upto : next ≤ length s

unfoldable pub UnitTold : Bytes → ℕ → Option Scalar → Type 0
UnitTold s at None = text_at s at ≡ []
UnitTold s at (Some x) = UnitIs s at x.unit x.next

-- the text behind the `$`
pub record Behind (s : Bytes) (at next : ℕ) : Type 0 where
  pub dollar : text_at s at ≡ 36 ∷ text_at s next
  pub on_text : OnText s next 0
  pub upto : next ≤ length s

unfoldable pub WrittenTold : Bytes → ℕ → writtens.Written → Type 0
WrittenTold s at written.Plain = read_text (text_at s at) ≡ plain
WrittenTold s at (written.Escaped p) = (read_text (text_at s at) ≡ escaped (text_at s p)) × Behind s at p
WrittenTold s at (written.Expression p) = (read_text (text_at s at) ≡ expression (text_at s p)) × Behind s at p

-- the text behind the first dot of a path
unfoldable pub RestTold : Bytes → Option ℕ → Type 0
RestTold path None = further (text_at path 0) ≡ None
RestTold path (Some p) = (further (text_at path 0) ≡ Some (text_at path p)) × OnText path p 0 × (0 < p) × (p ≤ length path)
