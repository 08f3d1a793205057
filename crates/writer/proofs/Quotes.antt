-- A text in quotes, byte by byte: the loop says that what is left of the text is left to lay.
-- Assumes nothing.
use mathlib.Core.List.{[], ◌∷◌}
use mathlib.Core.Path.{◌≡◌}
use Prim.Native.Nat.{ℕ}
use Rattle.writer.proofs.Laying.{Going, ends_with, goes, starts}
use Rattle.writer.specs.Laid.{Laid}
use Rattle.writer.specs.declared.lay.Output.{Output}
use Rattle.answers.specs.Line.{quoted_byte, quoted_bytes}
use Rattle.json_text.specs.Bytes.{Bytes}

-- of the text's bytes, x are left
pub record Quoting (text : Bytes) (a b : Output) (x : Bytes) : Type 0 where
  pub going : Going a (quoted_bytes text) b (quoted_bytes x)

pub quoting : (text : Bytes) (a : Output) → Quoting text a a text
quoting text a = record { going = starts a (quoted_bytes text) }

module _ {text x : Bytes} {a b e : Output} (q : Quoting text a b x) where
  -- the closing quote
  pub closed : x ≡ [] → Laid b (34 ∷ []) e → Laid a (quoted_bytes text) e
  unfolding quoted_bytes
  closed h l = ends_with (rw h at q.going) l

  -- a byte
  pub on : (c : ℕ) (y : Bytes) → x ≡ c ∷ y → Laid b (quoted_byte c) e → Quoting text a e y
  unfolding quoted_bytes
  on c y h l = record { going = goes (quoted_bytes y) (rw h at q.going) l }
