-- A text as its iterator gives it: a byte that stands for itself, and one that an escape begins.
-- Assumes nothing.
use mathlib.Core.List.{◌∷◌}
use mathlib.Core.Path.{◌≡◌, refl, subst, sym, ◌∙◌}
use Prim.Native.Nat.{ℕ, ◌+◌}
use lib.ListN.{get_or}
use Rattle.json_text.proofs.Cursor.{turn_raw}
use Rattle.json_text.specs.Bytes.{Bytes}
use Rattle.json_text.specs.Cursor.{OnText, before}

-- with no byte of a scalar value left, it doesn't matter which one it was
nothing_left : (s : Bytes) (at u left : ℕ) → left ≡ 0 → before s at 0 0 ≡ before s at u left
unfolding before
nothing_left s at u left z = subst (λ (n : ℕ). before s at 0 0 ≡ before s at u n) (sym z) refl

module _ (s : Bytes) (at u left : ℕ) (o : OnText s at left) (z : left ≡ 0) (f : get_or s at 0 ≡ 34 → ⊥) (g : get_or s at 0 ≡ 92 → ⊥) where
  pub raw_given : before s at u left ≡ get_or s at 0 ∷ before s (at + 1) u left
  raw_given = (turn_raw s at u left o z f g).byte ∙ rw (nothing_left s (at + 1) u left z)

  pub raw_behind : OnText s (at + 1) left
  raw_behind = rw z (turn_raw s at u left o z f g).on_text
