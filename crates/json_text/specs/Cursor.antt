-- A cursor into a text: a place in the sheet, and the bytes of a scalar value that are still to be given.
-- Assumes nothing.
use Rattle.std.specs.Prelude.{[], ◌++◌, ◌∷◌, ◌≡◌, suc, zero, ℕ, ◌%◌, ◌*◌, ◌+◌, ◌-◌, ◌/◌, ◌<◌, ◌≤◌, length}
use Rattle.json_text.specs.Bytes.{Bytes}
use Rattle.json_text.specs.Fits.{Text}
use Rattle.json_text.specs.Spans.{text_at}

-- the last bytes of a scalar value's UTF-8, and what a cursor has before it
abbrev pub tails : ℕ → ℕ → Bytes
tails zero u = []
tails (suc zero) u = (128 + u % 64) ∷ []
tails (suc (suc zero)) u = (128 + u / 64 % 64) ∷ (128 + u % 64) ∷ []
tails (suc (suc (suc n))) u = (128 + u / 4096 % 64) ∷ (128 + u / 64 % 64) ∷ (128 + u % 64) ∷ []

unfoldable pub before : Bytes → ℕ → ℕ → ℕ → Bytes
unfolding text_at
before s at u left = tails left u ++ text_at s at

-- a cursor at its place, and what falls with each byte
pub record OnText (s : Bytes) (at left : ℕ) : Type 0 where
  pub stop : ℕ
  pub text : Text s at stop
  pub few : left ≤ 3

abbrev pub weight : Bytes → ℕ → ℕ → ℕ
weight s at left = 4 * (length s - at) + left

-- one byte taken
pub record Took (s : Bytes) (at u left b at' u' left' : ℕ) : Type 0 where
  pub byte : before s at u left ≡ b ∷ before s at' u' left'
  pub on_text : OnText s at' left'
  pub falls : weight s at' left' < weight s at left
