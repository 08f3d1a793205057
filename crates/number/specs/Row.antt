-- A row of decimal digits, the lowest first.
-- Assumes nothing.
use Rattle.std.specs.Prelude.{[], List, ◌∷◌, ◌≡◌, get_or, length}
use Prim.Native.Nat.{ℕ, ◌*◌, ◌+◌, ◌<◌, ◌≤◌}

-- what digits stand for
unfoldable pub value : List ℕ → ℕ
value [] = 0
value (d ∷ ds) = d + 10 * value ds

-- 260 digits, of which `count` are in use
pub record Digits (ds : List ℕ) (count : ℕ) : Type 0 where
  pub long : length ds ≡ 260
  pub few : count ≤ 260
  pub small : (i : ℕ) → get_or ds i 0 < 10
  pub clear : (i : ℕ) → count ≤ i → get_or ds i 0 ≡ 0
