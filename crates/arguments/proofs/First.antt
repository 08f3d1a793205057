-- The first byte of a text: a `-` there makes an option of it, and a zero there ends a place.
-- Assumes nothing.
use Rattle.std.specs.Prelude.{None}
use mathlib.Core.List.{[], ◌∷◌}
use mathlib.Core.Logic.{◌≢◌}
use mathlib.Core.Path.{refl, ◌≡◌}
use Prim.Native.Nat.{ℕ, ◌<◌}
use lib.Dec.{eqb}
use Rattle.std.specs.List.{starts_with}
use native.Mathlib.Omega.{arith}
use lib.ListN.{get_or, length}
use borrow.Author.Tests.{eq-eqb, ne_eqb}
use mathlib.Core.Bool.{Bool, false, true, ◌&&◌}
use Rattle.json_text.specs.Bytes.{Bytes, begins}
use Rattle.arguments.specs.Places.{number_in, place_in}

-- whether a text begins with a byte, by `starts_with` and by definition
pub begins_by_pairs : (b : ℕ) (w : Bytes) → starts_with eqb w (b ∷ []) ≡ begins (b ∷ []) w
unfolding begins
begins_by_pairs b [] = refl
begins_by_pairs b (c ∷ w) = by (eqb b c)
  where
    by : (e : Bool) → (e && true) ≡ (elim e [ true ↦ true | false ↦ false ])
    by true = refl
    by false = refl

pub no_place : (w : Bytes) → length w ≡ 0 → None ≡ place_in w
unfolding place_in
no_place [] h = refl
no_place (c ∷ w) h = absurd (omega (arith, h))

pub zero_in_front : (w : Bytes) → 1 < length w → get_or w 0 0 ≡ 48 → None ≡ place_in w
unfolding place_in
zero_in_front [] h e = absurd (omega (arith, h))
zero_in_front (c ∷ []) h e = absurd (omega (arith, h))
zero_in_front (c ∷ d ∷ w) h e = rw (eq-eqb c 48 e)

pub no_zero_in_front : (w : Bytes) → 0 < length w → (1 < length w → get_or w 0 0 ≢ 48) → number_in 0 w ≡ place_in w
unfolding place_in
no_zero_in_front [] h e = absurd (omega (arith, h))
no_zero_in_front (c ∷ []) h e = refl
no_zero_in_front (c ∷ d ∷ w) h e = rw (ne_eqb c 48 (e (omega arith)))
