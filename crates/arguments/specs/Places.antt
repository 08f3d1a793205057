-- The place of `admit`: plain decimal digits below 2^64, "0" itself or no zero in front.
-- Assumes nothing.
use Rattle.std.specs.Prelude.{cond, ◌&&◌, [], ◌∷◌, ℕ, ◌^◌, eqb, ltb, Option, Some, None}
use Rattle.json_text.specs.Bytes.{Bytes, natural}
use Rattle.members.specs.Kinds.{all_digits}

-- the number that digits alone spell, after a number read before them
unfoldable pub number_in : ℕ → Bytes → Option ℕ
unfolding all_digits natural
number_in n s = cond (all_digits s && ltb (natural n s) (2 ^ 64)) (Some (natural n s)) None

unfoldable pub place_in : Bytes → Option ℕ
unfolding number_in
place_in [] = None
place_in (c ∷ []) = number_in 0 (c ∷ [])
place_in (c ∷ d ∷ s) = cond (eqb c 48) None (number_in 0 (c ∷ d ∷ s))
