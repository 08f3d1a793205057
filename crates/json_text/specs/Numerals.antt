-- Reading a number, byte by byte, and its 255 bytes.
-- Assumes nothing.
use Rattle.std.specs.Prelude.{Bool, false, true, [], ◌∷◌, ℕ, ◌-◌, eqb}
use Rattle.json_text.specs.Bytes.{Bytes, between, choose}
use Rattle.json_text.specs.Refusal.{Result, not_json, number_too_long, ok, refused, ◌>>=◌}
use Rattle.json_text.specs.Scan.{Read}

-- numbers: where in `[minus] int [frac] [exp]` one stands, and what a further byte makes of it
pub data Place : Type 0 where
  sign zeroed whole point fraction exponent exp_sign exp_digits stop : Place

pub data Digit : Type 0 where
  is_zero is_nonzero is_minus is_plus is_point is_e is_other : Digit

abbrev pub digit : ℕ → Digit
digit c =
    choose
    ((eqb c 48, is_zero) ∷
    (between 49 57 c, is_nonzero) ∷
    (eqb c 45, is_minus) ∷
    (eqb c 43, is_plus) ∷
    (eqb c 46, is_point) ∷
    (eqb c 69, is_e) ∷
    (eqb c 101, is_e) ∷
    [])
    is_other

abbrev pub onward : Place → Digit → Place
onward sign d = elim d [ is_zero ↦ zeroed | is_nonzero ↦ whole | is_minus ↦ stop | is_plus ↦ stop | is_point ↦ stop | is_e ↦ stop | is_other ↦ stop ]
onward zeroed d = elim d [ is_zero ↦ stop | is_nonzero ↦ stop | is_minus ↦ stop | is_plus ↦ stop | is_point ↦ point | is_e ↦ exponent | is_other ↦ stop ]
onward whole d = elim d [ is_zero ↦ whole | is_nonzero ↦ whole | is_minus ↦ stop | is_plus ↦ stop | is_point ↦ point | is_e ↦ exponent | is_other ↦ stop ]
onward point d = elim d [ is_zero ↦ fraction | is_nonzero ↦ fraction | is_minus ↦ stop | is_plus ↦ stop | is_point ↦ stop | is_e ↦ stop | is_other ↦ stop ]
onward fraction d = elim d [ is_zero ↦ fraction | is_nonzero ↦ fraction | is_minus ↦ stop | is_plus ↦ stop | is_point ↦ stop | is_e ↦ exponent | is_other ↦ stop ]
onward exponent d = elim d [ is_zero ↦ exp_digits | is_nonzero ↦ exp_digits | is_minus ↦ exp_sign | is_plus ↦ exp_sign | is_point ↦ stop | is_e ↦ stop | is_other ↦ stop ]
onward exp_sign d = elim d [ is_zero ↦ exp_digits | is_nonzero ↦ exp_digits | is_minus ↦ stop | is_plus ↦ stop | is_point ↦ stop | is_e ↦ stop | is_other ↦ stop ]
onward exp_digits d = elim d [ is_zero ↦ exp_digits | is_nonzero ↦ exp_digits | is_minus ↦ stop | is_plus ↦ stop | is_point ↦ stop | is_e ↦ stop | is_other ↦ stop ]
onward stop d = stop

abbrev pub first : ℕ → Place
first c = choose ((eqb c 45, sign) ∷ (eqb c 48, zeroed) ∷ (between 49 57 c, whole) ∷ []) stop

abbrev pub complete : Place → Bool
complete sign = false
complete zeroed = true
complete whole = true
complete point = false
complete fraction = true
complete exponent = false
complete exp_sign = false
complete exp_digits = true
complete stop = false

abbrev pub is_stop : Place → Bool
is_stop sign = false
is_stop zeroed = false
is_stop whole = false
is_stop point = false
is_stop fraction = false
is_stop exponent = false
is_stop exp_sign = false
is_stop exp_digits = false
is_stop stop = true

-- the characters of a number from a place on, as many as there are; `left` of them may still come
unfoldable pub digits : Place → ℕ → Bytes → Result (Read Bytes)
digits p left [] = elim (complete p) [ true ↦ ok (record { got = []; rest = [] }) | false ↦ refused not_json ]
digits p left (c ∷ s) =
    elim
    (is_stop (onward p (digit c))) [
      | true ↦
          elim (complete p) [ true ↦ ok (record { got = []; rest = c ∷ s }) | false ↦ refused not_json ]
      | false ↦
          elim
          (eqb left 0) [
            | true ↦
                refused number_too_long
            | false ↦
                (do
                  r ← digits (onward p (digit c)) (left - 1) s
                  ok (record { got = c ∷ r.got; rest = r.rest }))
          ]
    ]
