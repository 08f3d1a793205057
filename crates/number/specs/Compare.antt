-- The comparison of two numbers that the code runs: by sign, then by the place of the point, then digit by digit.
-- Assumes nothing.
use Rattle.std.specs.Prelude.{Bool, false, true, ◌&&◌, [], ◌++◌, ◌∷◌, eqb, length}
use Prim.Native.Nat.{Ordering, compare, ℕ, ◌+◌}
use Rattle.number.specs.Decimal.{Integer, exponent, fraction_part, minus, whole_part}
use Rattle.json_text.specs.Bytes.{Bytes, order_bytes}

-- The comparison of number.rs: by the place of the first digit that is not 0, then by the digits from there on.
abbrev pub is_zero : ℕ → Bool
is_zero c = eqb c 48

unfoldable pub leading : Bytes → ℕ
leading [] = 0
leading (c ∷ s) = elim (is_zero c) [ true ↦ 1 + leading s | false ↦ 0 ]

unfoldable pub trim : Bytes → Bytes
trim [] = []
trim (c ∷ s) = elim (is_zero c) [ true ↦ trim s | false ↦ c ∷ s ]

-- the same without zeros at its end
abbrev pub is_nothing : Bytes → Bool
is_nothing [] = true
is_nothing (c ∷ s) = false

abbrev pub put : ℕ → Bytes → Bytes
put c t = elim (is_nothing t && is_zero c) [ true ↦ [] | false ↦ c ∷ t ]

unfoldable pub trim_end : Bytes → Bytes
trim_end [] = []
trim_end (c ∷ s) = put c (trim_end s)

pub record Scaled : Type 0 where
  pub negative : Bool
  pub digits : Bytes
  pub place : Integer

unfoldable pub scaled : Bytes → Scaled
unfolding minus leading trim trim_end whole_part fraction_part exponent
scaled s =
    let raw = whole_part s ++ fraction_part s in
    record {
      negative = minus s;
      digits = trim_end (trim raw);
      place = record { up = (exponent s).up + length (whole_part s); down = (exponent s).down + leading raw };
    }

abbrev pub then : Ordering → Ordering → Ordering
then Ordering.lt o = Ordering.lt
then Ordering.eq o = o
then Ordering.gt o = Ordering.gt

unfoldable pub scaled_order : Scaled → Scaled → Ordering
unfolding order_bytes
scaled_order a b = then (compare (a.place.up + b.place.down) (b.place.up + a.place.down)) (order_bytes a.digits b.digits)

pub data Sign : Type 0 where
  is_negative is_nought is_positive : Sign

abbrev pub sign_of : Scaled → Sign
sign_of a = elim (is_nothing a.digits) [ true ↦ is_nought | false ↦ elim a.negative [ true ↦ is_negative | false ↦ is_positive ] ]

abbrev pub signed_order : Sign → Sign → Ordering → Ordering → Ordering
signed_order is_negative is_negative up down = down
signed_order is_negative is_nought up down = Ordering.lt
signed_order is_negative is_positive up down = Ordering.lt
signed_order is_nought is_negative up down = Ordering.gt
signed_order is_nought is_nought up down = Ordering.eq
signed_order is_nought is_positive up down = Ordering.lt
signed_order is_positive is_negative up down = Ordering.gt
signed_order is_positive is_nought up down = Ordering.gt
signed_order is_positive is_positive up down = up

unfoldable pub number_order : Bytes → Bytes → Ordering
unfolding scaled scaled_order
number_order s t = signed_order (sign_of (scaled s)) (sign_of (scaled t)) (scaled_order (scaled s) (scaled t)) (scaled_order (scaled t) (scaled s))
