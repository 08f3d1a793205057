-- The exact value of a number's characters, and its order.
-- Assumes nothing.
use Rattle.std.specs.Prelude.{Bool, false, not, true, ◌&&◌, ◌||◌, [], ◌++◌, ◌∷◌, ◌≡◌, eqb, length}
use Prim.Native.Nat.{Ordering, compare, ℕ, ◌*◌, ◌+◌, ◌-◌, ◌^◌}
use Rattle.json_text.specs.Bytes.{Bytes, natural}

-- the characters before the first that passes a test, and those behind it
unfoldable pub before : (ℕ → Bool) → Bytes → Bytes
before p [] = []
before p (c ∷ s) = elim (p c) [ true ↦ [] | false ↦ c ∷ before p s ]

unfoldable pub behind : (ℕ → Bool) → Bytes → Bytes
behind p [] = []
behind p (c ∷ s) = elim (p c) [ true ↦ s | false ↦ behind p s ]

abbrev pub is_e : ℕ → Bool
is_e c = eqb c 69 || eqb c 101

abbrev pub is_point : ℕ → Bool
is_point c = eqb c 46

abbrev pub is_sign : ℕ → Bool
is_sign c = eqb c 45 || eqb c 43

-- a leading minus; what is left of one leading sign
unfoldable pub minus : Bytes → Bool
minus [] = false
minus (c ∷ s) = eqb c 45

unfoldable pub unsigned : Bytes → Bytes
unsigned [] = []
unsigned (c ∷ s) = elim (is_sign c) [ true ↦ s | false ↦ c ∷ s ]

-- the parts of a number's characters
unfoldable pub whole_part : Bytes → Bytes
unfolding before unsigned
whole_part s = before is_point (before is_e (unsigned s))

unfoldable pub fraction_part : Bytes → Bytes
unfolding before behind
fraction_part s = behind is_point (before is_e s)

unfoldable pub exponent_part : Bytes → Bytes
unfolding behind
exponent_part s = behind is_e s

-- an integer, as a difference of two numbers: `up - down`
pub record Integer : Type 0 where
  pub up : ℕ
  pub down : ℕ

abbrev pub signed : Bool → ℕ → Integer
signed false n = record { up = n; down = 0 }
signed true n = record { up = 0; down = n }

unfoldable pub exponent : Bytes → Integer
unfolding exponent_part minus unsigned natural
exponent s = signed (minus (exponent_part s)) (natural 0 (unsigned (exponent_part s)))

-- The exact value: `digits * 10 ^ power`, negated where `negative` holds.
pub record Decimal : Type 0 where
  pub negative : Bool
  pub digits : ℕ
  pub power : Integer

unfoldable pub decimal : Bytes → Decimal
unfolding minus natural whole_part fraction_part exponent
decimal s =
    record {
      negative = minus s;
      digits = natural 0 (whole_part s ++ fraction_part s);
      power = record { up = (exponent s).up; down = (exponent s).down + length (fraction_part s) };
    }

-- The order of two magnitudes: each multiplied by ten to the other's negative power. What both sides share is left out, so
-- that the powers stay small where the exponents are near each other.
unfoldable pub magnitudes : Decimal → Decimal → Ordering
magnitudes a b =
    compare
    (a.digits * 10 ^ (a.power.up + b.power.down - (b.power.up + a.power.down)))
    (b.digits * 10 ^ (b.power.up + a.power.down - (a.power.up + b.power.down)))

-- -0 is 0
abbrev pub below : Decimal → Bool
below a = a.negative && not (eqb a.digits 0)

unfoldable pub exact_order : Decimal → Decimal → Ordering
unfolding magnitudes
exact_order a b =
    elim (below a) [
      | true ↦ elim (below b) [ true ↦ magnitudes b a | false ↦ Ordering.lt ]
      | false ↦ elim (below b)
          [ true ↦ Ordering.gt | false ↦ magnitudes a b ]
    ]

-- Two exact values over one power of ten: the first's signed digits, multiplied by ten to its own power and to the second's
-- negative one. They are one number where these integers are the same.
abbrev pub cross : Decimal → Decimal → Integer
cross a b = signed a.negative (a.digits * 10 ^ (a.power.up + b.power.down))

abbrev pub SameValue : Decimal → Decimal → Type 0
SameValue a b = (cross a b).up + (cross b a).down ≡ (cross b a).up + (cross a b).down

abbrev pub swapped : Ordering → Ordering
swapped Ordering.lt = Ordering.gt
swapped Ordering.eq = Ordering.eq
swapped Ordering.gt = Ordering.lt
