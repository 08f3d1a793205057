-- The characters of an accepted number are digits before its exponent, so that their order is exact.
-- Assumes nothing.
use mathlib.Core.Bool.{Bool, false, true, true≢false}
use mathlib.Core.List.{[], ◌++◌, ◌∷◌}
use mathlib.Core.Logic.{inl, inr, ◌⊎◌}
use mathlib.Core.Path.{ap, refl, subst, ◌≡◌}
use Prim.Native.Nat.{ℕ, ◌≤◌}
use native.Mathlib.Omega.{arith}
use lib.Dec.{eqb}
use lib.ListN.{length, length-append}
use Rattle.number.proofs.Exact.{AreDigits, order_exact, raw_digits}
use Rattle.number.specs.Compare.{number_order}
use Rattle.number.specs.Decimal.{before, behind, decimal, exact_order, fraction_part, is_e, is_point, unsigned, whole_part}
use Rattle.json_text.proofs.Complete.{first_number, from_next, number_length}
use Rattle.json_text.proofs.Laws.{eqb_false}
use Rattle.json_text.proofs.Sound.{
  DigitView,
  FirstView,
  From,
  between_in,
  digit_view,
  first_view,
  first_minus,
  first_none,
  first_nonzero,
  first_zero,
  v_e,
  v_minus,
  v_nonzero,
  v_other,
  v_plus,
  v_point,
  v_zero,
}
use Rattle.json_text.specs.Bytes.{Bytes, between}
use Rattle.json_text.specs.Grammar.{Number, Spells}
use Rattle.json_text.specs.Json.{number}
use Rattle.json_text.specs.Numerals
use Rattle.json_text.specs.Numerals.{Place, digit, onward}

-- a byte that is a digit is no `e` and no point
abbrev Plain : ℕ → Type 0
Plain c = (is_e c ≡ false) × (is_point c ≡ false)

plain_of : (c : ℕ) → 48 ≤ c → c ≤ 57 → Plain c
plain_of c l h = (e, eqb_false c 46 (λ p. absurd (omega (arith, l, p))))
  where
    e : is_e c ≡ false
    e = go (eqb c 69) (eqb c 101) (eqb_false c 69 (λ p. absurd (omega (arith, h, p)))) (eqb_false c 101 (λ p. absurd (omega (arith, h, p)))) refl refl
      where
        go : (a b : Bool) → eqb c 69 ≡ false → eqb c 101 ≡ false → eqb c 69 ≡ a → eqb c 101 ≡ b → is_e c ≡ false
        go a b p q i j = rw (p, q) refl

-- the parts of a number's characters, one character more
module _ (c : ℕ) (s : Bytes) where
  before_plain : is_e c ≡ false → before is_e (c ∷ s) ≡ c ∷ before is_e s
  unfolding before
  before_plain e = rw (e, before) refl

  before_e : is_e c ≡ true → before is_e (c ∷ s) ≡ []
  unfolding before
  before_e e = rw (e, before) refl

  point_plain : is_point c ≡ false → before is_point (c ∷ s) ≡ c ∷ before is_point s
  unfolding before
  point_plain e = rw (e, before) refl

  point_here : is_point c ≡ true → before is_point (c ∷ s) ≡ []
  unfolding before
  point_here e = rw (e, before) refl

  behind_plain : is_point c ≡ false → behind is_point (c ∷ s) ≡ behind is_point s
  unfolding behind
  behind_plain e = rw (e, behind) refl

  behind_here : is_point c ≡ true → behind is_point (c ∷ s) ≡ s
  unfolding behind
  behind_here e = rw (e, behind) refl

pub before_nil : (p : ℕ → Bool) → before p [] ≡ []
unfolding before
before_nil p = refl

pub behind_nil : (p : ℕ → Bool) → behind p [] ≡ []
unfolding behind
behind_nil p = refl

abbrev Whole : Bytes → Bytes
Whole x = before is_point (before is_e x)

abbrev Fraction : Bytes → Bytes
Fraction x = behind is_point (before is_e x)

shorter : (x r : Bytes) → length r ≤ length (x ++ r)
shorter x r = omega (arith, length-append x r)

in_range : (c : ℕ) → (c ≡ 48) ⊎ (between 49 57 c ≡ true) → (48 ≤ c) × (c ≤ 57)
in_range c (inl e) = (omega (arith, e), omega (arith, e))
in_range c (inr e) = let p = between_in 49 57 c e in (omega (arith, p.0), p.1)

is_e_lem : (c : ℕ) → (c ≡ 69) ⊎ (c ≡ 101) → is_e c ≡ true
is_e_lem c (inl e) = rw e refl
is_e_lem c (inr e) = rw e refl

is_point_lem : (c : ℕ) → c ≡ 46 → (is_e c ≡ false) × (is_point c ≡ true)
is_point_lem c e = rw e (refl, refl)

digit_before : (c : ℕ) (x : Bytes) → (48 ≤ c) × (c ≤ 57) → AreDigits (before is_e x) → AreDigits (before is_e (c ∷ x))
digit_before c x d h = rw (before_plain c x (plain_of c d.0 d.1).0) (d, h)

stopped : {X : Type 0} → true ≡ false → X
stopped e = absurd (true≢false e)

-- behind the point, everything before an `e` is a digit
fraction_digits : (x r : Bytes) → From Place.fraction (x ++ r) r → AreDigits (before is_e x)
fraction_digits [] r h = rw (before_nil is_e) tt
fraction_digits (c ∷ x) r h = go (λ k. fraction_digits x r k) (digit c) (digit_view c) o.0 o.1
  where
    o : (Numerals.is_stop (onward Place.fraction (digit c)) ≡ false) × From (onward Place.fraction (digit c)) (x ++ r) r
    o = from_next Place.fraction c (x ++ r) r h (shorter x r)

    go : (From Place.fraction (x ++ r) r → AreDigits (before is_e x)) → (k : Numerals.Digit) → DigitView c k →
        Numerals.is_stop (onward Place.fraction k) ≡ false → From (onward Place.fraction k) (x ++ r) r → AreDigits (before is_e (c ∷ x))
    go rest k (v_zero e) n f = digit_before c x (in_range c (inl e)) (rest f)
    go rest k (v_nonzero e) n f = digit_before c x (in_range c (inr e)) (rest f)
    go rest k (v_minus e) n f = stopped n
    go rest k (v_plus e) n f = stopped n
    go rest k (v_point e) n f = stopped n
    go rest k (v_e e) n f = rw (before_e c x (is_e_lem c e)) tt
    go rest k v_other n f = stopped n

point_digits : (x r : Bytes) → From Place.point (x ++ r) r → AreDigits (before is_e x)
point_digits [] r h = rw (before_nil is_e) tt
point_digits (c ∷ x) r h = go (digit c) (digit_view c) o.0 o.1
  where
    o : (Numerals.is_stop (onward Place.point (digit c)) ≡ false) × From (onward Place.point (digit c)) (x ++ r) r
    o = from_next Place.point c (x ++ r) r h (shorter x r)

    go : (k : Numerals.Digit) → DigitView c k → Numerals.is_stop (onward Place.point k) ≡ false → From (onward Place.point k) (x ++ r) r → AreDigits (before is_e (c ∷ x))
    go k (v_zero e) n f = digit_before c x (in_range c (inl e)) (fraction_digits x r f)
    go k (v_nonzero e) n f = digit_before c x (in_range c (inr e)) (fraction_digits x r f)
    go k (v_minus e) n f = stopped n
    go k (v_plus e) n f = stopped n
    go k (v_point e) n f = stopped n
    go k (v_e e) n f = stopped n
    go k v_other n f = stopped n

-- the whole and the fraction
abbrev Parts : Bytes → Type 0
Parts x = AreDigits (Whole x) × AreDigits (Fraction x)

parts_nil : Parts []
parts_nil = (rw (before_nil is_e, before_nil is_point) tt, rw (before_nil is_e, behind_nil is_point) tt)

parts_digit : (c : ℕ) (x : Bytes) → (48 ≤ c) × (c ≤ 57) → Parts x → Parts (c ∷ x)
parts_digit c x d h =
    let q = plain_of c d.0 d.1 in
    (rw (before_plain c x q.0, point_plain c (before is_e x) q.1) (d, h.0), rw (before_plain c x q.0, behind_plain c (before is_e x) q.1) h.1)

parts_point : (c : ℕ) (x : Bytes) → c ≡ 46 → AreDigits (before is_e x) → Parts (c ∷ x)
parts_point c x e h =
    let q = is_point_lem c e in
    (rw (before_plain c x q.0, point_here c (before is_e x) q.1) tt, rw (before_plain c x q.0, behind_here c (before is_e x) q.1) h)

parts_e : (c : ℕ) (x : Bytes) → (c ≡ 69) ⊎ (c ≡ 101) → Parts (c ∷ x)
parts_e c x e = (rw (before_e c x (is_e_lem c e), before_nil is_point) tt, rw (before_e c x (is_e_lem c e), behind_nil is_point) tt)

zeroed_parts : (x r : Bytes) → From Place.zeroed (x ++ r) r → Parts x
zeroed_parts [] r h = parts_nil
zeroed_parts (c ∷ x) r h = go (digit c) (digit_view c) o.0 o.1
  where
    o : (Numerals.is_stop (onward Place.zeroed (digit c)) ≡ false) × From (onward Place.zeroed (digit c)) (x ++ r) r
    o = from_next Place.zeroed c (x ++ r) r h (shorter x r)

    go : (k : Numerals.Digit) → DigitView c k → Numerals.is_stop (onward Place.zeroed k) ≡ false → From (onward Place.zeroed k) (x ++ r) r → Parts (c ∷ x)
    go k (v_zero e) n f = stopped n
    go k (v_nonzero e) n f = stopped n
    go k (v_minus e) n f = stopped n
    go k (v_plus e) n f = stopped n
    go k (v_point e) n f = parts_point c x e (point_digits x r f)
    go k (v_e e) n f = parts_e c x e
    go k v_other n f = stopped n

whole_parts : (x r : Bytes) → From Place.whole (x ++ r) r → Parts x
whole_parts [] r h = parts_nil
whole_parts (c ∷ x) r h = go (λ k. whole_parts x r k) (digit c) (digit_view c) o.0 o.1
  where
    o : (Numerals.is_stop (onward Place.whole (digit c)) ≡ false) × From (onward Place.whole (digit c)) (x ++ r) r
    o = from_next Place.whole c (x ++ r) r h (shorter x r)

    go : (From Place.whole (x ++ r) r → Parts x) → (k : Numerals.Digit) → DigitView c k → Numerals.is_stop (onward Place.whole k) ≡ false →
        From (onward Place.whole k) (x ++ r) r → Parts (c ∷ x)
    go rest k (v_zero e) n f = parts_digit c x (in_range c (inl e)) (rest f)
    go rest k (v_nonzero e) n f = parts_digit c x (in_range c (inr e)) (rest f)
    go rest k (v_minus e) n f = stopped n
    go rest k (v_plus e) n f = stopped n
    go rest k (v_point e) n f = parts_point c x e (point_digits x r f)
    go rest k (v_e e) n f = parts_e c x e
    go rest k v_other n f = stopped n

sign_parts : (x r : Bytes) → From Place.sign (x ++ r) r → Parts x
sign_parts [] r h = parts_nil
sign_parts (c ∷ x) r h = go (digit c) (digit_view c) o.0 o.1
  where
    o : (Numerals.is_stop (onward Place.sign (digit c)) ≡ false) × From (onward Place.sign (digit c)) (x ++ r) r
    o = from_next Place.sign c (x ++ r) r h (shorter x r)

    go : (k : Numerals.Digit) → DigitView c k → Numerals.is_stop (onward Place.sign k) ≡ false → From (onward Place.sign k) (x ++ r) r → Parts (c ∷ x)
    go k (v_zero e) n f = parts_digit c x (in_range c (inl e)) (zeroed_parts x r f)
    go k (v_nonzero e) n f = parts_digit c x (in_range c (inr e)) (whole_parts x r f)
    go k (v_minus e) n f = stopped n
    go k (v_plus e) n f = stopped n
    go k (v_point e) n f = stopped n
    go k (v_e e) n f = stopped n
    go k v_other n f = stopped n

digits_append : (s t : Bytes) → AreDigits s → AreDigits t → AreDigits (s ++ t)
digits_append [] t a b = b
digits_append (c ∷ s) t a b = (a.0, digits_append s t a.1 b)

-- the sign
unsigned_minus : (c : ℕ) (x : Bytes) → c ≡ 45 → unsigned (c ∷ x) ≡ x
unfolding unsigned
unsigned_minus c x e = rw e refl

unsigned_digit : (c : ℕ) (x : Bytes) → (48 ≤ c) × (c ≤ 57) → unsigned (c ∷ x) ≡ c ∷ x
unfolding unsigned
unsigned_digit c x d = rw (eqb_false c 45 (λ p. absurd (omega (arith, d.0, p))), eqb_false c 43 (λ p. absurd (omega (arith, d.0, p))), unsigned) refl

raw_minus : (c : ℕ) (x : Bytes) → c ≡ 45 → Parts x → AreDigits (raw_digits (c ∷ x))
unfolding whole_part fraction_part
raw_minus c x e h =
    digits_append (whole_part (c ∷ x)) (fraction_part (c ∷ x)) (rw (unsigned_minus c x e) h.0)
    (rw (before_plain c x (rw e refl), behind_plain c (before is_e x) (rw e refl)) h.1)

raw_digit : (c : ℕ) (x : Bytes) → (48 ≤ c) × (c ≤ 57) → Parts (c ∷ x) → AreDigits (raw_digits (c ∷ x))
unfolding whole_part fraction_part
raw_digit c x d h = digits_append (whole_part (c ∷ x)) (fraction_part (c ∷ x)) (rw (unsigned_digit c x d) h.0) h.1

raw_first : (c : ℕ) (x r : Bytes) (p : Place) → FirstView c p → From p (x ++ r) r → AreDigits (raw_digits (c ∷ x))
raw_first c x r p (first_minus e) h = raw_minus c x e (sign_parts x r h)
raw_first c x r p (first_zero e) h = raw_digit c x (in_range c (inl e)) (parts_digit c x (in_range c (inl e)) (zeroed_parts x r h))
raw_first c x r p (first_nonzero e) h = raw_digit c x (in_range c (inr e)) (parts_digit c x (in_range c (inr e)) (whole_parts x r h))
raw_first c x r p first_none h = absurd h

pub number_digits : (x s r : Bytes) → Number s r → s ≡ x ++ r → AreDigits (raw_digits x)
number_digits [] s r n e = absurd (omega (arith, number_length n, ap length e))
number_digits (c ∷ x) s r n e = raw_first c x r (Numerals.first c) (first_view c) (first_number c (x ++ r) r (subst (λ (y : Bytes). Number y r) e n)).2

-- Two numbers that were read are ordered by their exact values.
pub numbers_exact : {x y s s' r r' : Bytes} → Spells (number x) s r → Spells (number y) s' r' → number_order x y ≡ exact_order (decimal x) (decimal y)
numbers_exact {x} {y} {s} {s'} {r} {r'} (Spells.is_number n e) (Spells.is_number m f) = order_exact x y (number_digits x s r n e) (number_digits y s' r' m f)
