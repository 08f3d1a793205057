-- The order of exact values is total: equal exactly where the values are, turned round by a swap, and transitive; so is the order of number texts.
-- Assumes nothing.
use mathlib.Core.Bool.{Bool, false, not, true, true≢false, ◌&&◌}
use mathlib.Core.List.{[], append-nil}
use mathlib.Core.Logic.{inl, inr, ◌≢◌, ◌⊎◌}
use mathlib.Core.Path.{ap, ap₂, refl, sym, ◌∙◌, ◌≡◌}
use Prim.Native.Nat.{Ordering, compare, ℕ, ◌*◌, ◌+◌, ◌<◌, ◌^◌, ◌≤◌}
use native.Mathlib.Nat.{mul-lt-mul_of_pos_right}
use native.Mathlib.Omega.{arith}
use lib.Dec.{eqb}
use lib.ListN.{length}
use Rattle.number.proofs.Digits.{numbers_exact}
use Rattle.number.proofs.Exact.{
  Cmp,
  both_below,
  cmp,
  cmp_is,
  compare_left_out,
  compare_times,
  exponents,
  exponents_are,
  left_below,
  less,
  more,
  none_below,
  right_below,
  same,
  ten_pos,
}
use Rattle.number.proofs.Signs.{both_negative, cmp_of, first_negative, is_less, is_same, none_negative, same_order, second_negative}
use Rattle.number.proofs.Steps.{looked_at}
use Rattle.number.specs.Compare.{number_order}
use Rattle.number.specs.Compared.{compared}
use Rattle.number.specs.Decimal.{Decimal, Integer, SameValue, below, cross, decimal, exact_order, magnitudes, signed, swapped}
use Rattle.number.specs.Places.{Same, order_integers}
use Rattle.json_text.proofs.Laws.{eqb_no, eqb_true}
use Rattle.json_text.specs.Bytes.{Bytes}
use Rattle.json_text.specs.Grammar.{Number, Spells}
use Rattle.json_text.specs.Json.{number}

-- ---- the exact order is that of the two values over one power of ten
module _ (a b : Decimal) where
  abbrev Size : ℕ
  Size = a.digits * 10 ^ (a.power.up + b.power.down)

  -- -0 is 0
  no_sign : (n : Bool) (z : Bool) → eqb a.digits 0 ≡ z → Same (signed n Size) (signed (n && not z) Size)
  no_sign false z e = refl
  no_sign true false e = refl
  no_sign true true e = ap (λ (d : ℕ). 0 + 0) (eqb_true a.digits 0 e) ∙ sym (rw (eqb_true a.digits 0 e) (omega arith))

  crossed : Same (cross a b) (signed (below a) Size)
  crossed = no_sign a.negative (eqb a.digits 0) refl

  below_size : below a ≡ true → 0 < Size
  below_size e = go a.negative (eqb a.digits 0) refl e
    where
      go : (n z : Bool) → eqb a.digits 0 ≡ z → (n && not z) ≡ true → 0 < Size
      go true false p q =
          let h : 0 < a.digits = omega (arith, eqb_no a.digits 0 p) in
          omega (arith, mul-lt-mul_of_pos_right h (ten_pos (a.power.up + b.power.down)))
      go true true p q = absurd (true≢false (sym q))
      go false z p q = absurd (true≢false (sym q))

  sized : magnitudes a b ≡ compare Size (b.digits * 10 ^ (b.power.up + a.power.down))
  unfolding magnitudes
  sized = compare_left_out a.digits b.digits (a.power.up + b.power.down) (b.power.up + a.power.down)

pub exact_cross : (a b : Decimal) → exact_order a b ≡ order_integers (cross a b) (cross b a)
exact_cross a b = go (below a) (below b) refl refl ∙ sym (same_order (cross a b) (cross b a) (signed (below a) (Size a b)) (signed (below b) (Size b a)) (crossed a b) (crossed b a))
  where
    by : (x y : Bool) → below a ≡ x → below b ≡ y →
        order_integers (signed x (Size a b)) (signed y (Size b a)) ≡
        order_integers (signed (below a) (Size a b)) (signed (below b) (Size b a))
    by x y p q = ap₂ (λ (u v : Bool). order_integers (signed u (Size a b)) (signed v (Size b a))) (sym p) (sym q)

    go : (x y : Bool) → below a ≡ x → below b ≡ y → exact_order a b ≡ order_integers (signed (below a) (Size a b)) (signed (below b) (Size b a))
    go true true p q = both_below a b p q ∙ sized b a ∙ sym (both_negative (Size a b) (Size b a)) ∙ by true true p q
    go true false p q = left_below a b p q ∙ sym (first_negative (Size a b) (Size b a) (below_size a b p)) ∙ by true false p q
    go false true p q = right_below a b p q ∙ sym (second_negative (Size a b) (Size b a) (below_size b a q)) ∙ by false true p q
    go false false p q = none_below a b p q ∙ sized a b ∙ sym (none_negative (Size a b) (Size b a)) ∙ by false false p q

-- ---- equal exactly where the values are
pub exact_equal : (a b : Decimal) → exact_order a b ≡ Ordering.eq → SameValue a b
exact_equal a b e = is_same (cmp_of _ _ (sym (exact_cross a b) ∙ e))

pub equal_exact : (a b : Decimal) → SameValue a b → exact_order a b ≡ Ordering.eq
equal_exact a b e = exact_cross a b ∙ cmp_is _ _ Ordering.eq (same e)

-- ---- turned round by a swap
cmp_swapped : {x y : ℕ} {o : Ordering} → Cmp x y o → Cmp y x (swapped o)
cmp_swapped (less h) = more h
cmp_swapped (same h) = same (sym h)
cmp_swapped (more h) = less h

not_both : (o : Ordering) → (o ≢ Ordering.gt) ⊎ (swapped o ≢ Ordering.gt)
not_both Ordering.lt = inl (λ e. let z : ◌≡◌ {A = Bool} true false = cc in true≢false z)
not_both Ordering.eq = inl (λ e. let z : ◌≡◌ {A = Bool} true false = cc in true≢false z)
not_both Ordering.gt = inr (λ e. let z : ◌≡◌ {A = Bool} true false = cc in true≢false z)

pub exact_swapped : (a b : Decimal) → exact_order b a ≡ swapped (exact_order a b)
exact_swapped a b = exact_cross b a ∙ cmp_is _ _ _ (cmp_swapped (cmp _ _)) ∙ ap swapped (sym (exact_cross a b))

pub exact_total : (a b : Decimal) → (exact_order a b ≢ Ordering.gt) ⊎ (exact_order b a ≢ Ordering.gt)
exact_total a b = rw (exact_swapped a b) (not_both (exact_order a b))

-- ---- transitive
-- a common factor changes nothing
order_times : (k : ℕ) → 0 < k → (m n : Bool) (x y : ℕ) → order_integers (signed m (x * k)) (signed n (y * k)) ≡ order_integers (signed m x) (signed n y)
order_times k h true true x y = ap₂ compare (omega arith) (omega arith) ∙ compare_times k (0 + y) (0 + x) h
order_times k h true false x y = ap₂ compare (omega arith) (omega arith) ∙ compare_times k (0 + 0) (y + x) h
order_times k h false true x y = ap₂ compare (omega arith) (omega arith) ∙ compare_times k (x + y) (0 + 0) h
order_times k h false false x y = ap₂ compare (omega arith) (omega arith) ∙ compare_times k (x + 0) (y + 0) h

-- over the power of ten of a third value too
abbrev Over : Decimal → ℕ → Integer
Over a k = signed a.negative (a.digits * 10 ^ (a.power.up + k))

over_third : (a b : Decimal) (k x y : ℕ) → x ≡ b.power.down + k → y ≡ a.power.down + k → exact_order a b ≡ order_integers (Over a x) (Over b y)
over_third a b k x y p q =
    exact_cross a b ∙
    sym (order_times (10 ^ k) (ten_pos k) a.negative b.negative (Size a b) (Size b a)) ∙
    ap₂ (λ (m n : ℕ). order_integers (signed a.negative m) (signed b.negative n))
    (exponents a.digits (a.power.up + b.power.down) k ∙ exponents_are a.digits (omega (arith, p)))
    (exponents b.digits (b.power.up + a.power.down) k ∙ exponents_are b.digits (omega (arith, q)))

abbrev AtMost : Integer → Integer → Type 0
AtMost i j = i.up + j.down ≤ j.up + i.down

cmp_most : {x y : ℕ} {o : Ordering} → Cmp x y o → o ≢ Ordering.gt → x ≤ y
cmp_most (less h) n = omega (arith, h)
cmp_most (same h) n = omega (arith, h)
cmp_most (more h) n = absurd (n refl)

not_more : {x y : ℕ} {o : Ordering} → Cmp x y o → x ≤ y → o ≢ Ordering.gt
not_more (less h) l e = let z : ◌≡◌ {A = Bool} true false = cc in true≢false z
not_more (same h) l e = let z : ◌≡◌ {A = Bool} true false = cc in true≢false z
not_more (more h) l e = absurd (omega (arith, h, l))

module _ (a b c : Decimal) where
  abbrev A : Integer
  A = Over a (b.power.down + c.power.down)

  abbrev B : Integer
  B = Over b (a.power.down + c.power.down)

  abbrev C : Integer
  C = Over c (a.power.down + b.power.down)

  first_two : exact_order a b ≡ order_integers A B
  first_two = over_third a b c.power.down (b.power.down + c.power.down) (a.power.down + c.power.down) refl refl

  last_two : exact_order b c ≡ order_integers B C
  last_two = over_third b c a.power.down (a.power.down + c.power.down) (a.power.down + b.power.down) (omega arith) (omega arith)

  outer_two : exact_order a c ≡ order_integers A C
  outer_two = over_third a c b.power.down (b.power.down + c.power.down) (a.power.down + b.power.down) (omega arith) refl

  most : {o : Ordering} (i j : Integer) → o ≡ order_integers i j → o ≢ Ordering.gt → AtMost i j
  most i j e n = cmp_most (cmp_of _ _ (sym e)) n

  -- at most, and less where one of the two is less
  pub exact_at_most : exact_order a b ≢ Ordering.gt → exact_order b c ≢ Ordering.gt → exact_order a c ≢ Ordering.gt
  exact_at_most p q = not_more (cmp_of _ _ (sym outer_two)) (omega (arith, most A B first_two p, most B C last_two q))

  pub less_at_most_lem : exact_order a b ≡ Ordering.lt → exact_order b c ≢ Ordering.gt → exact_order a c ≡ Ordering.lt
  less_at_most_lem p q = outer_two ∙ cmp_is _ _ Ordering.lt (less (omega (arith, is_less (cmp_of _ _ (sym first_two ∙ p)), most B C last_two q)))

  pub at_most_less_lem : exact_order a b ≢ Ordering.gt → exact_order b c ≡ Ordering.lt → exact_order a c ≡ Ordering.lt
  at_most_less_lem p q = outer_two ∙ cmp_is _ _ Ordering.lt (less (omega (arith, most A B first_two p, is_less (cmp_of _ _ (sym last_two ∙ q)))))

-- ---- number texts
spelled : (s : Bytes) → Number s [] → Spells (number s) s []
spelled s n = Spells.is_number n (sym (append-nil s))

pub texts_exact : (s t : Bytes) → Number s [] → Number t [] → number_order s t ≡ exact_order (decimal s) (decimal t)
texts_exact s t m n = numbers_exact (spelled s m) (spelled t n)

-- what `compare` answers for any two texts of at most 255 bytes, and for two numbers among them
pub compared_order : (s t : Bytes) → length s ≤ 255 → length t ≤ 255 → compared s t ≡ number_order s t
compared_order s t p q = looked_at s t p q

pub compared_exact : (s t : Bytes) → Number s [] → Number t [] → length s ≤ 255 → length t ≤ 255 → compared s t ≡ exact_order (decimal s) (decimal t)
compared_exact s t m n p q = compared_order s t p q ∙ texts_exact s t m n

-- their order is total
pub record Total (s t u : Bytes) : Type 0 where
  pub equal : number_order s t ≡ Ordering.eq → SameValue (decimal s) (decimal t)
  pub same : SameValue (decimal s) (decimal t) → number_order s t ≡ Ordering.eq
  pub total : (number_order s t ≢ Ordering.gt) ⊎ (number_order t s ≢ Ordering.gt)
  pub swap : number_order t s ≡ swapped (number_order s t)
  pub at_most : number_order s t ≢ Ordering.gt → number_order t u ≢ Ordering.gt → number_order s u ≢ Ordering.gt
  pub less_at_most : number_order s t ≡ Ordering.lt → number_order t u ≢ Ordering.gt → number_order s u ≡ Ordering.lt
  pub at_most_less : number_order s t ≢ Ordering.gt → number_order t u ≡ Ordering.lt → number_order s u ≡ Ordering.lt

pub texts_total : (s t u : Bytes) → Number s [] → Number t [] → Number u [] → Total s t u
texts_total s t u m n k =
    record {
      equal = rw (texts_exact s t m n) (exact_equal (decimal s) (decimal t));
      same = rw (texts_exact s t m n) (equal_exact (decimal s) (decimal t));
      total = rw (texts_exact s t m n, texts_exact t s n m) (exact_total (decimal s) (decimal t));
      swap = rw (texts_exact s t m n, texts_exact t s n m) (exact_swapped (decimal s) (decimal t));
      at_most = rw (texts_exact s t m n, texts_exact t u n k, texts_exact s u m k) (exact_at_most (decimal s) (decimal t) (decimal u));
      less_at_most = rw (texts_exact s t m n, texts_exact t u n k, texts_exact s u m k) (less_at_most_lem (decimal s) (decimal t) (decimal u));
      at_most_less = rw (texts_exact s t m n, texts_exact t u n k, texts_exact s u m k) (at_most_less_lem (decimal s) (decimal t) (decimal u));
    }
