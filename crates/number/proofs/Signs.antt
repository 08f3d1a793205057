-- Laws of integers held as digits and a sign: their order, and their sum.
-- Assumes nothing.
use mathlib.Core.Bool.{Bool, beq, false, false≢true, true, true≢false}
use mathlib.Core.Path.{refl, subst, sym, ◌≡◌}
use Prim.Native.Nat.{Ordering, compare, ℕ, ◌+◌, ◌<◌}
use native.Mathlib.Omega.{arith}
use Rattle.number.proofs.Exact.{Cmp, cmp, cmp_is, less, more, same}
use Rattle.number.specs.Decimal.{Integer, signed}
use Rattle.number.specs.Places.{Same, added, integer, order_integers}
use Rattle.number.specs.Row.{value}
use Rattle.number.specs.declared.places.Integer.{Integer as Held}

-- what a comparison says
pub cmp_of : (x y : ℕ) {o : Ordering} → compare x y ≡ o → Cmp x y o
cmp_of x y e = subst (Cmp x y) e (cmp x y)

pub is_less : {x y : ℕ} → Cmp x y Ordering.lt → x < y
is_less (less h) = h

pub is_same : {x y : ℕ} → Cmp x y Ordering.eq → x ≡ y
is_same (same h) = h

cmp_moved : {x y x' y' : ℕ} {o : Ordering} → x + y' ≡ x' + y → Cmp x y o → Cmp x' y' o
cmp_moved e (less h) = less (omega (arith, e, h))
cmp_moved e (same h) = same (omega (arith, e, h))
cmp_moved e (more h) = more (omega (arith, e, h))

-- a comparison is one of differences
pub compare_moved : (x y x' y' : ℕ) → x + y' ≡ x' + y → compare x' y' ≡ compare x y
compare_moved x y x' y' e = cmp_is x' y' (compare x y) (cmp_moved e (cmp x y))

-- the order depends on the integers alone
pub same_order : (i j i' j' : Integer) → Same i i' → Same j j' → order_integers i j ≡ order_integers i' j'
same_order i j i' j' p q = compare_moved (i'.up + j'.down) (j'.up + i'.down) (i.up + j.down) (j.up + i.down) (omega (arith, p, q))

-- by signs
module _ (m n : ℕ) where
  pub both_negative : order_integers (signed true m) (signed true n) ≡ compare n m
  both_negative = compare_moved n m (0 + n) (0 + m) (omega arith)

  pub first_negative : 0 < m → order_integers (signed true m) (signed false n) ≡ Ordering.lt
  first_negative h = cmp_is (0 + 0) (n + m) Ordering.lt (less (omega (arith, h)))

  pub second_negative : 0 < n → order_integers (signed false m) (signed true n) ≡ Ordering.gt
  second_negative h = cmp_is (m + n) (0 + 0) Ordering.gt (more (omega (arith, h)))

  pub none_negative : order_integers (signed false m) (signed false n) ≡ compare m n
  none_negative = compare_moved m n (m + 0) (n + 0) (omega arith)

-- an integer that is held, by its sign
module _ (h : Held) (b : Bool) (e : h.negative ≡ b) where
  pub held_same : (i : Integer) → Same (signed b (value h.digits)) i → Same (integer h) i
  held_same i q = subst (λ (z : Bool). Same (signed z (value h.digits)) i) (sym e) q

-- ---- sums
module _ (v x y : ℕ) where
  -- of equal signs
  pub sum_same : (n m : Bool) → n ≡ m → v ≡ x + y → Same (signed m v) (added (signed n x) (signed m y))
  sum_same true true e h = omega (arith, h)
  sum_same true false e h = absurd (true≢false e)
  sum_same false true e h = absurd (false≢true e)
  sum_same false false e h = omega (arith, h)

  -- of nothing and something
  pub sum_none : (n m : Bool) → x ≡ 0 → v ≡ x + y → Same (signed m v) (added (signed n x) (signed m y))
  sum_none true true e h = omega (arith, e, h)
  sum_none true false e h = omega (arith, e, h)
  sum_none false true e h = omega (arith, e, h)
  sum_none false false e h = omega (arith, e, h)

  -- of unequal signs, the second the larger
  pub sum_second : (n m : Bool) → (n ≡ m → ⊥) → v + x ≡ y → Same (signed m v) (added (signed n x) (signed m y))
  sum_second true true e h = absurd (e refl)
  sum_second true false e h = omega (arith, h)
  sum_second false true e h = omega (arith, h)
  sum_second false false e h = absurd (e refl)

  -- of unequal signs, the first the larger
  pub sum_first : (n m : Bool) → (n ≡ m → ⊥) → v + y ≡ x → Same (signed n v) (added (signed n x) (signed m y))
  sum_first true true e h = absurd (e refl)
  sum_first true false e h = omega (arith, h)
  sum_first false true e h = omega (arith, h)
  sum_first false false e h = absurd (e refl)

  -- of unequal signs, both alike
  pub sum_nothing : (n m : Bool) → (n ≡ m → ⊥) → v ≡ 0 → x ≡ y → Same (signed false v) (added (signed n x) (signed m y))
  sum_nothing true true e h k = absurd (e refl)
  sum_nothing true false e h k = omega (arith, h, k)
  sum_nothing false true e h k = omega (arith, h, k)
  sum_nothing false false e h k = absurd (e refl)

-- a test of two bools is an equation of its flag
pub alike : (a b : Bool) → beq a b ≡ true → a ≡ b
alike true true e = refl
alike true false e = sym e
alike false true e = e
alike false false e = refl

pub unlike : (a b : Bool) → beq a b ≡ false → a ≡ b → ⊥
unlike true true e h = true≢false e
unlike true false e h = true≢false h
unlike false true e h = false≢true h
unlike false false e h = true≢false e
