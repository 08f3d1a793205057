-- Laws of a loop over decimal digits, the lowest first: one digit written at each turn, a carry or a borrow handed on, and the order by the highest digit that differs.
-- Assumes nothing.
use mathlib.Core.Bool.{Bool, false, true}
use mathlib.Core.List.{[], List, ◌++◌, ◌∷◌}
use mathlib.Core.Logic.{◌≢◌}
use mathlib.Core.Path.{ap, ap₂, refl, sym, ◌∙◌, ◌≡◌}
use Prim.Native.Nat.{Ordering, compare, suc, zero, ℕ, ◌%◌, ◌*◌, ◌+◌, ◌-◌, ◌/◌, ◌<◌, ◌^◌, ◌≤◌}
use native.Mathlib.Nat.{mul-suc, pow-suc}
use native.Mathlib.Numerals.{add-one}
use native.Mathlib.Omega.{arith}
use borrow.Author.Tests.{leb-false, leb-true}
use lib.Dec.{eqb, leb}
use lib.ListN.{drop, get_or, length, length-drop, length-replicate, length-set, replicate, set, take}
use lib.Seq.{drop-cons, drop-length, get_or-drop, get_or-set_other, get_or-set_same, length-take-le, take-suc, take-suc-set}
use Rattle.number.proofs.Exact.{Cmp, cmp, cmp_is, less, more, natural_cons, same}
use Rattle.json_text.proofs.Cursor.{order_less, order_more, order_none, order_on}
use Rattle.json_text.specs.Bytes.{order_bytes}
use Rattle.std.proofs.Common.{reverse}
use Rattle.std.proofs.lemmas.Grind.{get_or_default_zero, reverse_onto}
use Rattle.std.proofs.lemmas.List.{get_or-reverse, length-reverse}
use Rattle.std.proofs.lemmas.List.FromFn.{get_or-enumerate_from, length-enumerate_from}
use Rattle.std.specs.List.{enumerate_from}
use Rattle.number.specs.Compare.{then}
use Rattle.number.specs.Row.{Digits, value}
use Rattle.json_text.proofs.Laws.{eqb_no, eqb_true}
use Rattle.json_text.specs.Bytes.{Bytes, natural}

-- what the digits below a place and those above it stand for
value_parts : (i : ℕ) (ds : List ℕ) → value ds ≡ value (take i ds) + 10 ^ i * value (drop i ds)
unfolding value
value_parts zero ds = omega arith
value_parts (suc i) [] = omega arith
value_parts (suc i) (d ∷ ds) = rw (pow-suc 10 i) (omega (arith, value_parts i ds))

value_snoc : (xs : List ℕ) (x : ℕ) → value (xs ++ (x ∷ [])) ≡ value xs + 10 ^ length xs * x
unfolding value
value_snoc [] x = omega arith
value_snoc (d ∷ xs) x = rw (pow-suc 10 (length xs)) (omega (arith, value_snoc xs x))

value_zero : (ds : List ℕ) → ((i : ℕ) → get_or ds i 0 ≡ 0) → value ds ≡ 0
unfolding value
value_zero [] h = refl
value_zero (d ∷ ds) h = omega (arith, h 0, value_zero ds (λ i. h (suc i)))

value_below : (i : ℕ) (ds : List ℕ) → ((k : ℕ) → get_or ds k 0 < 10) → value (take i ds) < 10 ^ i
unfolding value
value_below zero ds h = omega arith
value_below (suc i) [] h = rw (pow-suc 10 i) (omega (arith, value_below i [] h))
value_below (suc i) (d ∷ ds) h = rw (pow-suc 10 i) (omega (arith, h 0, value_below i ds (λ k. h (suc k))))

-- digits that are clear from a place on
module _ (ds : List ℕ) (n : ℕ) (clear : (i : ℕ) → n ≤ i → get_or ds i 0 ≡ 0) where
  above_clear : (i : ℕ) → n ≤ i → value (drop i ds) ≡ 0
  above_clear i h = value_zero (drop i ds) (λ k. get_or-drop i ds k 0 ∙ clear (i + k) (omega (arith, h)))

  pub below_clear : (i : ℕ) → n ≤ i → value (take i ds) ≡ value ds
  below_clear i h = omega (arith, value_parts i ds, ap (λ (z : ℕ). 10 ^ i * z) (above_clear i h))

-- one digit more
module _ (ds : List ℕ) (i : ℕ) (h : i < length ds) where
  pub value_next : value (take (i + 1) ds) ≡ value (take i ds) + 10 ^ i * get_or ds i 0
  value_next =
      let l : length (take i ds) ≡ i = length-take-le i ds (omega arith) in
      rw (add-one, take-suc ds i 0 h) (value_snoc (take i ds) (get_or ds i 0) ∙ ap (λ (k : ℕ). value (take i ds) + 10 ^ k * get_or ds i 0) l)

-- 260 digits, written below a place
pub record Written (out : List ℕ) (i : ℕ) : Type 0 where
  pub long : length out ≡ 260
  pub small : (k : ℕ) → get_or out k 0 < 10
  pub clear : (k : ℕ) → i ≤ k → get_or out k 0 ≡ 0

pub written_digits : (out : List ℕ) (i : ℕ) → Written out i → i ≤ 260 → Digits out i
written_digits out i w h = record { long = w.long; few = h; small = w.small; clear = w.clear }

pub written_value : (out : List ℕ) (i : ℕ) → Written out i → value (take i out) ≡ value out
written_value out i w = below_clear out i w.clear i (omega arith)

pub written_below : (out : List ℕ) (i : ℕ) → Written out i → value (take i out) < 10 ^ i
written_below out i w = value_below i out w.small

-- nothing is written yet
zeros_at : (n k : ℕ) → ◌≡◌ {A = ℕ} (get_or (replicate n 0) k 0) 0
zeros_at zero k = refl
zeros_at (suc n) zero = refl
zeros_at (suc n) (suc k) = zeros_at n k

pub none_written : Written (replicate 260 0) 0
none_written = record { long = length-replicate {A = ℕ} 260 0; small = λ k. omega (arith, zeros_at 260 k); clear = λ k p. zeros_at 260 k }

module _ (out : List ℕ) (i x : ℕ) (w : Written out i) (h : i < 260) where
  fits : i < length out
  fits = omega (arith, w.long)

  pub write : x < 10 → Written (set out i x) (i + 1)
  write s =
      record {
        long = length-set out i x ∙ w.long;
        small = λ k. at k (eqb k i) refl;
        clear = λ k p. get_or-set_other out i k x 0 (λ e. absurd (omega (arith, e, p))) ∙ w.clear k (omega (arith, p));
      }
    where
      at : (k : ℕ) (b : Bool) → eqb k i ≡ b → get_or (set out i x) k 0 < 10
      at k true e = rw (eqb_true k i e, get_or-set_same out i x 0 fits) s
      at k false e = rw (get_or-set_other out i k x 0 (eqb_no k i e)) (w.small k)

  pub write_value : value (take (i + 1) (set out i x)) ≡ value (take i out) + 10 ^ i * x
  write_value =
      let l : length (take i out) ≡ i = length-take-le i out (omega (arith, fits)) in
      rw (add-one, take-suc-set out i x fits) (value_snoc (take i out) x ∙ ap (λ (k : ℕ). value (take i out) + 10 ^ k * x) l)

power_next : (i : ℕ) → 10 ^ (i + 1) ≡ 10 ^ i * 10
power_next i = rw (add-one) (pow-suc 10 i)

-- ---- reading the digits of a text from its end, with a carry
-- a sum is a digit and ten times what is carried
carry_on : (P v t : ℕ) → v + P * t ≡ v + P * (t % 10) + (P * 10) * (t / 10)
carry_on P v t = let e : t ≡ t % 10 + 10 * (t / 10) = omega arith in omega (arith, ap (λ (z : ℕ). P * z) e)

module _ (n : ℕ) (out : List ℕ) (i t : ℕ) (w : Written out i) (h : i < 260) where
  pub carried : n ≡ value (take i out) + 10 ^ i * t → n ≡ value (take (i + 1) (set out i (t % 10))) + 10 ^ (i + 1) * (t / 10)
  carried e = e ∙ carry_on (10 ^ i) (value (take i out)) t ∙ rw (write_value out i (t % 10) w h, power_next i) refl

-- the byte that a walk from the end comes to
pub record Read (s : Bytes) (count i c : ℕ) : Type 0 where
  pub within : count < length s
  pub place : i ≡ count
  pub byte : c ≡ get_or s (length s - 1 - count) 0

pub from_end : (s : Bytes) (count i c : ℕ) → count < length (enumerate_from 0 (reverse s)) → (i, c) ≡ get_or (enumerate_from 0 (reverse s)) count (i, c) → Read s count i c
from_end s count i c h e =
    let n : count < length s = omega (arith, h, length-enumerate_from 0 (reverse s), length-reverse s) in
    let q = e ∙ get_or-enumerate_from 0 (reverse s) count (i, c) (omega (arith, n, length-reverse s)) in
    record {
      within = n;
      place = ap (λ (p : ℕ × ℕ). p.0) q ∙ omega arith;
      byte = ap (λ (p : ℕ × ℕ). p.1) q ∙ get_or-reverse s count c n ∙ get_or_default_zero s (length s - 1 - count) c (omega (arith, n));
    }

pub record Reading (s : Bytes) (more : ℕ) (out : List ℕ) (count carry : ℕ) : Type 0 where
  pub upto : count ≤ length s
  pub small : carry ≤ 255
  pub written : Written out count
  pub total : natural 0 (drop (length s - count) s) + more ≡ value (take count out) + 10 ^ count * carry

module _ (s : Bytes) (more : ℕ) (short : length s ≤ 255) where
  pub reading : more ≤ 255 → (out : List ℕ) → Written out 0 → Reading s more out 0 more
  unfolding value natural
  reading m out w = record { upto = omega arith; small = m; written = w; total = let e : length s - 0 ≡ length s = omega arith in rw (e, drop-length s) (omega arith) }

  spelt : (i : ℕ) → i < length s → natural 0 (drop i s) ≡ (get_or s i 0 - 48) * 10 ^ (length s - (i + 1)) + natural 0 (drop (i + 1) s)
  spelt i h = rw (drop-cons s i 0 h, ← add-one) (natural_cons (get_or s i 0) (drop (i + 1) s) ∙ rw (length-drop (i + 1) s) refl)

  read_byte : (out : List ℕ) (count carry c t : ℕ) → Reading s more out count carry → count < length s → c ≡ get_or s (length s - 1 - count) 0 →
      t ≡ c - 48 + carry → c < 256 → Reading s more (set out count (t % 10)) (count + 1) (t / 10)
  read_byte out count carry c t r h p e b =
      record {
        upto = omega (arith, h);
        small = omega (arith, e, b, r.small);
        written = write out count (t % 10) r.written (omega (arith, short, h)) (omega arith);
        total = carried (natural 0 (drop (length s - (count + 1)) s) + more) out count t r.written (omega (arith, short, h)) whole;
      }
    where
      i : ℕ
      i = length s - (count + 1)

      j : i + 1 ≡ length s - count
      j = omega (arith, h)

      k : length s - (length s - count) ≡ count
      k = omega (arith, h)

      digit : get_or s i 0 ≡ c
      digit = let e : length s - (count + 1) ≡ length s - 1 - count = omega arith in rw e (sym p)

      whole : natural 0 (drop i s) + more ≡ value (take count out) + 10 ^ count * t
      whole =
          let q = rw (j, k, digit) at (spelt i (omega (arith, h))) in
          omega (arith, q, r.total, ap (λ (z : ℕ). 10 ^ count * z) e)

  pub read_on : (out : List ℕ) (count carry c t i next : ℕ) → Reading s more out count carry → Read s count i c → next ≡ count + 1 →
      t ≡ c - 48 + carry → c < 256 → Reading s more (set out i (t % 10)) next (t / 10)
  read_on out count carry c t i next r d f e b = rw (d.place, f) (read_byte out count carry c t r d.within d.byte e b)

-- what is carried over goes into further digits, three at most
pub record Carrying (n : ℕ) (out : List ℕ) (count carry : ℕ) : Type 0 where
  pub three : carry < 1000
  pub two : 255 < count → carry < 100
  pub one : 256 < count → carry < 10
  pub none : 257 < count → carry ≡ 0
  pub few : count ≤ 258
  pub written : Written out count
  pub total : n ≡ value (take count out) + 10 ^ count * carry

module _ (n : ℕ) (out : List ℕ) (count carry : ℕ) (r : Carrying n out count carry) where
  pub room : carry ≢ 0 → count < 258
  room h = by (leb count 257) refl
    where
      by : (b : Bool) → leb count 257 ≡ b → count < 258
      by true e = omega (arith, leb-true count 257 e)
      by false e = absurd (h (r.none (leb-false count 257 e)))

  pub carry_more : carry ≢ 0 → Carrying n (set out count (carry % 10)) (count + 1) (carry / 10)
  carry_more h =
      let l = room h in
      record {
        three = omega (arith, r.three);
        two = λ p. omega (arith, r.three);
        one = λ p. omega (arith, r.two (omega (arith, p)));
        none = λ p. omega (arith, r.one (omega (arith, p)));
        few = omega (arith, l);
        written = write out count (carry % 10) r.written (omega (arith, l)) (omega arith);
        total = carried n out count carry r.written (omega (arith, l)) r.total;
      }

  pub all_carried : carry ≡ 0 → Digits out count × (value out ≡ n)
  all_carried h =
      (written_digits out count r.written (omega (arith, r.few)), sym (omega (arith, r.total, written_value out count r.written, ap (λ (z : ℕ). 10 ^ count * z) h)))

-- ---- the difference, with a borrow
pub record Borrowing (a b out : List ℕ) (borrow i : ℕ) : Type 0 where
  pub small : borrow < 2
  pub written : Written out i
  pub total : value (take i a) + 10 ^ i * borrow ≡ value (take i out) + value (take i b)

module _ (a b : List ℕ) (m n : ℕ) (da : Digits a m) (db : Digits b n) where
  pub borrowing : (out : List ℕ) → Written out 0 → Borrowing a b out 0 0
  unfolding value
  borrowing out w = record { small = omega arith; written = w; total = refl }

  pub borrow_on : (out : List ℕ) (borrow i t : ℕ) → Borrowing a b out borrow i → i < 260 → t ≡ 10 + get_or a i 0 - get_or b i 0 - borrow →
      Borrowing a b (set out i (t % 10)) (1 - t / 10) (i + 1)
  borrow_on out borrow i t r h e =
      record {
        small = omega arith;
        written = write out i (t % 10) r.written h (omega arith);
        total =
            omega (
              arith,
              r.total,
              value_next a i (omega (arith, da.long, h)),
              value_next b i (omega (arith, db.long, h)),
              write_value out i (t % 10) r.written h,
              power_next i,
              ap (λ (z : ℕ). 10 ^ i * z) column,
              ap (λ (z : ℕ). z * (1 - t / 10)) (power_next i),
            );
      }
    where
      column : get_or a i 0 + 10 * (1 - t / 10) ≡ t % 10 + get_or b i 0 + borrow
      column = omega (arith, e, da.small i, db.small i, r.small)

  -- nothing is borrowed in the end, since the second is not the larger
  none_borrowed : (B v y x k : ℕ) → x + B * k ≡ v + y → v < B → y ≤ x → v + y ≡ x
  none_borrowed B v y x zero e h l = omega (arith, e)
  none_borrowed B v y x (suc k) e h l = absurd (omega (arith, e, h, l, mul-suc B k))

  pub all_borrowed : (out : List ℕ) (borrow i : ℕ) → Borrowing a b out borrow i → m ≤ i → n ≤ i → value b ≤ value a → value out + value b ≡ value a
  all_borrowed out borrow i r o p l =
      none_borrowed
      (10 ^ i)
      (value out)
      (value b)
      (value a)
      borrow
      (rw (below_clear a m da.clear i o, below_clear b n db.clear i p, written_value out i r.written) at r.total)
      (rw (written_value out i r.written) at (written_below out i r.written))
      l

-- ---- the order: the highest digit that differs
-- one digit more at the end of two rows of one length
last_decides : (s t : Bytes) (x y : ℕ) → length s ≡ length t → order_bytes (s ++ (x ∷ [])) (t ++ (y ∷ [])) ≡ then (order_bytes s t) (compare x y)
last_decides [] [] x y e = go (cmp x y) ∙ sym (ap (λ (o : Ordering). then o (compare x y)) (order_none refl refl))
  where
    go : {o : Ordering} → Cmp x y o → order_bytes (x ∷ []) (y ∷ []) ≡ o
    go (less h) = order_less refl refl h
    go (same h) = order_on refl refl h ∙ order_none refl refl
    go (more h) = order_more refl refl h
last_decides [] (d ∷ t) x y e = absurd (omega (arith, e))
last_decides (c ∷ s) [] x y e = absurd (omega (arith, e))
last_decides (c ∷ s) (d ∷ t) x y e = go (last_decides s t x y (omega (arith, e))) (cmp c d)
  where
    go : {o : Ordering} → order_bytes (s ++ (x ∷ [])) (t ++ (y ∷ [])) ≡ then (order_bytes s t) (compare x y) → Cmp c d o →
        order_bytes (c ∷ (s ++ (x ∷ []))) (d ∷ (t ++ (y ∷ []))) ≡ then (order_bytes (c ∷ s) (d ∷ t)) (compare x y)
    go rest (less h) = order_less refl refl h ∙ sym (ap (λ (o : Ordering). then o (compare x y)) (order_less refl refl h))
    go rest (same h) = order_on refl refl h ∙ rest ∙ sym (ap (λ (o : Ordering). then o (compare x y)) (order_on refl refl h))
    go rest (more h) = order_more refl refl h ∙ sym (ap (λ (o : Ordering). then o (compare x y)) (order_more refl refl h))

-- the order of two numbers is that of their higher digits, and of the lowest where those are the same
column : {v w x y : ℕ} {o p : Ordering} → x < 10 → y < 10 → Cmp v w o → Cmp x y p → compare (x + 10 * v) (y + 10 * w) ≡ then o p
column a b (less h) q = cmp_is _ _ Ordering.lt (less (omega (arith, a, b, h)))
column a b (more h) q = cmp_is _ _ Ordering.gt (more (omega (arith, a, b, h)))
column a b (same h) (less k) = cmp_is _ _ Ordering.lt (less (omega (arith, h, k)))
column a b (same h) (same k) = cmp_is _ _ Ordering.eq (same (omega (arith, h, k)))
column a b (same h) (more k) = cmp_is _ _ Ordering.gt (more (omega (arith, h, k)))

abbrev Small : List ℕ → Type 0
Small ds = (k : ℕ) → get_or ds k 0 < 10

by_rows : (xs ys : List ℕ) → length xs ≡ length ys → Small xs → Small ys → order_bytes (reverse xs) (reverse ys) ≡ compare (value xs) (value ys)
unfolding value
by_rows [] [] e p q = order_none refl refl ∙ sym (cmp_is 0 0 Ordering.eq (same refl))
by_rows [] (y ∷ ys) e p q = absurd (omega (arith, e))
by_rows (x ∷ xs) [] e p q = absurd (omega (arith, e))
by_rows (x ∷ xs) (y ∷ ys) e p q =
    rw (reverse_onto xs x [], reverse_onto ys y [])
    (last_decides (reverse xs) (reverse ys) x y (length-reverse xs ∙ omega (arith, e) ∙ sym (length-reverse ys))
    ∙ ap (λ (o : Ordering). then o (compare x y)) (by_rows xs ys (omega (arith, e)) (λ k. p (suc k)) (λ k. q (suc k)))
    ∙ sym (column (p 0) (q 0) (cmp (value xs) (value ys)) (cmp x y)))

small_front : (n : ℕ) (ds : List ℕ) → Small ds → Small (take n ds)
small_front zero ds h k = omega arith
small_front (suc n) [] h k = h k
small_front (suc n) (d ∷ ds) h zero = h 0
small_front (suc n) (d ∷ ds) h (suc k) = small_front n ds (λ i. h (suc i)) k

pub rows_order : (a b : List ℕ) (m k n : ℕ) → Digits a m → Digits b k → m ≤ n → k ≤ n → n ≤ 260 →
    order_bytes (reverse (take n a)) (reverse (take n b)) ≡ compare (value a) (value b)
rows_order a b m k n p q h i j =
    by_rows (take n a) (take n b)
    (length-take-le n a (omega (arith, p.long, j)) ∙ sym (length-take-le n b (omega (arith, q.long, j))))
    (small_front n a p.small) (small_front n b q.small)
    ∙ ap₂ compare (below_clear a m p.clear n h) (below_clear b k q.clear n i)
