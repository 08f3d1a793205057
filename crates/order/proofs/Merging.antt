-- Nodes by their keys, over any keys: what is in order, and how two lists in order become one.
-- Assumes nothing.
use mathlib.Core.Bool.{Bool, false, false≢true, true}
use mathlib.Core.List.{List, [], ◌++◌, ◌∷◌}
use mathlib.Core.Path.{ap, refl, sym, ◌∙◌, ◌≡◌}
use Prim.Native.Nat.{Ordering, suc, zero, ℕ, ◌<◌}
use native.Mathlib.Omega.{arith}
use lib.Dec.{ltb}
use lib.ListN.{drop, drop_of_length-le, get_or, length}
use borrow.Author.Tests.{ltb-false, ltb-true}
use Rattle.order.specs.ByText.{by_key, insert, is_above, is_after, is_more}
use Rattle.json_text.proofs.Sorted.{Less, OrderView, is_eq', is_gt, is_lt, less_order, less_trans, more_order, order_view, same_order}
use Rattle.json_text.specs.Bytes.{Bytes, order_bytes}

-- ---- a key that is not above another
pub data AtMost (a b : Bytes) : Type 0 where
  below : Less a b → AtMost a b
  alike : a ≡ b → AtMost a b

-- of two keys the first goes before, or behind
pub data Side (a b : Bytes) : Type 0 where
  before : AtMost a b → Side a b
  behind : Less b a → Side a b

pub side : (a b : Bytes) → Side a b
side a b = go (order_bytes a b) (order_view a b)
  where
    go : (o : Ordering) → OrderView a b o → Side a b
    go o (is_lt h) = before (below h)
    go o (is_eq' h) = before (alike h)
    go o (is_gt h) = behind h

less_most : {a b c : Bytes} → Less a b → AtMost b c → Less a c
less_most h (below k) = less_trans h k
less_most h (alike e) = rw e at h

most_trans : {a b c : Bytes} → AtMost a b → AtMost b c → AtMost a c
most_trans (below h) k = below (less_most h k)
most_trans (alike e) k = rw e k

-- ---- lists in order
pub data From (key : ℕ → Bytes) (k : Bytes) : List ℕ → Type 0 where
  from_none : From key k []
  from_more : {m : ℕ} {ms : List ℕ} → AtMost k (key m) → From key k ms → From key k (m ∷ ms)

pub data Rising (key : ℕ → Bytes) : List ℕ → Type 0 where
  rising_none : Rising key []
  rising_more : {n : ℕ} {ns : List ℕ} → From key (key n) ns → Rising key ns → Rising key (n ∷ ns)

module _ (key : ℕ → Bytes) where
  insert_here : {n m : ℕ} (ms : List ℕ) → AtMost (key n) (key m) → insert key n (m ∷ ms) ≡ n ∷ m ∷ ms
  unfolding insert
  insert_here ms (below h) = rw (less_order h, insert)
  insert_here {n} {m} ms (alike e) = let q : order_bytes (key n) (key m) ≡ Ordering.eq = rw e (same_order (key m)) in rw (q, insert)

  insert_past : {n m : ℕ} (ms : List ℕ) → Less (key m) (key n) → insert key n (m ∷ ms) ≡ m ∷ insert key n ms
  unfolding insert
  insert_past ms h = rw (more_order h, insert)

  from_trans : {a b : Bytes} {ms : List ℕ} → AtMost a b → From key b ms → From key a ms
  from_trans h from_none = from_none
  from_trans h (from_more l f) = from_more (most_trans h l) (from_trans h f)

  from_append : {k : Bytes} {xs ys : List ℕ} → From key k xs → From key k ys → From key k (xs ++ ys)
  from_append from_none g = g
  from_append (from_more l f) g = from_more l (from_append f g)

  from_insert : {k : Bytes} {n : ℕ} {ms : List ℕ} → AtMost k (key n) → From key k ms → From key k (insert key n ms)
  unfolding insert
  from_insert h from_none = from_more h from_none
  from_insert {k} {n} h (from_more {m} {ms} l f) = go (side (key n) (key m)) (from_insert h f)
    where
      go : Side (key n) (key m) → From key k (insert key n ms) → From key k (insert key n (m ∷ ms))
      go (before b) below' = rw (insert_here ms b) (from_more h (from_more l f))
      go (behind b) below' = rw (insert_past ms b) (from_more l below')

  from_by_key : {k : Bytes} {ms : List ℕ} → From key k ms → From key k (by_key key ms)
  unfolding by_key
  from_by_key from_none = from_none
  from_by_key (from_more l f) = from_insert l (from_by_key f)

  insert_rising : (n : ℕ) {ms : List ℕ} → Rising key ms → Rising key (insert key n ms)
  unfolding insert
  insert_rising n rising_none = rising_more from_none rising_none
  insert_rising n (rising_more {n = m} {ns = ms} f r) = go (side (key n) (key m)) (insert_rising n r)
    where
      go : Side (key n) (key m) → Rising key (insert key n ms) → Rising key (insert key n (m ∷ ms))
      go (before b) more = rw (insert_here ms b) (rising_more (from_more b (from_trans b f)) (rising_more f r))
      go (behind b) more = rw (insert_past ms b) (rising_more (from_insert (below b) f) more)

  -- what was sorted is in order, and what is in order stays
  pub by_key_rising : (ms : List ℕ) → Rising key (by_key key ms)
  unfolding by_key
  by_key_rising [] = rising_none
  by_key_rising (m ∷ ms) = insert_rising m (by_key_rising ms)

  insert_first : (n : ℕ) {ms : List ℕ} → From key (key n) ms → insert key n ms ≡ n ∷ ms
  unfolding insert
  insert_first n from_none = refl
  insert_first n (from_more {ms = ms} l f) = insert_here ms l

  pub sorted_rises : (l : List ℕ) → by_key key l ≡ l → Rising key l
  sorted_rises l e = rw e at (by_key_rising l)

  pub rising_by_key : {ms : List ℕ} → Rising key ms → by_key key ms ≡ ms
  unfolding by_key
  rising_by_key rising_none = refl
  rising_by_key (rising_more {n} {ns} f r) = ap (insert key n) (rising_by_key r) ∙ insert_first n f

  pub short_sorted : (l : List ℕ) → length l < 2 → l ≡ by_key key l
  unfolding by_key insert
  short_sorted [] h = refl
  short_sorted (x ∷ []) h = refl
  short_sorted (x ∷ y ∷ l) h = absurd (omega arith)

  -- ---- a list sorted in parts
  swap : {n m : ℕ} (l : List ℕ) → Less (key m) (key n) → insert key m (insert key n l) ≡ insert key n (insert key m l)
  unfolding insert
  swap [] h = rw (insert_past [] h) (insert_here [] (below h))
  swap {n} {m} (x ∷ xs) h = go (side (key n) (key x)) (side (key m) (key x)) (swap xs h)
    where
      go : Side (key n) (key x) → Side (key m) (key x) → insert key m (insert key n xs) ≡ insert key n (insert key m xs) →
          insert key m (insert key n (x ∷ xs)) ≡ insert key n (insert key m (x ∷ xs))
      go (before a) b more = rw (insert_here xs a, insert_here (x ∷ xs) (below h), insert_here xs (below (less_most h a)), insert_past (x ∷ xs) h, insert_here xs a)
      go (behind a) (before b) more = rw (insert_past xs a, insert_here xs b, insert_here (insert key n xs) b, insert_past (x ∷ xs) h, insert_past xs a)
      go (behind a) (behind b) more = rw (insert_past xs a, insert_past xs b, insert_past (insert key n xs) b, insert_past (insert key m xs) a) (ap (λ (l : List ℕ). x ∷ l) more)

  by_key_insert : (n : ℕ) (xs ys : List ℕ) → by_key key (insert key n xs ++ ys) ≡ insert key n (by_key key (xs ++ ys))
  unfolding by_key insert
  by_key_insert n [] ys = refl
  by_key_insert n (x ∷ xs) ys = go (side (key n) (key x)) (by_key_insert n xs ys)
    where
      go : Side (key n) (key x) → by_key key (insert key n xs ++ ys) ≡ insert key n (by_key key (xs ++ ys)) →
          by_key key (insert key n (x ∷ xs) ++ ys) ≡ insert key n (by_key key (x ∷ xs ++ ys))
      go (before b) more = rw (insert_here xs b)
      go (behind b) more = rw (insert_past xs b) (ap (insert key x) more ∙ swap (by_key key (xs ++ ys)) b)

  by_key_left : (xs ys : List ℕ) → by_key key (by_key key xs ++ ys) ≡ by_key key (xs ++ ys)
  unfolding by_key
  by_key_left [] ys = refl
  by_key_left (x ∷ xs) ys = by_key_insert x (by_key key xs) ys ∙ ap (insert key x) (by_key_left xs ys)

  by_key_right : (xs ys : List ℕ) → by_key key (xs ++ by_key key ys) ≡ by_key key (xs ++ ys)
  unfolding by_key
  by_key_right [] ys = rising_by_key (by_key_rising ys)
  by_key_right (x ∷ xs) ys = ap (insert key x) (by_key_right xs ys)

  pub by_key_parts : (xs ys : List ℕ) → by_key key (by_key key xs ++ by_key key ys) ≡ by_key key (xs ++ ys)
  by_key_parts xs ys = by_key_left xs (by_key key ys) ∙ by_key_right xs ys

  -- ---- the least of two lists in order
  least_left : {x : ℕ} {l : List ℕ} → From key (key x) l → by_key key (x ∷ l) ≡ x ∷ by_key key l
  unfolding by_key
  least_left {x} f = insert_first x (from_by_key f)

  least_right : {a : Bytes} {y : ℕ} {l ys : List ℕ} → Less (key y) a → From key a l → From key (key y) ys → by_key key (l ++ y ∷ ys) ≡ y ∷ by_key key (l ++ ys)
  unfolding by_key
  least_right {ys = ys} h from_none f = least_left f
  least_right {ys = ys} h (from_more {m} {ms} l r) f = ap (insert key m) (least_right h r f) ∙ insert_past (by_key key (ms ++ ys)) (less_most h l)

  -- ---- what a comparison tells
  is_after_lem : (n m : ℕ) → is_after key n m ≡ true → Less (key m) (key n)
  is_after_lem n m = go (order_bytes (key n) (key m)) (order_view (key n) (key m))
    where
      go : (o : Ordering) → OrderView (key n) (key m) o → is_more o ≡ true → Less (key m) (key n)
      go o (is_lt h) e = absurd (false≢true e)
      go o (is_eq' h) e = absurd (false≢true e)
      go o (is_gt h) e = h

  pub not_after : (n m : ℕ) → is_after key n m ≡ false → AtMost (key n) (key m)
  not_after n m = go (order_bytes (key n) (key m)) (order_view (key n) (key m))
    where
      go : (o : Ordering) → OrderView (key n) (key m) o → is_more o ≡ false → AtMost (key n) (key m)
      go o (is_lt h) e = below h
      go o (is_eq' h) e = alike h
      go o (is_gt h) e = absurd (false≢true (sym e))

  -- the next of two lists in order
  pub first_right : {x y : ℕ} {xs ys : List ℕ} → Rising key (x ∷ xs) → Rising key (y ∷ ys) → is_after key x y ≡ true →
      by_key key ((x ∷ xs) ++ y ∷ ys) ≡ y ∷ by_key key ((x ∷ xs) ++ ys)
  first_right {x} {y} (rising_more f r) (rising_more g q) e = least_right (is_after_lem x y e) (from_more (alike refl) f) g

  pub first_left : {x : ℕ} {xs ys : List ℕ} → Rising key (x ∷ xs) → Rising key ys → is_above key x ys ≡ false → by_key key ((x ∷ xs) ++ ys) ≡ x ∷ by_key key (xs ++ ys)
  unfolding is_above
  first_left (rising_more f r) rising_none e = least_left (from_append f from_none)
  first_left {x} (rising_more f r) (rising_more {n = y} g q) e = let h = not_after x y e in least_left (from_append f (from_more h (from_trans h g)))

  pub above_some : (x : ℕ) (l : List ℕ) (j : ℕ) → is_above key x (drop j l) ≡ true → j < length l
  unfolding is_above
  above_some x l j e = go (ltb j (length l)) refl
    where
      go : (b : Bool) → ltb j (length l) ≡ b → j < length l
      go true q = ltb-true j (length l) q
      go false q = absurd (false≢true (rw (drop_of_length-le l {i = j} (ltb-false j (length l) q), is_above) at e))

  -- ---- two lists in order, one behind the other
  lead : {x y : ℕ} {ys : List ℕ} → AtMost (key x) (key y) → Rising key (y ∷ ys) → Rising key (x ∷ y ∷ ys)
  lead h (rising_more g r) = rising_more (from_more h (from_trans h g)) (rising_more g r)

  -- where the last of the first is not after the first of the other
  pub rising_join :
      (xs : List ℕ) (n y : ℕ) (ys : List ℕ) → length xs ≡ suc n → AtMost (key (get_or xs n 0)) (key y) → Rising key xs → Rising key (y ∷ ys) →
      Rising key (xs ++ y ∷ ys)
  rising_join [] n y ys l h r q = absurd (omega arith)
  rising_join (x ∷ []) zero y ys l h r q = lead h q
  rising_join (x ∷ []) (suc n) y ys l h r q = absurd (omega arith)
  rising_join (x ∷ x' ∷ xs) zero y ys l h r q = absurd (omega arith)
  rising_join (x ∷ x' ∷ xs) (suc n) y ys l h (rising_more (from_more a f) r) q = lead a (rising_join (x' ∷ xs) n y ys (omega arith) h r q)
