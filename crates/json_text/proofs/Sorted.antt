-- Lists by ascending keys, and `sorted` as such a list.
-- Assumes nothing.
use mathlib.Core.List.{List, [], ◌∷◌}
use mathlib.Core.Path.{ap, refl, sym, ◌∙◌, ◌≡◌}
use Prim.Native.Nat.{Ordering, compare, ℕ, ◌<◌}
use native.Mathlib.Omega.{arith}
use lib.Dec.{compare_is_eq, is_le}
use Rattle.json_text.proofs.Cursor.{compare_gt, compare_lt, compare_same}
use Rattle.json_text.specs.Bytes.{Bytes, order_bytes}
use Rattle.json_text.specs.Json.{Members, Value, empty, entries, member}
use Rattle.json_text.specs.KeyOrder.{in_order, put}
use Rattle.json_text.specs.Sorted.{insert, sorted, sorted_of}
use borrow.Author.Tests.{eqb-false, leb-false, leb-true}

-- ---- the order of byte strings
pub data Less : Bytes → Bytes → Type 0 where
  shorter : {d : ℕ} {t : Bytes} → Less [] (d ∷ t)
  first : {c d : ℕ} {s t : Bytes} → c < d → Less (c ∷ s) (d ∷ t)
  later : {c d : ℕ} {s t : Bytes} → c ≡ d → Less s t → Less (c ∷ s) (d ∷ t)

pub less_trans : {r s t : Bytes} → Less r s → Less s t → Less r t
less_trans shorter (first h) = shorter
less_trans shorter (later e h) = shorter
less_trans (first {c} h) (first {d = f} k) = let z : c < f = omega arith in first z
less_trans (first {c} h) (later {d = f} e k) = let z : c < f = omega arith in first z
less_trans (later {c} e h) (first {d = f} k) = let z : c < f = omega arith in first z
less_trans (later e h) (later f k) = later (e ∙ f) (less_trans h k)

pub less_order : {s t : Bytes} → Less s t → order_bytes s t ≡ Ordering.lt
unfolding order_bytes
less_order shorter = refl
less_order (first {c} {d} h) = rw (compare_lt c d h, order_bytes)
less_order (later {c} {d} e h) = rw (compare_same c d e, order_bytes) (less_order h)

pub more_order : {s t : Bytes} → Less t s → order_bytes s t ≡ Ordering.gt
unfolding order_bytes
more_order shorter = refl
more_order (first {c} {d} h) = rw (compare_gt d c h, order_bytes)
more_order (later {c} {d} e h) = rw (compare_same d c (sym e), order_bytes) (more_order h)

pub same_order : (s : Bytes) → order_bytes s s ≡ Ordering.eq
unfolding order_bytes
same_order [] = refl
same_order (c ∷ s) = rw (compare_same c c refl, order_bytes) (same_order s)

pub data OrderView (s t : Bytes) : Ordering → Type 0 where
  is_lt : Less s t → OrderView s t Ordering.lt
  is_eq' : s ≡ t → OrderView s t Ordering.eq
  is_gt : Less t s → OrderView s t Ordering.gt

pub data NatView (m n : ℕ) : Ordering → Type 0 where
  nat_lt : m < n → NatView m n Ordering.lt
  nat_eq : m ≡ n → NatView m n Ordering.eq
  nat_gt : n < m → NatView m n Ordering.gt

nat_view : (m n : ℕ) → NatView m n (compare m n)
nat_view m n = go (compare m n) refl
  where
    go : (o : Ordering) → compare m n ≡ o → NatView m n o
    go Ordering.lt e = nat_lt (let p = leb-true m n (ap is_le e) in let q = eqb-false m n (ap compare_is_eq e) in omega arith)
    go Ordering.eq e = nat_eq (borrow.Author.Tests.eqb-true m n (ap compare_is_eq e))
    go Ordering.gt e = nat_gt (leb-false m n (ap is_le e))

pub order_view : (s t : Bytes) → OrderView s t (order_bytes s t)
unfolding order_bytes
order_view [] [] = is_eq' refl
order_view [] (d ∷ t) = is_lt shorter
order_view (c ∷ s) [] = is_gt shorter
order_view (c ∷ s) (d ∷ t) = go (compare c d) (nat_view c d) refl (order_view s t)
  where
    on : c ≡ d → (o : Ordering) → OrderView s t o → OrderView (c ∷ s) (d ∷ t) o
    on q o (is_lt h) = is_lt (later q h)
    on q o (is_eq' h) = is_eq' (cc)
    on q o (is_gt h) = is_gt (later (sym q) h)

    go : (o : Ordering) → NatView c d o → compare c d ≡ o → OrderView s t (order_bytes s t) → OrderView (c ∷ s) (d ∷ t) (order_bytes (c ∷ s) (d ∷ t))
    go o (nat_lt h) e below = rw (e, order_bytes) (is_lt (first h))
    go o (nat_eq h) e below = rw (e, order_bytes) (on h (order_bytes s t) below)
    go o (nat_gt h) e below = rw (e, order_bytes) (is_gt (first h))

-- ---- ascending lists
pub data Above (A : Type 0) (k : Bytes) : List (Bytes × A) → Type 0 where
  above_none : Above A k []
  above_more : {y : Bytes × A} {ys : List (Bytes × A)} → Less k y.0 → Above A k ys → Above A k (y ∷ ys)

pub data Ascending (A : Type 0) : List (Bytes × A) → Type 0 where
  asc_none : Ascending A []
  asc_more : {x : Bytes × A} {xs : List (Bytes × A)} → Above A x.0 xs → Ascending A xs → Ascending A (x ∷ xs)

module _ {A : Type 0} where
  above_trans : {j k : Bytes} {ys : List (Bytes × A)} → Less j k → Above A k ys → Above A j ys
  above_trans h above_none = above_none
  above_trans h (above_more l a) = above_more (less_trans h l) (above_trans h a)

  above_put : (k : Bytes) (x : Bytes × A) {ys : List (Bytes × A)} → Less k x.0 → Above A k ys → Above A k (put x ys)
  unfolding put
  above_put k x h above_none = above_more h above_none
  above_put k x h (above_more {y} {ys} l a) = go (order_bytes x.0 y.0) refl (above_put k x h a)
    where
      go : (o : Ordering) → order_bytes x.0 y.0 ≡ o → Above A k (put x ys) → Above A k (put x (y ∷ ys))
      go Ordering.lt e below = rw (e, put) (above_more h (above_more l a))
      go Ordering.eq e below = rw (e, put) (above_more l a)
      go Ordering.gt e below = rw (e, put) (above_more l below)

  put_ascending : (x : Bytes × A) {ys : List (Bytes × A)} → Ascending A ys → Ascending A (put x ys)
  unfolding put
  put_ascending x asc_none = asc_more above_none asc_none
  put_ascending x (asc_more {x = y} {xs = ys} a r) = go (order_bytes x.0 y.0) (order_view x.0 y.0) refl (put_ascending x r)
    where
      go : (o : Ordering) → OrderView x.0 y.0 o → order_bytes x.0 y.0 ≡ o → Ascending A (put x ys) → Ascending A (put x (y ∷ ys))
      go o (is_lt h) e below = rw (e, put) (asc_more (above_more h (above_trans h a)) (asc_more a r))
      go o (is_eq' h) e below = rw (e, put) (asc_more a r)
      go o (is_gt h) e below = rw (e, put) (asc_more (above_put y.0 x h a) below)

  pub in_order_ascending : (xs : List (Bytes × A)) → Ascending A (in_order xs)
  unfolding in_order
  in_order_ascending [] = asc_none
  in_order_ascending (x ∷ xs) = put_ascending x (in_order_ascending xs)

-- `sorted` is the same list, each value sorted
unfoldable pub each_sorted : List (Bytes × Value) → List (Bytes × Value)
unfolding sorted
each_sorted [] = []
each_sorted (x ∷ xs) = (x.0, sorted x.1) ∷ each_sorted xs

entries_insert : (k : Bytes) (v : Value) (ms : Members) → entries (insert k v ms) ≡ put (k, v) (entries ms)
unfolding put order_bytes
entries_insert k v empty = refl
entries_insert k v (member l w ms) = go (order_bytes k l) refl (entries_insert k v ms)
  where
    go : (o : Ordering) → order_bytes k l ≡ o → entries (insert k v ms) ≡ put (k, v) (entries ms) → entries (insert k v (member l w ms)) ≡ put (k, v) (entries (member l w ms))
    go Ordering.lt e below = rw (e, insert, put)
    go Ordering.eq e below = rw (e, insert, put)
    go Ordering.gt e below = rw (e, insert, put) (ap {B = List (Bytes × Value)} (λ m. (l, w) ∷ m) below)

pub entries_sorted : (ms : Members) → entries (sorted_of ms) ≡ in_order (each_sorted (entries ms))
unfolding sorted_of in_order each_sorted
entries_sorted empty = refl
entries_sorted (member k v ms) = entries_insert k (sorted v) (sorted_of ms) ∙ ap (put (k, sorted v)) (entries_sorted ms)

-- ---- values beside the keys
unfoldable pub valued : {A B : Type 0} → (A → B) → List (Bytes × A) → List (Bytes × B)
valued f [] = []
valued f (x ∷ xs) = (x.0, f x.1) ∷ valued f xs

put_valued : {A B : Type 0} (f : A → B) (x : Bytes × A) (ys : List (Bytes × A)) → put (x.0, f x.1) (valued f ys) ≡ valued f (put x ys)
unfolding put valued
put_valued f x [] = refl
put_valued {A} {B} f x (y ∷ ys) = go (order_bytes x.0 y.0) refl (put_valued f x ys)
  where
    go : (o : Ordering) → order_bytes x.0 y.0 ≡ o → put (x.0, f x.1) (valued f ys) ≡ valued f (put x ys) →
        put (x.0, f x.1) (valued f (y ∷ ys)) ≡ valued f (put x (y ∷ ys))
    go Ordering.lt e below = rw (e, put)
    go Ordering.eq e below = rw (e, put)
    go Ordering.gt e below = rw (e, put) (ap {B = List (Bytes × B)} (λ l. (y.0, f y.1) ∷ l) below)

pub in_order_valued : {A B : Type 0} (f : A → B) (xs : List (Bytes × A)) → in_order (valued f xs) ≡ valued f (in_order xs)
unfolding in_order valued
in_order_valued f [] = refl
in_order_valued f (x ∷ xs) = ap (put (x.0, f x.1)) (in_order_valued f xs) ∙ put_valued f x (in_order xs)

pub each_valued : {A : Type 0} (f : A → Value) (xs : List (Bytes × A)) → each_sorted (valued f xs) ≡ valued (λ a. sorted (f a)) xs
unfolding each_sorted valued
each_valued f [] = refl
each_valued f (x ∷ xs) = ap {B = List (Bytes × Value)} (λ l. (x.0, sorted (f x.1)) ∷ l) (each_valued f xs)
