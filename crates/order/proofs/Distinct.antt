-- Nodes that are each there once: ascending ones are, and sorting keeps them so.
-- Assumes nothing.
use mathlib.Core.List.Memᴰ
use mathlib.Core.List.{List, Memᴰ, [], ◌∷◌}
use mathlib.Core.Logic.{⊎_elim}
use mathlib.Core.Path.{refl, sym, ◌≡◌}
use Prim.Native.Nat.{Ordering, ℕ}
use native.Mathlib.Omega.{arith}
use Rattle.json_text.specs.Bytes.{Bytes, order_bytes}
use Rattle.order.proofs.ByText.{by_key_within}
use Rattle.order.proofs.Names.{Ascends}
use Rattle.order.specs.ByText.{by_key, insert}

pub data Distinct : List ℕ → Type 0 where
  none_twice : Distinct []
  one_more : {n : ℕ} {ns : List ℕ} → (Memᴰ n ns → ⊥) → Distinct ns → Distinct (n ∷ ns)

-- sorting keeps it so
module _ (key : ℕ → Bytes) where
  absent_insert : (x n : ℕ) (l : List ℕ) → (x ≡ n → ⊥) → (Memᴰ x l → ⊥) → Memᴰ x (insert key n l) → ⊥
  unfolding insert
  absent_insert x n [] f g i = f (Memᴰ.eq_of_singleton i)
  absent_insert x n (m ∷ ms) f g i = go (order_bytes (key n) (key m)) refl (absent_insert x n ms f (λ j. g (Memᴰ.tail j)))
    where
      go : (o : Ordering) → order_bytes (key n) (key m) ≡ o → (Memᴰ x (insert key n ms) → ⊥) → ⊥
      go Ordering.lt e below = ⊎_elim f g (Memᴰ.cases_cons (rw (e, insert) at i))
      go Ordering.eq e below = ⊎_elim f g (Memᴰ.cases_cons (rw (e, insert) at i))
      go Ordering.gt e below = ⊎_elim (λ q. g (Memᴰ.head q)) below (Memᴰ.cases_cons (rw (e, insert) at i))

  distinct_insert : (n : ℕ) (l : List ℕ) → (Memᴰ n l → ⊥) → Distinct l → Distinct (insert key n l)
  unfolding insert
  distinct_insert n [] f d = one_more f d
  distinct_insert n (m ∷ ms) f (one_more g d) = go (order_bytes (key n) (key m)) refl (distinct_insert n ms (λ i. f (Memᴰ.tail i)) d)
    where
      go : (o : Ordering) → order_bytes (key n) (key m) ≡ o → Distinct (insert key n ms) → Distinct (insert key n (m ∷ ms))
      go Ordering.lt e below = rw (e, insert) (one_more f (one_more g d))
      go Ordering.eq e below = rw (e, insert) (one_more f (one_more g d))
      go Ordering.gt e below = rw (e, insert) (one_more (absent_insert m n ms (λ q. f (Memᴰ.head (sym q))) g) below)

  pub distinct_sorted : (l : List ℕ) → Ascends l → Distinct (by_key key l)
  unfolding by_key Ascends
  distinct_sorted [] a = none_twice
  distinct_sorted (n ∷ ns) a = distinct_insert n (by_key key ns) (λ i. let z = a.0 n (by_key_within key ns i) in omega arith) (distinct_sorted ns a.1)
