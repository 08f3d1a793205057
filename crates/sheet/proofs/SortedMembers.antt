-- Sorted members: the same names, and under each name the sorted value, where no name is repeated.
-- Assumes nothing.
use mathlib.Core.Bool.{Bool, false, not, true, ◌&&◌}
use mathlib.Core.List.{List, ◌∷◌}
use Rattle.std.specs.Prelude.{Option, None, Some}
use mathlib.Core.Path.{ap, refl, subst, sym, ◌∙◌, ◌≡◌}
use Prim.Native.Nat.{Ordering, suc, ℕ}
use native.Mathlib.Omega.{arith}
use lib.ListN.{length}
use Rattle.json_text.proofs.Laws.{order_bytes_eq, same_bytes_refl, same_bytes_true}
use Rattle.json_text.specs.Bytes.{Bytes, find, is_one_of, order_bytes, same_bytes}
use Rattle.json_text.specs.Json.{Members, Value, empty, entries, keys, member}
use Rattle.json_text.specs.Limits.{max_number, tidy, tidy_of}
use Rattle.json_text.specs.Sorted.{insert, sorted, sorted_of}
use Rattle.members.specs.Kinds.{only}
use Rattle.members.specs.Verdicts.{is_ok}

pub and_first : (a b : Bool) → (a && b) ≡ true → a ≡ true
and_first true b e = refl
and_first false b e = e

pub and_second : (a b : Bool) → (a && b) ≡ true → b ≡ true
and_second true b e = e
and_second false b e = let z : ◌≡◌ {A = ℕ} 0 1 = cc in absurd (omega arith)

not_true : (b : Bool) → not b ≡ true → b ≡ false
not_true true e = let z : ◌≡◌ {A = ℕ} 0 1 = cc in absurd (omega arith)
not_true false e = refl

-- one or the other, as `is_one_of` joins them
abbrev either : Bool → Bool → Bool
either a r = elim a [ true ↦ true | false ↦ r ]

-- a name that is not repeated
pub record Unrepeated (k : Bytes) (v : Value) (ms : Members) : Type 0 where
  pub name : is_one_of k (keys ms) ≡ false
  pub value : tidy max_number v ≡ true
  pub others : tidy_of max_number ms ≡ true

pub unrepeated : (k : Bytes) (v : Value) (ms : Members) → tidy_of max_number (member k v ms) ≡ true → Unrepeated k v ms
unfolding tidy_of
unrepeated k v ms e =
    let r = and_second (not (is_one_of k (keys ms))) (tidy max_number v && tidy_of max_number ms) e in
    record {
      name = not_true (is_one_of k (keys ms)) (and_first (not (is_one_of k (keys ms))) (tidy max_number v && tidy_of max_number ms) e);
      value = and_first (tidy max_number v) (tidy_of max_number ms) r;
      others = and_second (tidy max_number v) (tidy_of max_number ms) r;
    }

-- ---- one member put in
module _ (k : Bytes) (v : Value) where
  one_of_insert : (j : Bytes) (ms : Members) → is_one_of j (keys (insert k v ms)) ≡ is_one_of j (k ∷ keys ms)
  unfolding is_one_of order_bytes
  one_of_insert j empty = refl
  one_of_insert j (member l w ms) = go (order_bytes k l) refl (one_of_insert j ms)
    where
      swap : (a b r : Bool) → either a (either b r) ≡ either b (either a r)
      swap true true r = refl
      swap true false r = refl
      swap false true r = refl
      swap false false r = refl

      twice : (a r : Bool) → either a r ≡ either a (either a r)
      twice true r = refl
      twice false r = refl

      go : (o : Ordering) → order_bytes k l ≡ o → is_one_of j (keys (insert k v ms)) ≡ is_one_of j (k ∷ keys ms) →
          is_one_of j (keys (insert k v (member l w ms))) ≡ is_one_of j (k ∷ keys (member l w ms))
      go Ordering.lt e below = rw (e, insert)
      go Ordering.eq e below =
          let q : k ≡
          l = order_bytes_eq k l e in rw (e, insert)
          (subst (λ (x : Bytes). is_one_of j (l ∷ keys ms) ≡ is_one_of j (x ∷ l ∷ keys ms)) (sym q)
          (twice (same_bytes j l) (is_one_of j (keys ms))))
      go Ordering.gt e below = rw (e, insert) (ap (either (same_bytes j l)) below ∙ swap (same_bytes j l) (same_bytes j k) (is_one_of j (keys ms)))

  length_insert : (ms : Members) → is_one_of k (keys ms) ≡ false → length (entries (insert k v ms)) ≡ suc (length (entries ms))
  unfolding is_one_of order_bytes
  length_insert empty h = refl
  length_insert (member l w ms) h = go (same_bytes k l) refl (length_insert ms)
    where
      go : (b : Bool) → same_bytes k l ≡ b → (is_one_of k (keys ms) ≡ false → length (entries (insert k v ms)) ≡ suc (length (entries ms))) →
          length (entries (insert k v (member l w ms))) ≡ suc (suc (length (entries ms)))
      go true e below = let z : ◌≡◌ {A = ℕ} 0 1 = cc (rw (e, is_one_of) at h) in absurd (omega arith)
      go false e below = at (order_bytes k l) refl (below (rw (e, is_one_of) at h))
        where
          at : (o : Ordering) → order_bytes k l ≡ o → length (entries (insert k v ms)) ≡ suc (length (entries ms)) →
              length (entries (insert k v (member l w ms))) ≡ suc (suc (length (entries ms)))
          at Ordering.lt q below = rw (q, insert)
          at Ordering.eq q below = let z : ◌≡◌ {A = ℕ} 0 1 = cc (ap (same_bytes k) (order_bytes_eq k l q), same_bytes_refl k, e) in absurd (omega arith)
          at Ordering.gt q below = rw (q, insert) (ap suc below)

  find_insert : (ms : Members) → is_one_of k (keys ms) ≡ false → find k (entries (insert k v ms)) ≡ Some v
  unfolding is_one_of find order_bytes
  find_insert empty h = rw (same_bytes_refl k, find)
  find_insert (member l w ms) h = go (same_bytes k l) refl (find_insert ms)
    where
      go : (b : Bool) → same_bytes k l ≡ b → (is_one_of k (keys ms) ≡ false → find k (entries (insert k v ms)) ≡ Some v) → find k (entries (insert k v (member l w ms))) ≡ Some v
      go true e below = let z : ◌≡◌ {A = ℕ} 0 1 = cc (rw (e, is_one_of) at h) in absurd (omega arith)
      go false e below = at (order_bytes k l) refl (below (rw (e, is_one_of) at h))
        where
          at : (o : Ordering) → order_bytes k l ≡ o → find k (entries (insert k v ms)) ≡ Some v → find k (entries (insert k v (member l w ms))) ≡ Some v
          at Ordering.lt q below = rw (q, insert, same_bytes_refl k, find)
          at Ordering.eq q below = let z : ◌≡◌ {A = ℕ} 0 1 = cc (ap (same_bytes k) (order_bytes_eq k l q), same_bytes_refl k, e) in absurd (omega arith)
          at Ordering.gt q below = rw (q, insert, e, find) below

  find_insert_other : (j : Bytes) (ms : Members) → same_bytes j k ≡ false → find j (entries (insert k v ms)) ≡ find j (entries ms)
  unfolding find order_bytes
  find_insert_other j empty h = rw (h, find)
  find_insert_other j (member l w ms) h = go (order_bytes k l) refl (find_insert_other j ms h)
    where
      go : (o : Ordering) → order_bytes k l ≡ o → find j (entries (insert k v ms)) ≡ find j (entries ms) →
          find j (entries (insert k v (member l w ms))) ≡ find j (entries (member l w ms))
      go Ordering.lt e below = rw (e, insert, h, find)
      go Ordering.eq e below = rw (e, insert)
      go Ordering.gt e below = rw (e, insert) (at (same_bytes j l) refl)
        where
          at : (b : Bool) → same_bytes j l ≡ b → find j (entries (member l w (insert k v ms))) ≡ find j (entries (member l w ms))
          at true q = rw (q, find)
          at false q = rw (q, find) below

  only_insert : (names : List Bytes) (ms : Members) → is_one_of k names ≡ true → is_ok (only names (keys ms)) ≡ true → is_ok (only names (keys (insert k v ms))) ≡ true
  unfolding only order_bytes
  only_insert names empty h g = rw (h, only)
  only_insert names (member l w ms) h g = go (order_bytes k l) refl (only_insert names ms h)
    where
      known : (b : Bool) → is_one_of l names ≡ b → is_ok (only names (keys ms)) ≡ true
      known true e = rw (e, only) at g
      known false e = let z : ◌≡◌ {A = ℕ} 0 1 = cc (rw (e, only) at g) in absurd (omega arith)

      name : (b : Bool) → is_one_of l names ≡ b → is_one_of l names ≡ true
      name true e = e
      name false e = let z : ◌≡◌ {A = ℕ} 0 1 = cc (rw (e, only) at g) in absurd (omega arith)

      go : (o : Ordering) → order_bytes k l ≡ o → (is_ok (only names (keys ms)) ≡ true → is_ok (only names (keys (insert k v ms))) ≡ true) →
          is_ok (only names (keys (insert k v (member l w ms)))) ≡ true
      go Ordering.lt e below = rw (e, insert, h, only) g
      go Ordering.eq e below = rw (e, insert) g
      go Ordering.gt e below = rw (e, insert, name (is_one_of l names) refl, only) (below (known (is_one_of l names) refl))

-- ---- all members
abbrev pub mapped : (Value → Value) → Option Value → Option Value
mapped f None = None
mapped f (Some v) = Some (f v)

one_of_sorted : (j : Bytes) (ms : Members) → is_one_of j (keys (sorted_of ms)) ≡ is_one_of j (keys ms)
unfolding sorted_of is_one_of
one_of_sorted j empty = refl
one_of_sorted j (member k v ms) = one_of_insert k (sorted v) j (sorted_of ms) ∙ ap (either (same_bytes j k)) (one_of_sorted j ms)

pub length_sorted : (ms : Members) → tidy_of max_number ms ≡ true → length (entries (sorted_of ms)) ≡ length (entries ms)
unfolding sorted_of
length_sorted empty h = refl
length_sorted (member k v ms) h = let u = unrepeated k v ms h in length_insert k (sorted v) (sorted_of ms) (one_of_sorted k ms ∙ u.name) ∙ ap suc (length_sorted ms u.others)

pub find_sorted : (j : Bytes) (ms : Members) → tidy_of max_number ms ≡ true → find j (entries (sorted_of ms)) ≡ mapped sorted (find j (entries ms))
unfolding sorted_of find
find_sorted j empty h = refl
find_sorted j (member k v ms) h = go (same_bytes j k) refl (find_sorted j ms u.others)
  where
    u : Unrepeated k v ms
    u = unrepeated k v ms h

    go : (b : Bool) → same_bytes j k ≡ b → find j (entries (sorted_of ms)) ≡ mapped sorted (find j (entries ms)) →
        find j (entries (insert k (sorted v) (sorted_of ms))) ≡ mapped sorted (find j (entries (member k v ms)))
    go true e below =
        let q : j ≡
        k = same_bytes_true j k e in rw (e, find)
        (subst (λ (x : Bytes). find x (entries (insert k (sorted v) (sorted_of ms))) ≡ Some (sorted v)) (sym q)
        (find_insert k (sorted v) (sorted_of ms) (one_of_sorted k ms ∙ u.name)))
    go false e below = rw (e, find) (find_insert_other k (sorted v) j (sorted_of ms) e ∙ below)

pub only_sorted : (names : List Bytes) (ms : Members) → is_ok (only names (keys ms)) ≡ true → is_ok (only names (keys (sorted_of ms))) ≡ true
unfolding sorted_of only
only_sorted names empty h = refl
only_sorted names (member k v ms) h = go (is_one_of k names) refl (only_sorted names ms)
  where
    go : (b : Bool) → is_one_of k names ≡ b → (is_ok (only names (keys ms)) ≡ true → is_ok (only names (keys (sorted_of ms))) ≡ true) →
        is_ok (only names (keys (insert k (sorted v) (sorted_of ms)))) ≡ true
    go true e below = only_insert k (sorted v) names (sorted_of ms) e (below (rw (e, only) at h))
    go false e below = let z : ◌≡◌ {A = ℕ} 0 1 = cc (rw (e, only) at h) in absurd (omega arith)

-- a member that was found is as tidy as the members
pub find_tidy : (j : Bytes) (ms : Members) (v : Value) → tidy_of max_number ms ≡ true → find j (entries ms) ≡ Some v → tidy max_number v ≡ true
unfolding find
find_tidy j empty v h e = let z : ◌≡◌ {A = ℕ} 0 1 = cc in absurd (omega arith)
find_tidy j (member k w ms) v h e = go (same_bytes j k) refl (find_tidy j ms v u.others)
  where
    u : Unrepeated k w ms
    u = unrepeated k w ms h

    go : (b : Bool) → same_bytes j k ≡ b → (find j (entries ms) ≡ Some v → tidy max_number v ≡ true) → tidy max_number v ≡ true
    go true q below = let i : w ≡ v = cc (rw (q, find) at e) in subst (λ (x : Value). tidy max_number x ≡ true) i u.value
    go false q below = below (rw (q, find) at e)
