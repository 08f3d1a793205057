-- An object's names in the table, and its members in ascending order from them.
-- Assumes nothing.
use mathlib.Core.Bool.{Bool, false, true}
use mathlib.Core.List.{List, [], ◌∷◌}
use mathlib.Core.Path.{ap, refl, ◌∙◌, ◌≡◌}
use Prim.Native.Nat.{Ordering, suc, zero, ℕ, ◌+◌, ◌-◌}
use lib.Dec.{ltb}
use Rattle.json_text.proofs.Sorted.{each_valued, each_sorted, entries_sorted, in_order_valued, valued}
use Rattle.json_text.specs.Bytes.{Bytes, order_bytes}
use Rattle.json_text.specs.Json.{Value, entries}
use Rattle.json_text.specs.KeyOrder.{in_order, names_at, names_by, put}
use Rattle.json_text.specs.Sorted.{sorted, sorted_of}
use Rattle.json_text.specs.Spans.{text_at}
use Rattle.json_text.specs.Table.{after_at, members_at, members_by, start_at, value_at}

-- a member's value stands behind its name
entries_by : (f : ℕ → Value) (s : Bytes) (w : List ℕ) (m k e : ℕ) → entries (members_by f s w m k e) ≡ valued (λ j. f (j + 1)) (names_by s w m k e)
unfolding members_by names_by valued
entries_by f s w zero k e = refl
entries_by f s w (suc m) k e = go (ltb k e) refl (entries_by f s w m (after_at w (k + 1)) e)
  where
    go : (b : Bool) → ltb k e ≡ b →
        entries (members_by f s w m (after_at w (k + 1)) e) ≡ valued (λ j. f (j + 1)) (names_by s w m (after_at w (k + 1)) e) →
        entries (members_by f s w (suc m) k e) ≡ valued (λ j. f (j + 1)) (names_by s w (suc m) k e)
    go true q below = rw (q, members_by, names_by) (ap {B = List (Bytes × Value)} (λ l. (text_at s (start_at w k), f (k + 1)) ∷ l) below)
    go false q below = rw (q, members_by, names_by)

-- The members in ascending order.
pub ascending_members : (s : Bytes) (w : List ℕ) (k e : ℕ) → entries (sorted_of (members_at s w k e)) ≡ valued (λ j. sorted (value_at s w (j + 1))) (in_order (names_at s w k e))
unfolding members_at names_at
ascending_members s w k e =
    let ns = names_by s w (e - k) k e in
    entries_sorted (members_at s w k e)
    ∙ ap (λ (l : List (Bytes × Value)). in_order (each_sorted l)) (entries_by (value_at s w) s w (e - k) k e)
    ∙ ap in_order (each_valued (λ j. value_at s w (j + 1)) ns)
    ∙ in_order_valued (λ j. sorted (value_at s w (j + 1))) ns

-- what holds of each name holds of each in their order
module _ (P : Bytes × ℕ → Type 0) where
  unfoldable pub Each : List (Bytes × ℕ) → Type 0
  Each [] = Unit {0}
  Each (x ∷ xs) = P x × Each xs

  each_put : (x : Bytes × ℕ) (ys : List (Bytes × ℕ)) → P x → Each ys → Each (put x ys)
  unfolding put Each
  each_put x [] p h = (p, tt)
  each_put x (y ∷ ys) p h = go (order_bytes x.0 y.0) refl (each_put x ys p h.1)
    where
      go : (o : Ordering) → order_bytes x.0 y.0 ≡ o → Each (put x ys) → Each (put x (y ∷ ys))
      go Ordering.lt q below = rw (q, put) (p, h)
      go Ordering.eq q below = rw (q, put) h
      go Ordering.gt q below = rw (q, put) (h.0, below)

  pub each_in_order : (xs : List (Bytes × ℕ)) → Each xs → Each (in_order xs)
  unfolding in_order Each
  each_in_order [] h = tt
  each_in_order (x ∷ xs) h = each_put x (in_order xs) h.0 (each_in_order xs h.1)
