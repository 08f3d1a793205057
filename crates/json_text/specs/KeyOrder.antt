-- An object's names by ascending bytes.
-- Assumes nothing.
use Rattle.std.specs.Prelude.{false, true, List, [], ◌∷◌, suc, zero, ℕ, ◌+◌, ◌-◌, ltb}
use Prim.Native.Nat.{Ordering}
use Rattle.json_text.specs.Bytes.{Bytes, order_bytes}
use Rattle.json_text.specs.Spans.{text_at}
use Rattle.json_text.specs.Table.{after_at, start_at}

-- by ascending keys; of two that are the same, the later
unfoldable pub put : {A : Type 0} → Bytes × A → List (Bytes × A) → List (Bytes × A)
unfolding order_bytes
put x [] = x ∷ []
put x (y ∷ ys) = elim (order_bytes x.0 y.0) [ Ordering.lt ↦ x ∷ y ∷ ys | Ordering.eq ↦ y ∷ ys | Ordering.gt ↦ y ∷ put x ys ]

unfoldable pub in_order : {A : Type 0} → List (Bytes × A) → List (Bytes × A)
unfolding put
in_order [] = []
in_order (x ∷ xs) = put x (in_order xs)

-- each name with its node, from k up to e
unfoldable pub names_by : Bytes → List ℕ → ℕ → ℕ → ℕ → List (Bytes × ℕ)
unfolding text_at
names_by s w zero k e = []
names_by s w (suc m) k e = elim (ltb k e) [ true ↦ (text_at s (start_at w k), k) ∷ names_by s w m (after_at w (k + 1)) e | false ↦ [] ]

unfoldable pub names_at : Bytes → List ℕ → ℕ → ℕ → List (Bytes × ℕ)
unfolding names_by
names_at s w k e = names_by s w (e - k) k e

-- the nodes alone
unfoldable pub nodes_of : List (Bytes × ℕ) → List ℕ
nodes_of [] = []
nodes_of (x ∷ xs) = x.1 ∷ nodes_of xs
