-- The table: three words to a node, in the order of the text, and the tree that a table holds at a node.
-- Assumes nothing.
use Rattle.std.specs.Prelude.{false, true, List, [], ◌++◌, ◌∷◌, suc, zero, ℕ, ◌%◌, ◌*◌, ◌+◌, ◌-◌, ◌/◌, eqb, ltb, get_or}
use Rattle.json_text.specs.Bytes.{Bytes, choose}
use Rattle.json_text.specs.Json.{Members, Value, Values, array, cons, empty, member, nil, null, object}
use Rattle.json_text.specs.Limits.{max_depth}
use Rattle.json_text.specs.Spans.{Fields, Node, Nodes, Plain, arr, field, is_false, is_null, is_number, is_text, is_true, leaf, no_field, no_node, node, obj, plain, size, size_in, size_of, text_at}

abbrev pub code : Plain → ℕ
code is_null = 0
code is_true = 1
code is_false = 2
code is_number = 3
code is_text = 4

-- a node's row: where it starts and what it is, where it ends, and the node after all that it holds
unfoldable mutual
  unfolding size

  pub rows : Node → ℕ → List ℕ
  rows (leaf k a e) n = (8 * a + code k) ∷ e ∷ (n + 1) ∷ []
  rows (arr a e ts) n = (8 * a + 5) ∷ e ∷ (n + 1 + size_in ts) ∷ rows_in ts (n + 1)
  rows (obj a e fs) n = (8 * a + 6) ∷ e ∷ (n + 1 + size_of fs) ∷ rows_of fs (n + 1)

  pub rows_in : Nodes → ℕ → List ℕ
  rows_in no_node n = []
  rows_in (node t ts) n = rows t n ++ rows_in ts (n + size t)

  -- a member's name, a text, and then its value
  pub rows_of : Fields → ℕ → List ℕ
  rows_of no_field n = []
  rows_of (field a e t fs) n = (8 * a + 4) ∷ e ∷ (n + 1) ∷ (rows t (n + 1) ++ rows_of fs (n + 1 + size t))

-- a row read back
abbrev pub kind_at : List ℕ → ℕ → ℕ
kind_at w n = get_or w (3 * n) 0 % 8

abbrev pub start_at : List ℕ → ℕ → ℕ
start_at w n = get_or w (3 * n) 0 / 8

abbrev pub end_at : List ℕ → ℕ → ℕ
end_at w n = get_or w (3 * n + 1) 0

abbrev pub after_at : List ℕ → ℕ → ℕ
after_at w n = get_or w (3 * n + 2) 0

pub data Kind : Type 0 where
  plain_kind : Plain → Kind
  arr_kind obj_kind : Kind

abbrev pub kind : ℕ → Kind
kind c =
    choose
    ((eqb c 0, plain_kind is_null) ∷ (eqb c 1, plain_kind is_true) ∷ (eqb c 2, plain_kind is_false) ∷ (eqb c 3, plain_kind is_number) ∷
    (eqb c 4, plain_kind is_text) ∷ (eqb c 5, arr_kind) ∷ []) obj_kind

-- the values of the nodes from k up to, not including, e, each as f reads it; the first number bounds how many there are
unfoldable pub values_by : (ℕ → Value) → List ℕ → ℕ → ℕ → ℕ → Values
values_by f w zero k e = nil
values_by f w (suc m) k e = elim (ltb k e) [ true ↦ cons (f k) (values_by f w m (after_at w k) e) | false ↦ nil ]

unfoldable pub members_by : (ℕ → Value) → Bytes → List ℕ → ℕ → ℕ → ℕ → Members
unfolding text_at
members_by f s w zero k e = empty
members_by f s w (suc m) k e = elim (ltb k e) [ true ↦ member (text_at s (start_at w k)) (f (k + 1)) (members_by f s w m (after_at w (k + 1)) e) | false ↦ empty ]

unfoldable pub shaped : (ℕ → Value) → Bytes → List ℕ → ℕ → Kind → Value
unfolding values_by members_by plain
shaped f s w n (plain_kind k) = plain s k (start_at w n) (end_at w n)
shaped f s w n arr_kind = array (values_by f w (after_at w n - (n + 1)) (n + 1) (after_at w n))
shaped f s w n obj_kind = object (members_by f s w (after_at w n - (n + 1)) (n + 1) (after_at w n))

-- the value at a node, in which so many brackets may be open at once
unfoldable pub value_by : ℕ → Bytes → List ℕ → ℕ → Value
unfolding shaped
value_by zero s w n = shaped (λ k. null) s w n (kind (kind_at w n))
value_by (suc left) s w n = shaped (λ k. value_by left s w k) s w n (kind (kind_at w n))

-- what a sheet's table holds at a node, from a node up to another, and as members
unfoldable pub value_at : Bytes → List ℕ → ℕ → Value
unfolding value_by
value_at s w n = value_by max_depth s w n

unfoldable pub values_at : Bytes → List ℕ → ℕ → ℕ → Values
unfolding value_at values_by
values_at s w k e = values_by (value_at s w) w (e - k) k e

unfoldable pub members_at : Bytes → List ℕ → ℕ → ℕ → Members
unfolding value_at members_by
members_at s w k e = members_by (value_at s w) s w (e - k) k e
