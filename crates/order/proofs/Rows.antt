-- The rows of a tree: each is a member's name or a node of the tree, and one of kind 6 is an object's.
-- Assumes nothing.
use mathlib.Core.Bool.{Bool, and-eq-true_iff, not, true, ◌&&◌}
use mathlib.Core.List.{List}
use mathlib.Core.Path.{ap, subst, sym, ◌∙◌, ◌≡◌}
use Prim.Native.Nat.{ℕ, ◌+◌, ◌-◌, ◌<◌, ◌≤◌}
use native.Mathlib.Decide.{dec_lt}
use native.Mathlib.Omega.{arith}
use Rattle.json_text.proofs.Decoded.{arr_parts, fields_parts, node_after, nodes_parts, obj_parts, size_pos}
use Rattle.json_text.proofs.Walk.{View, after_node, is_array, is_object, is_plain, value_is, view}
use Rattle.json_text.specs.Bytes.{Bytes, is_one_of}
use Rattle.json_text.specs.Held.{FieldsAt, HasMembers, HasNode, IsNode, NodeAt, NodesAt}
use Rattle.json_text.specs.Json.{keys, object}
use Rattle.json_text.specs.Limits.{max_depth, max_nodes, max_number, tidy, tidy_in, tidy_of}
use Rattle.json_text.specs.Spans.{Fields, Node, Nodes, Plain, arr, erase, erase_in, erase_of, field, is_false, is_null, is_number, is_text, is_true, leaf, no_field, no_node, node, obj, size, text_at}
use Rattle.json_text.specs.Table.{after_at, code, kind_at, members_at, value_at}

-- row i of a tree that ends before node e and is tidy or not: a member's name, or a node, tidy if the tree is
data RowOf (s : Bytes) (w : List ℕ) (e : ℕ) (is_tidy : Bool) (i : ℕ) : Type 0 where
  of_name : kind_at w i ≡ 4 → after_at w i ≡ i + 1 → i + 1 < e → RowOf s w e is_tidy i
  of_node : HasNode s w i → after_at w i ≤ e → (is_tidy ≡ true → tidy max_number (value_at s w i) ≡ true) → RowOf s w e is_tidy i

-- by the tree: the row is the first one of a node, or stands in one of its parts
module _ (s : Bytes) (w : List ℕ) (end : ℕ) (top : Bool) (few : end ≤ max_nodes) (i : ℕ) where
  -- the first row of a node
  here :
      {left n : ℕ} (t : Node) → NodeAt s w left n t → left ≤ max_depth → n + size t ≤ end → (top ≡ true → tidy max_number (erase s t) ≡ true) →
      n ≡ i → RowOf s w end top i
  here {left} {n} t h l m g q =
      subst (λ (j : ℕ). RowOf s w end top j) q
      (of_node (record { left = left; is_node = record { tree = t; held = h; depth = l; most = omega arith } })
      (omega (arith, node_after s w left n t h)) (λ x. ap (tidy max_number) (value_is s w l h) ∙ g x))

  mutual
    unfolding size erase tidy

    row : {left n : ℕ} (t : Node) → NodeAt s w left n t → left ≤ max_depth → n + size t ≤ end →
        (top ≡ true → tidy max_number (erase s t) ≡ true) → n ≤ i → i < n + size t → RowOf s w end top i
    row (leaf k a e) h l m g from to = here (leaf k a e) h l m g (omega arith)
    row {left} {n} (arr a e ts) h l m g from to =
        let p = arr_parts s w left n a e ts h in
        elim (dec_lt n i) [ yes q ↦ row_in ts p.1 (omega arith) (omega arith) g (omega arith) (omega arith) | no q ↦ here (arr a e ts) h l m g (omega arith) ]
    row {left} {n} (obj a e fs) h l m g from to =
        let p = obj_parts s w left n a e fs h in
        elim (dec_lt n i) [ yes q ↦ row_of fs p.1 (omega arith) (omega arith) g (omega arith) (omega arith) | no q ↦ here (obj a e fs) h l m g (omega arith) ]

    row_in : {left k e : ℕ} (ts : Nodes) → NodesAt s w left k e ts → left ≤ max_depth → e ≤ end →
        (top ≡ true → tidy_in max_number (erase_in s ts) ≡ true) → k ≤ i → i < e → RowOf s w end top i
    row_in no_node h l m g from to = absurd (omega (arith, h.upto))
    row_in {left} {k} {e} (node t ts) h l m g from to =
        let p = nodes_parts s w left k e t ts h in
        let both : top ≡ true → (tidy max_number (erase s t) ≡ true) ×
        (tidy_in max_number (erase_in s ts) ≡ true) = λ x. (and-eq-true_iff (tidy max_number (erase s t))
        (tidy_in max_number (erase_in s ts))).0 (g x) in
        elim (dec_lt i (k + size t)) [ yes q ↦ row t p.0 l (omega (arith, h.upto)) (λ x. (both x).0) from q | no q ↦ row_in ts p.1 l m (λ x. (both x).1) (omega arith) to ]

    row_of : {left k e : ℕ} (fs : Fields) → FieldsAt s w left k e fs → left ≤ max_depth → e ≤ end →
        (top ≡ true → tidy_of max_number (erase_of s fs) ≡ true) → k ≤ i → i < e → RowOf s w end top i
    row_of no_field h l m g from to = absurd (omega (arith, h.upto))
    row_of {left} {k} {e} (field a b t fs) h l m g from to =
        let p = fields_parts s w left k e a b t fs h in
        let v = tidy max_number (erase s t) in
        let vs = tidy_of max_number (erase_of s fs) in
        let both : top ≡ true → (v ≡ true) ×
        (vs ≡ true) = λ x. (and-eq-true_iff v vs).0
        ((and-eq-true_iff (not (is_one_of (text_at s a) (keys (erase_of s fs)))) (v && vs)).0 (g x)).1 in
        elim (dec_lt k i) [
          | yes q ↦ elim (dec_lt i (k + 1 + size t)) [
            | yes r ↦ row t p.2 l (omega (arith, h.upto)) (λ x. (both x).0) (omega arith) r
            | no r ↦ row_of fs p.3 l m
                (λ x. (both x).1) (omega arith) to
          ]
          | no q ↦ subst (λ (j : ℕ). RowOf s w end top j) (omega arith) (of_name p.0.is_kind p.0.is_after (omega (arith, h.upto, size_pos t)))
        ]

-- an object's row among those before node e
pub record ObjectRow (s : Bytes) (w : List ℕ) (i e : ℕ) : Type 0 where
  pub members : HasMembers s w (i + 1) (after_at w i)
  pub is_tidy : tidy_of max_number (members_at s w (i + 1) (after_at w i)) ≡ true
  pub past : i < after_at w i
  pub upto : after_at w i ≤ e

code_leaf : (k : Plain) → code k ≤ 4
code_leaf is_null = omega arith
code_leaf is_true = omega arith
code_leaf is_false = omega arith
code_leaf is_number = omega arith
code_leaf is_text = omega arith

module _ (s : Bytes) (w : List ℕ) where
  -- a node of kind 6 is an object
  object_node : {i : ℕ} → HasNode s w i → kind_at w i ≡ 6 → HasMembers s w (i + 1) (after_at w i) × (value_at s w i ≡ object (members_at s w (i + 1) (after_at w i)))
  object_node {i} h q = go (view s w h.is_node)
    where
      go : View s w h.left i → HasMembers s w (i + 1) (after_at w i) × (value_at s w i ≡ object (members_at s w (i + 1) (after_at w i)))
      go (is_plain k e a v f) = absurd (omega (arith, code_leaf k))
      go (is_array e l v a) = absurd (omega arith)
      go (is_object e l v a) = (record { left = h.left - 1; members = a }, v)

  module _ {left p : ℕ} (root : IsNode s w left p) (i : ℕ) (from : p ≤ i) (to : i < after_at w p) where
    row_of_lem : RowOf s w (after_at w p) (tidy max_number (value_at s w p)) i
    row_of_lem =
        let a = node_after s w left p root.tree root.held in
        row s w (after_at w p) (tidy max_number (value_at s w p)) (after_node s w root).1 i root.tree root.held root.depth
        (omega arith) (λ x. ap (tidy max_number) (sym (value_is s w root.depth root.held)) ∙ x) from (omega arith)

    -- Rows lie within one another.
    pub nested : (i < after_at w i) × (after_at w i ≤ after_at w p)
    nested = go row_of_lem
      where
        go : RowOf s w (after_at w p) (tidy max_number (value_at s w p)) i → (i < after_at w i) × (after_at w i ≤ after_at w p)
        go (of_name k a b) = (omega arith, omega arith)
        go (of_node h b g) = ((after_node s w h.is_node).0, b)

    kind_6 : kind_at w i ≡ 6 → HasNode s w i × (tidy max_number (value_at s w p) ≡ true → tidy max_number (value_at s w i) ≡ true)
    kind_6 q = go row_of_lem
      where
        go : RowOf s w (after_at w p) (tidy max_number (value_at s w p)) i → HasNode s w i × (tidy max_number (value_at s w p) ≡ true → tidy max_number (value_at s w i) ≡ true)
        go (of_name k a b) = absurd (omega arith)
        go (of_node h b g) = (h, g)

    -- A row of kind 6 is an object's.
    pub object_members : kind_at w i ≡ 6 → HasMembers s w (i + 1) (after_at w i)
    object_members q = (object_node (kind_6 q).0 q).0

  pub object_row :
      {left p : ℕ} → IsNode s w left p → tidy max_number (value_at s w p) ≡ true → (i : ℕ) → p ≤ i → i < after_at w p → kind_at w i ≡ 6 →
      ObjectRow s w i (after_at w p)
  unfolding tidy
  object_row root t i from to q =
      let n = kind_6 root i from to q in
      let o = object_node n.0 q in
      let b = nested root i from to in
      record { members = o.0; is_tidy = ap (tidy max_number) (sym o.1) ∙ n.1 t; past = b.0; upto = b.1 }
