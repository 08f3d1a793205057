-- The value at a node as evaluation sees it, one layer by the row's kind; and the children of a node as they stand in its value.
-- Assumes nothing.
use mathlib.Core.Bool.{Bool, false, true}
use mathlib.Core.List.{List, [], ◌∷◌}
use mathlib.Core.Path.{ap, refl, sym, ◌∙◌, ◌≡◌}
use Prim.Native.Nat.{suc, zero, ℕ, ◌+◌, ◌-◌, ◌<◌, ◌≤◌}
use native.Mathlib.Omega.{arith}
use lib.Dec.{ltb}
use lib.Seq.{slice}
use borrow.Author.Tests.{ltb-true}
use Rattle.json_text.specs.KeyOrder.{in_order, names_at, names_by, nodes_of}
use Rattle.json_text.specs.Links.{Linked, link_at, linked_by}
use Rattle.json_text.proofs.KeyOrder.{Each, ascending_members, each_in_order}
use Rattle.json_text.proofs.Sorted.{valued}
use Rattle.json_text.proofs.Walk.{View, after_node, is_array, is_object, is_plain, members_more, values_more, view}
use Rattle.json_text.specs.Bytes.{Bytes}
use Rattle.json_text.specs.Cursor.{OnText}
use Rattle.json_text.specs.Fits.{FitsLeaf, Numeral, Text}
use Rattle.json_text.specs.Held.{AreMembers, AreNodes, HasMembers, HasNode}
use Rattle.json_text.specs.Json.{Members, Value, Values, array, bool, cons, empty, entries, member, nil, null, number, object, text}
use Rattle.json_text.specs.Sorted.{sorted, sorted_in}
use Rattle.json_text.specs.Spans.{Plain, plain, text_at}
use Rattle.json_text.specs.Table.{after_at, code, end_at, kind_at, start_at, value_at, values_at, values_by}
use Rattle.paths.specs.Children.{EachAt, Named, begun, children_by, children_of}
use Rattle.paths.specs.Layered.{kids}
use Rattle.paths.specs.Matched.{Holds}
use Rattle.paths.specs.Stored.{Fits, HasKind, HasNodes, Means, OperandAt, fields_of, items_of, meant, tree}
use Rattle.paths.specs.Lazy.{given}
use Rattle.paths.specs.Reached.{value_kind}
use Rattle.paths.specs.declared.operand.Operand.{Operand}
use Rattle.paths.proofs.Ordered.{node_below}

-- one layer of the value at a node
pub data Layer (s : Bytes) (t : List ℕ) (n : ℕ) : Type 0 where
  a_null : kind_at t n ≡ 0 → tree s t n ≡ null → Layer s t n
  a_true : kind_at t n ≡ 1 → tree s t n ≡ bool true → Layer s t n
  a_false : kind_at t n ≡ 2 → tree s t n ≡ bool false → Layer s t n
  a_number : kind_at t n ≡ 3 → tree s t n ≡ number (slice (start_at t n) (end_at t n) s) → Numeral s (start_at t n) (end_at t n) → Layer s t n
  a_text : kind_at t n ≡ 4 → tree s t n ≡ text (text_at s (start_at t n)) → Text s (start_at t n) (end_at t n) → Layer s t n
  an_array : kind_at t n ≡ 5 → tree s t n ≡ array (items_of s t n) → HasNodes s t (n + 1) (after_at t n) → Layer s t n
  an_object : kind_at t n ≡ 6 → tree s t n ≡ object (fields_of s t n) → HasMembers s t (n + 1) (after_at t n) → Layer s t n

pub layer : (s : Bytes) (t : List ℕ) (n : ℕ) → HasNode s t n → Layer s t n
unfolding tree sorted plain items_of fields_of
layer s t n h = go (view s t h.is_node)
  where
    leaf : (p : Plain) → kind_at t n ≡ code p → value_at s t n ≡ plain s p (start_at t n) (end_at t n) → FitsLeaf s p (start_at t n) (end_at t n) → Layer s t n
    leaf Plain.is_null k v l = a_null k (ap sorted v)
    leaf Plain.is_true k v l = a_true k (ap sorted v)
    leaf Plain.is_false k v l = a_false k (ap sorted v)
    leaf Plain.is_number k v l = a_number k (ap sorted v) l
    leaf Plain.is_text k v l = a_text k (ap sorted v) l

    go : View s t h.left n → Layer s t n
    go (is_plain p k a v l) = leaf p k v l
    go (is_array k l v a) = an_array k (ap sorted v) (record { left = h.left - 1; nodes = a })
    go (is_object k l v a) = an_object k (ap sorted v) (record { left = h.left - 1; members = a })

-- a row of a known kind
pub record TextRow (s : Bytes) (t : List ℕ) (n : ℕ) : Type 0 where
  pub value : tree s t n ≡ text (text_at s (start_at t n))
  pub on_text : OnText s (start_at t n) 0

pub record NumberRow (s : Bytes) (t : List ℕ) (n : ℕ) : Type 0 where
  pub value : tree s t n ≡ number (slice (start_at t n) (end_at t n) s)
  pub numeral : Numeral s (start_at t n) (end_at t n)

pub record ArrayRow (s : Bytes) (t : List ℕ) (n : ℕ) : Type 0 where
  pub value : tree s t n ≡ array (items_of s t n)
  pub nodes : HasNodes s t (n + 1) (after_at t n)

pub record ObjectRow (s : Bytes) (t : List ℕ) (n : ℕ) : Type 0 where
  pub value : tree s t n ≡ object (fields_of s t n)
  pub members : HasMembers s t (n + 1) (after_at t n)

module _ {s : Bytes} {t : List ℕ} {n : ℕ} where
  pub text_row : HasKind s t n 4 → TextRow s t n
  text_row h = go (layer s t n h.node) h.kind
    where
      go : Layer s t n → kind_at t n ≡ 4 → TextRow s t n
      go (a_null k v) q = absurd (omega arith)
      go (a_true k v) q = absurd (omega arith)
      go (a_false k v) q = absurd (omega arith)
      go (a_number k v l) q = absurd (omega arith)
      go (a_text k v l) q = record { value = v; on_text = record { stop = end_at t n; text = l; few = omega arith } }
      go (an_array k v l) q = absurd (omega arith)
      go (an_object k v l) q = absurd (omega arith)

  pub number_row : HasKind s t n 3 → NumberRow s t n
  number_row h = go (layer s t n h.node) h.kind
    where
      go : Layer s t n → kind_at t n ≡ 3 → NumberRow s t n
      go (a_null k v) q = absurd (omega arith)
      go (a_true k v) q = absurd (omega arith)
      go (a_false k v) q = absurd (omega arith)
      go (a_number k v l) q = record { value = v; numeral = l }
      go (a_text k v l) q = absurd (omega arith)
      go (an_array k v l) q = absurd (omega arith)
      go (an_object k v l) q = absurd (omega arith)

  pub array_row : HasKind s t n 5 → ArrayRow s t n
  array_row h = go (layer s t n h.node) h.kind
    where
      go : Layer s t n → kind_at t n ≡ 5 → ArrayRow s t n
      go (a_null k v) q = absurd (omega arith)
      go (a_true k v) q = absurd (omega arith)
      go (a_false k v) q = absurd (omega arith)
      go (a_number k v l) q = absurd (omega arith)
      go (a_text k v l) q = absurd (omega arith)
      go (an_array k v l) q = record { value = v; nodes = l }
      go (an_object k v l) q = absurd (omega arith)

  pub object_row : HasKind s t n 6 → ObjectRow s t n
  object_row h = go (layer s t n h.node) h.kind
    where
      go : Layer s t n → kind_at t n ≡ 6 → ObjectRow s t n
      go (a_null k v) q = absurd (omega arith)
      go (a_true k v) q = absurd (omega arith)
      go (a_false k v) q = absurd (omega arith)
      go (a_number k v l) q = absurd (omega arith)
      go (a_text k v l) q = absurd (omega arith)
      go (an_array k v l) q = absurd (omega arith)
      go (an_object k v l) q = record { value = v; members = l }

  pub past_node : HasNode s t n → (n < after_at t n) × (after_at t n ≤ 4096)
  past_node h = after_node s t h.is_node

-- the values at nodes, and members by the nodes of their names
unfoldable pub from_nodes : (ℕ → Value) → List ℕ → Values
from_nodes f [] = nil
from_nodes f (k ∷ ks) = cons (f k) (from_nodes f ks)

unfoldable pub from_names : Bytes → List ℕ → (ℕ → Value) → List ℕ → Members
unfolding text_at
from_names s t f [] = empty
from_names s t f (k ∷ ks) = member (text_at s (start_at t k)) (f (k + 1)) (from_names s t f ks)

items_by : (f : ℕ → Value) (t : List ℕ) (m k e : ℕ) → sorted_in (values_by f t m k e) ≡ from_nodes (λ j. sorted (f j)) (children_by t false e k m)
unfolding values_by children_by from_nodes sorted_in
items_by f t zero k e = refl
items_by f t (suc m) k e = go (ltb k e) refl (items_by f t m (after_at t k) e)
  where
    go : (b : Bool) → ltb k e ≡ b →
        sorted_in (values_by f t m (after_at t k) e) ≡ from_nodes (λ j. sorted (f j)) (children_by t false e (after_at t k) m) →
        sorted_in (values_by f t (suc m) k e) ≡ from_nodes (λ j. sorted (f j)) (children_by t false e k (suc m))
    go true q below = rw (q, values_by, children_by) (ap (cons (sorted (f k))) below)
    go false q below = rw (q, values_by, children_by)

pub items_are : (s : Bytes) (t : List ℕ) (n : ℕ) → items_of s t n ≡ from_nodes (tree s t) (kids s t n false)
unfolding items_of values_at kids tree
items_are s t n = items_by (value_at s t) t (after_at t n - (n + 1)) (n + 1) (after_at t n)

-- each name is that of its node
module _ (s : Bytes) (t : List ℕ) where
  abbrev Key : Bytes × ℕ → Type 0
  Key x = x.0 ≡ text_at s (start_at t x.1)

  keyed_names : (m k e : ℕ) → Each Key (names_by s t m k e)
  unfolding names_by Each
  keyed_names zero k e = tt
  keyed_names (suc m) k e = go (ltb k e) refl (keyed_names m (after_at t (k + 1)) e)
    where
      go : (b : Bool) → ltb k e ≡ b → Each Key (names_by s t m (after_at t (k + 1)) e) → Each Key (names_by s t (suc m) k e)
      go true q below = rw (q, names_by) (refl, below)
      go false q below = rw (q, names_by) tt

  unfoldable to_members : List (Bytes × Value) → Members
  to_members [] = empty
  to_members (x ∷ xs) = member x.0 x.1 (to_members xs)

  to_entries : (ms : Members) → to_members (entries ms) ≡ ms
  unfolding to_members
  to_entries empty = refl
  to_entries (member k v ms) = ap (member k v) (to_entries ms)

  to_names : (f : ℕ → Value) (xs : List (Bytes × ℕ)) → Each Key xs → to_members (valued (λ j. f (j + 1)) xs) ≡ from_names s t f (nodes_of xs)
  unfolding to_members valued nodes_of from_names Each
  to_names f [] h = refl
  to_names f (x ∷ xs) h = rw (h.0, to_names f xs h.1)

  pub fields_are : (n : ℕ) → fields_of s t n ≡ from_names s t (tree s t) (kids s t n true)
  unfolding fields_of kids tree names_at
  fields_are n =
      sym (to_entries (fields_of s t n))
      ∙ ap to_members (ascending_members s t (n + 1) (after_at t n))
      ∙ to_names (tree s t) (in_order (names_at s t (n + 1) (after_at t n))) (each_in_order Key _ (keyed_names (after_at t n - (n + 1)) (n + 1) (after_at t n)))

  -- the table holds them, and the links lead to them
  named_names : (m : ℕ) {left k e : ℕ} → AreMembers s t left k e → Each (λ x. Named s t x.1) (names_by s t m k e)
  unfolding names_by Each
  named_names zero h = tt
  named_names (suc m) {left} {k} {e} h = go (ltb k e) refl (λ a. named_names m a)
    where
      go : (b : Bool) → ltb k e ≡ b →
          (AreMembers s t left (after_at t (k + 1)) e → Each (λ x. Named s t x.1) (names_by s t m (after_at t (k + 1)) e)) →
          Each (λ x. Named s t x.1) (names_by s t (suc m) k e)
      go true q below =
          let x = members_more s t h (ltb-true k e q) in
          rw (q, names_by) (record { text = record { stop = end_at t k; text = x.name; few = omega arith }; value = record { left = left; is_node = x.here } }, below x.others)
      go false q below = rw (q, names_by) tt

  each_nodes : (xs : List (Bytes × ℕ)) → Each (λ x. Named s t x.1) xs → EachAt s t true (nodes_of xs)
  unfolding nodes_of Each EachAt
  each_nodes [] h = tt
  each_nodes (x ∷ xs) h = (h.0, each_nodes xs h.1)

  each_item : (m : ℕ) {left k e : ℕ} → AreNodes s t left k e → EachAt s t false (children_by t false e k m)
  unfolding children_by EachAt
  each_item zero h = tt
  each_item (suc m) {left} {k} {e} h = go (ltb k e) refl (λ a. each_item m a)
    where
      go : (b : Bool) → ltb k e ≡ b → (AreNodes s t left (after_at t k) e → EachAt s t false (children_by t false e (after_at t k) m)) →
          EachAt s t false (children_by t false e k (suc m))
      go true q below =
          let x = values_more s t h (ltb-true k e q) in
          rw (q, children_by) (record { left = left; is_node = x.here }, below x.others)
      go false q below = rw (q, children_by) tt

  pub each_kid : (named : Bool) {n : ℕ} → Holds s t named n → EachAt s t named (kids s t n named)
  unfolding kids names_at
  each_kid false {n} h = each_item (after_at t n - (n + 1)) (array_row h).nodes.nodes
  each_kid true {n} h = each_nodes _ (each_in_order (λ x. Named s t x.1) _ (named_names (after_at t n - (n + 1)) (object_row h).members.members))

  linked_are : (m k e : ℕ) → children_by t true e k m ≡ linked_by t m k e
  unfolding children_by linked_by
  linked_are zero k e = refl
  linked_are (suc m) k e = go (ltb k e) (linked_are m (link_at t k) e)
    where
      go : (b : Bool) → children_by t true e (link_at t k) m ≡
          linked_by t m (link_at t k) e → ◌≡◌ {A = List ℕ} (elim b [ true ↦ k ∷ children_by t true e (link_at t k) m | false ↦ [] ])
          (elim b [ true ↦ k ∷ linked_by t m (link_at t k) e | false ↦ [] ])
      go true below = ap (λ (l : List ℕ). k ∷ l) below
      go false below = refl

  pub begun_kids : Linked s t → (named : Bool) {n : ℕ} → Holds s t named n → children_of t (begun t n named) ≡ kids s t n named
  unfolding kids
  begun_kids l false h = refl
  begun_kids l true {n} h = linked_are (after_at t n - (n + 1)) (link_at t n) (after_at t n) ∙ l.links n h.node h.kind

-- an operand at a node
pub operand_at : {s : Bytes} {t : List ℕ} {o : Operand} → HasNode s t o.node → o.depth ≤ 32 → Fits s t o.node o.kind → OperandAt s t o
operand_at {s} {t} h d f = record { node = node_below s t h; depth = d; fits = f }

-- the value at a node as an operand
pub value_means : (s : Bytes) (t : List ℕ) (n k : ℕ) → k ≡ kind_at t n → HasNode s t n → Means s t (record { node = n; depth = 0; kind = value_kind k }) (given (tree s t n))
unfolding meant Fits
value_means s t n k e h = go (layer s t n h)
  where
    go : Layer s t n → Means s t (record { node = n; depth = 0; kind = value_kind k }) (given (tree s t n))
    go (a_null q v) = rw (e, q) (record { means = ap given (sym v); fits = operand_at h (omega arith) tt })
    go (a_true q v) = rw (e, q) (record { means = ap given (sym v); fits = operand_at h (omega arith) tt })
    go (a_false q v) = rw (e, q) (record { means = ap given (sym v); fits = operand_at h (omega arith) tt })
    go (a_number q v l) = rw (e, q) (record { means = ap given (sym v); fits = operand_at h (omega arith) (record { node = h; kind = q }) })
    go (a_text q v l) = rw (e, q) (record { means = ap given (sym v); fits = operand_at h (omega arith) (record { node = h; kind = q }) })
    go (an_array q v l) = rw (e, q) (record { means = ap given (sym v); fits = operand_at h (omega arith) (record { node = h; kind = q }) })
    go (an_object q v l) = rw (e, q) (record { means = ap given (sym v); fits = operand_at h (omega arith) (record { node = h; kind = q }) })
