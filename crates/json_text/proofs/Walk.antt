-- What code that walks a table may use: of a node, its value by its kind; of the nodes from k up to e, the first and the others; the same for members.
-- Assumes nothing.
use mathlib.Core.Bool.{false, true}
use mathlib.Core.List.{List, ◌++◌}
use Rattle.std.specs.Prelude.{None, Some}
use mathlib.Core.Path.{ap, refl, subst, sym, ◌∙◌, ◌≡◌}
use Prim.Native.Nat.{ℕ, ◌*◌, ◌+◌, ◌-◌, ◌<◌, ◌≤◌}
use native.Mathlib.Omega.{arith}
use lib.ListN.{drop, length, take, take-append-drop}
use lib.Seq.{sets, sets-eq, take-append-le, take-length}
use Rattle.json_text.proofs.Agree.{Rel, SheetAgrees, both, json_agrees, neither_of}
use Rattle.json_text.proofs.Decoded.{
  arr_parts,
  arr_row,
  decoded,
  decoded_in,
  decoded_of,
  fields_parts,
  leaf_fits,
  leaf_row,
  length_rows,
  node_after,
  nodes_parts,
  obj_parts,
  obj_row,
  size_pos,
}
use Rattle.json_text.specs.Bytes.{Bytes, find, same_bytes}
use Rattle.json_text.specs.Fits.{FitsLeaf, Text}
use Rattle.json_text.specs.Held.{AreMembers, AreNodes, FieldsAt, IsNode, NodeAt, NodesAt}
use Rattle.json_text.specs.Json.{Value, array, cons, empty, entries, member, nil, object}
use Rattle.json_text.specs.Limits.{max_depth, max_nodes}
use Rattle.json_text.specs.Placing.{spanned}
use Rattle.json_text.specs.Reader.{json}
use Rattle.json_text.specs.Refusal.{Result, ok}
use Rattle.json_text.specs.Spans.{Fields, Node, Nodes, Plain, arr, erase, erase_in, erase_of, field, leaf, no_field, no_node, node, obj, plain, size, size_in, size_of, text_at}
use Rattle.json_text.specs.Table.{after_at, code, end_at, kind_at, members_at, rows, start_at, value_at, values_at}

-- what is found at a node
pub data View (s : Bytes) (w : List ℕ) (left n : ℕ) : Type 0 where
  is_plain : (k : Plain) → kind_at w n ≡ code k → after_at w n ≡ n + 1 → value_at s w n ≡ plain s k (start_at w n) (end_at w n) →
      FitsLeaf s k (start_at w n) (end_at w n) → View s w left n
  is_array : kind_at w n ≡ 5 → 1 ≤ left → value_at s w n ≡ array (values_at s w (n + 1) (after_at w n)) → AreNodes s w (left - 1) (n + 1) (after_at w n) → View s w left n
  is_object : kind_at w n ≡ 6 → 1 ≤ left → value_at s w n ≡ object (members_at s w (n + 1) (after_at w n)) → AreMembers s w (left - 1) (n + 1) (after_at w n) → View s w left n

pub record More (s : Bytes) (w : List ℕ) (left k e : ℕ) : Type 0 where
  pub value : values_at s w k e ≡ cons (value_at s w k) (values_at s w (after_at w k) e)
  pub here : IsNode s w left k
  pub others : AreNodes s w left (after_at w k) e
  pub past : k < after_at w k
  pub upto : after_at w k ≤ e

pub record MoreMembers (s : Bytes) (w : List ℕ) (left k e : ℕ) : Type 0 where
  pub value : members_at s w k e ≡ member (text_at s (start_at w k)) (value_at s w (k + 1)) (members_at s w (after_at w (k + 1)) e)
  pub name : Text s (start_at w k) (end_at w k)
  pub is_kind : kind_at w k ≡ 4
  pub here : IsNode s w left (k + 1)
  pub others : AreMembers s w left (after_at w (k + 1)) e
  pub past : k + 1 < after_at w (k + 1)
  pub upto : after_at w (k + 1) ≤ e

module _ (s : Bytes) (w : List ℕ) where
  -- more brackets may be open
  raise : {left n : ℕ} (m : ℕ) {t : Node} → left ≤ m → NodeAt s w left n t → NodeAt s w m n t
  raise m l h = record { words = h.words; shallow = omega (arith, h.shallow); fits = h.fits }

  raise_in : {left k e : ℕ} (m : ℕ) {ts : Nodes} → left ≤ m → NodesAt s w left k e ts → NodesAt s w m k e ts
  raise_in m l h = record { words = h.words; upto = h.upto; shallow = omega (arith, h.shallow); fits = h.fits }

  raise_of : {left k e : ℕ} (m : ℕ) {fs : Fields} → left ≤ m → FieldsAt s w left k e fs → FieldsAt s w m k e fs
  raise_of m l h = record { words = h.words; upto = h.upto; shallow = omega (arith, h.shallow); fits = h.fits }

  -- the tree itself
  pub value_is : {left n : ℕ} {t : Node} → left ≤ max_depth → NodeAt s w left n t → value_at s w n ≡ erase s t
  unfolding value_at
  value_is {left} {n} {t} l h = decoded s w t max_depth n (raise max_depth l h)

  pub values_are : {left k e : ℕ} {ts : Nodes} → left ≤ max_depth → NodesAt s w left k e ts → values_at s w k e ≡ erase_in s ts
  unfolding values_at
  values_are {left} {k} {e} {ts} l h = decoded_in s w ts max_depth k e (e - k) (omega (arith, h.upto)) (raise_in max_depth l h)

  pub members_are : {left k e : ℕ} {fs : Fields} → left ≤ max_depth → FieldsAt s w left k e fs → members_at s w k e ≡ erase_of s fs
  unfolding members_at
  members_are {left} {k} {e} {fs} l h = decoded_of s w fs max_depth k e (e - k) (omega (arith, h.upto)) (raise_of max_depth l h)

  -- an index of a node's row is inside the table
  pub inside : {left n : ℕ} → IsNode s w left n → 3 * n + 3 ≤ length w
  inside {left} {n} h = go h.tree h.held
    where
      go : (t : Node) → NodeAt s w left n t → 3 * n + 3 ≤ length w
      go (leaf k a e) r = (leaf_row s w left n k a e r).inside
      go (arr a e ts) r = (arr_row s w left n a e ts r).inside
      go (obj a e fs) r = (obj_row s w left n a e fs r).inside

  pub after_node : {left n : ℕ} → IsNode s w left n → (n < after_at w n) × (after_at w n ≤ max_nodes)
  after_node {left} {n} h = let q = node_after s w left n h.tree h.held in (omega (arith, q, size_pos h.tree), omega (arith, q, h.most))

  pub view : {left n : ℕ} → IsNode s w left n → View s w left n
  unfolding erase size
  view {left} {n} h = go h.tree h.held h.most
    where
      l : left ≤ max_depth
      l = h.depth

      go : (t : Node) → NodeAt s w left n t → n + size t ≤ max_nodes → View s w left n
      go (leaf k a e) r m =
          let x = leaf_row s w left n k a e r in
          is_plain k x.is_kind x.is_after (value_is l r ∙ rw (x.is_start, x.is_end)) (rw (x.is_start, x.is_end) (leaf_fits s w r.fits))
      go (arr a e ts) r m =
          let x = arr_row s w left n a e ts r in
          let p = arr_parts s w left n a e ts r in
          let d : left - 1 ≤ max_depth = omega arith in
          is_array x.is_kind p.0 (value_is l r ∙ rw x.is_after (ap array (sym (values_are d p.1))))
          (rw x.is_after (record { tree = ts; held = p.1; depth = d; most = omega (arith, m) }))
      go (obj a e fs) r m =
          let x = obj_row s w left n a e fs r in
          let p = obj_parts s w left n a e fs r in
          let d : left - 1 ≤ max_depth = omega arith in
          is_object x.is_kind p.0 (value_is l r ∙ rw x.is_after (ap object (sym (members_are d p.1))))
          (rw x.is_after (record { tree = fs; held = p.1; depth = d; most = omega (arith, m) }))

  -- children, one after the other
  pub values_done : {left k e : ℕ} → AreNodes s w left k e → e ≤ k → values_at s w k e ≡ nil
  unfolding erase_in size_in
  values_done {left} {k} {e} h q = go h.tree h.held
    where
      go : (ts : Nodes) → NodesAt s w left k e ts → values_at s w k e ≡ nil
      go no_node r = values_are h.depth r
      go (node t ts) r = absurd (omega (arith, r.upto, size_pos t))

  pub values_more : {left k e : ℕ} → AreNodes s w left k e → k < e → More s w left k e
  unfolding erase_in size_in
  values_more {left} {k} {e} h q = go h.tree h.held
    where
      go : (ts : Nodes) → NodesAt s w left k e ts → More s w left k e
      go no_node r = absurd (omega (arith, r.upto))
      go (node t ts) r =
          let p = nodes_parts s w left k e t ts r in
          let a = node_after s w left k t p.0 in
          record {
            value = values_are h.depth r ∙ rw a (cc (value_is h.depth p.0, values_are h.depth p.1));
            here = record { tree = t; held = p.0; depth = h.depth; most = omega (arith, r.upto, h.most) };
            others = rw a (record { tree = ts; held = p.1; depth = h.depth; most = h.most });
            past = omega (arith, a, size_pos t);
            upto = omega (arith, a, r.upto);
          }

  -- members, one after the other
  pub ordered_members : {left k e : ℕ} → AreMembers s w left k e → k ≤ e
  ordered_members h = omega (arith, h.held.upto)

  pub members_done : {left k e : ℕ} → AreMembers s w left k e → e ≤ k → members_at s w k e ≡ empty
  unfolding erase_of size_of
  members_done {left} {k} {e} h q = go h.tree h.held
    where
      go : (fs : Fields) → FieldsAt s w left k e fs → members_at s w k e ≡ empty
      go no_field r = members_are h.depth r
      go (field a b t fs) r = absurd (omega (arith, r.upto))

  pub members_more : {left k e : ℕ} → AreMembers s w left k e → k < e → MoreMembers s w left k e
  unfolding erase_of size_of
  members_more {left} {k} {e} h q = go h.tree h.held
    where
      go : (fs : Fields) → FieldsAt s w left k e fs → MoreMembers s w left k e
      go no_field r = absurd (omega (arith, r.upto))
      go (field a b t fs) r =
          let p = fields_parts s w left k e a b t fs r in
          let x = p.0 in
          let f = node_after s w left (k + 1) t p.2 in
          record {
            value = members_are h.depth r ∙ rw (x.is_start, f) (cc (value_is h.depth p.2, members_are h.depth p.3));
            name = rw (x.is_start, x.is_end) p.1;
            is_kind = x.is_kind;
            here = record { tree = t; held = p.2; depth = h.depth; most = omega (arith, r.upto, h.most) };
            others = rw f (record { tree = fs; held = p.3; depth = h.depth; most = h.most });
            past = omega (arith, f, size_pos t);
            upto = omega (arith, f, r.upto);
          }

  -- a member by its name: the loop from k on
  pub find_done : {left k e : ℕ} (key : Bytes) → AreMembers s w left k e → e ≤ k → find key (entries (members_at s w k e)) ≡ None
  unfolding find
  find_done key h q = rw (members_done h q)

  pub find_here : {left k e : ℕ} (key : Bytes) → AreMembers s w left k e → k < e → same_bytes key (text_at s (start_at w k)) ≡ true →
      find key (entries (members_at s w k e)) ≡ Some (value_at s w (k + 1))
  unfolding find
  find_here key h q e = rw ((members_more h q).value, e, find)

  pub find_on : {left k e : ℕ} (key : Bytes) → AreMembers s w left k e → k < e → same_bytes key (text_at s (start_at w k)) ≡ false →
      find key (entries (members_at s w k e)) ≡ find key (entries (members_at s w (after_at w (k + 1)) e))
  unfolding find
  find_on key h q e = rw ((members_more h q).value, e, find)

-- ---- the whole sheet
-- the tree that was read, once its rows stand at the table's beginning
pub root : (s : Bytes) (w : List ℕ) (t : Node) → spanned s ≡ ok t → take (3 * size t) w ≡ rows t 0 →
    (json s ≡ ok (erase s t)) × (value_at s w 0 ≡ erase s t) × IsNode s w max_depth 0
root s w t e h = go (json s) (spanned s) (json_agrees s) refl e
  where
    at : SheetAgrees s (erase s t) t → IsNode s w max_depth 0
    at a =
        record {
          tree = t;
          held =
              record {
                words = (drop (3 * size t) w, sym (take-append-drop (3 * size t) w) ∙ ap (λ (x : List ℕ). x ++ drop (3 * size t) w) h);
                shallow = a.shallow;
                fits = a.fits;
              };
          depth = omega arith;
          most = omega (arith, a.most);
        }

    go : (x : Result Value) (y : Result Node) → Rel Value Node (SheetAgrees s) x y → json s ≡ x → y ≡ ok t →
        (json s ≡ ok (erase s t)) × (value_at s w 0 ≡ erase s t) × IsNode s w max_depth 0
    go x y (both {a = v} {b = u} a) i j =
        let q : u ≡ t = cc in
        let b : SheetAgrees s v t = subst (λ (z : Node). SheetAgrees s v z) q a in
        let c : SheetAgrees s (erase s t) t = subst (λ (z : Value). SheetAgrees s z t) b.tree b in
        (i ∙ ap {B = Result Value} (λ z. ok z) b.tree, value_is s w (omega arith) (at c).held, at c)
    go x y (neither_of r) i j = let z : ◌≡◌ {A = ℕ} 0 1 = cc in absurd (omega arith)

-- rows that were stored, `sets` as straight code has it
pub stored : (w₀ w : List ℕ) (t : Node) → w ≡ sets w₀ 0 (rows t 0) → 3 * size t ≤ length w₀ → take (3 * size t) w ≡ rows t 0
stored w₀ w t e h =
    rw (
      e,
      sets-eq (rows t 0) w₀ 0 (omega (arith, length_rows t 0)),
      ← length_rows t 0,
      take-append-le (length (rows t 0)) (rows t 0)
          (drop (0 + length (rows t 0)) w₀) (omega arith),
    ) (take-length (rows t 0))

-- An accepted sheet: what the reader stored is what `json` reads, node by node.
pub accepted : (s : Bytes) (w₀ w : List ℕ) (t : Node) → spanned s ≡ ok t → w ≡ sets w₀ 0 (rows t 0) → 3 * max_nodes ≤ length w₀ →
    (json s ≡ ok (erase s t)) × (value_at s w 0 ≡ erase s t) × IsNode s w max_depth 0
accepted s w₀ w t e h l = root s w t e (stored w₀ w t h (omega (arith, small s t e)))
  where
    small : (s : Bytes) (t : Node) → spanned s ≡ ok t → size t ≤ max_nodes
    small s t e = go (json s) (spanned s) (json_agrees s) e
      where
        go : (x : Result Value) (y : Result Node) → Rel Value Node (SheetAgrees s) x y → y ≡ ok t → size t ≤ max_nodes
        go x y (both {b = u} a) j = let q : u ≡ t = cc in subst (λ (z : Node). size z ≤ max_nodes) q a.most
        go x y (neither_of r) j = let z : ◌≡◌ {A = ℕ} 0 1 = cc in absurd (omega arith)
