-- Every object of a table is linked, row by row.
-- Assumes nothing.
use mathlib.Core.Bool.{Bool, false, true}
use mathlib.Core.List.{List}
use mathlib.Core.Path.{ap, refl, subst, sym, ◌∙◌, ◌≡◌}
use Prim.Native.Nat.{ℕ, ◌%◌, ◌*◌, ◌+◌, ◌<◌}
use native.Mathlib.Omega.{arith}
use lib.Dec.{eqb, ltb}
use lib.ListN.{length, take}
use borrow.Author.Tests.{eqb-false, eqb-true, ltb-false, ltb-true}
use Rattle.json_text.proofs.Decoded.{size_pos}
use Rattle.json_text.proofs.Walk.{after_node}
use Rattle.json_text.specs.Bytes.{Bytes}
use Rattle.json_text.specs.Held.{HasMembers, IsNode}
use Rattle.json_text.specs.Limits.{max_depth, max_nodes, max_number, tidy}
use Rattle.json_text.specs.Links.{LinkedAt}
use Rattle.json_text.specs.Marks.{first_mark}
use Rattle.json_text.specs.Table.{after_at, kind_at, value_at}
use Rattle.order.proofs.Clearing.{cleared_further}
use Rattle.order.proofs.Linking.{count_small, fewer, further_words, linked_here, linked_there, object, rows}
use Rattle.order.proofs.Prefix.{node_rows}
use Rattle.json_text.proofs.Prefix.{word_prefix}
use Rattle.order.specs.Chained.{ClearedBehind, ordered_at}
use Rattle.order.specs.Ordered.{LinkedUpto, Ordered, Unordered}

-- ---- row by row
-- the same tree stands in a table with the same rows
module _ (s : Bytes) (w v : List ℕ) (u : Unordered s w) (rows : take first_mark v ≡ take first_mark w) where
  same_node : IsNode s v max_depth 0 × (value_at s v 0 ≡ value_at s w 0)
  same_node = node_rows s w v (fewer w v (after_at w 0) (count_small s w u) rows) u.root

  unordered_still : length v ≡ length w → Unordered s v
  unordered_still l = record { long = omega (arith, u.long); root = same_node.0; is_tidy = ap (tidy max_number) same_node.1 ∙ u.is_tidy }

  same_count : after_at v 0 ≡ after_at w 0
  same_count = word_prefix w v first_mark rows 2 (omega arith)

  same_kind : (n : ℕ) → n < after_at w 0 → kind_at v n ≡ kind_at w n
  same_kind n h = ap (λ (x : ℕ). x % 8) (word_prefix w v first_mark rows (3 * n) (omega (arith, count_small s w u)))

-- a row can be read
pub row_within : {s : Bytes} {w : List ℕ} {count k : ℕ} → Unordered s w → count ≡ after_at w 0 → k < count → (3 * k < length w) × (k < max_nodes)
row_within {s} {w} u c h = omega (arith, count_small s w u, u.long)

pub linked_none : (s : Bytes) (w : List ℕ) → LinkedUpto s w w 0
linked_none s w = record { rows = refl; further = refl; links = λ n h q. absurd (omega arith) }

module _ {s : Bytes} {w v : List ℕ} {k : ℕ} (u : Unordered s w) (long : length v ≡ length w) (l : LinkedUpto s w v k) (below : k < after_at w 0) where
  still : Unordered s v
  still = unordered_still s w v u l.rows long

  here : k < after_at v 0
  here = omega (arith, same_count s w v u l.rows)

  -- a row that is no object's
  pub passed : (kind_at v k ≡ 6 → ⊥) → LinkedUpto s w v (k + 1)
  passed f = record { rows = l.rows; further = l.further; links = λ n h q. go n h q (eqb n k) refl }
    where
      go : (n : ℕ) → n < k + 1 → kind_at w n ≡ 6 → (b : Bool) → eqb n k ≡ b → LinkedAt s v n
      go n h q true e = absurd (f (same_kind s w v u l.rows k below ∙ ap (kind_at w) (sym (eqb-true n k e)) ∙ q))
      go n h q false e = let ne = eqb-false n k e in l.links n (omega arith) q

  -- an object's
  pub its_members : kind_at v k ≡ 6 → HasMembers s v (k + 1) (after_at v k)
  its_members q = (object s v still k here q).members

  pub linked_one : kind_at v k ≡ 6 → LinkedUpto s w (ordered_at s v k) (k + 1)
  linked_one is_object =
      record {
        rows = rows s v still k here is_object ∙ l.rows;
        further = further_words s v still k here is_object ∙ l.further;
        links = λ n h q. go n h q (eqb n k) refl;
      }
    where
      go : (n : ℕ) → n < k + 1 → kind_at w n ≡ 6 → (b : Bool) → eqb n k ≡ b → LinkedAt s (ordered_at s v k) n
      go n h q true e = subst (LinkedAt s (ordered_at s v k)) (sym (eqb-true n k e)) (linked_here s v still k here is_object)
      go n h q false e =
          let ne = eqb-false n k e in
          linked_there s v still k here is_object n ne (omega (arith, here)) (same_kind s w v u l.rows n (omega arith) ∙ q) (l.links n (omega arith) q)

-- ---- the whole table
module _ {s : Bytes} {w v : List ℕ} {count : ℕ} (u : Unordered s w) (counted : count ≡ after_at w 0) (b : ClearedBehind w count v) (long : length v ≡ length w) where
  cleared_node : IsNode s v max_depth 0 × (value_at s v 0 ≡ value_at s w 0)
  cleared_node = node_rows s w v (subst (λ (x : ℕ). take (3 * x) v ≡ take (3 * x) w) counted b.rows) u.root

  pub cleared_table : Unordered s v
  cleared_table = record { long = omega (arith, u.long); root = cleared_node.0; is_tidy = ap (tidy max_number) cleared_node.1 ∙ u.is_tidy }

  pub cleared_count : count ≡ after_at v 0
  cleared_count = counted ∙ sym (word_prefix w v (3 * count) b.rows 2 (omega (arith, after_node s w u.root)))

  -- Every object is linked: those of the tree, and behind it there is none.
  pub ordered : {w' : List ℕ} → LinkedUpto s v w' count → length w' ≡ length v → Ordered s w w'
  ordered {w'} l m = record {
    root = node.0;
    same = node.1 ∙ cleared_node.1;
    linked = record { links = λ i h q. link i (omega (arith, h.is_node.most, size_pos h.is_node.tree)) q (ltb i count) refl };
    behind = λ i p q. word_prefix v w' first_mark l.rows i q ∙ b.none i (omega (arith, p, counts)) q;
    long = m ∙ long;
    further = l.further ∙ cleared_further b;
  }
    where
      node : IsNode s w' max_depth 0 × (value_at s w' 0 ≡ value_at s v 0)
      node = same_node s v w' cleared_table l.rows

      counts : after_at w' 0 ≡ count
      counts = same_count s v w' cleared_table l.rows ∙ sym cleared_count

      link : (i : ℕ) → i < max_nodes → kind_at w' i ≡ 6 → (t : Bool) → ltb i count ≡ t → LinkedAt s w' i
      link i h q true e = let z = word_prefix v w' first_mark l.rows (3 * i) (omega arith) in l.links i (ltb-true i count e) (ap (λ (x : ℕ). x % 8) (sym z) ∙ q)
      link i h q false e =
          let z = word_prefix v w' first_mark l.rows (3 * i) (omega arith) in
          let o = b.none (3 * i) (omega (arith, ltb-false i count e)) (omega arith) in
          absurd (omega (arith, z ∙ o, q))
