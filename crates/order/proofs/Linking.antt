-- One object more is linked: its links lead through its names by ascending bytes, and those of the others lead where they led.
-- Assumes nothing.
use mathlib.Core.List.{List, Memᴰ, ◌∷◌}
use mathlib.Core.Path.{ap, subst, sym, ◌∙◌, ◌≡◌}
use Prim.Native.Nat.{ℕ, ◌*◌, ◌+◌, ◌-◌, ◌<◌, ◌≤◌}
use native.Mathlib.Omega.{arith}
use lib.ListN.{drop, take}
use lib.Seq.{take-take}
use Rattle.json_text.proofs.Walk.{after_node, ordered_members}
use Rattle.json_text.specs.Bytes.{Bytes}
use Rattle.json_text.specs.Held.{HasMembers}
use Rattle.json_text.specs.KeyOrder.{in_order, names_at, nodes_of}
use Rattle.json_text.specs.Limits.{max_nodes, max_number}
use Rattle.json_text.specs.Links.{LinkedAt, link_at, linked_by}
use Rattle.json_text.specs.Marks.{first_mark}
use Rattle.json_text.specs.Table.{after_at, kind_at}
use Rattle.order.proofs.ByText.{by_key_within, length_by_key, names_sorted, text_all, text_get_d, text_nodes_sorted}
use Rattle.order.proofs.Chains.{chained_further, chained_leads, chained_other, chained_rows, leads_still}
use Rattle.order.proofs.Distinct.{Distinct, distinct_sorted, one_more}
use Rattle.order.proofs.Names.{name_row, names_ascend, names_few}
use Rattle.order.proofs.Owned.{owned}
use Rattle.order.proofs.Prefix.{names_rows}
use Rattle.json_text.proofs.Prefix.{word_prefix}
use Rattle.order.proofs.Rows.{ObjectRow, object_row}
use Rattle.order.specs.ByText.{TextNodes, by_key, key_at}
use Rattle.order.specs.Chained.{AllSmall, ordered_at}
use Rattle.order.specs.Ordered.{Unordered}

-- ---- nodes with a text
pub all_small : (s : Bytes) (w ns : List ℕ) → TextNodes s w ns → AllSmall ns
all_small s w ns t i h = (text_get_d s w ns i t h).small

pub names_text : {s : Bytes} {w : List ℕ} {k e : ℕ} → HasMembers s w k e → TextNodes s w (nodes_of (names_at s w k e))
names_text {s} {w} {k} {e} h = text_all s w (nodes_of (names_at s w k e)) (λ n i. (name_row s w h i).is_text)

pub members_within : {s : Bytes} {w : List ℕ} {k e : ℕ} → HasMembers s w k e → (k ≤ e) × (e ≤ max_nodes)
members_within {s} {w} h = (ordered_members s w h.members, h.members.most)

-- ---- one object more
-- words up to the links: those up to a node's row
pub fewer : (w v : List ℕ) (m : ℕ) → m ≤ max_nodes → take first_mark v ≡ take first_mark w → take (3 * m) v ≡ take (3 * m) w
fewer w v m h e = let l : 3 * m ≤ first_mark = omega arith in sym (take-take (3 * m) first_mark v l) ∙ ap (take (3 * m)) e ∙ take-take (3 * m) first_mark w l

-- links through the names as they were are links through the names as they are
linked_rows : {s : Bytes} (w v : List ℕ) (n : ℕ) → take first_mark v ≡ take first_mark w → n < max_nodes → after_at w n ≤ max_nodes →
    HasMembers s w (n + 1) (after_at w n) →
    linked_by v (after_at w n - (n + 1)) (link_at v n) (after_at w n) ≡ nodes_of (in_order (names_at s w (n + 1) (after_at w n))) → LinkedAt s v n
linked_rows {s} w v n e h l m q =
    let a : after_at v n ≡ after_at w n = word_prefix w v first_mark e (3 * n + 2) (omega arith) in
    rw (a, names_rows s w v (fewer w v (after_at w n) l e) m) q

module _ (s : Bytes) (w : List ℕ) (u : Unordered s w) where
  pub object : (n : ℕ) → n < after_at w 0 → kind_at w n ≡ 6 → ObjectRow s w n (after_at w 0)
  object n h q = object_row s w u.root u.is_tidy n (omega arith) h q

  pub count_small : after_at w 0 ≤ max_nodes
  count_small = (after_node s w u.root).1

  -- a name is no object
  no_object : {n j : ℕ} → n < after_at w 0 → kind_at w n ≡ 6 → Memᴰ j (nodes_of (names_at s w (n + 1) (after_at w n))) → kind_at w j ≡ 6 → ⊥
  no_object {n} h q i z = omega (arith, (name_row s w (object n h q).members i).is_kind)

  module _ (n : ℕ) (below : n < after_at w 0) (is_object : kind_at w n ≡ 6) where
    abbrev end : ℕ
    end = after_at w n

    abbrev names : List ℕ
    names = nodes_of (names_at s w (n + 1) end)

    abbrev in_keys : List ℕ
    in_keys = by_key (key_at s w) names

    within : {j : ℕ} → Memᴰ j in_keys → Memᴰ j names
    within i = by_key_within (key_at s w) names i

    members : HasMembers s w (n + 1) end
    members = (object n below is_object).members

    small : AllSmall in_keys
    small = all_small s w in_keys (text_nodes_sorted s w names (names_text members))

    pub rows : take first_mark (ordered_at s w n) ≡ take first_mark w
    rows = chained_rows w n in_keys end

    pub further_words : drop 16384 (ordered_at s w n) ≡ drop 16384 w
    further_words = chained_further w n in_keys end (omega (arith, count_small)) small

    distinct : Distinct (n ∷ in_keys)
    distinct = one_more (λ i. no_object below is_object (within i) is_object) (distinct_sorted (key_at s w) names (names_ascend s w members))

    pub linked_here : LinkedAt s (ordered_at s w n) n
    linked_here = linked_rows w (ordered_at s w n) n rows (omega (arith, count_small)) (members_within members).1 members (
        chained_leads w n in_keys end (end - (n + 1)) u.long distinct (omega (arith, count_small)) small
        (λ j i. omega (arith, (name_row s w members (within i)).upto))
        (omega (arith, length_by_key (key_at s w) names, names_few s w members))
        ∙ names_sorted max_number s w (n + 1) end (object n below is_object).is_tidy
        )

    pub linked_there : (i : ℕ) → (i ≡ n → ⊥) → i < after_at w 0 → kind_at w i ≡ 6 → LinkedAt s w i → LinkedAt s (ordered_at s w n) i
    linked_there i f h q l =
        linked_rows w (ordered_at s w n) i rows (omega (arith, count_small)) (members_within (object i h q).members).1
        (object i h q).members
        (ap (λ (k : ℕ). linked_by (ordered_at s w n) (after_at w i - (i + 1)) k (after_at w i)) first ∙
        leads_still w (ordered_at s w n) (after_at w i - (i + 1)) (link_at w i) (after_at w i) same ∙
        l)
      where
        first : link_at (ordered_at s w n) i ≡ link_at w i
        first = chained_other w n in_keys end i f (λ m. no_object below is_object (within m) q)

        own : (j : ℕ) → Memᴰ j (linked_by w (after_at w i - (i + 1)) (link_at w i) (after_at w i)) → Memᴰ j (nodes_of (names_at s w (i + 1) (after_at w i)))
        own j m =
            by_key_within (key_at s w) (nodes_of (names_at s w (i + 1) (after_at w i)))
            (subst (λ (x : List ℕ). Memᴰ j x) (l ∙ sym (names_sorted max_number s w (i + 1) (after_at w i) (object i h q).is_tidy)) m)

        same : (j : ℕ) → Memᴰ j (linked_by w (after_at w i - (i + 1)) (link_at w i) (after_at w i)) → link_at (ordered_at s w n) j ≡ link_at w j
        same j m =
            chained_other w n in_keys end j (λ e. no_object h q (own j m) (ap (kind_at w) e ∙ is_object))
            (λ k. owned s w u.root i n j (omega arith) h q (omega arith) below is_object f (own j m) (within k))
