-- A list whose nodes from a place on are in order, and one node more.
-- Assumes nothing.
use mathlib.Core.List.{List, [], append_assoc, append-nil, ◌++◌, ◌∷◌}
use mathlib.Core.Path.{ap, sym, ◌∙◌, ◌≡◌}
use Prim.Native.Nat.{ℕ, ◌+◌, ◌-◌, ◌<◌, ◌≤◌}
use native.Mathlib.Numerals.{add-one}
use native.Mathlib.Omega.{arith}
use borrow.Author.Rules.{part_to_end}
use borrow.Rule.Slice.PartMut.{Post-is, post_of, put_mid}
use lib.ListN.{drop, get_or, length, length-append, length-drop, take}
use lib.Seq.{drop_at, drop-cons, drop-length, get_or-drop, length-take-le, take_all, take_at, take-suc}
use Rattle.order.proofs.ByText.{length_by_key, text_drop, text_get_d, text_nodes_sorted}
use Rattle.order.proofs.Merging.{by_key_rising, rising_by_key, short_sorted}
use Rattle.order.specs.ByText.{Halves, TextNodes, by_key, insert, key_at}
use Rattle.json_text.specs.Bytes.{Bytes}

abbrev pub sorted_from : Bytes → List ℕ → List ℕ → ℕ → List ℕ
sorted_from s w nodes i = take i nodes ++ by_key (key_at s w) (drop i nodes)

module _ (s : Bytes) (w nodes : List ℕ) where
  pub none_sorted : nodes ≡ sorted_from s w nodes (length nodes)
  unfolding by_key
  none_sorted = sym (rw (take_all (length nodes) nodes (omega arith), drop-length nodes) (append-nil nodes))

  pub sorted_long : (i : ℕ) → i ≤ length nodes → length (sorted_from s w nodes i) ≡ length nodes
  sorted_long i h = rw (length-append, length_by_key, length-drop, length-take-le i nodes h) (omega arith)

  module _ (i : ℕ) (h : i < length nodes) (l : List ℕ) (e : l ≡ sorted_from s w nodes (i + 1)) where
    abbrev x : ℕ
    x = get_or nodes i 0

    abbrev rest : List ℕ
    rest = by_key (key_at s w) (drop (i + 1) nodes)

    opened : l ≡ take i nodes ++ x ∷ rest
    opened =
        let more : take (i + 1) nodes ≡ take i nodes ++ x ∷ [] = rw add-one (take-suc nodes i 0 h) in e ∙
        ap (λ (a : List ℕ). a ++ rest) more ∙
        append_assoc (take i nodes) (x ∷ []) rest

    long : length (take i nodes) ≡ i
    long = length-take-le i nodes (omega arith)

    behind : drop i l ≡ x ∷ rest
    behind = ap (drop i) opened ∙ drop_at (take i nodes) (x ∷ rest) i long

    within : i ≤ length l
    within = omega (arith, ap length e, sorted_long (i + 1) (omega arith))

    pub part : take (length l - i) (drop i l) ≡ x ∷ rest
    part = part_to_end l i ∙ behind

    pub first : get_or l i 0 ≡ x
    first = let z : i + 0 ≡ i = omega arith in sym (ap (λ (j : ℕ). get_or l j 0) z) ∙ sym (get_or-drop i l 0 0) ∙ ap (λ (a : List ℕ). get_or a 0 0) behind

    pub can_merge : 12288 ≤ length w → TextNodes s w nodes → Halves s w (get_or l i 0 ∷ []) (take (length l - i) (drop i l))
    unfolding TextNodes
    can_merge m t =
        rw (first, part)
        (record {
          long = m;
          texts = (text_get_d s w nodes i t h, tt);
          others = text_nodes_sorted s w (drop (i + 1) nodes) (text_drop s w nodes (i + 1) t);
          within = omega arith;
          in_order = sym (short_sorted (key_at s w) (x ∷ []) (omega arith));
          others_too = rising_by_key (key_at s w) (by_key_rising (key_at s w) (drop (i + 1) nodes));
        })

    pub merged_in : (m : List ℕ) → m ≡ by_key (key_at s w) (get_or l i 0 ∷ drop 1 (take (length l - i) (drop i l))) → put_mid i (length l - i) l m ≡ sorted_from s w nodes i
    unfolding by_key
    merged_in m f =
        let key = key_at s w in
        let post : post_of i (length l - i) l ≡ [] = Post-is i (length l) l within ∙ drop-length l in
        let front : take i l ≡ take i nodes = ap (take i) opened ∙ take_at (take i nodes) (x ∷ rest) i long in
        let more : drop i nodes ≡ x ∷ drop (i + 1) nodes = rw add-one (drop-cons nodes i 0 h) in
        let again : by_key key (x ∷ rest) ≡ by_key key (drop i nodes) = ap (insert key x) (rising_by_key key (by_key_rising key (drop (i + 1) nodes))) ∙ sym (ap (by_key key) more) in
        let whole : m ≡ by_key key (drop i nodes) = (rw (first, part) at f) ∙ again in
        rw (front, post, append-nil, whole)
