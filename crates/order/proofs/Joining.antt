-- Two parts of a list in order, and the list in order.
-- Assumes nothing.
use mathlib.Core.Bool.{false}
use mathlib.Core.List.{List, [], append-nil, ◌++◌}
use mathlib.Core.Path.{ap, sym, ◌∙◌, ◌≡◌}
use Prim.Native.Nat.{suc, ℕ, ◌-◌, ◌<◌, ◌≤◌}
use native.Mathlib.Omega.{arith}
use borrow.Author.Rules.{part_to_end}
use borrow.Rule.Slice.PartMut.{Post-is, post_of, put_mid}
use lib.ListN.{drop, get_or, length, length-append, length-drop, take, take-append-drop}
use lib.Seq.{drop_at, drop-cons, drop-length, get_or-take, length-take-le, take_at}
use Rattle.order.proofs.ByText.{length_by_key, text_append, text_drop, text_nodes_sorted, text_take}
use Rattle.order.proofs.Merging.{AtMost, by_key_parts, by_key_rising, not_after, rising_by_key, rising_join, sorted_rises}
use Rattle.order.specs.ByText.{Halves, Joinable, TextNodes, by_key, is_after, key_at}
use Rattle.json_text.specs.Bytes.{Bytes}

module _ (s : Bytes) (w nodes : List ℕ) (mid : ℕ) (j : Joinable s w nodes mid) where
  pub front : length (take mid nodes) ≡ mid
  front = length-take-le mid nodes (omega arith)

  -- where the last of the first part is not after the first of the other, all is in order
  pub in_order_lem : is_after (key_at s w) (get_or nodes (mid - 1) 0) (get_or nodes mid 0) ≡ false → nodes ≡ by_key (key_at s w) nodes
  in_order_lem a =
      let key = key_at s w in
      let d = drop-cons nodes mid 0 j.within in
      let first : AtMost (key (get_or (take mid nodes) (mid - 1) 0)) (key (get_or nodes mid 0)) = rw
      (get_or-take mid nodes (mid - 1) 0 (omega arith)) (not_after key (get_or nodes (mid - 1) 0) (get_or nodes mid 0) a) in
      let r = rising_join key (take mid nodes) (mid - 1) (get_or nodes mid 0) (drop (suc mid) nodes) (omega (arith, front)) first
      (sorted_rises key (take mid nodes) j.in_order) (rw d at (sorted_rises key (drop mid nodes) j.others_too)) in
      sym (rising_by_key key (rw (← d, take-append-drop mid nodes) at r))

  -- the first part, copied to the front of another list
  pub copied : (l rest : List ℕ) → l ≡ take mid nodes ++ rest → take mid l ≡ take mid nodes
  copied l rest e = rw e (take_at (take mid nodes) rest mid front)

  module _ (left : List ℕ) (e : left ≡ take mid nodes) where
    pub halves : Halves s w left nodes
    halves =
        rw e
        (record {
          long = j.long;
          texts = text_take s w nodes mid j.texts;
          others = rw front (text_drop s w nodes mid j.texts);
          within = rw front (omega arith);
          in_order = j.in_order;
          others_too = rw front j.others_too;
        })

    pub merged : (l : List ℕ) → l ≡ by_key (key_at s w) (left ++ drop (length left) nodes) → l ≡ by_key (key_at s w) nodes
    merged l m = let whole : left ++ drop (length left) nodes ≡ nodes = rw (e, front) (take-append-drop mid nodes) in rw whole at m

-- a list whose first part was sorted in its place
module _ (s : Bytes) (w nodes a : List ℕ) (mid : ℕ) (h : mid ≤ length nodes) (e : a ≡ by_key (key_at s w) (take mid nodes)) where
  abbrev once : List ℕ
  once = a ++ drop mid nodes

  long_a : length a ≡ mid
  long_a = ap length e ∙ length_by_key (key_at s w) (take mid nodes) ∙ length-take-le mid nodes h

  once_long : length once ≡ length nodes
  once_long = rw (length-append, long_a, length-drop) (omega arith)

  second : take (length once - mid) (drop mid once) ≡ drop mid nodes
  second = part_to_end once mid ∙ drop_at a (drop mid nodes) mid long_a

  pub second_long : length (take (length once - mid) (drop mid once)) ≡ length nodes - mid
  second_long = ap length second ∙ length-drop mid nodes

  pub second_texts : TextNodes s w nodes → TextNodes s w (take (length once - mid) (drop mid once))
  second_texts t = rw second (text_drop s w nodes mid t)

  -- and then the other
  module _ (b : List ℕ) (f : b ≡ by_key (key_at s w) (take (length once - mid) (drop mid once))) where
    abbrev twice : List ℕ
    twice = put_mid mid (length once - mid) once b

    b_is : b ≡ by_key (key_at s w) (drop mid nodes)
    b_is = rw second at f

    twice_is : twice ≡ a ++ b
    twice_is =
        let post : post_of mid (length once - mid) once ≡ [] = Post-is mid (length once) once (rw once_long h) ∙ drop-length once in
        rw (take_at a (drop mid nodes) mid long_a, post, append-nil)

    pub joinable : 12288 ≤ length w → TextNodes s w nodes → 0 < mid → mid < length nodes → Joinable s w twice mid
    joinable long texts some within =
        let key = key_at s w in
        let left : take mid (a ++ b) ≡ a = take_at a b mid long_a in
        let right : drop mid (a ++ b) ≡ b = drop_at a b mid long_a in
        let sorted : TextNodes s w (by_key key (take mid nodes) ++ by_key key (drop mid nodes)) = text_append s w _ _
        (text_nodes_sorted s w (take mid nodes) (text_take s w nodes mid texts))
        (text_nodes_sorted s w (drop mid nodes) (text_drop s w nodes mid texts)) in
        rw twice_is
        (record {
          long = long;
          texts = rw (e, b_is) sorted;
          some = some;
          within = rw (length-append, long_a, b_is, length_by_key, length-drop) (omega arith);
          in_order = rw (left, e) (rising_by_key key (by_key_rising key (take mid nodes)));
          others_too = rw (right, b_is) (rising_by_key key (by_key_rising key (drop mid nodes)));
        })

    pub all_sorted : (l : List ℕ) → l ≡ by_key (key_at s w) twice → l ≡ by_key (key_at s w) nodes
    all_sorted l q =
        let same : by_key (key_at s w) twice ≡
        by_key (key_at s w) nodes = rw
        (twice_is, e, b_is, by_key_parts (key_at s w) (take mid nodes) (drop mid nodes), take-append-drop mid nodes) in q ∙
        same
