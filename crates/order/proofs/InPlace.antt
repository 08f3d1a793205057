-- Merging in place: what stands so far, and what is still to come from the left and from behind.
-- Assumes nothing.
use mathlib.Core.Bool.{Bool, false, true}
use mathlib.Core.List.{List, ◌++◌, ◌∷◌}
use mathlib.Core.Path.{ap, refl, sym, ◌∙◌, ◌≡◌}
use Prim.Native.Nat.{ℕ, ◌+◌, ◌<◌, ◌≤◌}
use native.Mathlib.Numerals.{add-one}
use native.Mathlib.Omega.{arith}
use lib.ListN.{drop, drop_of_length-le, get_or, length, length-set, set, take, take-append-drop}
use lib.Seq.{append_snoc, drop-cons, drop-set-lt, take-suc-set}
use Rattle.order.proofs.Merging.{Rising, above_some, first_left, first_right, rising_by_key, rising_more, sorted_rises}
use Rattle.order.specs.ByText.{Halves, TextNodes, by_key, is_above, key_at}
use Rattle.json_text.specs.Bytes.{Bytes}

-- the left from i on and the nodes from j on are still to come; the nodes before k are done
pub record Merging (s : Bytes) (w left nodes₀ nodes : List ℕ) (i j k : ℕ) : Type 0 where
  pub within : i ≤ length left
  pub upto : j ≤ length nodes
  pub place : k + length left ≡ i + j
  pub long : length nodes ≡ length nodes₀
  pub rising : Rising (key_at s w) (drop i left)
  pub rising_too : Rising (key_at s w) (drop j nodes)
  pub texts : TextNodes s w (drop j nodes)
  pub whole : take k nodes ++ by_key (key_at s w) (drop i left ++ drop j nodes) ≡ by_key (key_at s w) (left ++ drop (length left) nodes₀)

rising_rest : {key : ℕ → Bytes} {x : ℕ} {xs : List ℕ} → Rising key (x ∷ xs) → Rising key xs
rising_rest (rising_more f r) = r

module _ (s : Bytes) (w left nodes₀ : List ℕ) where
  pub begins : Halves s w left nodes₀ → Merging s w left nodes₀ nodes₀ 0 (length left) 0
  begins h = record {
    within = omega arith;
    upto = h.within;
    place = omega arith;
    long = refl;
    rising = sorted_rises (key_at s w) left h.in_order;
    rising_too = sorted_rises (key_at s w) (drop (length left) nodes₀) h.others_too;
    texts = h.others;
    whole = refl;
  }

  module _ (nodes : List ℕ) (i j k : ℕ) (m : Merging s w left nodes₀ nodes i j k) where
    pub ended : length left ≤ i → nodes ≡ by_key (key_at s w) (left ++ drop (length left) nodes₀)
    ended h =
        let e : k ≡ j = omega arith in
        sym (take-append-drop k nodes) ∙ rw (e, ← rising_by_key (key_at s w) m.rising_too) (rw (drop_of_length-le left {i = i} h, e) at m.whole)

    -- one more is put in its place
    placed :
        (v i' j' : ℕ) → i' ≤ length left → j' ≤ length nodes → k < j' → k + 1 + length left ≡ i' + j' → Rising (key_at s w) (drop i' left) →
        Rising (key_at s w) (drop j' nodes) → TextNodes s w (drop j' nodes) →
        by_key (key_at s w) (drop i left ++ drop j nodes) ≡ v ∷ by_key (key_at s w) (drop i' left ++ drop j' nodes) →
        Merging s w left nodes₀ (set nodes k v) i' j' (k + 1)
    placed v i' j' a b h p r q t step =
        let same = drop-set-lt j' nodes k v h in
        let long = length-set nodes k v in
        record {
          within = a;
          upto = rw long b;
          place = p;
          long = long ∙ m.long;
          rising = r;
          rising_too = rw same q;
          texts = rw same t;
          whole =
              rw (same, add-one, take-suc-set nodes k v (omega arith))
              (append_snoc (take k nodes) v (by_key (key_at s w) (drop i' left ++ drop j' nodes)) ∙
              ap (λ (l : List ℕ). take k nodes ++ l) (sym step) ∙
              m.whole);
        }

    -- the next comes from behind, or from the left, as a comparison told
    module _ (h : i < length left) (told : Bool) (e : told ≡ is_above (key_at s w) (get_or left i 0) (drop j nodes)) where
      pub some_right : told ≡ true → j < length nodes
      some_right a = above_some (key_at s w) (get_or left i 0) nodes j (sym e ∙ a)

      pub turn_right : told ≡ true → Merging s w left nodes₀ (set nodes k (get_or nodes j 0)) i (j + 1) (k + 1)
      unfolding TextNodes is_above
      turn_right a =
          let l = some_right a in
          let x = drop-cons left i 0 h in
          let y = drop-cons nodes j 0 l in
          let r = rw y at m.rising_too in
          let q = rw x at m.rising in
          let t = rw y at m.texts in
          placed (get_or nodes j 0) i (j + 1) m.within (omega arith) (omega arith) (omega arith) m.rising
          (rw add-one (rising_rest r)) (rw add-one t.1) (rw (x, y, add-one) (first_right (key_at s w) q r (rw y at (sym e ∙ a))))

      pub turn_left : told ≡ false → Merging s w left nodes₀ (set nodes k (get_or left i 0)) (i + 1) j (k + 1)
      turn_left a =
          let x = drop-cons left i 0 h in
          let q = rw x at m.rising in
          placed (get_or left i 0) (i + 1) j (omega arith) m.upto (omega arith) (omega arith) (rw add-one (rising_rest q))
          m.rising_too m.texts (rw (x, add-one) (first_left (key_at s w) q m.rising_too (sym e ∙ a)))
