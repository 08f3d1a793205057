-- Laws of clearing the work table: zeros written over a part of it, words that are zero already, and what a call leaves.
-- Assumes nothing.
use mathlib.Core.Bool.{Bool, false, true}
use mathlib.Core.List.{List, ◌++◌}
use mathlib.Core.Path.{ap, refl, subst, sym, ◌∙◌, ◌≡◌}
use Prim.Native.Nat.{ℕ, ◌*◌, ◌+◌, ◌-◌, ◌<◌, ◌≤◌}
use native.Mathlib.Omega.{arith}
use lib.Dec.{T, leb, leb→le}
use lib.ListN.{drop, get_or, length, length-drop, length-replicate, replicate, take}
use lib.Seq.{drop-append-add, drop-drop, length-take-le, take-append-add}
use Rattle.std.proofs.Common.{append_assoc}
use Rattle.std.proofs.lemmas.List.{ext_get_or, get_or-drop, get_or-replicate, get_or-take, replicate-append-replicate}
use borrow.Author.Tests.{leb-false, lt-leb}
use Rattle.json_text.proofs.Laws.{leb_true}
use Rattle.json_text.specs.Table.{after_at}
use Rattle.answers.specs.Entry.{work_after, work_words, zeros}
use Rattle.opening.specs.Opening.{Bounded}

-- what `fill` writes over n words
pub filled : (n : ℕ) (l : List ℕ) {f : List ℕ} → length l ≡ n → (((y : ℕ) → y ≡ 0 → y ≡ 0) → f ≡ replicate (length l) 0) → f ≡ zeros n
unfolding zeros
filled n l e h = h (λ y q. q) ∙ ap (λ (k : ℕ). replicate {A = ℕ} k 0) e

length_zeros : (n : ℕ) → length (zeros n) ≡ n
unfolding zeros
length_zeros n = length-replicate n 0

zeros_append : (n k : ℕ) → zeros n ++ zeros k ≡ zeros (n + k)
unfolding zeros
zeros_append n k = replicate-append-replicate n k 0

-- words that are zero already
zeros_here : (w : List ℕ) (n k : ℕ) → n + k ≤ length w → ((i : ℕ) → n ≤ i → i < n + k → get_or w i 0 ≡ 0) → take k (drop n w) ≡ zeros k
unfolding zeros
zeros_here w n k h z =
    let long : length (take k (drop n w)) ≡ k = length-take-le k (drop n w) (omega (arith, h, length-drop n w)) in
    ext_get_or 0 (take k (drop n w)) (replicate k 0) (long ∙ sym (length-replicate k 0))
    (λ i p. let q : i < k = omega (arith, p, long) in
    get_or-take k (drop n w) i 0 q ∙ get_or-drop n w i 0 ∙ z (n + i) (omega arith) (omega (arith, q)) ∙ sym (get_or-replicate k i 0 0 q))

-- zeros in the first n words, where the k behind them are zero, and then zeros in b words more
module _ (w : List ℕ) (n k b : ℕ) (long : n + k ≤ length w) (behind : (i : ℕ) → n ≤ i → i < n + k → get_or w i 0 ≡ 0) where
  laid_front : take (n + k) (zeros n ++ drop n w) ≡ zeros (n + k)
  laid_front =
      ap (λ (m : ℕ). take (m + k) (zeros n ++ drop n w)) (sym (length_zeros n)) ∙ take-append-add (zeros n) (drop n w) k ∙
      ap (λ (l : List ℕ). zeros n ++ l) (zeros_here w n k long behind) ∙ zeros_append n k

  laid_back : drop b (drop (n + k) (zeros n ++ drop n w)) ≡ drop (n + k + b) w
  laid_back =
      ap (λ (m : ℕ). drop b (drop (m + k) (zeros n ++ drop n w))) (sym (length_zeros n)) ∙ ap (drop b) (drop-append-add (zeros n) (drop n w) k ∙ drop-drop k n w) ∙
      drop-drop b (n + k) w

  laid : take (n + k) (zeros n ++ drop n w) ++ (zeros b ++ drop b (drop (n + k) (zeros n ++ drop n w))) ≡ zeros (n + k + b) ++ drop (n + k + b) w
  laid =
      ap (λ (l : List ℕ). l ++ (zeros b ++ drop b (drop (n + k) (zeros n ++ drop n w)))) laid_front ∙
      ap (λ (l : List ℕ). zeros (n + k) ++ (zeros b ++ l)) laid_back ∙ sym (append_assoc (zeros (n + k)) (zeros b) (drop (n + k + b) w)) ∙
      ap (λ (l : List ℕ). l ++ drop (n + k + b) w) (zeros_append (n + k) b)

-- what a call leaves, by whether the table is large enough
abbrev left : List ℕ → Bool → List ℕ
left w b = elim b [ false ↦ w | true ↦ zeros work_words ++ drop work_words w ]

by_size : (w : List ℕ) (b : Bool) → leb work_words (length w) ≡ b → work_after w ≡ left w b
unfolding work_after
by_size w b e = ap {B = List ℕ} (left w) e

pub cleared_table : (w : List ℕ) → 16384 ≤ length w → {f : List ℕ} → f ≡ zeros 16384 → f ++ drop 16384 w ≡ work_after w
cleared_table w h e = ap (λ (l : List ℕ). l ++ drop 16384 w) e ∙ sym (by_size w true (leb_true work_words (length w) h))

-- the rows up to the last node's end, and then the links
pub cleared_rows :
    {w : List ℕ} → 16384 ≤ length w → Bounded w → (n : ℕ) → n ≡ 3 * after_at w 0 → {f g : List ℕ} → f ≡ zeros n → g ≡ zeros 4096 →
    take 12288 (f ++ drop n w) ++ (g ++ drop 4096 (drop 12288 (f ++ drop n w))) ≡ work_after w
cleared_rows {w} l b n e {f} {g} p q =
    let all : n + (12288 - n) ≡ 12288 = omega (arith, e, b.few) in
    let P : ℕ → Type 0 = λ m. take m (zeros n ++ drop n w) ++ (zeros 4096 ++ drop 4096 (drop m (zeros n ++ drop n w))) ≡ zeros (m + 4096) ++ drop (m + 4096) w in
    ap (λ (x : List ℕ). take 12288 (x ++ drop n w) ++ (g ++ drop 4096 (drop 12288 (x ++ drop n w)))) p ∙
    ap (λ (x : List ℕ). take 12288 (zeros n ++ drop n w) ++ (x ++ drop 4096 (drop 12288 (zeros n ++ drop n w)))) q ∙
    subst P all
    (laid w n (12288 - n) 4096 (omega (arith, all, l)) (λ i h j. b.behind i (omega (arith, h, e)) (omega (arith, j, all)))) ∙
    cleared_table w l refl

pub small_table : (w : List ℕ) → length w < 16384 → w ≡ work_after w
small_table w h = sym (by_size w false (lt-leb work_words (length w) h))

-- what the call leaves is told by the table's size and its further words alone
pub same_left : (w w' : List ℕ) → length w' ≡ length w → (length w < 16384 → w' ≡ w) → (16384 ≤ length w → drop 16384 w' ≡ drop 16384 w) →
    work_after w' ≡ work_after w
same_left w w' e small past = go (leb work_words (length w)) refl
  where
    go : (b : Bool) → leb work_words (length w) ≡ b → work_after w' ≡ work_after w
    go true q =
        by_size w' true (ap (leb work_words) e ∙ q) ∙
        ap (λ (l : List ℕ). zeros 16384 ++ l) (past (leb→le work_words (length w) (subst T (sym q) tt))) ∙
        sym (by_size w true q)
    go false q = ap work_after (small (leb-false work_words (length w) q))
