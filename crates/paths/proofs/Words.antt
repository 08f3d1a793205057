-- The table's words: rows as they are, links without their marks.
-- Assumes nothing.
use mathlib.Core.List.{List, [], ◌++◌, ◌∷◌}
use mathlib.Core.Path.{ap, refl, sym, ◌∙◌, ◌≡◌}
use Prim.Native.Nat.{suc, zero, ℕ, ◌*◌, ◌+◌, ◌/◌, ◌<◌}
use native.Mathlib.Nat.{le_of_suc-le-suc, not-suc-le-zero, suc-add, zero-add}
use native.Mathlib.Omega.{arith}
use lib.ListN.{drop, get_or, set, take}
use lib.Seq.{get_or-take, take-nil}
use Rattle.json_text.specs.Links.{link_at}
use Rattle.paths.specs.Stored.{table, unmarked}

-- ---- words without their marks
even : (x : ℕ) → 2 * (x / 2) / 2 ≡ x / 2
even x = omega arith

unmarked_word : (w : List ℕ) (i : ℕ) → get_or (unmarked w) i 0 ≡ 2 * (get_or w i 0 / 2)
unfolding unmarked
unmarked_word [] i = refl
unmarked_word (x ∷ w) zero = refl
unmarked_word (x ∷ w) (suc i) = unmarked_word w i

unmarked_set : (m : ℕ) (w : List ℕ) (i v : ℕ) → v / 2 ≡ get_or w i 0 / 2 → unmarked (take m (set w i v)) ≡ unmarked (take m w)
unfolding unmarked
unmarked_set zero w i v e = refl
unmarked_set (suc m) [] i v e = refl
unmarked_set (suc m) (x ∷ w) zero v e = ap (λ (y : ℕ). 2 * y ∷ unmarked (take m w)) e
unmarked_set (suc m) (x ∷ w) (suc i) v e = ap {B = List ℕ} (λ r. 2 * (x / 2) ∷ r) (unmarked_set m w i v e)

unmarked_twice : (m : ℕ) (w : List ℕ) → unmarked (take m (unmarked (take m w))) ≡ unmarked (take m w)
unfolding unmarked
unmarked_twice zero w = refl
unmarked_twice (suc m) [] = refl
unmarked_twice (suc m) (x ∷ w) = rw (even, unmarked_twice m w)

-- ---- n words as they are, and m behind them without their marks
abbrev parts : ℕ → ℕ → List ℕ → List ℕ
parts n m w = take n w ++ unmarked (take m (drop n w))

parts_none : (n m : ℕ) → parts n m [] ≡ []
unfolding unmarked
parts_none zero m = rw take-nil
parts_none (suc n) m = rw take-nil

first_word : (n m : ℕ) (w : List ℕ) (i : ℕ) → i < n → get_or w i 0 ≡ get_or (parts n m w) i 0
first_word zero m w i h = absurd (not-suc-le-zero h)
first_word (suc n) m [] i h = rw parts_none
first_word (suc n) m (x ∷ w) zero h = refl
first_word (suc n) m (x ∷ w) (suc i) h = first_word n m w i (le_of_suc-le-suc h)

behind_word : (n m : ℕ) (w : List ℕ) (i : ℕ) → i < m → get_or (parts n m w) (n + i) 0 ≡ 2 * (get_or w (n + i) 0 / 2)
behind_word zero m w i h = rw (zero-add, unmarked_word, get_or-take)
behind_word (suc n) m [] i h = rw parts_none
behind_word (suc n) m (x ∷ w) i h = rw suc-add (behind_word n m w i h)

firsts : (n m : ℕ) (w : List ℕ) → take n (parts n m w) ≡ take n w
firsts zero m w = refl
firsts (suc n) m [] = rw parts_none
firsts (suc n) m (x ∷ w) = ap {B = List ℕ} (λ r. x ∷ r) (firsts n m w)

parts_set : (n m : ℕ) (w : List ℕ) (i v : ℕ) → v / 2 ≡ get_or w (n + i) 0 / 2 → parts n m (set w (n + i) v) ≡ parts n m w
parts_set zero m w i v e = rw zero-add (unmarked_set m w i v (rw zero-add at e))
parts_set (suc n) m [] i v e = refl
parts_set (suc n) m (x ∷ w) i v e = rw suc-add (ap {B = List ℕ} (λ r. x ∷ r) (parts_set n m w i v (rw suc-add at e)))

parts_twice : (n m : ℕ) (w : List ℕ) → parts n m (parts n m w) ≡ parts n m w
parts_twice zero m w = unmarked_twice m w
parts_twice (suc n) m [] = ap (parts (suc n) m) (parts_none (suc n) m)
parts_twice (suc n) m (x ∷ w) = ap {B = List ℕ} (λ r. x ∷ r) (parts_twice n m w)

-- ---- the table
pub row_word : (w : List ℕ) (i : ℕ) → i < 12288 → get_or w i 0 ≡ get_or (table w) i 0
unfolding table
row_word w i h = first_word 12288 4096 w i h

pub link_word : (w : List ℕ) (n : ℕ) → n < 4096 → link_at (table w) n ≡ link_at w n
unfolding table
link_word w n h = ap (λ (x : ℕ). x / 2) (behind_word 12288 4096 w n h) ∙ even (get_or w (12288 + n) 0)

pub rows_of_table : (w : List ℕ) → take 12288 (table w) ≡ take 12288 w
unfolding table
rows_of_table w = firsts 12288 4096 w

pub table_set : (w : List ℕ) (n v : ℕ) → v / 2 ≡ link_at w n → table (set w (12288 + n) v) ≡ table w
unfolding table
table_set w n v e = parts_set 12288 4096 w n v e

pub table_twice : (w : List ℕ) → table (table w) ≡ table w
unfolding table
table_twice w = parts_twice 12288 4096 w

-- the same table, the same words
module _ (w w' : List ℕ) (e : table w' ≡ table w) where
  pub same_row_word : (i : ℕ) → i < 12288 → get_or w' i 0 ≡ get_or w i 0
  same_row_word i h = row_word w' i h ∙ ap (λ (t : List ℕ). get_or t i 0) e ∙ sym (row_word w i h)

  pub same_link : (n : ℕ) → n < 4096 → link_at w' n ≡ link_at w n
  same_link n h = sym (link_word w' n h) ∙ ap (λ (t : List ℕ). link_at t n) e ∙ link_word w n h

  pub same_rows : take 12288 w' ≡ take 12288 w
  same_rows = sym (rows_of_table w') ∙ ap (take 12288) e ∙ rows_of_table w
