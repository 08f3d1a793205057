-- What the reader's stores leave: rows after rows, and a bracket's own row written last.
-- Assumes nothing.
use mathlib.Core.List.{List, append-nil, [], ◌++◌, ◌∷◌}
use mathlib.Core.Path.{ap, refl, sym, ◌∙◌, ◌≡◌}
use Prim.Native.Nat.{suc, ℕ, ◌*◌, ◌+◌, ◌<◌, ◌≤◌}
use native.Mathlib.Nat.{add-zero}
use native.Mathlib.Omega.{arith}
use lib.ListN.{drop, length, set}
use lib.Seq.{drop-set-lt, set_comm, sets}
use Rattle.json_text.proofs.Decoded.{length_rows_in, length_rows_of}
use Rattle.leaves.proofs.Loops.{joined, joined_of, rows_in_more, rows_of_more}
use Rattle.json_text.specs.Spans.{Fields, Node, Nodes, arr, field, no_field, no_node, node, obj, size_in, size_of}
use Rattle.json_text.specs.Table.{rows, rows_in, rows_of}

-- one run after another
pub sets_append : (vs ws l : List ℕ) (i : ℕ) → sets l i (vs ++ ws) ≡ sets (sets l i vs) (i + length vs) ws
sets_append [] ws l i = rw add-zero
sets_append (v ∷ vs) ws l i =
    let e : suc i + length vs ≡ i + suc (length vs) = omega arith in
    sets_append vs ws (set l i v) (suc i) ∙ ap (λ (k : ℕ). sets (sets (set l i v) (suc i) vs) k ws) e

-- a write before a run
set_sets : (vs l : List ℕ) (i j x : ℕ) → i < j → set (sets l j vs) i x ≡ sets (set l i x) j vs
set_sets [] l i j x h = refl
set_sets (v ∷ vs) l i j x h =
    set_sets vs (set l j v) i (suc j) x (omega arith)
    ∙ ap (λ (k : List ℕ). sets k (suc j) vs) (set_comm l j i v x (λ e. omega arith))

row_before : (vs l : List ℕ) (i a b c : ℕ) → sets (sets l (suc (suc (suc i))) vs) i (a ∷ b ∷ c ∷ []) ≡ sets l i (a ∷ b ∷ c ∷ vs)
row_before vs l i a b c =
    let j = suc (suc (suc i)) in
    rw (set_sets vs l i j a (omega arith), set_sets vs (set l i a) (suc i) j b (omega arith), set_sets vs (set (set l i a) (suc i) b) (suc (suc i)) j c (omega arith))

-- what lies past a run stays
pub drop_sets : (vs w : List ℕ) (i n : ℕ) → i + length vs ≤ n → drop n (sets w i vs) ≡ drop n w
drop_sets [] w i n h = refl
drop_sets (v ∷ vs) w i n h = drop_sets vs (set w i v) (suc i) n (omega arith) ∙ drop-set-lt n w i v (omega arith)

opened : (a e : ℕ) (t : Node) (c : ℕ) (l : List ℕ) →
    sets l (3 * c) (rows_of (field a e t no_field) c) ≡
    sets (sets l (3 * c) ((8 * a + 4) ∷ e ∷ (c + 1) ∷ [])) (suc (suc (suc (3 * c)))) (rows t (c + 1))
unfolding rows_of
opened a e t c l = rw (append-nil (rows t (c + 1)))

module _ (w₀ w w' : List ℕ) (n c : ℕ) where
  pub words_item : (ts : Nodes) (t : Node) → w ≡ sets w₀ (3 * n) (rows_in ts n) → w' ≡ sets w (3 * c) (rows t c) → c ≡ n + size_in ts →
      w' ≡ sets w₀ (3 * n) (rows_in (joined ts (node t no_node)) n)
  words_item ts t p q e =
      let i : 3 * n + length (rows_in ts n) ≡ 3 * c = omega (arith, length_rows_in ts n) in
      q ∙ rw (p, rows_in_more ts t n, sets_append (rows_in ts n) (rows t (n + size_in ts)) w₀ (3 * n), i, ← e)

  pub words_arr : (ts : Nodes) (a e : ℕ) → w ≡ sets w₀ (3 * (n + 1)) (rows_in ts (n + 1)) → w' ≡ sets w (3 * n) ((8 * a + 5) ∷ e ∷ c ∷ []) →
      c ≡ n + 1 + size_in ts → w' ≡ sets w₀ (3 * n) (rows (arr a e ts) n)
  unfolding rows
  words_arr ts a e p q h = let i : 3 * (n + 1) ≡ suc (suc (suc (3 * n))) = omega arith in q ∙ rw (p, i, row_before (rows_in ts (n + 1)) w₀ (3 * n) (8 * a + 5) e c, h)

  pub words_obj : (fs : Fields) (a e : ℕ) → w ≡ sets w₀ (3 * (n + 1)) (rows_of fs (n + 1)) → w' ≡ sets w (3 * n) ((8 * a + 6) ∷ e ∷ c ∷ []) →
      c ≡ n + 1 + size_of fs → w' ≡ sets w₀ (3 * n) (rows (obj a e fs) n)
  unfolding rows
  words_obj fs a e p q h = let i : 3 * (n + 1) ≡ suc (suc (suc (3 * n))) = omega arith in q ∙ rw (p, i, row_before (rows_of fs (n + 1)) w₀ (3 * n) (8 * a + 6) e c, h)

  -- a name's row, and then its value's rows
  pub words_member : (fs : Fields) (a e : ℕ) (t : Node) (w'' : List ℕ) → w ≡ sets w₀ (3 * n) (rows_of fs n) →
      w'' ≡ sets w (3 * c) ((8 * a + 4) ∷ e ∷ (c + 1) ∷ []) → w' ≡ sets w'' (3 * (c + 1)) (rows t (c + 1)) → c ≡ n + size_of fs →
      w' ≡ sets w₀ (3 * n) (rows_of (joined_of fs (field a e t no_field)) n)
  words_member fs a e t w'' p q r h =
      let i : 3 * n + length (rows_of fs n) ≡ 3 * c = omega (arith, length_rows_of fs n) in
      let j : 3 * (c + 1) ≡ suc (suc (suc (3 * c))) = omega arith in
      r ∙
      rw (q, p, j)
      (sym
      (rw (rows_of_more fs a e t n, sets_append (rows_of fs n) (rows_of (field a e t no_field) (n + size_of fs)) w₀ (3 * n), i, ← h)
      (one (sets w₀ (3 * n) (rows_of fs n)))))
    where
      one : (l : List ℕ) → sets l (3 * c) (rows_of (field a e t no_field) c) ≡ sets (sets l (3 * c) ((8 * a + 4) ∷ e ∷ (c + 1) ∷ [])) (suc (suc (suc (3 * c)))) (rows t (c + 1))
      one l = opened a e t c l
