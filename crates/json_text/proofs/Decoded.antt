-- A table that holds a tree's rows is read back as the tree, node by node.
-- Assumes nothing.
use mathlib.Core.List.{List, append_assoc, [], ◌++◌, ◌∷◌}
use mathlib.Core.Path.{ap, refl, sym, ◌∙◌, ◌≡◌}
use Prim.Native.Nat.{suc, zero, ℕ, ◌*◌, ◌+◌, ◌-◌, ◌<◌, ◌≤◌}
use native.Mathlib.Nat.{add-zero}
use native.Mathlib.Omega.{arith}
use lib.ListN.{drop, get_or, length, length-append, length-drop}
use lib.Seq.{drop-append_seam, drop-drop, get_or-drop}
use Rattle.json_text.specs.Bytes.{Bytes}
use Rattle.json_text.specs.Fits.{Fits, FitsIn, FitsLeaf, FitsOf, Text, fits_arr, fits_field, fits_leaf, fits_node, fits_obj}
use Rattle.json_text.specs.Held.{FieldsAt, NodeAt, NodesAt}
use Rattle.json_text.specs.Json.{array, object}
use Rattle.json_text.specs.Spans.{
  Fields,
  Node,
  Nodes,
  Plain,
  arr,
  deep,
  erase,
  erase_in,
  erase_of,
  field,
  is_false,
  is_null,
  is_number,
  is_text,
  is_true,
  leaf,
  no_field,
  no_node,
  node,
  obj,
  plain,
  size,
  size_in,
  size_of,
}
use Rattle.json_text.specs.Table.{after_at, code, end_at, kind, kind_at, members_by, plain_kind, rows, rows_in, rows_of, shaped, start_at, value_by, values_by}
use borrow.Author.Tests.{le-ltb, lt-ltb}

word : (w : List ℕ) (i j : ℕ) (vs r : List ℕ) → drop i w ≡ vs ++ r → get_or w (i + j) 0 ≡ get_or (vs ++ r) j 0
word w i j vs r e = sym (get_or-drop i w j 0) ∙ ap (λ (l : List ℕ). get_or l j 0) e

word_0 : (w : List ℕ) (i : ℕ) (vs r : List ℕ) → drop i w ≡ vs ++ r → get_or w i 0 ≡ get_or (vs ++ r) 0 0
word_0 w i vs r e = ap (λ (n : ℕ). get_or w n 0) (sym (add-zero i)) ∙ word w i 0 vs r e

-- what follows vs
rest : (w : List ℕ) (i k : ℕ) (vs us r : List ℕ) → drop i w ≡ (vs ++ us) ++ r → k ≡ i + length vs → drop k w ≡ us ++ r
rest w i k vs us r e h = ap (λ (n : ℕ). drop n w) h ∙ sym (drop-drop (length vs) i w) ∙ rw (e, append_assoc) (drop-append_seam vs (us ++ r))

mutual
  unfolding rows size

  pub length_rows : (t : Node) (n : ℕ) → length (rows t n) ≡ 3 * size t
  length_rows (leaf k a e) n = refl
  length_rows (arr a e ts) n = omega (arith, length_rows_in ts (n + 1))
  length_rows (obj a e fs) n = omega (arith, length_rows_of fs (n + 1))

  pub length_rows_in : (ts : Nodes) (n : ℕ) → length (rows_in ts n) ≡ 3 * size_in ts
  length_rows_in no_node n = refl
  length_rows_in (node t ts) n = omega (arith, length-append (rows t n) (rows_in ts (n + size t)), length_rows t n, length_rows_in ts (n + size t))

  pub length_rows_of : (fs : Fields) (n : ℕ) → length (rows_of fs n) ≡ 3 * size_of fs
  length_rows_of no_field n = refl
  length_rows_of (field a e t fs) n = omega (arith, length-append (rows t (n + 1)) (rows_of fs (n + 1 + size t)), length_rows t (n + 1), length_rows_of fs (n + 1 + size t))

pub size_pos : (t : Node) → 0 < size t
unfolding size
size_pos (leaf k a e) = omega arith
size_pos (arr a e ts) = omega arith
size_pos (obj a e fs) = omega arith

-- a row and what it says
pub record Row (w : List ℕ) (n a k e after : ℕ) : Type 0 where
  pub is_kind : kind_at w n ≡ k
  pub is_start : start_at w n ≡ a
  pub is_end : end_at w n ≡ e
  pub is_after : after_at w n ≡ after
  pub inside : 3 * n + 3 ≤ length w

row : (w : List ℕ) (n a k e after : ℕ) (vs : List ℕ) → k < 8 → drop (3 * n) w ≡ (8 * a + k) ∷ e ∷ after ∷ vs → Row w n a k e after
row w n a k e after vs h q =
    let z : get_or w (3 * n) 0 ≡ 8 * a + k = word_0 w (3 * n) ((8 * a + k) ∷ e ∷ after ∷ []) vs q in
    record {
      is_kind = omega arith;
      is_start = omega arith;
      is_end = word w (3 * n) 1 ((8 * a + k) ∷ e ∷ after ∷ []) vs q;
      is_after = word w (3 * n) 2 ((8 * a + k) ∷ e ∷ after ∷ []) vs q;
      inside = omega (arith, ap length q, length-drop (3 * n) w);
    }

code_small : (k : Plain) → code k < 8
code_small is_null = omega arith
code_small is_true = omega arith
code_small is_false = omega arith
code_small is_number = omega arith
code_small is_text = omega arith

kind_code : (k : Plain) → kind (code k) ≡ plain_kind k
kind_code is_null = refl
kind_code is_true = refl
kind_code is_false = refl
kind_code is_number = refl
kind_code is_text = refl

module _ (s : Bytes) (w : List ℕ) where
  pub leaf_row : (left n : ℕ) (k : Plain) (a e : ℕ) → NodeAt s w left n (leaf k a e) → Row w n a (code k) e (n + 1)
  unfolding rows
  leaf_row left n k a e h = row w n a (code k) e (n + 1) h.words.0 (code_small k) h.words.1

  pub arr_row : (left n a e : ℕ) (ts : Nodes) → NodeAt s w left n (arr a e ts) → Row w n a 5 e (n + 1 + size_in ts)
  unfolding rows
  arr_row left n a e ts h = row w n a 5 e (n + 1 + size_in ts) (rows_in ts (n + 1) ++ h.words.0) (omega arith) h.words.1

  pub obj_row : (left n a e : ℕ) (fs : Fields) → NodeAt s w left n (obj a e fs) → Row w n a 6 e (n + 1 + size_of fs)
  unfolding rows
  obj_row left n a e fs h = row w n a 6 e (n + 1 + size_of fs) (rows_of fs (n + 1) ++ h.words.0) (omega arith) h.words.1

  -- the parts
  pub leaf_fits : {k : Plain} {a e : ℕ} → Fits s (leaf k a e) → FitsLeaf s k a e
  leaf_fits (fits_leaf f) = f

  arr_fits : {a e : ℕ} {ts : Nodes} → Fits s (arr a e ts) → FitsIn s ts
  arr_fits (fits_arr o f) = f

  obj_fits : {a e : ℕ} {fs : Fields} → Fits s (obj a e fs) → FitsOf s fs
  obj_fits (fits_obj o f) = f

  head_fits : {t : Node} {ts : Nodes} → FitsIn s (node t ts) → Fits s t × FitsIn s ts
  head_fits (fits_node f g) = (f, g)

  field_fits : {a e : ℕ} {t : Node} {fs : Fields} → FitsOf s (field a e t fs) → Text s a e × Fits s t × FitsOf s fs
  field_fits (fits_field x f g) = (x, f, g)

  pub arr_parts : (left n a e : ℕ) (ts : Nodes) → NodeAt s w left n (arr a e ts) → (1 ≤ left) × NodesAt s w (left - 1) (n + 1) (n + 1 + size_in ts) ts
  unfolding rows deep
  arr_parts left n a e ts h = (
    omega (arith, h.shallow),
    record {
      words = (
        h.words.0,
        rest w (3 * n) (3 * (n + 1)) ((8 * a + 5) ∷ e ∷ (n + 1 + size_in ts) ∷ []) (rows_in ts (n + 1)) h.words.0
            h.words.1 (omega arith),
      );
      upto = refl;
      shallow = omega (arith, h.shallow);
      fits = arr_fits h.fits;
    },
  )

  pub obj_parts : (left n a e : ℕ) (fs : Fields) → NodeAt s w left n (obj a e fs) → (1 ≤ left) × FieldsAt s w (left - 1) (n + 1) (n + 1 + size_of fs) fs
  unfolding rows deep
  obj_parts left n a e fs h = (
    omega (arith, h.shallow),
    record {
      words = (
        h.words.0,
        rest w (3 * n) (3 * (n + 1)) ((8 * a + 6) ∷ e ∷ (n + 1 + size_of fs) ∷ []) (rows_of fs (n + 1)) h.words.0
            h.words.1 (omega arith),
      );
      upto = refl;
      shallow = omega (arith, h.shallow);
      fits = obj_fits h.fits;
    },
  )

  pub node_after : (left n : ℕ) (t : Node) → NodeAt s w left n t → after_at w n ≡ n + size t
  unfolding size
  node_after left n (leaf k a e) h = (leaf_row left n k a e h).is_after
  node_after left n (arr a e ts) h = omega (arith, (arr_row left n a e ts h).is_after)
  node_after left n (obj a e fs) h = omega (arith, (obj_row left n a e fs h).is_after)

  pub nodes_parts : (left k e : ℕ) (t : Node) (ts : Nodes) → NodesAt s w left k e (node t ts) → NodeAt s w left k t × NodesAt s w left (k + size t) e ts
  unfolding rows size deep
  nodes_parts left k e t ts h =
      let f = head_fits h.fits in
      let r = h.words.0 in (
        record { words = (rows_in ts (k + size t) ++ r, h.words.1 ∙ append_assoc (rows t k) (rows_in ts (k + size t)) r); shallow = omega (arith, h.shallow); fits = f.0 },
        record {
          words = (
            r,
            rest w (3 * k) (3 * (k + size t)) (rows t k) (rows_in ts (k + size t)) r h.words.1
                (omega (arith, length_rows t k)),
          );
          upto = omega (arith, h.upto);
          shallow = omega (arith, h.shallow);
          fits = f.1;
        },
      )

  pub fields_parts : (left k e a b : ℕ) (t : Node) (fs : Fields) → FieldsAt s w left k e (field a b t fs) →
      Row w k a 4 b (k + 1) × Text s a b × NodeAt s w left (k + 1) t × FieldsAt s w left (k + 1 + size t) e fs
  unfolding rows size deep
  fields_parts left k e a b t fs h =
      let f = field_fits h.fits in
      let r = h.words.0 in
      let us = rows_of fs (k + 1 + size t) in
      let z : drop (3 * (k + 1)) w ≡
      (rows t (k + 1) ++ us) ++
      r = rest w (3 * k) (3 * (k + 1)) ((8 * a + 4) ∷ b ∷ (k + 1) ∷ []) (rows t (k + 1) ++ us) r h.words.1 (omega arith) in (
        row w k a 4 b (k + 1) ((rows t (k + 1) ++ us) ++ r) (omega arith) h.words.1,
        f.0,
        record { words = (us ++ r, z ∙ append_assoc (rows t (k + 1)) us r); shallow = omega (arith, h.shallow); fits = f.1 },
        record {
          words = (r, rest w (3 * (k + 1)) (3 * (k + 1 + size t)) (rows t (k + 1)) us r z (omega (arith, length_rows t (k + 1))));
          upto = omega (arith, h.upto);
          shallow = omega (arith, h.shallow);
          fits = f.2;
        },
      )

  -- ---- the tree is read back
  arr_value : (left n a e : ℕ) (ts : Nodes) → NodeAt s w (suc left) n (arr a e ts) →
      value_by (suc left) s w n ≡ array (values_by (value_by left s w) w (size_in ts) (n + 1) (n + 1 + size_in ts))
  unfolding value_by shaped
  arr_value left n a e ts h =
      let r = arr_row (suc left) n a e ts h in
      let q : n + 1 + size_in ts - (n + 1) ≡ size_in ts = omega arith in
      rw (r.is_kind, r.is_after, q)

  obj_value : (left n a e : ℕ) (fs : Fields) → NodeAt s w (suc left) n (obj a e fs) →
      value_by (suc left) s w n ≡ object (members_by (value_by left s w) s w (size_of fs) (n + 1) (n + 1 + size_of fs))
  unfolding value_by shaped
  obj_value left n a e fs h =
      let r = obj_row (suc left) n a e fs h in
      let q : n + 1 + size_of fs - (n + 1) ≡ size_of fs = omega arith in
      rw (r.is_kind, r.is_after, q)

  leaf_value : (left n : ℕ) (k : Plain) (a e : ℕ) → NodeAt s w left n (leaf k a e) → value_by left s w n ≡ plain s k a e
  unfolding value_by shaped
  leaf_value left n k a e h = go left
    where
      r : Row w n a (code k) e (n + 1)
      r = leaf_row left n k a e h

      go : (l : ℕ) → value_by l s w n ≡ plain s k a e
      go zero = rw (r.is_kind, kind_code k, r.is_start, r.is_end)
      go (suc l) = rw (r.is_kind, kind_code k, r.is_start, r.is_end)

  mutual
    unfolding erase size deep values_by members_by

    pub decoded : (t : Node) (left n : ℕ) → NodeAt s w left n t → value_by left s w n ≡ erase s t
    decoded (leaf k a e) left n h = leaf_value left n k a e h
    decoded (arr a e ts) zero n h = absurd (omega (arith, h.shallow))
    decoded (arr a e ts) (suc left) n h =
        arr_value left n a e ts h ∙
        ap array
        (decoded_in ts left (n + 1) (n + 1 + size_in ts) (size_in ts) (omega arith)
        (let q : suc left - 1 ≡ left = omega arith in rw q at (arr_parts (suc left) n a e ts h).1))
    decoded (obj a e fs) zero n h = absurd (omega (arith, h.shallow))
    decoded (obj a e fs) (suc left) n h =
        obj_value left n a e fs h ∙
        ap object
        (decoded_of fs left (n + 1) (n + 1 + size_of fs) (size_of fs) (omega arith)
        (let q : suc left - 1 ≡ left = omega arith in rw q at (obj_parts (suc left) n a e fs h).1))

    pub decoded_in : (ts : Nodes) (left k e m : ℕ) → size_in ts ≤ m → NodesAt s w left k e ts → values_by (value_by left s w) w m k e ≡ erase_in s ts
    decoded_in no_node left k e zero l h = refl
    decoded_in no_node left k e (suc m) l h = let q : e ≤ k = omega (arith, h.upto) in rw (le-ltb _ _ q, values_by)
    decoded_in (node t ts) left k e zero l h = absurd (omega (arith, size_pos t))
    decoded_in (node t ts) left k e (suc m) l h =
        let p = nodes_parts left k e t ts h in
        let q : k < e = omega (arith, h.upto, size_pos t) in
        rw (lt-ltb _ _ q, values_by, decoded t left k p.0, node_after left k t p.0, decoded_in ts left (k + size t) e m (omega (arith, size_pos t)) p.1)

    pub decoded_of : (fs : Fields) (left k e m : ℕ) → size_of fs ≤ m → FieldsAt s w left k e fs → members_by (value_by left s w) s w m k e ≡ erase_of s fs
    decoded_of no_field left k e zero l h = refl
    decoded_of no_field left k e (suc m) l h = let q : e ≤ k = omega (arith, h.upto) in rw (le-ltb _ _ q, members_by)
    decoded_of (field a b t fs) left k e zero l h = absurd (omega arith)
    decoded_of (field a b t fs) left k e (suc m) l h =
        let p = fields_parts left k e a b t fs h in
        let q : k < e = omega (arith, h.upto) in
        rw (lt-ltb _ _ q, members_by, p.0.is_start, decoded t left (k + 1) p.2, node_after left (k + 1) t p.2, decoded_of fs left (k + 1 + size t) e m (omega arith) p.3)
