-- What marking leaves: nothing, one mark, and one step after another; and what stays ready.
-- Assumes nothing.
use mathlib.Core.Bool.{Bool, false, true}
use mathlib.Core.List.Memᴰ
use mathlib.Core.List.{List, [], ◌++◌, ◌∷◌}
use mathlib.Core.Logic.{◌⊎◌, ◌≢◌, inl, inr}
use mathlib.Core.Path.{ap, refl, subst, sym, ◌∙◌, ◌≡◌}
use Prim.Native.Nat.{ℕ, ◌%◌, ◌*◌, ◌+◌, ◌<◌, ◌≤◌}
use native.Mathlib.Omega.{arith}
use lib.Dec.{eqb}
use lib.ListN.{get_or, length, length-set, set}
use lib.Seq.{drop-set-lt, get_or-set_other, get_or-set_same}
use borrow.Author.Tests.{eqb-false, eqb-true}
use Rattle.json_text.specs.Bytes.{Bytes}
use Rattle.json_text.specs.Links.{Linked, link_at}
use Rattle.json_text.specs.Spans.{text_at}
use Rattle.json_text.specs.Table.{start_at}
use Rattle.paths.specs.Marks.{Left, Marked, heard, missed}
use Rattle.paths.proofs.Words.{table_set}
use Rattle.semantics.specs.Names.{Named, Names}
use Rattle.paths.specs.Ready.{Ready}
use Rattle.paths.specs.Rooted.{Rooted}
use Rattle.members.specs.Sheet.{sheet_in}
use Rattle.paths.specs.Stored.{FramesAt, HasKind, table}
use Rattle.paths.specs.declared.frames.Frames.{Frames}
use Rattle.paths.specs.declared.roots.Roots.{Roots}

pub left_none : (s : Bytes) (w : List ℕ) → Left s w w []
left_none s w = record { rows = refl; long = refl; further = refl; only = λ x m. inl m; still = λ x m. m; added = λ x n. absurd (Memᴰ.not-nil n); texts = λ k h m. inl m }

pub left_then : {s : Bytes} {w w' w'' : List ℕ} {ns ms : Names} → Left s w w' ns → Left s w' w'' ms → Left s w w'' (ns ++ ms)
left_then {s} {w} {w'} {w''} {ns} {ms} a b = record {
  rows = b.rows ∙ a.rows;
  long = b.long ∙ a.long;
  further = b.further ∙ a.further;
  only = λ x m. go x (b.only x m);
  still = λ x m. b.still x (a.still x m);
  added = λ x n. pick x (Memᴰ.append_cases ns n);
  texts = λ k h m. text k h (b.texts k h m);
}
  where
    earlier : (x : Bytes) → Marked s w x ⊎ Named x ns → Marked s w x ⊎ Named x (ns ++ ms)
    earlier x (inl m) = inl m
    earlier x (inr n) = inr (Memᴰ.append_left ms n)

    go : (x : Bytes) → Marked s w' x ⊎ Named x ms → Marked s w x ⊎ Named x (ns ++ ms)
    go x (inl m) = earlier x (a.only x m)
    go x (inr n) = inr (Memᴰ.append_right ns n)

    pick : (x : Bytes) → Named x ns ⊎ Named x ms → Marked s w'' x
    pick x (inl n) = b.still x (a.added x n)
    pick x (inr n) = b.added x n

    text : (k : ℕ) → k < 4096 → (get_or w' (12288 + k) 0 % 2 ≡ 1) ⊎ HasKind s (table w') k 4 → (get_or w (12288 + k) 0 % 2 ≡ 1) ⊎ HasKind s (table w) k 4
    text k h (inl m) = a.texts k h m
    text k h (inr i) = inr (subst (λ (t : List ℕ). HasKind s t k 4) a.rows i)

-- one mark
module _ (s : Bytes) (w : List ℕ) (n : ℕ) (long : 16384 ≤ length w) (small : n < 4096) (row : HasKind s (table w) n 4) where
  abbrev w' : List ℕ
  w' = set w (12288 + n) (2 * link_at w n + 1)

  same_rows : table w' ≡ table w
  same_rows = table_set w n (2 * link_at w n + 1) (omega arith)

  odd : (x : ℕ) → (2 * x + 1) % 2 ≡ 1
  odd x = omega arith

  here : get_or w' (12288 + n) 0 % 2 ≡ 1
  here = ap (λ (x : ℕ). x % 2) (get_or-set_same w (12288 + n) (2 * link_at w n + 1) 0 (omega arith)) ∙ odd (link_at w n)

  there : (m : ℕ) → (m ≡ n → ⊥) → get_or w' (12288 + m) 0 ≡ get_or w (12288 + m) 0
  there m h = let ne : 12288 + m ≢ 12288 + n = λ e. h (omega arith) in get_or-set_other w (12288 + n) (12288 + m) (2 * link_at w n + 1) 0 ne

  pub left_mark : (x : Bytes) → text_at s (start_at (table w) n) ≡ x → Left s w w' (x ∷ [])
  left_mark x e = record {
    rows = same_rows;
    long = length-set w (12288 + n) (2 * link_at w n + 1);
    further = drop-set-lt 16384 w (12288 + n) (2 * link_at w n + 1) (omega arith);
    only = λ y m. only y m (eqb m.node n) refl;
    still = λ y m. still y m (eqb m.node n) refl;
    added = λ y k. record { node = n; small = small; mark = here; text = ap (λ (t : List ℕ). text_at s (start_at t n)) same_rows ∙ e ∙ sym (Memᴰ.eq_of_singleton k) };
    texts = λ k h m. text k m (eqb k n) refl;
  }
    where
      text : (k : ℕ) → get_or w' (12288 + k) 0 % 2 ≡ 1 → (b : Bool) → eqb k n ≡ b → (get_or w (12288 + k) 0 % 2 ≡ 1) ⊎ HasKind s (table w) k 4
      text k m true q = inr (subst (λ (i : ℕ). HasKind s (table w) i 4) (sym (eqb-true k n q)) row)
      text k m false q = inl (ap (λ (y : ℕ). y % 2) (sym (there k (eqb-false k n q))) ∙ m)

      moved : (y : Bytes) (m : ℕ) → text_at s (start_at (table w') m) ≡ y → text_at s (start_at (table w) m) ≡ y
      moved y m q = ap (λ (t : List ℕ). text_at s (start_at t m)) (sym same_rows) ∙ q

      only : (y : Bytes) (m : Marked s w' y) (b : Bool) → eqb m.node n ≡ b → Marked s w y ⊎ Named y (x ∷ [])
      only y m true q = inr (Memᴰ.head (sym (moved y m.node m.text) ∙ ap (λ (k : ℕ). text_at s (start_at (table w) k)) (eqb-true m.node n q) ∙ e))
      only y m false q =
          inl
          (record {
            node = m.node;
            small = m.small;
            mark = ap (λ (k : ℕ). k % 2) (sym (there m.node (eqb-false m.node n q))) ∙ m.mark;
            text = moved y m.node m.text;
          })

      back : (y : Bytes) (m : ℕ) → text_at s (start_at (table w) m) ≡ y → text_at s (start_at (table w') m) ≡ y
      back y m q = ap (λ (t : List ℕ). text_at s (start_at t m)) same_rows ∙ q

      still : (y : Bytes) (m : Marked s w y) (b : Bool) → eqb m.node n ≡ b → Marked s w' y
      still y m true q =
          record {
            node = m.node;
            small = m.small;
            mark = ap (λ (k : ℕ). get_or w' (12288 + k) 0 % 2) (eqb-true m.node n q) ∙ here;
            text = back y m.node m.text;
          }
      still y m false q =
          record {
            node = m.node;
            small = m.small;
            mark = ap (λ (k : ℕ). k % 2) (there m.node (eqb-false m.node n q)) ∙ m.mark;
            text = back y m.node m.text;
          }

  pub left_missed : (quiet : Bool) (x : Bytes) → text_at s (start_at (table w) n) ≡ x → Left s w (missed quiet w n) (heard quiet (x ∷ []))
  left_missed true x e = left_none s w
  left_missed false x e = left_mark x e

pub heard_then : (quiet : Bool) (ns ms : Names) → heard quiet (ns ++ ms) ≡ heard quiet ns ++ heard quiet ms
heard_then true ns ms = refl
heard_then false ns ms = refl

pub heard_none : (quiet : Bool) → heard quiet [] ≡ []
heard_none true = refl
heard_none false = refl

-- what is ready stays so
pub ready_after : {s : Bytes} {w w' : List ℕ} {roots : Roots} {f : Frames} {ns : Names} → Ready s w roots f → Left s w w' ns → Ready s w' roots f
ready_after {s} {roots = roots} {f = f} r l = record {
  rows = omega (arith, r.rows, l.long);
  short = r.short;
  rooted = subst (λ (t : List ℕ). Rooted (sheet_in s) s t roots) (sym l.rows) r.rooted;
  linked = subst (λ (t : List ℕ). Linked s t) (sym l.rows) r.linked;
  bound = subst (λ (t : List ℕ). FramesAt s t f) (sym l.rows) r.bound;
}
