-- Words among the first n of a table: another table that begins with these has them too.
-- Assumes nothing.
use mathlib.Core.List.{List, ◌++◌}
use mathlib.Core.Path.{ap, sym, ◌∙◌, ◌≡◌}
use Prim.Native.Nat.{ℕ, ◌+◌, ◌<◌, ◌≤◌}
use native.Mathlib.Omega.{arith}
use lib.ListN.{drop, get_or, length, take, take-append-drop}
use lib.Seq.{drop-append_seam, get_or-take, take-add, take-append_seam, take-take}
use Rattle.json_text.specs.Held.{Begins}

part_of : (n i m : ℕ) (w : List ℕ) → i + m ≤ n → take m (drop i w) ≡ drop (length (take i (take n w))) (take (i + m) (take n w))
part_of n i m w h = let l : i ≤ n = omega arith in rw (take-take i n w l, take-take (i + m) n w h, take-add i m w) (sym (drop-append_seam (take i w) (take m (drop i w))))

module _ (w v : List ℕ) (n : ℕ) (e : take n v ≡ take n w) where
  pub word_prefix : (i : ℕ) → i < n → get_or v i 0 ≡ get_or w i 0
  word_prefix i l = sym (get_or-take n v i 0 l) ∙ ap (λ (x : List ℕ). get_or x i 0) e ∙ get_or-take n w i 0 l

  pub begins_prefix : (i : ℕ) (vs : List ℕ) → i + length vs ≤ n → Begins w i vs → Begins v i vs
  begins_prefix i vs h (r, b) = (
    drop (length vs) (drop i v),
    sym (take-append-drop (length vs) (drop i v)) ∙ ap (λ (x : List ℕ). x ++ drop (length vs) (drop i v)) (part ∙ ap (take (length vs)) b ∙ take-append_seam vs r),
  )
    where
      part : take (length vs) (drop i v) ≡ take (length vs) (drop i w)
      part = part_of n i (length vs) v h ∙ ap (λ (x : List ℕ). drop (length (take i x)) (take (i + length vs) x)) e ∙ sym (part_of n i (length vs) w h)
