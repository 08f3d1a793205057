-- A table of words and roots, searched word by word.
-- Assumes nothing.
use mathlib.Core.Bool.{false, true}
use mathlib.Core.List.{List, [], ◌∷◌}
use mathlib.Core.Path.{ap, ◌∙◌, ◌≡◌}
use denote.Bor.{Bor}
use Prim.Native.Nat.{ℕ, ◌+◌, ◌<◌, ◌≤◌}
use Rattle.std.specs.Prelude.{None, Option, Some}
use native.Mathlib.Numerals.{add-one}
use lib.ListN.{drop, drop_of_length-le, get_or, length}
use lib.Seq.{drop-cons}
use Rattle.json_text.specs.Bytes.{Bytes, find, same_bytes}
use Rattle.paths.specs.declared.roots.Root.{Root}

-- the words of a table of the code
abbrev pub names_in : List (Bor (List ℕ) × Root) → List (Bytes × Root)
names_in [] = []
names_in (x ∷ xs) = (x.0.now, x.1) ∷ names_in xs

module _ (k : Bytes) (items : List (Bor (List ℕ) × Root)) (i : ℕ) {r : Option Root} (e : r ≡ find k (names_in (drop i items))) where
  pub named_none : length items ≤ i → r ≡ None
  unfolding find
  named_none h = e ∙ ap (λ (l : List (Bor (List ℕ) × Root)). find k (names_in l)) (drop_of_length-le items h)

  module _ (d : Bor (List ℕ) × Root) (h : i < length items) where
    first : r ≡ find k (names_in (get_or items i d ∷ drop (i + 1) items))
    first =
        let q : drop i items ≡ get_or items i d ∷ drop (i + 1) items = rw add-one (drop-cons items i d h) in
        e ∙ ap (λ (l : List (Bor (List ℕ) × Root)). find k (names_in l)) q

    pub named_here : same_bytes k (get_or items i d).0.now ≡ true → r ≡ Some (get_or items i d).1
    unfolding find
    named_here q = first ∙ rw (q, find)

    pub named_on : same_bytes k (get_or items i d).0.now ≡ false → r ≡ find k (names_in (drop (i + 1) items))
    unfolding find
    named_on q = first ∙ rw (q, find)
