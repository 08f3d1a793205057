-- Two texts compared by `==`, and by definition.
-- Assumes nothing.
use mathlib.Core.Bool.{Bool, false, true, ◌&&◌}
use mathlib.Core.List.{[], ◌∷◌}
use mathlib.Core.Path.{ap, refl, sym, ◌∙◌, ◌≡◌}
use lib.Dec.{eqb}
use lib.Pointwise.{pointwise}
use Rattle.json_text.specs.Bytes.{Bytes, same_bytes}

pub same_by_pairs : (a b : Bytes) → pointwise eqb a b ≡ same_bytes a b
unfolding same_bytes
same_by_pairs [] [] = refl
same_by_pairs [] (d ∷ t) = refl
same_by_pairs (c ∷ s) [] = refl
same_by_pairs (c ∷ s) (d ∷ t) = by (eqb c d) (same_by_pairs s t)
  where
    by : (e : Bool) → pointwise eqb s t ≡ same_bytes s t → (e && pointwise eqb s t) ≡ (elim e [ true ↦ same_bytes s t | false ↦ false ])
    by true h = h
    by false h = refl

-- what `==` answered of a text and a word, by definition
pub by_equality : (a b word : Bytes) {r v : Bool} → r ≡ pointwise eqb a b → b ≡ word → r ≡ v → same_bytes a word ≡ v
by_equality a b word p q h = sym (same_by_pairs a word) ∙ ap (λ (x : Bytes). pointwise eqb a x) (sym q) ∙ sym p ∙ h
