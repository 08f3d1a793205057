-- Bracketed forms as code lays them: a form that is open takes a further part, and the last one closes it.
-- Assumes nothing.
use mathlib.Core.List.{List, append_assoc, [], ◌++◌, ◌∷◌}
use mathlib.Core.Path.{ap, refl, sym, ◌∙◌, ◌≡◌}
use Rattle.answers.specs.Line.{form, opened, spaced}
use Rattle.json_text.specs.Bytes.{Bytes}

module _ (v : Bytes) where
  further : (w : Bytes) (ws : List Bytes) → spaced (w ∷ ws) ++ (32 ∷ v) ≡ spaced (w ∷ (ws ++ (v ∷ [])))
  unfolding spaced
  further w [] = refl
  further w (u ∷ ws) = rw append_assoc (ap (λ (l : Bytes). w ++ (32 ∷ l)) (further u ws))

  pub opened_further : (w : Bytes) (ws : List Bytes) → opened (w ∷ ws) ++ (32 ∷ v) ≡ opened (w ∷ (ws ++ (v ∷ [])))
  opened_further w ws = ap (λ (l : Bytes). 40 ∷ l) (further w ws)

  pub closed_with : (w : Bytes) (ws : List Bytes) → opened (w ∷ ws) ++ ((32 ∷ v) ++ (41 ∷ [])) ≡ form (w ∷ (ws ++ (v ∷ [])))
  closed_with w ws = sym (append_assoc (opened (w ∷ ws)) (32 ∷ v) (41 ∷ [])) ∙ ap (λ (l : Bytes). l ++ (41 ∷ [])) (opened_further w ws)
