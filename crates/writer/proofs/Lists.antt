-- A bracketed list as code lays it: its word, a space and a quoted text for each element, the closing bracket.
-- Assumes nothing.
use mathlib.Core.List.{List, append_assoc, append-nil, [], ◌++◌, ◌∷◌}
use mathlib.Core.Path.{ap, sym, ◌∙◌, ◌≡◌}
use Rattle.answers.specs.Line.{each_quoted, listed, quoted, spaced}
use Rattle.writer.specs.Once.{elements}
use Rattle.json_text.specs.Bytes.{Bytes}

spaced_is : (w : Bytes) (ts : List Bytes) → spaced (w ∷ each_quoted ts) ≡ w ++ elements ts
unfolding spaced each_quoted elements
spaced_is w [] = sym (append-nil w)
spaced_is w (t ∷ ts) = ap (λ (l : Bytes). w ++ (32 ∷ l)) (spaced_is (quoted t) ts)

pub listed_is : (w : Bytes) (ts : List Bytes) → (40 ∷ w) ++ (elements ts ++ (41 ∷ [])) ≡ listed w ts
listed_is w ts = sym (rw (spaced_is w ts, append_assoc))

pub elements_more : (t : Bytes) (ts : List Bytes) → elements (t ∷ ts) ++ (41 ∷ []) ≡ (32 ∷ quoted t) ++ (elements ts ++ (41 ∷ []))
unfolding elements
elements_more t ts = rw append_assoc

pub one_listed : (w t : Bytes) → (40 ∷ w) ++ ((32 ∷ quoted t) ++ (41 ∷ [])) ≡ listed w (t ∷ [])
unfolding elements
one_listed w t = ap (λ (l : Bytes). (40 ∷ w) ++ l) (sym (elements_more t [])) ∙ listed_is w (t ∷ [])
