-- The marked nodes, the texts of a list in order each once, and texts as a list has them.
-- Assumes nothing.
use Rattle.std.specs.Prelude.{Bool, cond, false, true, List, [], ◌++◌, ◌∷◌, ◌≡◌, suc, zero, ℕ, ◌+◌, ◌≤◌, length, take}
use Rattle.std.specs.Prelude.{Option, None, Some}
use Rattle.order.specs.ByText.{key_at}
use Rattle.json_text.specs.Bytes.{Bytes, same_bytes}
use Rattle.json_text.specs.Limits.{max_nodes}
use Rattle.json_text.specs.Marks.{is_marked}
use Rattle.json_text.specs.Spans.{text_at}
use Rattle.answers.specs.Line.{quoted, quoted_bytes}

-- the marked nodes among m from k on, in the order of the table
unfoldable pub marked_nodes_from : List ℕ → ℕ → ℕ → List ℕ
marked_nodes_from w zero k = []
marked_nodes_from w (suc m) k = elim (is_marked w k) [ true ↦ k ∷ marked_nodes_from w m (k + 1) | false ↦ marked_nodes_from w m (k + 1) ]

unfoldable pub marked_nodes : List ℕ → List ℕ
unfolding marked_nodes_from
marked_nodes w = marked_nodes_from w max_nodes 0

-- they stand at the front of an array
pub record Fronted (w ns : List ℕ) (count : ℕ) : Type 0 where
  pub are : take count ns ≡ marked_nodes w
  pub few : count ≤ max_nodes
  pub fits : count ≤ length ns

-- the texts of nodes
unfoldable pub texts_of : Bytes → List ℕ → List ℕ → List Bytes
unfolding text_at
texts_of s w [] = []
texts_of s w (n ∷ ns) = key_at s w n ∷ texts_of s w ns

-- whether a text is the last one again
unfoldable pub is_again : Option Bytes → Bytes → Bool
unfolding same_bytes
is_again None t = false
is_again (Some l) t = same_bytes l t

-- the texts that are not the one before them
unfoldable pub once_after : Option Bytes → List Bytes → List Bytes
unfolding is_again
once_after last [] = []
once_after last (t ∷ ts) = cond (is_again last t) (once_after (Some t) ts) (t ∷ once_after (Some t) ts)

-- a space and a quoted text, unless that is the last one again; and for each of a list
abbrev pub element_after : Option Bytes → Bytes → Bytes
element_after last t = cond (is_again last t) [] (32 ∷ quoted t)

unfoldable pub elements : List Bytes → Bytes
unfolding quoted_bytes
elements [] = []
elements (t ∷ ts) = (32 ∷ quoted t) ++ elements ts
