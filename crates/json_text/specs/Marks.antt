-- Marks: word 12,288 + n is odd where node n is marked. Marking leaves rows and links as they are.
-- Assumes nothing.
use Rattle.std.specs.Prelude.{Bool, false, true, List, [], ◌∷◌, suc, zero, ℕ, ◌%◌, ◌+◌, eqb, get_or}
use Rattle.json_text.specs.Bytes.{Bytes}
use Rattle.json_text.specs.Limits.{max_nodes}
use Rattle.json_text.specs.Spans.{text_at}
use Rattle.json_text.specs.Table.{start_at}

-- where the marks begin, behind the rows
abbrev pub first_mark : ℕ
first_mark = 12288

abbrev pub is_marked : List ℕ → ℕ → Bool
is_marked w n = eqb (get_or w (first_mark + n) 0 % 2) 1

-- the texts of the marked nodes among m nodes from k on, in the order of the table
unfoldable pub marked_from : Bytes → List ℕ → ℕ → ℕ → List Bytes
unfolding text_at
marked_from s w zero k = []
marked_from s w (suc m) k = elim (is_marked w k) [ true ↦ text_at s (start_at w k) ∷ marked_from s w m (k + 1) | false ↦ marked_from s w m (k + 1) ]

-- the texts of all marked nodes
unfoldable pub marked : Bytes → List ℕ → List Bytes
unfolding marked_from
marked s w = marked_from s w max_nodes 0
