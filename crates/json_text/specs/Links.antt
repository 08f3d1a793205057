-- Links: word 12,288 + n is 2 * k, one more where node n is marked. An object's link is its least name, a name's link the next one, and the link of the last leads out of the object.
-- Assumes nothing.
use Rattle.std.specs.Prelude.{false, true, List, [], ◌∷◌, ◌≡◌, suc, zero, ℕ, ◌+◌, ◌-◌, ◌/◌, ltb, get_or}
use Rattle.json_text.specs.Bytes.{Bytes}
use Rattle.json_text.specs.Held.{HasNode}
use Rattle.json_text.specs.KeyOrder.{in_order, names_at, nodes_of}
use Rattle.json_text.specs.Marks.{first_mark}
use Rattle.json_text.specs.Table.{after_at, kind_at}

abbrev pub link_at : List ℕ → ℕ → ℕ
link_at w n = get_or w (first_mark + n) 0 / 2

-- from k on, each node's link, while it is below e; the first number bounds how many there are
unfoldable pub linked_by : List ℕ → ℕ → ℕ → ℕ → List ℕ
linked_by w zero k e = []
linked_by w (suc m) k e = elim (ltb k e) [ true ↦ k ∷ linked_by w m (link_at w k) e | false ↦ [] ]

-- an object's links lead through its names by ascending bytes
abbrev pub LinkedAt : Bytes → List ℕ → ℕ → Type 0
LinkedAt s w n = linked_by w (after_at w n - (n + 1)) (link_at w n) (after_at w n) ≡ nodes_of (in_order (names_at s w (n + 1) (after_at w n)))

-- and so for every node that is an object
pub record Linked (s : Bytes) (w : List ℕ) : Type 0 where
  pub links : (n : ℕ) → HasNode s w n → kind_at w n ≡ 6 → LinkedAt s w n
