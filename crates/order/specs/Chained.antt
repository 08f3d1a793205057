-- Links written along nodes, one after the other.
-- Assumes nothing.
use Rattle.std.specs.Prelude.{List, [], ◌∷◌, ◌≡◌, ℕ, ◌*◌, ◌+◌, ◌<◌, ◌≤◌, drop, get_or, length, set, take}
use Rattle.order.specs.ByText.{by_key, key_at}
use Rattle.json_text.specs.Bytes.{Bytes}
use Rattle.json_text.specs.Held.{HasMembers}
use Rattle.json_text.specs.KeyOrder.{names_at, nodes_of}
use Rattle.json_text.specs.Limits.{max_nodes}
use Rattle.json_text.specs.Marks.{first_mark}
use Rattle.json_text.specs.Table.{after_at}

-- a node that can be linked to another, or to the end
pub record CanLink (w : List ℕ) (node next : ℕ) : Type 0 where
  pub long : 16384 ≤ length w
  pub here : node < max_nodes
  pub there : next ≤ max_nodes

-- a node's link, without a mark
abbrev pub linked : List ℕ → ℕ → ℕ → List ℕ
linked w node next = set w (first_mark + node) (2 * next)

-- from a node through others, and then to the end
unfoldable pub chained : List ℕ → ℕ → List ℕ → ℕ → List ℕ
chained w node [] end = linked w node end
chained w node (n ∷ ns) end = chained (linked w node n) n ns end

abbrev pub AllSmall : List ℕ → Type 0
AllSmall ns = (i : ℕ) → i < length ns → get_or ns i 0 < max_nodes

-- members whose names can be gathered, and the names' nodes
pub record CanGather (w : List ℕ) (from end room : ℕ) : Type 0 where
  pub long : 16384 ≤ length w
  pub sheet : Bytes
  pub members : HasMembers sheet w from end
  pub enough : end ≤ from + 2 * room

pub record Gathered (w : List ℕ) (from end : ℕ) (names : List ℕ) (count : ℕ) : Type 0 where
  pub few : count ≤ length names
  pub nodes : (s : Bytes) → take count names ≡ nodes_of (names_at s w from end)

-- an object whose names can be linked, and the links that it gets
pub record CanOrder (s : Bytes) (w : List ℕ) (node names spare : ℕ) : Type 0 where
  pub long : 16384 ≤ length w
  pub members : HasMembers s w (node + 1) (after_at w node)
  pub room : 2048 ≤ names
  pub more : 2048 ≤ spare

abbrev pub ordered_at : Bytes → List ℕ → ℕ → List ℕ
ordered_at s w node = chained w node (by_key (key_at s w) (nodes_of (names_at s w (node + 1) (after_at w node)))) (after_at w node)

-- the words up to a place stay, those behind it are zero up to the links, and the links and what follows stay
pub record ClearedBehind (w : List ℕ) (count : ℕ) (w' : List ℕ) : Type 0 where
  pub rows : take (3 * count) w' ≡ take (3 * count) w
  pub none : (i : ℕ) → 3 * count ≤ i → i < first_mark → get_or w' i 0 ≡ 0
  pub further : drop first_mark w' ≡ drop first_mark w
