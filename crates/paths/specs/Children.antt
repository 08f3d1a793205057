-- The children of a node as a list of nodes: an array's elements by place, the names of an object's members by their links.
-- Assumes nothing.
use Rattle.paths.specs.declared.children.Next.{Next}
use Rattle.std.specs.Prelude.{Bool, false, true, List, [], ◌∷◌, ◌≡◌, suc, zero, ℕ, ◌+◌, ◌-◌, ◌<◌, ◌≤◌, ltb, Option, Some, None}
use Rattle.json_text.specs.Bytes.{Bytes}
use Rattle.json_text.specs.Cursor.{OnText}
use Rattle.json_text.specs.Held.{HasNode}
use Rattle.json_text.specs.Limits.{max_nodes}
use Rattle.json_text.specs.Links.{link_at}
use Rattle.json_text.specs.Table.{after_at, start_at}
use Rattle.paths.specs.declared.children.Children.{Children}

-- the first child of a node, where it has one, and the child after another
abbrev pub first_at : List ℕ → Bool → ℕ → ℕ
first_at t true n = link_at t n
first_at t false n = n + 1

abbrev pub onward : List ℕ → Bool → ℕ → ℕ
onward t true k = link_at t k
onward t false k = after_at t k

-- what is still to be given: from k on, while it is below e; the number bounds how many there are
unfoldable pub children_by : List ℕ → Bool → ℕ → ℕ → ℕ → List ℕ
children_by t named e k zero = []
children_by t named e k (suc m) = elim (ltb k e) [ true ↦ k ∷ children_by t named e (onward t named k) m | false ↦ [] ]

abbrev pub children_of : List ℕ → Children → List ℕ
children_of t c = children_by t c.named c.end c.at c.left

-- the walk before its first child
abbrev pub begun : List ℕ → ℕ → Bool → Children
begun t n named = record { named = named; end = after_at t n; at = first_at t named n; left = after_at t n - (n + 1) }

-- one step of it
unfoldable pub next_by : List ℕ → Bool → ℕ → ℕ → ℕ → Option Next
next_by t named e k zero = None
next_by t named e k (suc m) = elim (ltb k e) [ true ↦ Some (record { node = k; rest = record { named = named; end = e; at = onward t named k; left = m } }) | false ↦ None ]

abbrev pub next_of : List ℕ → Children → Option Next
next_of t c = next_by t c.named c.end c.at c.left

-- a name's node, and the value behind it
pub record Named (s : Bytes) (t : List ℕ) (k : ℕ) : Type 0 where
  pub text : OnText s (start_at t k) 0
  pub value : HasNode s t (k + 1)

unfoldable pub ChildAt : Bytes → List ℕ → Bool → ℕ → Type 0
ChildAt s t false n = HasNode s t n
ChildAt s t true n = Named s t n

unfoldable pub EachAt : Bytes → List ℕ → Bool → List ℕ → Type 0
unfolding ChildAt
EachAt s t named [] = Unit {0}
EachAt s t named (k ∷ ks) = ChildAt s t named k × EachAt s t named ks

-- a walk whose children the table holds
pub record ChildrenAt (s : Bytes) (t : List ℕ) (c : Children) : Type 0 where
  pub within : c.end ≤ max_nodes
  pub each : EachAt s t c.named (children_of t c)

pub record Given (s : Bytes) (t : List ℕ) (c : Children) (n : ℕ) (rest : Children) : Type 0 where
  pub children : children_of t c ≡ n ∷ children_of t rest
  pub child : ChildAt s t c.named n
  pub walk : ChildrenAt s t rest
  pub same : rest.named ≡ c.named
  pub falls : rest.left < c.left
