-- Nodes by the bytes of their texts.
-- Assumes nothing.
use Rattle.std.specs.Prelude.{Bool, false, true, List, [], ◌∷◌, ◌≡◌, drop, length, take}
use Prim.Native.Nat.{Ordering, ℕ, ◌<◌, ◌≤◌}
use Rattle.json_text.specs.Bytes.{Bytes, order_bytes}
use Rattle.json_text.specs.Cursor.{OnText}
use Rattle.json_text.specs.Limits.{max_nodes}
use Rattle.json_text.specs.Spans.{text_at}
use Rattle.json_text.specs.Table.{start_at}

-- a node's text
abbrev pub key_at : Bytes → List ℕ → ℕ → Bytes
key_at s w n = text_at s (start_at w n)

-- a node put before the first one whose key is not less
unfoldable pub insert : (ℕ → Bytes) → ℕ → List ℕ → List ℕ
unfolding order_bytes
insert key n [] = n ∷ []
insert key n (m ∷ ms) = elim (order_bytes (key n) (key m)) [ Ordering.lt ↦ n ∷ m ∷ ms | Ordering.eq ↦ n ∷ m ∷ ms | Ordering.gt ↦ m ∷ insert key n ms ]

-- by ascending keys; equal ones stay in their order
unfoldable pub by_key : (ℕ → Bytes) → List ℕ → List ℕ
unfolding insert
by_key key [] = []
by_key key (n ∷ ns) = insert key n (by_key key ns)

-- nodes whose texts can be compared
pub record TextNode (s : Bytes) (w : List ℕ) (n : ℕ) : Type 0 where
  pub small : n < max_nodes
  pub on_text : OnText s (start_at w n) 0

unfoldable pub TextNodes : Bytes → List ℕ → List ℕ → Type 0
TextNodes s w [] = Unit {0}
TextNodes s w (n ∷ ns) = TextNode s w n × TextNodes s w ns

-- whether a node comes after another, and after the first of several
abbrev pub is_more : Ordering → Bool
is_more Ordering.lt = false
is_more Ordering.eq = false
is_more Ordering.gt = true

abbrev pub is_after : (ℕ → Bytes) → ℕ → ℕ → Bool
is_after key n m = is_more (order_bytes (key n) (key m))

unfoldable pub is_above : (ℕ → Bytes) → ℕ → List ℕ → Bool
is_above key n [] = false
is_above key n (m ∷ ms) = is_after key n m

-- two lists in order: the one that stood at the front of the nodes, and what stands behind it
pub record Halves (s : Bytes) (w left nodes : List ℕ) : Type 0 where
  pub long : 12288 ≤ length w
  pub texts : TextNodes s w left
  pub others : TextNodes s w (drop (length left) nodes)
  pub within : length left ≤ length nodes
  pub in_order : by_key (key_at s w) left ≡ left
  pub others_too : by_key (key_at s w) (drop (length left) nodes) ≡ drop (length left) nodes

-- a list of which each part, before a place and behind it, is in order
pub record Joinable (s : Bytes) (w nodes : List ℕ) (mid : ℕ) : Type 0 where
  pub long : 12288 ≤ length w
  pub texts : TextNodes s w nodes
  pub some : 0 < mid
  pub within : mid < length nodes
  pub in_order : by_key (key_at s w) (take mid nodes) ≡ take mid nodes
  pub others_too : by_key (key_at s w) (drop mid nodes) ≡ drop mid nodes
