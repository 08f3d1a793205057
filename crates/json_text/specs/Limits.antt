-- The limits: bytes, open brackets, nodes, bytes of a number; and what a tree must keep of them. A name stands once in an object.
-- Assumes nothing.
use Rattle.std.specs.Prelude.{Bool, not, true, ◌&&◌, max, ℕ, ◌+◌, leb, length}
use Rattle.json_text.specs.Bytes.{is_one_of}
use Rattle.json_text.specs.Json.{Members, Value, Values, array, bool, cons, empty, keys, member, nil, null, number, object, text}

-- how many brackets stand open at once
unfoldable mutual
  pub depth : Value → ℕ
  depth null = 0
  depth (bool b) = 0
  depth (number s) = 0
  depth (text s) = 0
  depth (array vs) = 1 + depth_in vs
  depth (object ms) = 1 + depth_of ms

  pub depth_in : Values → ℕ
  depth_in nil = 0
  depth_in (cons v vs) = max (depth v) (depth_in vs)

  pub depth_of : Members → ℕ
  depth_of empty = 0
  depth_of (member k v ms) = max (depth v) (depth_of ms)

-- each value and each member name is a node
unfoldable mutual
  pub nodes : Value → ℕ
  nodes null = 1
  nodes (bool b) = 1
  nodes (number s) = 1
  nodes (text s) = 1
  nodes (array vs) = 1 + nodes_in vs
  nodes (object ms) = 1 + nodes_of ms

  pub nodes_in : Values → ℕ
  nodes_in nil = 0
  nodes_in (cons v vs) = nodes v + nodes_in vs

  pub nodes_of : Members → ℕ
  nodes_of empty = 0
  nodes_of (member k v ms) = 1 + (nodes v + nodes_of ms)

-- no number is longer than the limit, and no object has a name twice
unfoldable mutual
  unfolding is_one_of

  pub tidy : ℕ → Value → Bool
  tidy limit null = true
  tidy limit (bool b) = true
  tidy limit (number s) = leb (length s) limit
  tidy limit (text s) = true
  tidy limit (array vs) = tidy_in limit vs
  tidy limit (object ms) = tidy_of limit ms

  pub tidy_in : ℕ → Values → Bool
  tidy_in limit nil = true
  tidy_in limit (cons v vs) = tidy limit v && tidy_in limit vs

  pub tidy_of : ℕ → Members → Bool
  tidy_of limit empty = true
  tidy_of limit (member k v ms) = not (is_one_of k (keys ms)) && (tidy limit v && tidy_of limit ms)

-- the limits
abbrev pub max_bytes : ℕ
max_bytes = 32768

abbrev pub max_depth : ℕ
max_depth = 64

abbrev pub max_nodes : ℕ
max_nodes = 4096

abbrev pub max_number : ℕ
max_number = 255
