-- The tree of a text with the place of every node, and the tree without them.
-- Assumes nothing.
use Rattle.std.specs.Prelude.{false, true, [], max, ℕ, ◌+◌, drop, length}
use Rattle.std.proofs.Math.Seq.{slice}
use Rattle.json_text.specs.Bytes.{Bytes}
use Rattle.json_text.specs.Json.{Members, Value, Values, array, bool, cons, empty, member, nil, null, number, object, text}
use Rattle.json_text.specs.Refusal.{Result, ok, refused}
use Rattle.json_text.specs.Scan.{Read}
use Rattle.json_text.specs.Strings.{chars}

-- what a node without brackets is
pub data Plain : Type 0 where
  is_null is_true is_false is_number is_text : Plain

-- Each node with the places where its text starts and ends: a string's content between the quotes, a number's characters, an array or object from its first bracket to past its last.
mutual
  pub data Node : Type 0 where
    leaf : Plain → ℕ → ℕ → Node
    arr : ℕ → ℕ → Nodes → Node
    obj : ℕ → ℕ → Fields → Node

  pub data Nodes : Type 0 where
    no_node : Nodes
    node : Node → Nodes → Nodes

  -- a member's name, by its places, and its value
  pub data Fields : Type 0 where
    no_field : Fields
    field : ℕ → ℕ → Node → Fields → Fields

-- the decoded text that stands from a place up to its closing quote
unfoldable pub got_of : Result (Read Bytes) → Bytes
got_of (ok x) = x.got
got_of (refused r) = []

unfoldable pub text_at : Bytes → ℕ → Bytes
unfolding got_of chars
text_at s at = got_of (chars (length (drop at s)) (drop at s))

-- the tree without its places
unfoldable pub plain : Bytes → Plain → ℕ → ℕ → Value
unfolding text_at
plain s is_null a e = null
plain s is_true a e = bool true
plain s is_false a e = bool false
plain s is_number a e = number (slice a e s)
plain s is_text a e = text (text_at s a)

unfoldable mutual
  unfolding plain

  pub erase : Bytes → Node → Value
  erase s (leaf k a e) = plain s k a e
  erase s (arr a e ts) = array (erase_in s ts)
  erase s (obj a e fs) = object (erase_of s fs)

  pub erase_in : Bytes → Nodes → Values
  erase_in s no_node = nil
  erase_in s (node t ts) = cons (erase s t) (erase_in s ts)

  pub erase_of : Bytes → Fields → Members
  erase_of s no_field = empty
  erase_of s (field a e t fs) = member (text_at s a) (erase s t) (erase_of s fs)

-- how many nodes there are, and how many brackets stand open at once
unfoldable mutual
  pub size : Node → ℕ
  size (leaf k a e) = 1
  size (arr a e ts) = 1 + size_in ts
  size (obj a e fs) = 1 + size_of fs

  pub size_in : Nodes → ℕ
  size_in no_node = 0
  size_in (node t ts) = size t + size_in ts

  pub size_of : Fields → ℕ
  size_of no_field = 0
  size_of (field a e t fs) = 1 + (size t + size_of fs)

unfoldable mutual
  pub deep : Node → ℕ
  deep (leaf k a e) = 0
  deep (arr a e ts) = 1 + deep_in ts
  deep (obj a e fs) = 1 + deep_of fs

  pub deep_in : Nodes → ℕ
  deep_in no_node = 0
  deep_in (node t ts) = max (deep t) (deep_in ts)

  pub deep_of : Fields → ℕ
  deep_of no_field = 0
  deep_of (field a e t fs) = max (deep t) (deep_of fs)
