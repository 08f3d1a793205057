-- A table that holds a tree: the tree's rows stand at its node, and the tree fits the sheet.
-- Assumes nothing.
use Rattle.std.specs.Prelude.{List, ◌++◌, ◌≡◌, ℕ, ◌*◌, ◌+◌, ◌≤◌, drop}
use Rattle.json_text.specs.Bytes.{Bytes}
use Rattle.json_text.specs.Fits.{Fits, FitsIn, FitsOf}
use Rattle.json_text.specs.Limits.{max_depth, max_nodes}
use Rattle.json_text.specs.Spans.{Fields, Node, Nodes, deep, deep_in, deep_of, size, size_in, size_of}
use Rattle.json_text.specs.Table.{rows, rows_in, rows_of}

-- from the place i on, w begins with vs
abbrev pub Begins : List ℕ → ℕ → List ℕ → Type 0
Begins w i vs = (r : List ℕ) × (drop i w ≡ vs ++ r)

-- a node of the table with its tree, the nodes from k up to e, and the members
pub record NodeAt (s : Bytes) (w : List ℕ) (left n : ℕ) (t : Node) : Type 0 where
  pub words : Begins w (3 * n) (rows t n)
  pub shallow : deep t ≤ left
  pub fits : Fits s t

pub record NodesAt (s : Bytes) (w : List ℕ) (left k e : ℕ) (ts : Nodes) : Type 0 where
  pub words : Begins w (3 * k) (rows_in ts k)
  pub upto : e ≡ k + size_in ts
  pub shallow : deep_in ts ≤ left
  pub fits : FitsIn s ts

pub record FieldsAt (s : Bytes) (w : List ℕ) (left k e : ℕ) (fs : Fields) : Type 0 where
  pub words : Begins w (3 * k) (rows_of fs k)
  pub upto : e ≡ k + size_of fs
  pub shallow : deep_of fs ≤ left
  pub fits : FitsOf s fs

-- a node of the table, in which so many brackets are open at most; nodes from k up to e; members from k up to e
pub record IsNode (s : Bytes) (w : List ℕ) (left n : ℕ) : Type 0 where
  pub tree : Node
  pub held : NodeAt s w left n tree
  pub depth : left ≤ max_depth
  pub most : n + size tree ≤ max_nodes

pub record AreNodes (s : Bytes) (w : List ℕ) (left k e : ℕ) : Type 0 where
  pub tree : Nodes
  pub held : NodesAt s w left k e tree
  pub depth : left ≤ max_depth
  pub most : e ≤ max_nodes

pub record AreMembers (s : Bytes) (w : List ℕ) (left k e : ℕ) : Type 0 where
  pub tree : Fields
  pub held : FieldsAt s w left k e tree
  pub depth : left ≤ max_depth
  pub most : e ≤ max_nodes

-- the same, whatever brackets are left
pub record HasNode (s : Bytes) (w : List ℕ) (n : ℕ) : Type 0 where
  pub left : ℕ
  pub is_node : IsNode s w left n

pub record HasMembers (s : Bytes) (w : List ℕ) (k e : ℕ) : Type 0 where
  pub left : ℕ
  pub members : AreMembers s w left k e
