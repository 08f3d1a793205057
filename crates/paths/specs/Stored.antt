-- What the table holds for evaluation: trees whose members stand by ascending key, and what operands and frames of the code stand for.
-- Assumes nothing.
use Rattle.std.specs.Prelude.{false, true, List, [], ◌++◌, ◌∷◌, ◌≡◌, ℕ, ◌*◌, ◌+◌, ◌/◌, ◌<◌, ◌≤◌, drop, length, take}
use Rattle.std.proofs.Math.Seq.{slice}
use Rattle.json_text.specs.Bytes.{Bytes}
use Rattle.json_text.specs.Held.{AreNodes, HasNode}
use Rattle.json_text.specs.Json.{Members, Value, Values, array, bool, null, number, object, text}
use Rattle.json_text.specs.Limits.{max_nodes}
use Rattle.json_text.specs.Sorted.{sorted, sorted_in, sorted_of}
use Rattle.json_text.specs.Spans.{text_at}
use Rattle.json_text.specs.Table.{after_at, end_at, kind_at, members_at, start_at, value_at, values_at}
use Rattle.paths.specs.Lazy as lazy
use Rattle.paths.specs.Lazy.{given, listed, named}
use Rattle.paths.specs.Stack.{Named, held}
use Rattle.paths.specs.declared.frames.Frame.{Frame}
use Rattle.paths.specs.declared.frames.Frames.{Frames}
use Rattle.paths.specs.declared.operand.Kind.{Kind}
use Rattle.paths.specs.declared.operand.Kind.TheVariants as kinds
use Rattle.paths.specs.declared.operand.Operand.{Operand}

-- words without their marks
unfoldable pub unmarked : List ℕ → List ℕ
unmarked [] = []
unmarked (x ∷ w) = 2 * (x / 2) ∷ unmarked w

-- the rows, three words to a node, and the links behind them
unfoldable pub table : List ℕ → List ℕ
unfolding unmarked
table w = take (3 * max_nodes) w ++ unmarked (take max_nodes (drop (3 * max_nodes) w))

-- a row's words and its link can be read
pub record Room (w : List ℕ) (n : ℕ) : Type 0 where
  pub rows : 4 * max_nodes ≤ length w
  pub node : n < max_nodes

-- the value at a node as evaluation sees it, the elements of an array, and the members of an object
unfoldable pub tree : Bytes → List ℕ → ℕ → Value
unfolding value_at sorted
tree s t n = sorted (value_at s t n)

unfoldable pub items_of : Bytes → List ℕ → ℕ → Values
unfolding values_at sorted_in
items_of s t n = sorted_in (values_at s t (n + 1) (after_at t n))

unfoldable pub fields_of : Bytes → List ℕ → ℕ → Members
unfolding members_at sorted_of
fields_of s t n = sorted_of (members_at s t (n + 1) (after_at t n))

abbrev pub less_one : Bytes → Bytes
less_one [] = []
less_one (c ∷ s) = s

-- what an operand stands for: its kind says how its row is read
unfoldable pub meant : Bytes → List ℕ → ℕ → ℕ → Kind → lazy.Operand
unfolding text_at items_of fields_of
meant s t n d kinds.Null = given null
meant s t n d kinds.False = given (bool false)
meant s t n d kinds.True = given (bool true)
meant s t n d kinds.Number = given (number (slice (start_at t n) (end_at t n) s))
meant s t n d kinds.Text = given (text (text_at s (start_at t n)))
meant s t n d kinds.Less = given (text (less_one (text_at s (start_at t n))))
meant s t n d kinds.Array = given (array (items_of s t n))
meant s t n d kinds.Object = given (object (fields_of s t n))
meant s t n d kinds.Listed = listed d (items_of s t n)
meant s t n d kinds.Named = named d (fields_of s t n)

-- an operand that is read under no frames
abbrev pub plain_at : ℕ → Kind → Operand
plain_at n k = record { node = n; depth = 0; kind = k }

abbrev pub operand_of : Bytes → List ℕ → Operand → lazy.Operand
operand_of s t o = meant s t o.node o.depth o.kind

-- the row is one that can be read so
pub record HasKind (s : Bytes) (t : List ℕ) (n k : ℕ) : Type 0 where
  pub node : HasNode s t n
  pub kind : kind_at t n ≡ k

unfoldable pub Fits : Bytes → List ℕ → ℕ → Kind → Type 0
Fits s t n kinds.Null = Unit {0}
Fits s t n kinds.False = Unit {0}
Fits s t n kinds.True = Unit {0}
Fits s t n kinds.Number = HasKind s t n 3
Fits s t n kinds.Text = HasKind s t n 4
Fits s t n kinds.Less = HasKind s t n 4 × ((r : Bytes) × (text_at s (start_at t n) ≡ 36 ∷ r))
Fits s t n kinds.Array = HasKind s t n 5
Fits s t n kinds.Object = HasKind s t n 6
Fits s t n kinds.Listed = HasKind s t n 5
Fits s t n kinds.Named = HasKind s t n 6

-- an operand whose row can be read so, and whose numbers are small
pub record OperandAt (s : Bytes) (t : List ℕ) (o : Operand) : Type 0 where
  pub node : o.node < max_nodes
  pub depth : o.depth ≤ 32
  pub fits : Fits s t o.node o.kind

-- an operand that stands for another
pub record Means (s : Bytes) (t : List ℕ) (o : Operand) (m : lazy.Operand) : Type 0 where
  pub means : operand_of s t o ≡ m
  pub fits : OperandAt s t o

-- frames
abbrev pub frame_of : Bytes → List ℕ → Frame → Bytes × lazy.Operand
frame_of s t f = (text_at s f.name, operand_of s t f.operand)

unfoldable pub framed : Bytes → List ℕ → List Frame → lazy.Frames
unfolding meant
framed s t [] = []
framed s t (f ∷ fs) = frame_of s t f ∷ framed s t fs

abbrev pub frames_of : Bytes → List ℕ → Frames → lazy.Frames
frames_of s t f = framed s t (held f)

unfoldable pub Bound : Bytes → List ℕ → List Frame → Type 0
Bound s t [] = Unit {0}
Bound s t (f ∷ fs) = OperandAt s t f.operand × Bound s t fs

pub record FramesAt (s : Bytes) (t : List ℕ) (f : Frames) : Type 0 where
  pub within : f.depth ≤ 32
  pub names : Named s (held f)
  pub operands : Bound s t (held f)

-- nodes from k up to e
pub record HasNodes (s : Bytes) (t : List ℕ) (k e : ℕ) : Type 0 where
  pub left : ℕ
  pub nodes : AreNodes s t left k e
