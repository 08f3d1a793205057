-- One layer of an operand over the table: its class, its text, its parts by their nodes; and two layers compared part by part.
-- Assumes nothing.
use Rattle.std.specs.Prelude.{Bool, false, true, ◌&&◌, List, [], ◌∷◌, ℕ, ◌+◌, ◌≡◌}
use Rattle.std.proofs.Math.Seq.{slice}
use Rattle.json_text.specs.Bytes.{Bytes, same_bytes}
use Rattle.json_text.specs.Cursor.{OnText}
use Rattle.json_text.specs.KeyOrder.{in_order, names_at, nodes_of}
use Rattle.json_text.specs.Spans.{text_at}
use Rattle.json_text.specs.Table.{after_at, end_at, start_at}
use Rattle.members.specs.Condition.{Condition}
use Rattle.members.specs.Sheet.{Sheet}
use Rattle.paths.specs.Children.{begun, children_by, children_of}
use Rattle.paths.specs.Lazy as lazy
use Rattle.paths.specs.Lazy.{given, outer, part_of, touch}
use Rattle.paths.specs.Shape.{Shape, alike_shapes, digits, fields, items, nothing, truth, words}
use Rattle.paths.specs.Stored.{less_one, tree}
use Rattle.paths.specs.declared.operand.Kind.{Kind}
use Rattle.paths.specs.declared.operand.Kind.TheVariants as kinds
use Rattle.paths.specs.declared.operand.Operand.{Operand}
use Rattle.strings.specs.declared.rows.Kind.{Kind as Class}
use Rattle.strings.specs.declared.rows.Kind.TheVariants as classes

-- what the kinds have in common: the kind of row that such a value is written as
abbrev pub class_of : Kind → Class
class_of kinds.Null = classes.Null
class_of kinds.False = classes.False
class_of kinds.True = classes.True
class_of kinds.Number = classes.Number
class_of kinds.Text = classes.Text
class_of kinds.Less = classes.Text
class_of kinds.Array = classes.Array
class_of kinds.Object = classes.Object
class_of kinds.Listed = classes.Array
class_of kinds.Named = classes.Object

-- a class whose values have no parts
pub record Flat (c : Class) : Type 0 where
  pub no_array : c ≡ classes.Array → ⊥
  pub no_object : c ≡ classes.Object → ⊥

-- the bytes of a text's operand
unfoldable pub words_of : Bytes → List ℕ → ℕ → Kind → Bytes
unfolding text_at
words_of s t n kinds.Null = []
words_of s t n kinds.False = []
words_of s t n kinds.True = []
words_of s t n kinds.Number = []
words_of s t n kinds.Text = text_at s (start_at t n)
words_of s t n kinds.Less = less_one (text_at s (start_at t n))
words_of s t n kinds.Array = []
words_of s t n kinds.Object = []
words_of s t n kinds.Listed = []
words_of s t n kinds.Named = []

pub record TextPlace (s : Bytes) (t : List ℕ) (o : Operand) (at : ℕ) : Type 0 where
  pub is : text_at s at ≡ words_of s t o.node o.kind
  pub on_text : OnText s at 0

abbrev pub digits_of : Bytes → List ℕ → ℕ → Bytes
digits_of s t n = slice (start_at t n) (end_at t n) s

-- the part of an operand at a node below it
module _ (sheet : Sheet Condition) (s : Bytes) (t : List ℕ) where
  unfoldable pub part_by : lazy.Frames → ℕ → Kind → ℕ → lazy.Operand
  unfolding tree outer touch
  part_by fs d kinds.Null k = given (tree s t k)
  part_by fs d kinds.False k = given (tree s t k)
  part_by fs d kinds.True k = given (tree s t k)
  part_by fs d kinds.Number k = given (tree s t k)
  part_by fs d kinds.Text k = given (tree s t k)
  part_by fs d kinds.Less k = given (tree s t k)
  part_by fs d kinds.Array k = given (tree s t k)
  part_by fs d kinds.Object k = given (tree s t k)
  part_by fs d kinds.Listed k = part_of sheet (outer d fs) (tree s t k)
  part_by fs d kinds.Named k = part_of sheet (outer d fs) (tree s t k)

  abbrev pub part_at : lazy.Frames → Operand → ℕ → lazy.Operand
  part_at fs o k = part_by fs o.depth o.kind k

-- the children's nodes, an object's being its names by ascending bytes
unfoldable pub kids : Bytes → List ℕ → ℕ → Bool → List ℕ
unfolding children_by nodes_of in_order names_at
kids s t n false = children_of t (begun t n false)
kids s t n true = nodes_of (in_order (names_at s t (n + 1) (after_at t n)))

unfoldable pub each_node : (ℕ → lazy.Operand) → List ℕ → List lazy.Operand
each_node g [] = []
each_node g (k ∷ ks) = g k ∷ each_node g ks

unfoldable pub each_name : Bytes → List ℕ → (ℕ → lazy.Operand) → List ℕ → List (Bytes × lazy.Operand)
unfolding text_at
each_name s t g [] = []
each_name s t g (k ∷ ks) = (text_at s (start_at t k), g (k + 1)) ∷ each_name s t g ks

unfoldable pub shape_by : Sheet Condition → Bytes → List ℕ → lazy.Frames → ℕ → ℕ → Kind → Shape lazy.Operand
unfolding part_by each_node each_name words_of kids
shape_by sheet s t fs n d kinds.Null = nothing
shape_by sheet s t fs n d kinds.False = truth false
shape_by sheet s t fs n d kinds.True = truth true
shape_by sheet s t fs n d kinds.Number = digits (digits_of s t n)
shape_by sheet s t fs n d kinds.Text = words (words_of s t n kinds.Text)
shape_by sheet s t fs n d kinds.Less = words (words_of s t n kinds.Less)
shape_by sheet s t fs n d kinds.Array = items (each_node (part_by sheet s t fs d kinds.Array) (kids s t n false))
shape_by sheet s t fs n d kinds.Object = fields (each_name s t (part_by sheet s t fs d kinds.Object) (kids s t n true))
shape_by sheet s t fs n d kinds.Listed = items (each_node (part_by sheet s t fs d kinds.Listed) (kids s t n false))
shape_by sheet s t fs n d kinds.Named = fields (each_name s t (part_by sheet s t fs d kinds.Named) (kids s t n true))

abbrev pub shape_of : Sheet Condition → Bytes → List ℕ → lazy.Frames → Operand → Shape lazy.Operand
shape_of sheet s t fs o = shape_by sheet s t fs o.node o.depth o.kind

-- two that hold no parts
abbrev pub LeavesAlike : Bytes → List ℕ → Bool → Operand → Operand → Type 0
LeavesAlike s t r a b = (sheet : Sheet Condition) (f : lazy.Operand → lazy.Operand → Bool) (fs : lazy.Frames) → r ≡ alike_shapes f (shape_of sheet s t fs a) (shape_of sheet s t fs b)

-- the value's node of a child, and whether the names of two agree
unfoldable pub value_node : Bool → ℕ → ℕ
value_node true k = k + 1
value_node false k = k

unfoldable pub names_agree : Bytes → List ℕ → Bool → ℕ → ℕ → Bool
unfolding same_bytes text_at
names_agree s t true i j = same_bytes (text_at s (start_at t i)) (text_at s (start_at t j))
names_agree s t false i j = true

-- parts compared one by one
unfoldable pub alike_nodes : Bytes → List ℕ → (lazy.Operand → lazy.Operand → Bool) → Bool → (ℕ → lazy.Operand) → (ℕ → lazy.Operand) → List ℕ → List ℕ → Bool
unfolding value_node names_agree
alike_nodes s t f b g h [] [] = true
alike_nodes s t f b g h [] (j ∷ js) = false
alike_nodes s t f b g h (i ∷ is) [] = false
alike_nodes s t f b g h (i ∷ is) (j ∷ js) = names_agree s t b i j && (f (g (value_node b i)) (h (value_node b j)) && alike_nodes s t f b g h is js)
