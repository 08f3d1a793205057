-- Marks: the lowest bit of a word behind the rows, for each node. What is marked are the texts of missing expressions; and what resolving leaves and answers.
-- Assumes nothing.
use Rattle.std.specs.Prelude.{Bool, false, true, List, ◌⊎◌, ◌≡◌, ℕ, ◌%◌, ◌*◌, ◌+◌, ◌<◌, drop, get_or, length, set, Option, None, Some, Result as Fallible, Ok, Err}
use Rattle.json_text.specs.Marks.{first_mark}
use Rattle.json_text.specs.Bytes.{Bytes}
use Rattle.json_text.specs.Links.{link_at}
use Rattle.json_text.specs.Refusal.{Result, no_id, ok, refused, unknown_expression}
use Rattle.json_text.specs.Spans.{text_at}
use Rattle.json_text.specs.Table.{start_at}
use Rattle.paths.specs.Lazy as lazy
use Rattle.semantics.specs.Names.{Named, Names, no_names}
use Rattle.semantics.specs.Operand as operands
use Rattle.paths.specs.Stored.{HasKind, OperandAt, operand_of, table}
use Rattle.paths.specs.declared.operand.Kind.{Kind}
use Rattle.paths.specs.declared.operand.Kind.TheVariants as kinds
use Rattle.paths.specs.declared.operand.Operand.{Operand}
use Rattle.paths.specs.declared.operand.EvalError.{EvalError}
use Rattle.paths.specs.declared.operand.EvalError.TheVariants as errors

abbrev pub words : ℕ
words = 16384

-- a text that is marked
pub record Marked (s : Bytes) (w : List ℕ) (x : Bytes) : Type 0 where
  pub node : ℕ
  pub small : node < 4096
  pub mark : get_or w (first_mark + node) 0 % 2 ≡ 1
  pub text : text_at s (start_at (table w) node) ≡ x

-- rows and links stay, and words further on; marked is what was marked, and these names; a node newly marked is a text's
pub record Left (s : Bytes) (w w' : List ℕ) (ns : Names) : Type 0 where
  pub rows : table w' ≡ table w
  pub long : length w' ≡ length w
  pub further : drop words w' ≡ drop words w
  pub only : (x : Bytes) → Marked s w' x → Marked s w x ⊎ Named x ns
  pub still : (x : Bytes) → Marked s w x → Marked s w' x
  pub added : (x : Bytes) → Named x ns → Marked s w' x
  pub texts : (n : ℕ) → n < 4096 → get_or w' (first_mark + n) 0 % 2 ≡ 1 → (get_or w (first_mark + n) 0 % 2 ≡ 1) ⊎ HasKind s (table w) n 4

-- quietly nothing is marked
abbrev pub missed : Bool → List ℕ → ℕ → List ℕ
missed true w n = w
missed false w n = set w (first_mark + n) (2 * link_at w n + 1)

abbrev pub heard : Bool → Names → Names
heard true ns = no_names
heard false ns = ns

-- what an answer says of an operand, the names of a missing one being ns
abbrev pub resolved_of : Bytes → List ℕ → Names → Fallible (Option Operand) EvalError → Result (operands.Resolved lazy.Operand)
resolved_of s t ns (Ok (Some o)) = ok (operands.present (operand_of s t o))
resolved_of s t ns (Ok None) = ok (operands.missing ns)
resolved_of s t ns (Err (errors.UnknownExpression n)) = refused (unknown_expression (text_at s (start_at t n)))
resolved_of s t ns (Err errors.NoId) = refused no_id

-- and of what it left
abbrev pub Heard : Bool → Bytes → List ℕ → Names → Names → Fallible (Option Operand) EvalError → Type 0
Heard quiet s t ns met (Ok (Some o)) = OperandAt s t o × (met ≡ no_names)
Heard quiet s t ns met (Ok None) = met ≡ heard quiet ns
Heard quiet s t ns met (Err (errors.UnknownExpression n)) = HasKind s t n 4
Heard quiet s t ns met (Err errors.NoId) = Unit {0}

pub record ResolvedAs (quiet : Bool) (s : Bytes) (w w' : List ℕ) (r : Fallible (Option Operand) EvalError) (m : Result (operands.Resolved lazy.Operand)) : Type 0 where
  pub names : Names
  pub met : Names
  pub means : resolved_of s (table w) names r ≡ m
  pub left : Left s w w' met
  pub hears : Heard quiet s (table w) names met r

-- an expression's operand: null is missing
abbrev pub unless_null : Operand → Kind → Option Operand
unless_null o kinds.Null = None
unless_null o kinds.False = Some o
unless_null o kinds.True = Some o
unless_null o kinds.Number = Some o
unless_null o kinds.Text = Some o
unless_null o kinds.Less = Some o
unless_null o kinds.Array = Some o
unless_null o kinds.Object = Some o
unless_null o kinds.Listed = Some o
unless_null o kinds.Named = Some o

abbrev pub but_null : Option Operand → Option Operand
but_null None = None
but_null (Some o) = unless_null o o.kind

-- and what is missing leaves a mark
pub record Observed (quiet : Bool) (w w' : List ℕ) (found : Option Operand) (n : ℕ) (r : Option Operand) : Type 0 where
  pub is : r ≡ but_null found
  pub missing : r ≡ None → w' ≡ missed quiet w n
  pub present : (o : Operand) → r ≡ Some o → w' ≡ w

-- a whole whose parts were all present
abbrev pub gathered_of : ℕ → ℕ → Bool → Bool → Option Operand
gathered_of n d true true = Some (record { node = n; depth = d; kind = kinds.Named })
gathered_of n d false true = Some (record { node = n; depth = d; kind = kinds.Listed })
gathered_of n d named false = None
