-- What an expression gives in the code: an operand of the table, nothing, or a refusal.
-- Assumes nothing.
use Rattle.std.specs.Prelude.{List, [], ◌∷◌, ◌≡◌, ℕ, eqb, Option, None, Some, Result as Fallible, Ok, Err}
use Rattle.json_text.specs.Json.{Value, entries}
use Rattle.json_text.specs.Bytes.{Bytes, choose, find}
use Rattle.json_text.specs.Refusal.{Result, no_id, ok, refused, unknown_expression}
use Rattle.paths.specs.Lazy as lazy
use Rattle.paths.specs.Stored.{Means, OperandAt, fields_of, operand_of, tree}
use Rattle.paths.specs.declared.operand.Operand.{Operand}
use Rattle.json_text.specs.Held.{HasNode}
use Rattle.paths.specs.declared.operand.Kind.{Kind}
use Rattle.paths.specs.declared.operand.Kind.TheVariants as kinds
use Rattle.paths.specs.declared.operand.EvalError.{EvalError}
use Rattle.paths.specs.declared.operand.EvalError.TheVariants as errors
use Rattle.paths.specs.declared.operand.LookupError.{LookupError}
use Rattle.paths.specs.declared.operand.LookupError.TheVariants as lookups

-- the kind of a row of that code: a value of the sheet, and a written one
abbrev pub value_kind : ℕ → Kind
value_kind c =
    choose
    ((eqb c 0, kinds.Null) ∷ (eqb c 1, kinds.True) ∷ (eqb c 2, kinds.False) ∷ (eqb c 3, kinds.Number) ∷ (eqb c 4, kinds.Text) ∷
    (eqb c 5, kinds.Array) ∷ []) kinds.Object

abbrev pub written_kind : ℕ → Kind
written_kind c = choose ((eqb c 5, kinds.Listed) ∷ (eqb c 6, kinds.Named) ∷ []) (value_kind c)

-- an operand that may be missing
unfoldable pub bound_of : Bytes → List ℕ → Option Operand → Option lazy.Operand
bound_of s t (Some o) = Some (operand_of s t o)
bound_of s t None = None

unfoldable pub BoundFits : Bytes → List ℕ → Option Operand → Type 0
BoundFits s t (Some o) = OperandAt s t o
BoundFits s t None = Unit {0}

pub record BoundAs (s : Bytes) (t : List ℕ) (b : Option Operand) (m : Option lazy.Operand) : Type 0 where
  pub means : bound_of s t b ≡ m
  pub fits : BoundFits s t b

-- the answer for the expression whose text behind the `$` is e
unfoldable pub looked_of : Bytes → List ℕ → Bytes → Fallible (Option Operand) LookupError → Result (Option lazy.Operand)
looked_of s t e (Ok (Some o)) = ok (Some (operand_of s t o))
looked_of s t e (Ok None) = ok None
looked_of s t e (Err lookups.Unknown) = refused (unknown_expression (36 ∷ e))
looked_of s t e (Err lookups.NoId) = refused no_id

unfoldable pub LookedFits : Bytes → List ℕ → Fallible (Option Operand) LookupError → Type 0
LookedFits s t (Ok (Some o)) = OperandAt s t o
LookedFits s t (Ok None) = Unit {0}
LookedFits s t (Err lookups.Unknown) = Unit {0}
LookedFits s t (Err lookups.NoId) = Unit {0}

pub record LookedAs (s : Bytes) (t : List ℕ) (e : Bytes) (r : Fallible (Option Operand) LookupError) (m : Result (Option lazy.Operand)) : Type 0 where
  pub means : looked_of s t e r ≡ m
  pub fits : LookedFits s t r

-- the refusal of an expression, with its node
abbrev pub error_at : LookupError → ℕ → EvalError
error_at lookups.Unknown n = errors.UnknownExpression n
error_at lookups.NoId n = errors.NoId

-- the value at a node, and what was found or null
abbrev pub ValueTold : List ℕ → ℕ → Operand → Type 0
ValueTold t n o = (s : Bytes) → HasNode s t n → Means s t o (lazy.given (tree s t n))

abbrev pub NullTold : Fallible (Option Operand) LookupError → Operand → Type 0
NullTold r o = (s : Bytes) (t : List ℕ) (e : Bytes) → LookedFits s t r → Means s t o (lazy.or_null (looked_of s t e r))

-- a member by its value's node
unfoldable pub found_tree : Bytes → List ℕ → Option ℕ → Option Value
unfolding tree
found_tree s t None = None
found_tree s t (Some n) = Some (tree s t n)

unfoldable pub FoundNode : Bytes → List ℕ → Option ℕ → Type 0
FoundNode s t None = Unit {0}
FoundNode s t (Some n) = HasNode s t n

pub record MemberTold (s : Bytes) (t : List ℕ) (key : Bytes) (n : ℕ) (r : Option ℕ) : Type 0 where
  pub is : find key (entries (fields_of s t n)) ≡ found_tree s t r
  pub node : FoundNode s t r
