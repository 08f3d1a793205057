-- The sheet's members by their nodes, and what the expressions give that no binder takes.
-- Assumes nothing.
use Rattle.std.specs.Prelude.{List, [], ◌∷◌, ◌≡◌, ℕ, Option, None, Some, Result as Fallible}
use Rattle.std.proofs.Math.Seq.{slice}
use Rattle.json_text.specs.Bytes.{Bytes, ascii, find}
use Rattle.json_text.specs.Json.{Members, Value, number, object, text}
use Rattle.json_text.specs.Refusal.{Result, ok, refused, unknown_expression, ◌>>=◌}
use Rattle.json_text.specs.Spans.{text_at}
use Rattle.json_text.specs.Table.{end_at, start_at}
use Rattle.members.specs.Condition.{Condition}
use Rattle.members.specs.Sheet.{Sheet}
use Rattle.semantics.specs.Expression.{id_of, if_any}
use Rattle.paths.specs.Lazy as lazy
use Rattle.paths.specs.Lazy.{given, map_some}
use Rattle.paths.specs.Reached.{BoundAs, LookedAs}
use Rattle.paths.specs.Stored.{HasKind, fields_of}
use Rattle.paths.specs.declared.operand.LookupError.{LookupError}
use Rattle.paths.specs.declared.operand.Operand.{Operand}
use Rattle.paths.specs.declared.roots.Root.{Root}
use Rattle.paths.specs.declared.roots.Root.TheVariants as root
use Rattle.paths.specs.declared.roots.Roots.{Roots}

-- a node that holds a text, a number, an object
pub record IsText (s : Bytes) (t : List ℕ) (n : ℕ) (b : Bytes) : Type 0 where
  pub row : HasKind s t n 4
  pub is : text_at s (start_at t n) ≡ b

pub record IsNumber (s : Bytes) (t : List ℕ) (n : ℕ) (b : Bytes) : Type 0 where
  pub row : HasKind s t n 3
  pub is : slice (start_at t n) (end_at t n) s ≡ b

pub record IsObject (s : Bytes) (t : List ℕ) (n : ℕ) (ms : Members) : Type 0 where
  pub row : HasKind s t n 6
  pub is : fields_of s t n ≡ ms

-- a text that may be missing
unfoldable pub MayBeText : Bytes → List ℕ → Option ℕ → Option Bytes → Type 0
MayBeText s t None o = o ≡ None
MayBeText s t (Some n) o = (b : Bytes) × (o ≡ Some b) × IsText s t n b

-- the nodes hold the sheet's members
pub record Rooted (sheet : Sheet Condition) (s : Bytes) (t : List ℕ) (r : Roots) : Type 0 where
  pub id : MayBeText s t r.id sheet.id
  pub entity : IsText s t r.entity sheet.entity
  pub version : IsNumber s t r.version sheet.version
  pub from_state : MayBeText s t r.from sheet.from_state
  pub to_state : IsText s t r.to sheet.to_state
  pub args : IsObject s t r.args sheet.args
  pub fields : IsObject s t r.fields sheet.fields
  pub old_fields : IsObject s t r.old sheet.old_fields

-- the root of a name
abbrev pub root_names : List (Bytes × Root)
root_names =
    (ascii "id", root.Id) ∷
    (ascii "entity", root.Entity) ∷
    (ascii "version", root.Version) ∷
    (ascii "from_state", root.FromState) ∷
    (ascii "to_state", root.ToState) ∷
    (ascii "state", root.ToState) ∷
    (ascii "args", root.Args) ∷
    (ascii "fields", root.Fields) ∷
    (ascii "old_fields", root.OldFields) ∷
    []

unfoldable pub root_of : Bytes → Option Root
unfolding find
root_of k = find k root_names

-- what a root gives
abbrev pub root_value : Sheet Condition → Root → Result (Option Value)
root_value sheet root.Id = id_of sheet.id
root_value sheet root.Entity = ok (Some (text sheet.entity))
root_value sheet root.Version = ok (Some (number sheet.version))
root_value sheet root.FromState = ok (if_any sheet.from_state)
root_value sheet root.ToState = ok (Some (text sheet.to_state))
root_value sheet root.Args = ok (Some (object sheet.args))
root_value sheet root.Fields = ok (Some (object sheet.fields))
root_value sheet root.OldFields = ok (Some (object sheet.old_fields))

-- what the expression gives whose text behind the `$` is e and names a root, or none
abbrev pub named_value : Sheet Condition → Bytes → Option Root → Result (Option Value)
named_value sheet e None = refused (unknown_expression (36 ∷ e))
named_value sheet e (Some r) = root_value sheet r

unfoldable pub root_gives : Sheet Condition → Bytes → Option Root → Result (Option lazy.Operand)
unfolding map_some
root_gives sheet e r = named_value sheet e r >>= λ g. ok (map_some given g)

-- what a path may start from
abbrev pub base_members : Sheet Condition → Root → Option Members
base_members sheet root.Id = None
base_members sheet root.Entity = None
base_members sheet root.Version = None
base_members sheet root.FromState = None
base_members sheet root.ToState = None
base_members sheet root.Args = Some sheet.args
base_members sheet root.Fields = Some sheet.fields
base_members sheet root.OldFields = Some sheet.old_fields

abbrev pub base_named : Sheet Condition → Option Root → Option Members
base_named sheet None = None
base_named sheet (Some r) = base_members sheet r

unfoldable pub base_gives : Sheet Condition → Option Root → Option lazy.Operand
unfolding map_some
base_gives sheet r = map_some (λ ms. given (object ms)) (base_named sheet r)

abbrev pub RootTold : Roots → Root → Fallible (Option Operand) LookupError → Type 0
RootTold rs x r = (sheet : Sheet Condition) (s : Bytes) (t : List ℕ) (e : Bytes) → Rooted sheet s t rs → LookedAs s t e r (root_gives sheet e (Some x))

abbrev pub BaseTold : Roots → Root → Option Operand → Type 0
BaseTold rs x b = (sheet : Sheet Condition) (s : Bytes) (t : List ℕ) → Rooted sheet s t rs → BoundAs s t b (base_gives sheet (Some x))
