-- Expressions: what the text after `$` gives on a sheet, under the binders in force.
-- Assumes nothing.
use Rattle.std.specs.Prelude.{false, true, ℕ, eqb}
use mathlib.Core.List.{List, [], ◌∷◌}
use Rattle.std.specs.Prelude.{Option, None, Some}
use Rattle.json_text.specs.Bytes.{Bytes, ascii, find}
use Rattle.json_text.specs.Json.{Members, Value, number, object, text}
use Rattle.json_text.specs.Refusal.{Result, no_id, ok, refused, unknown_expression}
use Rattle.semantics.specs.Semantics.{Semantics}
use Rattle.members.specs.Sheet.{Sheet}

-- the binders in force with their values, innermost first
abbrev pub Env : Type 0
Env = List (Bytes × Value)

-- Paths: the parts between the dots, one more than there are dots.
abbrev pub push : ℕ → List Bytes → List Bytes
push c [] = (c ∷ []) ∷ []
push c (p ∷ ps) = (c ∷ p) ∷ ps

unfoldable pub parts : Bytes → List Bytes
parts [] = [] ∷ []
parts (c ∷ s) = elim (eqb c 46) [ true ↦ [] ∷ parts s | false ↦ push c (parts s) ]

-- step by step along the parts; nothing stays nothing
unfoldable pub walk : Semantics → List Bytes → Value → Option Value
unfolding find
walk sem [] v = Some v
walk sem (k ∷ ks) v = elim (sem.step k v) [ None ↦ None | Some w ↦ walk sem ks w ]

-- `$id` needs an id; a missing `from_state` is nothing
abbrev pub id_of : Option Bytes → Result (Option Value)
id_of None = refused no_id
id_of (Some s) = ok (Some (text s))

abbrev pub if_any : Option Bytes → Option Value
if_any None = None
if_any (Some s) = Some (text s)

module _ {C : Type 0} (sheet : Sheet C) where
  -- the whole expressions; `$state` gives `to_state`
  abbrev pub roots : List (Bytes × Result (Option Value))
  roots =
      (ascii "id", id_of sheet.id) ∷
      (ascii "entity", ok (Some (text sheet.entity))) ∷
      (ascii "version", ok (Some (number sheet.version))) ∷
      (ascii "from_state", ok (if_any sheet.from_state)) ∷
      (ascii "to_state", ok (Some (text sheet.to_state))) ∷
      (ascii "state", ok (Some (text sheet.to_state))) ∷
      (ascii "args", ok (Some (object sheet.args))) ∷
      (ascii "fields", ok (Some (object sheet.fields))) ∷
      (ascii "old_fields", ok (Some (object sheet.old_fields))) ∷
      []

  -- what a path may start from
  abbrev pub bases : List (Bytes × Members)
  bases = (ascii "args", sheet.args) ∷ (ascii "fields", sheet.fields) ∷ (ascii "old_fields", sheet.old_fields) ∷ []

module _ (sem : Semantics) {C : Type 0} (sheet : Sheet C) where
  -- an empty first part behind a base gives nothing
  abbrev pub below : Bytes → List Bytes → Members → Option Value
  below [] ps ms = None
  below (c ∷ p) ps ms = walk sem ((c ∷ p) ∷ ps) (object ms)

  -- an expression that no binder takes: its text, its first part and the rest
  unfoldable pub unbound : Bytes → Bytes → List Bytes → Result (Option Value)
  unfolding find walk
  unbound e name [] = elim (find name (roots sheet)) [ None ↦ refused (unknown_expression (36 ∷ e)) | Some r ↦ r ]
  unbound e name (p ∷ ps) = elim (find name (bases sheet)) [ None ↦ refused (unknown_expression (36 ∷ e)) | Some ms ↦ ok (below p ps ms) ]

  -- the binders come first, innermost first
  unfoldable pub gives_parts : Env → Bytes → List Bytes → Result (Option Value)
  unfolding find walk unbound
  gives_parts env e [] = refused (unknown_expression (36 ∷ e))
  gives_parts env e (name ∷ path) = elim (find name env) [ Some v ↦ ok (walk sem path v) | None ↦ unbound e name path ]

  -- a value, nothing, or 13 or 14
  unfoldable pub gives : Env → Bytes → Result (Option Value)
  unfolding parts gives_parts
  gives env e = gives_parts env e (parts e)
