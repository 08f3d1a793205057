-- What an expression gives in the tree of a sheet's text, members as written, and when two texts have a reading alike.
-- Assumes nothing.
use Rattle.std.specs.Prelude.{false, true, List, [], ◌∷◌, ◌⊎◌, ◌≡◌}
use Rattle.std.specs.Prelude.{Option, None, Some}
use Rattle.json_text.specs.Alike.{Alike}
use Rattle.json_text.specs.Bytes.{Bytes, ascii, find, same_bytes}
use Rattle.json_text.specs.Json.{Members, Value, entries, object}
use Rattle.semantics.specs.Expression.{parts, walk}
use Rattle.semantics.specs.Readings.{Reading}
use Rattle.semantics.specs.Semantics.{kernel}

-- the member that a whole expression gives: `$state` gives `to_state`
abbrev pub member_read : Bytes → Bytes
member_read name = elim (same_bytes name (ascii "state")) [ true ↦ ascii "to_state" | false ↦ name ]

-- by the expression's parts; an empty first part behind `args`, `fields` or `old_fields` gives nothing
unfoldable pub given_in : Members → List Bytes → Option Value
unfolding same_bytes find walk
given_in ms [] = None
given_in ms (name ∷ []) = find (member_read name) (entries ms)
given_in ms (name ∷ [] ∷ ps) = None
given_in ms (name ∷ (c ∷ p) ∷ ps) = walk kernel (name ∷ (c ∷ p) ∷ ps) (object ms)

pub data AlikeGiven : Option Value → Option Value → Type 0 where
  both_nothing : AlikeGiven None None
  both_give : {v w : Value} → Alike v w → AlikeGiven (Some v) (Some w)

-- a reading of two texts: alike, or nothing now where it does not stand under `exists`
abbrev pub KeptInText : Members → Members → Reading → Type 0
KeptInText ms ns r = AlikeGiven (given_in ms (parts r.text)) (given_in ns (parts r.text)) ⊎ ((r.exact ≡ false) × (given_in ns (parts r.text) ≡ None))
