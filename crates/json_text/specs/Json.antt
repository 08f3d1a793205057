-- The tree of a JSON text. A number keeps its characters, a text its decoded bytes, an object its members as written.
-- Assumes nothing.
use Rattle.std.specs.Prelude.{Bool, false, true, List, [], ◌∷◌}
use Rattle.std.specs.Prelude.{Option, None, Some}
use Rattle.json_text.specs.Bytes.{Bytes}

mutual
  pub data Value : Type 0 where
    null : Value
    bool : Bool → Value
    number : Bytes → Value
    text : Bytes → Value
    array : Values → Value
    object : Members → Value

  pub data Values : Type 0 where
    nil : Values
    cons : Value → Values → Values

  pub data Members : Type 0 where
    empty : Members
    member : Bytes → Value → Members → Members

abbrev pub elements : Values → List Value
elements nil = []
elements (cons v vs) = v ∷ elements vs

abbrev pub entries : Members → List (Bytes × Value)
entries empty = []
entries (member k v ms) = (k, v) ∷ entries ms

abbrev pub keys : Members → List Bytes
keys empty = []
keys (member k v ms) = k ∷ keys ms

-- each kind of value
abbrev pub as_text : Value → Option Bytes
as_text null = None
as_text (bool b) = None
as_text (number s) = None
as_text (text s) = Some s
as_text (array vs) = None
as_text (object ms) = None

abbrev pub as_number : Value → Option Bytes
as_number null = None
as_number (bool b) = None
as_number (number s) = Some s
as_number (text s) = None
as_number (array vs) = None
as_number (object ms) = None

abbrev pub as_bool : Value → Option Bool
as_bool null = None
as_bool (bool b) = Some b
as_bool (number s) = None
as_bool (text s) = None
as_bool (array vs) = None
as_bool (object ms) = None

abbrev pub as_array : Value → Option Values
as_array null = None
as_array (bool b) = None
as_array (number s) = None
as_array (text s) = None
as_array (array vs) = Some vs
as_array (object ms) = None

abbrev pub as_object : Value → Option Members
as_object null = None
as_object (bool b) = None
as_object (number s) = None
as_object (text s) = None
as_object (array vs) = None
as_object (object ms) = Some ms

abbrev pub is_null : Value → Bool
is_null null = true
is_null (bool b) = false
is_null (number s) = false
is_null (text s) = false
is_null (array vs) = false
is_null (object ms) = false
