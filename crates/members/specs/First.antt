-- The conditions of a sheet's text, each with the byte at which it begins, and the fault that a condition has in itself: 10, 11 or none.
-- Assumes nothing.
use Rattle.std.specs.Prelude.{false, true, List, [], ◌++◌, ◌∷◌, ◌≡◌, ◌≢◌, ◌≤◌}
use Rattle.std.specs.Prelude.{Option, None, Some}
use Rattle.json_text.specs.Ascent.{first_byte}
use Rattle.json_text.specs.Bytes.{Bytes, ascii, find, same_bytes}
use Rattle.json_text.specs.Json.{Members, Value, array, as_array, as_object, bool, empty, member, null, number, object, text}
use Rattle.json_text.specs.Refusal.{Refusal, Result, ok, refused, wrong_shape}
use Rattle.json_text.specs.Spans.{Fields, Node, Nodes, arr, erase, field, leaf, no_field, no_node, node, obj, text_at}
use Rattle.members.specs.Condition.{
  Condition,
  Conditions,
  Operator,
  formed,
  literal,
  no_more,
  op_exists,
  op_junction,
  op_negation,
  op_not_carried,
  op_pair,
  op_quantified,
  operators,
  quantifier,
}
use Rattle.members.specs.Sheet.{Holds, each_under, holders, itself}
use Rattle.members.specs.Verdicts.{fault_of}

-- What an operator's member holds, every condition in it taken as fine.
abbrev pub fine : Result Condition
fine = ok (literal true)

abbrev pub fine_array : Value → Result Conditions
fine_array v = elim (as_array v) [ None ↦ refused wrong_shape | Some vs ↦ ok no_more ]

abbrev pub fine_members : Members → List (Bytes × (Value × Result Condition))
fine_members empty = []
fine_members (member k v ms) = (k, (v, fine)) ∷ fine_members ms

abbrev pub fine_object : Value → Result (List (Bytes × (Value × Result Condition)))
fine_object v = elim (as_object v) [ None ↦ refused wrong_shape | Some ms ↦ ok (fine_members ms) ]

-- the fault of a condition in itself: the one it has where all conditions inside it are fine
unfoldable pub own_fault_of : Members → Option Refusal
unfolding find quantifier
own_fault_of empty = Some wrong_shape
own_fault_of (member k v ms) = elim ms [ member l w more ↦ Some wrong_shape | empty ↦ fault_of (formed v fine (fine_array v) (fine_object v) (find k operators)) ]

unfoldable pub own_fault : Value → Option Refusal
unfolding own_fault_of
own_fault null = Some wrong_shape
own_fault (bool b) = None
own_fault (number s) = Some wrong_shape
own_fault (text s) = Some wrong_shape
own_fault (array vs) = Some wrong_shape
own_fault (object ms) = own_fault_of ms

-- which of a member's conditions an operator asks for: the one, each of an array's, or the body of a quantifier
abbrev pub under : List Node → List Node → List Node → Option Operator → List Node
under one several body None = []
under one several body (Some (op_junction m)) = several
under one several body (Some op_negation) = one
under one several body (Some op_exists) = []
under one several body (Some (op_pair f)) = []
under one several body (Some (op_quantified m)) = body
under one several body (Some op_not_carried) = []

-- the conditions of a condition, itself first, by the tree with its places
unfoldable mutual
  unfolding find same_bytes text_at

  pub in_condition : Bytes → Node → List Node
  in_condition s (leaf k a e) = leaf k a e ∷ []
  in_condition s (arr a e ts) = arr a e ts ∷ []
  in_condition s (obj a e fs) = obj a e fs ∷ in_one s fs

  pub in_one : Bytes → Fields → List Node
  in_one s no_field = []
  in_one s (field a e t fs) = elim fs [ field b f u more ↦ [] | no_field ↦ under (in_condition s t) (in_elements s t) (in_member s (ascii "that") t) (find (text_at s a) operators) ]

  -- those of an array's elements
  pub in_elements : Bytes → Node → List Node
  in_elements s (leaf k a e) = []
  in_elements s (arr a e ts) = in_each s ts
  in_elements s (obj a e fs) = []

  pub in_each : Bytes → Nodes → List Node
  in_each s no_node = []
  in_each s (node t ts) = in_condition s t ++ in_each s ts

  -- those of an object's member of a name
  pub in_member : Bytes → Bytes → Node → List Node
  in_member s k (leaf l a e) = []
  in_member s k (arr a e ts) = []
  in_member s k (obj a e fs) = in_named s k fs

  pub in_named : Bytes → Bytes → Fields → List Node
  in_named s k no_field = []
  in_named s k (field a e t fs) = elim (same_bytes k (text_at s a)) [ true ↦ in_condition s t | false ↦ in_named s k fs ]

-- those of each element's member of a name
unfoldable pub in_each_under : Bytes → Bytes → Nodes → List Node
unfolding in_condition
in_each_under s k no_node = []
in_each_under s k (node t ts) = in_member s k t ++ in_each_under s k ts

-- the conditions that a member of the sheet holds, and all of the sheet's
unfoldable pub in_holder : Bytes → Option Holds → Node → List Node
unfolding in_condition in_each_under
in_holder s None t = []
in_holder s (Some itself) t = in_condition s t
in_holder s (Some (each_under k)) (leaf l a e) = []
in_holder s (Some (each_under k)) (arr a e ts) = in_each_under s k ts
in_holder s (Some (each_under k)) (obj a e fs) = []

unfoldable pub in_sheet : Bytes → Fields → List Node
unfolding in_holder find text_at
in_sheet s no_field = []
in_sheet s (field a e t fs) = in_holder s (find (text_at s a) holders) t ++ in_sheet s fs

-- one of a list's conditions
pub data OneOf (c : Node) : List Node → Type 0 where
  here : {cs : List Node} → OneOf c (c ∷ cs)
  there : {d : Node} {cs : List Node} → OneOf c cs → OneOf c (d ∷ cs)

-- The condition at fault in itself that begins first: no other one at fault in itself has a lower first byte.
pub record First (s : Bytes) (cs : List Node) (q : Refusal) : Type 0 where
  pub condition : Node
  pub is_one : OneOf condition cs
  pub fault : own_fault (erase s condition) ≡ Some q
  pub least : (d : Node) → OneOf d cs → own_fault (erase s d) ≢ None → first_byte condition ≤ first_byte d
