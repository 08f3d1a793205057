-- Every number of a sheet that is read is a text that RFC 8259 spells as a number: in its values and in the operands of its conditions.
-- Assumes nothing.
use mathlib.Core.Path.{refl, ◌≡◌}
use Prim.Native.Nat.{Ordering}
use Rattle.json_text.proofs.Complete.{read_exactly}
use Rattle.json_text.proofs.Sound.{bind_with}
use Rattle.json_text.specs.Bytes.{Bytes, order_bytes}
use Rattle.json_text.specs.Grammar.{Elements, MembersOf, MoreElements, MoreMembers, Spells}
use Rattle.json_text.specs.Json.{Members, Value, Values, array, bool, cons, elements, empty, entries, member, nil, null, number, object, text}
use Rattle.json_text.specs.Reader.{json}
use Rattle.json_text.specs.Refusal.{ok}
use Rattle.json_text.specs.Sorted.{insert, sorted, sorted_in, sorted_of}
use Rattle.semantics.proofs.Parts.{All, Entries, Hereditary, SheetHas, sheet_has}
use Rattle.semantics.specs.Spelled.{AllNumbers, AllNumbersIn, AllNumbersOf}
use Rattle.members.specs.Condition.{Condition}
use Rattle.members.specs.Kinds.{an_object, not_null}
use Rattle.members.specs.Sheet.{Sheet, a_sheet, read_sheet, sound, written}

-- what the grammar spells
mutual
  unfolding AllNumbers

  pub spelled_numbers : {v : Value} {s r : Bytes} → Spells v s r → AllNumbers v
  spelled_numbers (Spells.is_null e) = tt
  spelled_numbers (Spells.is_true e) = tt
  spelled_numbers (Spells.is_false e) = tt
  spelled_numbers (Spells.is_number {s = s} {r = r} n e) = (s, r, Spells.is_number n e)
  spelled_numbers (Spells.is_text t) = tt
  spelled_numbers (Spells.is_array a es b) = elements_numbers es
  spelled_numbers (Spells.is_object a ms b) = members_numbers ms

  elements_numbers : {vs : Values} {s r : Bytes} → Elements vs s r → AllNumbersIn vs
  elements_numbers Elements.no_element = tt
  elements_numbers (Elements.elements v vs) = (spelled_numbers v, more_elements vs)

  more_elements : {vs : Values} {s r : Bytes} → MoreElements vs s r → AllNumbersIn vs
  more_elements MoreElements.last_element = tt
  more_elements (MoreElements.next_element a v vs) = (spelled_numbers v, more_elements vs)

  members_numbers : {ms : Members} {s r : Bytes} → MembersOf ms s r → AllNumbersOf ms
  members_numbers MembersOf.no_member = tt
  members_numbers (MembersOf.members k a v ms) = (spelled_numbers v, more_members ms)

  more_members : {ms : Members} {s r : Bytes} → MoreMembers ms s r → AllNumbersOf ms
  more_members MoreMembers.last_member = tt
  more_members (MoreMembers.next_member a k b v ms) = (spelled_numbers v, more_members ms)

pub json_numbers : (s : Bytes) (v : Value) → json s ≡ ok v → AllNumbers v
json_numbers s v e = spelled_numbers ((read_exactly s v).0 e).is_json.spelled

-- sorting adds no number
insert_numbers : (k : Bytes) (v : Value) (ms : Members) → AllNumbers v → AllNumbersOf ms → AllNumbersOf (insert k v ms)
unfolding AllNumbers order_bytes
insert_numbers k v empty h hs = (h, hs)
insert_numbers k v (member l w ms) h hs = go (insert_numbers k v ms h hs.1) (order_bytes k l) refl
  where
    go : AllNumbersOf (insert k v ms) → (o : Ordering) → order_bytes k l ≡ o → AllNumbersOf (insert k v (member l w ms))
    go rest Ordering.lt q = rw (q, insert) (h, hs)
    go rest Ordering.eq q = rw (q, insert) hs
    go rest Ordering.gt q = rw (q, insert) (hs.0, rest)

mutual
  unfolding AllNumbers sorted

  pub sorted_numbers : (v : Value) → AllNumbers v → AllNumbers (sorted v)
  sorted_numbers null h = tt
  sorted_numbers (bool b) h = tt
  sorted_numbers (number s) h = h
  sorted_numbers (text s) h = tt
  sorted_numbers (array vs) h = sorted_in_numbers vs h
  sorted_numbers (object ms) h = sorted_of_numbers ms h

  sorted_in_numbers : (vs : Values) → AllNumbersIn vs → AllNumbersIn (sorted_in vs)
  sorted_in_numbers nil h = tt
  sorted_in_numbers (cons v vs) h = (sorted_numbers v h.0, sorted_in_numbers vs h.1)

  sorted_of_numbers : (ms : Members) → AllNumbersOf ms → AllNumbersOf (sorted_of ms)
  sorted_of_numbers empty h = tt
  sorted_of_numbers (member k v ms) h = insert_numbers k (sorted v) (sorted_of ms) (sorted_numbers v h.0) (sorted_of_numbers ms h.1)

-- the parts of a value
pub numbers_in : (vs : Values) → AllNumbersIn vs → All AllNumbers (elements vs)
unfolding AllNumbers
numbers_in nil h = tt
numbers_in (cons v vs) h = (h.0, numbers_in vs h.1)

pub numbers_of : (ms : Members) → AllNumbersOf ms → Entries AllNumbers (entries ms)
unfolding AllNumbers
numbers_of empty h = tt
numbers_of (member k v ms) h = (h.0, numbers_of ms h.1)

numbers_parts : Hereditary AllNumbers
unfolding AllNumbers
numbers_parts = record { in_array = λ vs h. numbers_in vs h; in_object = λ ms h. numbers_of ms h }

pub read_numbers : (s : Bytes) (sheet : Sheet Condition) → read_sheet s ≡ ok sheet → SheetHas AllNumbers sheet
unfolding read_sheet
read_numbers s sheet e =
    bind_with (json s) _ e λ v q e₁.
    bind_with (a_sheet not_null v) _ e₁ λ _ _ e₂.
    bind_with (an_object v) _ e₂ λ ms _ e₃.
    bind_with (sound (written (entries ms))) _ e₃ λ _ _ e₄.
    sheet_has AllNumbers numbers_parts (sorted v) sheet (sorted_numbers v (json_numbers s v q)) e₄
