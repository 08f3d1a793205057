-- The kinds of members, and the refusal 9 (the paper's "Sheet"): a member missing, further, null or of the wrong kind. All of them refuse with 9, so their order makes no difference.
-- Assumes nothing.
use Rattle.std.specs.Prelude.{Bool, false, true, ◌&&◌, List, [], ◌∷◌, leb}
use Rattle.std.specs.Prelude.{Option, None, Some}
use Rattle.json_text.specs.Bytes.{Bytes, between, find, is_one_of, natural}
use Rattle.json_text.specs.Json.{Members, Value, as_array, as_bool, as_number, as_object, as_text, elements, entries, is_null}
use Rattle.json_text.specs.Refusal.{Result, ok, or_else, refused, wrong_sheet, ◌>>=◌}

-- the member of a name, of the kind it must have: one that must be there
abbrev pub required : {A : Type 0} → (Value → Result A) → Bytes → Members → Result A
required kind k ms = or_else (find k (entries ms)) wrong_sheet >>= kind

-- one that may be missing; null is no missing member
abbrev pub optional : {A : Type 0} → (Value → Result A) → Bytes → Members → Result (Option A)
optional kind k ms =
    elim
    (find k (entries ms)) [
      | None ↦
          ok None
      | Some v ↦
          (do
            a ← kind v
            ok (Some a))
    ]

-- no others: every name is one of those given
unfoldable pub only : List Bytes → List Bytes → Result Bool
unfolding is_one_of
only allowed [] = ok true
only allowed (k ∷ ks) = elim (is_one_of k allowed) [ true ↦ only allowed ks | false ↦ refused wrong_sheet ]

-- a string, a boolean, an object
abbrev pub a_text : Value → Result Bytes
a_text v = or_else (as_text v) wrong_sheet

abbrev pub a_bool : Value → Result Bool
a_bool v = or_else (as_bool v) wrong_sheet

abbrev pub an_object : Value → Result Members
an_object v = or_else (as_object v) wrong_sheet

-- every element of one kind, in order; and an array of such elements
unfoldable pub each_of : {A : Type 0} → (Value → Result A) → List Value → Result (List A)
each_of kind [] = ok []
each_of kind (v ∷ vs) = do
  a ← kind v
  as' ← each_of kind vs
  ok (a ∷ as')

abbrev pub an_array_of : {A : Type 0} → (Value → Result A) → Value → Result (List A)
an_array_of kind v = do
  vs ← or_else (as_array v) wrong_sheet
  each_of kind (elements vs)

-- a number's characters that are digits alone
unfoldable pub all_digits : Bytes → Bool
all_digits [] = true
all_digits (c ∷ s) = between 48 57 c && all_digits s

-- `version`: digits, 0 to 4,294,967,295
unfoldable pub is_version : Bytes → Bool
unfolding all_digits natural
is_version s = all_digits s && leb (natural 0 s) 4294967295

unfoldable pub a_version : Value → Result Bytes
unfolding is_version
a_version v = do
  s ← or_else (as_number v) wrong_sheet
  elim (is_version s) [ true ↦ ok s | false ↦ refused wrong_sheet ]

-- any value but null is a condition's kind; what it is as a condition is judged after all of 9
abbrev pub not_null : Value → Result Value
not_null v = elim (is_null v) [ true ↦ refused wrong_sheet | false ↦ ok v ]

-- a move's `from`: a text or an array of texts
abbrev pub some_texts : Value → Result (List Bytes)
some_texts v =
    elim
    (as_text v) [
      | Some s ↦
          ok (s ∷ [])
      | None ↦
          an_array_of a_text v
    ]
