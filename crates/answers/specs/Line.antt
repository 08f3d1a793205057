-- The line of an answer or a refusal, and the refusal's number: one bracketed form and LF.
-- Assumes nothing.
use Rattle.std.specs.Prelude.{false, true, List, [], ◌++◌, ◌∷◌, suc, zero, ℕ, ◌%◌, ◌+◌, ◌/◌, eqb, ltb}
use Rattle.std.specs.Prelude.{Option, None, Some}
use Rattle.answers.specs.Verdict.{Verdict, admitted, answered, passed, selected}
use Rattle.semantics.specs.Names.{Names}
use Rattle.semantics.specs.Truth.{False, True, Truth, Unknown}
use Rattle.json_text.specs.Bytes.{Bytes, ascii, choose}
use Rattle.json_text.specs.Refusal.{
  Refusal,
  Rules,
  guard_unknown,
  invariants,
  line_too_long,
  no_id,
  no_input,
  no_outcome,
  not_a_source,
  not_carried,
  not_json,
  not_utf8,
  number_too_long,
  preconditions,
  repeated_name,
  rule_false,
  rule_unknown,
  too_deep,
  too_long,
  too_many_nodes,
  unknown_expression,
  work_too_small,
  wrong_shape,
  wrong_sheet,
  wrong_state,
}

-- the numbers of a rule that is False, and of one that is Unknown
abbrev pub false_number : Rules → ℕ
false_number preconditions = 15
false_number invariants = 17

abbrev pub unknown_number : Rules → ℕ
unknown_number preconditions = 16
unknown_number invariants = 18

unfoldable pub refusal_number : Refusal → ℕ
refusal_number work_too_small = 1
refusal_number too_long = 2
refusal_number not_utf8 = 3
refusal_number not_json = 4
refusal_number too_deep = 5
refusal_number number_too_long = 6
refusal_number too_many_nodes = 7
refusal_number repeated_name = 8
refusal_number wrong_sheet = 9
refusal_number wrong_shape = 10
refusal_number not_carried = 11
refusal_number no_input = 12
refusal_number (unknown_expression e) = 13
refusal_number no_id = 14
refusal_number (rule_false k i n m) = false_number k
refusal_number (rule_unknown k i n m ns) = unknown_number k
refusal_number no_outcome = 19
refusal_number (guard_unknown i n ns) = 20
refusal_number (wrong_state s) = 21
refusal_number (not_a_source i n s from) = 22
refusal_number line_too_long = 23

-- a number in decimal digits; the first argument bounds how many
unfoldable pub digits_of : ℕ → ℕ → Bytes → Bytes
digits_of zero n s = s
digits_of (suc f) n s = elim (ltb n 10) [ true ↦ (48 + n) ∷ s | false ↦ digits_of f (n / 10) ((48 + n % 10) ∷ s) ]

abbrev pub decimal_digits : ℕ → Bytes
decimal_digits n = digits_of 20 n []

-- a text in quotes: `"` and `\` get a backslash, bytes below 32 are written in lower-case hexadecimal
abbrev pub hex_of : ℕ → ℕ
hex_of n = choose ((ltb n 10, 48 + n) ∷ []) (87 + n)

abbrev pub quoted_byte : ℕ → Bytes
quoted_byte c =
    choose
    ((eqb c 34, 92 ∷ 34 ∷ []) ∷
    (eqb c 92, 92 ∷ 92 ∷ []) ∷
    (ltb c 32, ascii "\\u00" ++ (hex_of (c / 16) ∷ hex_of (c % 16) ∷ [])) ∷
    [])
    (c ∷ [])

unfoldable pub quoted_bytes : Bytes → Bytes
quoted_bytes [] = 34 ∷ []
quoted_bytes (c ∷ s) = quoted_byte c ++ quoted_bytes s

abbrev pub quoted : Bytes → Bytes
quoted s = 34 ∷ quoted_bytes s

-- bracketed forms: words and forms with one space between them; a form that is still open, and a whole one
unfoldable pub spaced : List Bytes → Bytes
spaced [] = []
spaced (w ∷ []) = w
spaced (w ∷ v ∷ ws) = w ++ (32 ∷ spaced (v ∷ ws))

abbrev pub opened : List Bytes → Bytes
opened ws = 40 ∷ spaced ws

abbrev pub form : List Bytes → Bytes
form ws = opened ws ++ (41 ∷ [])

unfoldable pub each_quoted : List Bytes → List Bytes
unfolding quoted_bytes
each_quoted [] = []
each_quoted (t ∷ ts) = quoted t ∷ each_quoted ts

-- a word and texts in quotes, in the order given; the word alone where there is none
abbrev pub listed : Bytes → List Bytes → Bytes
listed w ts = form (w ∷ each_quoted ts)

abbrev pub truth_word : Truth → Bytes
truth_word True = ascii "true"
truth_word False = ascii "false"
truth_word Unknown = ascii "unknown"

-- a text in quotes, or other bytes where it is missing: a rule's name and message
abbrev pub quoted_or : Bytes → Option Bytes → Bytes
quoted_or d None = d
quoted_or d (Some t) = quoted t

abbrev pub name_or : Option Bytes → Bytes
name_or n = quoted_or (ascii "()") n

abbrev pub message_or : Bytes → Option Bytes → Bytes
message_or d m = quoted_or (quoted d) m

abbrev pub names : Names → Bytes
names ns = listed (ascii "names") ns

-- an answer's form, and its line
unfoldable pub verdict_form : Verdict → Bytes
unfolding digits_of spaced each_quoted quoted_bytes
verdict_form (answered t ns) = form (ascii "truth" ∷ truth_word t ∷ names ns ∷ [])
verdict_form passed = form (ascii "passed" ∷ [])
verdict_form (selected i n) = form (ascii "selected" ∷ decimal_digits i ∷ quoted n ∷ [])
verdict_form (admitted i n) = form (ascii "admitted" ∷ decimal_digits i ∷ quoted n ∷ [])

abbrev pub end_line : Bytes → Bytes
end_line s = s ++ (10 ∷ [])

unfoldable pub verdict_line : Verdict → Bytes
unfolding verdict_form
verdict_line v = end_line (verdict_form v)

-- a refusal's form, and its line: 13 to 22 have one
abbrev pub refused_form : ℕ → List Bytes → Bytes
refused_form n ws = form (ascii "refused" ∷ decimal_digits n ∷ ws)

unfoldable pub refusal_form : Refusal → Option Bytes
unfolding digits_of spaced each_quoted quoted_bytes
refusal_form work_too_small = None
refusal_form too_long = None
refusal_form not_utf8 = None
refusal_form not_json = None
refusal_form too_deep = None
refusal_form number_too_long = None
refusal_form too_many_nodes = None
refusal_form repeated_name = None
refusal_form wrong_sheet = None
refusal_form wrong_shape = None
refusal_form not_carried = None
refusal_form no_input = None
refusal_form (unknown_expression e) = Some (refused_form 13 (quoted e ∷ []))
refusal_form no_id = Some (refused_form 14 (quoted (ascii "$id") ∷ []))
refusal_form (rule_false k i n m) = Some (refused_form (false_number k) (decimal_digits i ∷ name_or n ∷ message_or (ascii "condition evaluated to false") m ∷ []))
refusal_form (rule_unknown k i n m ns) = Some (refused_form (unknown_number k) (decimal_digits i ∷ name_or n ∷ message_or (ascii "condition could not be evaluated") m ∷ names ns ∷ []))
refusal_form no_outcome = Some (refused_form 19 [])
refusal_form (guard_unknown i n ns) = Some (refused_form 20 (decimal_digits i ∷ quoted n ∷ names ns ∷ []))
refusal_form (wrong_state s) = Some (refused_form 21 (quoted s ∷ []))
refusal_form (not_a_source i n s from) = Some (refused_form 22 (decimal_digits i ∷ quoted n ∷ quoted s ∷ listed (ascii "from") from ∷ []))
refusal_form line_too_long = None

abbrev pub each_line : Option Bytes → Option Bytes
each_line None = None
each_line (Some f) = Some (end_line f)

unfoldable pub refusal_line : Refusal → Option Bytes
unfolding refusal_form
refusal_line r = each_line (refusal_form r)

-- a number by itself, where there is no line
abbrev pub number_line : ℕ → Bytes
number_line n = end_line (refused_form n [])
