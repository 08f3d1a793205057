-- The paper's examples of lines, and one of each other kind, by computation.
-- Assumes nothing.
use mathlib.Core.List.{List, [], ◌∷◌}
use Rattle.std.specs.Prelude.{Option, None, Some, false}
use mathlib.Core.Path.{refl, ◌≡◌}
use Prim.Native.String.{String}
use Rattle.semantics.specs.Truth as truths
use Rattle.answers.specs.Line.{end_line}
use Rattle.answers.specs.Reply.{reply}
use Rattle.answers.specs.Verdict.{Verdict, admitted, answered, passed, selected}
use Rattle.json_text.specs.Bytes.{Bytes, ascii}
use Rattle.json_text.specs.Refusal.{Result, guard_unknown, invariants, no_id, no_input, no_outcome, not_a_source, ok, preconditions, refused, rule_false, rule_unknown, unknown_expression, wrong_state}

unfoldable pub line_of : Result Verdict → Option Bytes
unfolding reply
line_of x = (reply 65536 x).line

-- answers and refusals, each with the text of its line
unfoldable pub cases : List (Result Verdict × String)
cases =
    (ok (answered truths.Unknown (ascii "$args.v" ∷ [])), "(truth unknown (names \"$args.v\"))") ∷
    (ok (answered truths.True []), "(truth true (names))") ∷
    (ok (answered truths.False (ascii "$a" ∷ ascii "$b" ∷ [])), "(truth false (names \"$a\" \"$b\"))") ∷
    (ok passed, "(passed)") ∷
    (ok (selected 1 (ascii "rebuild")), "(selected 1 \"rebuild\")") ∷
    (ok (admitted 1 (ascii "rebuild")), "(admitted 1 \"rebuild\")") ∷
    (refused (unknown_expression (ascii "$foo")), "(refused 13 \"$foo\")") ∷
    (refused no_id, "(refused 14 \"$id\")") ∷
    (refused (rule_false preconditions 0 (Some (ascii "name")) (Some (ascii "message"))), "(refused 15 0 \"name\" \"message\")") ∷
    (refused (rule_false invariants 12 None None), "(refused 17 12 () \"condition evaluated to false\")") ∷
    (refused (rule_unknown preconditions 0 (Some []) None (ascii "$a" ∷ [])), "(refused 16 0 \"\" \"condition could not be evaluated\" (names \"$a\"))") ∷
    (refused (rule_unknown invariants 4095 None (Some (ascii "m")) []), "(refused 18 4095 () \"m\" (names))") ∷
    (refused no_outcome, "(refused 19)") ∷
    (refused (guard_unknown 0 (ascii "scrap") (ascii "$args.v" ∷ [])), "(refused 20 0 \"scrap\" (names \"$args.v\"))") ∷
    (refused (wrong_state (ascii "state")), "(refused 21 \"state\")") ∷
    (refused (not_a_source 0 (ascii "scrap") (ascii "state") (ascii "a" ∷ [])), "(refused 22 0 \"scrap\" \"state\" (from \"a\"))") ∷
    (refused (not_a_source 0 [] [] []), "(refused 22 0 \"\" \"\" (from))") ∷
    (refused (wrong_state (34 ∷ 92 ∷ 0 ∷ 31 ∷ 32 ∷ 127 ∷ [])), "(refused 21 \"\\\"\\\\\\u0000\\u001f \u{7f}\")") ∷
    []

unfoldable pub lines_of : List (Result Verdict × String) → List (Option Bytes)
unfolding line_of
lines_of [] = []
lines_of (c ∷ cs) = line_of c.0 ∷ lines_of cs

unfoldable pub texts : List (Result Verdict × String) → List (Option Bytes)
texts [] = []
texts (c ∷ cs) = Some (end_line (ascii c.1)) ∷ texts cs

pub samples : lines_of cases ≡ texts cases
unfolding lines_of texts cases
samples = refl

pub no_line_of_12 : line_of (refused no_input) ≡ None
unfolding line_of
no_line_of_12 = refl
