-- Sentences of the paper by small sheets, a row each, as one theorem: a definition that gets such a sentence wrong fails a row. Many more cases go
-- through programs.
-- Assumes nothing.
use mathlib.Core.List.{List, map, [], ◌++◌, ◌∷◌}
use Rattle.std.specs.Prelude.{Option, None, Some, false}
use mathlib.Core.Path.{refl, ◌≡◌}
use Prim.Native.Nat.{ℕ}
use Prim.Native.String.{String}
use lib.ListN.{replicate}
use Rattle.answers.specs.Entry.{Reply, admit, check_invariants, check_preconditions, decide, evaluate, output_after, select, work_after}
use Rattle.json_text.specs.Bytes.{Bytes, ascii}

pub record Row : Type 0 where
  pub answer : Reply
  pub wanted : Reply

abbrev pub row : (Bytes → ℕ → ℕ → Reply) → Bytes → ℕ → Option Bytes → Row
row call s n line = record { answer = call s 16384 65536; wanted = record { number = n; line = line } }

-- a line, and none
abbrev pub says : String → Option Bytes
says s = Some (ascii s ++ (10 ∷ []))

abbrev pub silent : Option Bytes
silent = None

-- a sheet with these arguments and further members
abbrev pub sheet : String → String → Bytes
sheet args more =
    ascii "{\"entity\":\"e\",\"version\":1,\"args\":" ++ ascii args ++
    ascii ",\"fields\":{},\"old_fields\":{},\"from_state\":\"f\",\"to_state\":\"t\",\"states\":[\"a\",\"b\"]," ++ ascii more ++ ascii "}"

-- one with a condition alone
abbrev pub condition : String → String → Bytes
condition args c =
    ascii "{\"condition\":" ++ ascii c ++
    ascii ",\"preconditions\":[],\"invariants\":[],\"outcomes\":[],\"entity\":\"e\",\"version\":1,\"args\":" ++ ascii args ++
    ascii ",\"fields\":{},\"old_fields\":{},\"from_state\":\"f\",\"to_state\":\"t\",\"states\":[]}"

abbrev pub rows : List Row
rows =
    -- Condition: exactly one member, exactly two operands; the condition at fault that begins first
    row evaluate (condition "{}" "{\"eq\":[1,2,3]}") 10 silent ∷
    row evaluate (condition "{}" "{\"all\":[{\"before\":1},null]}") 11 silent ∷
    row evaluate (sheet "{}" "\"preconditions\":[{\"assert\":{\"before\":1}}],\"invariants\":[],\"outcomes\":[],\"condition\":5") 11 silent ∷
    -- Forms
    row evaluate (condition "{}" "{\"gte\":[1,1.0]}") 0 (says "(truth true (names))") ∷
    row evaluate (condition "{}" "{\"lt\":[-1,-0.5]}") 0 (says "(truth true (names))") ∷
    row evaluate (condition "{}" "{\"starts_with\":[\"abc\",\"ab\"]}") 0 (says "(truth true (names))") ∷
    row evaluate (condition "{}" "{\"ends_with\":[\"abc\",\"bc\"]}") 0 (says "(truth true (names))") ∷
    row evaluate (condition "{}" "{\"contains\":[\"abc\",\"bc\"]}") 0 (says "(truth true (names))") ∷
    row evaluate (condition "{}" "{\"in\":[{\"a\":1,\"b\":[2]},[{\"b\":[2.0],\"a\":1e0}]]}") 0 (says "(truth true (names))") ∷
    row evaluate
    (condition "{\"m\":{\"b\":0,\"a\":1}}"
    "{\"for_any\":{\"in\":\"$args.m\",\"as\":\"x\",\"that\":{\"any\":[{\"eq\":[\"$x\",1]},{\"eq\":[\"$foo\",1]}]}}}") 13
    (says "(refused 13 \"$foo\")") ∷
    -- Operand and binder
    row evaluate (condition "{}" "{\"eq\":[[\"$state\",\"$to_state\"],[\"t\",\"t\"]]}") 0 (says "(truth true (names))") ∷
    row evaluate (condition "{\"\":1}" "{\"eq\":[\"$args.\",1]}") 0 (says "(truth unknown (names \"$args.\"))") ∷
    row evaluate (condition "{}" "{\"for_any\":{\"in\":[{\"\":7}],\"as\":\"args\",\"that\":{\"eq\":[\"$args.\",7]}}}") 0 (says "(truth true (names))") ∷
    row evaluate (condition "{}" "{\"for_all\":{\"in\":[\"$$foo\"],\"as\":\"x\",\"that\":{\"eq\":[\"$x\",\"$$foo\"]}}}") 0 (says "(truth true (names))") ∷
    row evaluate (condition "{}" "{\"eq\":[{\"b\":\"$foo\",\"a\":\"$id\"},1]}") 14 (says "(refused 14 \"$id\")") ∷
    row evaluate (condition "{\"n\":null}" "{\"any\":[{\"exists\":\"$args.n\"},{\"exists\":null}]}") 0 (says "(truth true (names))") ∷
    -- Names: each once, ascending, for any truth
    row evaluate (condition "{}" "{\"any\":[true,{\"eq\":[\"$args.b\",\"$args.a\"]},{\"eq\":[\"$args.b\",1]}]}") 0 (says "(truth true (names \"$args.a\" \"$args.b\"))") ∷
    -- Rules, their names and messages
    row check_preconditions (sheet "{}" "\"preconditions\":[{\"assert\":true},{\"assert\":false}],\"invariants\":[],\"outcomes\":[]") 15
    (says "(refused 15 1 () \"condition evaluated to false\")") ∷
    row check_preconditions
    (sheet "{}" "\"preconditions\":[{\"assert\":{\"eq\":[\"$args.v\",1]},\"name\":\"\\u001f\\\"\"}],\"invariants\":[],\"outcomes\":[]")
    16 (says "(refused 16 0 \"\\u001f\\\"\" \"condition could not be evaluated\" (names \"$args.v\"))") ∷
    row check_preconditions
    (sheet "{}"
    "\"preconditions\":[{\"assert\":{\"any\":[true,{\"eq\":[\"$args.a\",1]}]}},{\"assert\":{\"eq\":[\"$args.b\",1]}}],\"invariants\":[],\"outcomes\":[]")
    16 (says "(refused 16 1 () \"condition could not be evaluated\" (names \"$args.b\"))") ∷
    row check_invariants (sheet "{}" "\"preconditions\":[{\"assert\":false}],\"invariants\":[{\"assert\":false,\"message\":\"m\"}],\"outcomes\":[]") 17 (says "(refused 17 0 () \"m\")") ∷
    row check_invariants
    (sheet "{}"
    "\"preconditions\":[],\"invariants\":[{\"assert\":{\"not\":{\"eq\":[\"$fields.f\",1]}},\"name\":\"n\"}],\"outcomes\":[]") 18
    (says "(refused 18 0 \"n\" \"condition could not be evaluated\" (names \"$fields.f\"))") ∷
    -- Outcomes and admission
    row select
    (sheet "{}"
    "\"preconditions\":[],\"invariants\":[],\"outcomes\":[{\"name\":\"w\",\"wrong_state\":true},{\"name\":\"o\",\"in_state\":\"x\"}]") 0
    (says "(selected 1 \"o\")") ∷
    row select
    (sheet "{}"
    "\"preconditions\":[],\"invariants\":[],\"outcomes\":[{\"name\":\"o\",\"when\":false},{\"name\":\"p\",\"when\":{\"gt\":[\"$args.v\",1]}},{\"name\":\"q\"}]")
    20 (says "(refused 20 1 \"p\" (names \"$args.v\"))") ∷
    row select (sheet "{}" "\"state\":\"a\",\"preconditions\":[],\"invariants\":[],\"outcomes\":[{\"name\":\"o\",\"in_state\":\"x\"}]") 19 (says "(refused 19)") ∷
    row decide
    (sheet "{}"
    "\"state\":\"z\",\"preconditions\":[],\"invariants\":[],\"outcomes\":[{\"name\":\"o\",\"effect\":{\"moves\":{\"to\":\"b\",\"from\":[\"a\",\"a\"]}}}]")
    22 (says "(refused 22 0 \"o\" \"z\" (from \"a\" \"a\"))") ∷
    row decide
    (sheet "{}"
    "\"state\":\"b\",\"preconditions\":[],\"invariants\":[],\"outcomes\":[{\"name\":\"o\",\"effect\":{\"moves\":{\"to\":\"b\",\"from\":\"a\"}}}]")
    21 (says "(refused 21 \"b\")") ∷
    row decide
    (sheet "{}"
    "\"state\":\"b\",\"preconditions\":[],\"invariants\":[],\"outcomes\":[{\"name\":\"o\",\"effect\":{\"moves\":{\"to\":\"b\",\"from\":\"a\"}}},{\"name\":\"w\",\"wrong_state\":true}]")
    0 (says "(admitted 1 \"w\")") ∷
    row decide (sheet "{}" "\"preconditions\":[{\"assert\":false}],\"invariants\":[],\"outcomes\":[]") 12 silent ∷
    row (admit 1) (sheet "{}" "\"state\":\"a\",\"preconditions\":[],\"invariants\":[],\"outcomes\":[{\"name\":\"o\"}]") 12 silent ∷
    []

pub sentences : map (λ r. r.answer) rows ≡ map (λ r. r.wanted) rows
unfolding admit check_invariants check_preconditions decide evaluate select
sentences = refl

-- a call leaves zeros in the first 16,384 words and the further ones as they were; after 1 all words are as they were
pub work_left : work_after (replicate 16384 7 ++ (8 ∷ 9 ∷ [])) ≡ replicate 16384 0 ++ (8 ∷ 9 ∷ [])
unfolding work_after
work_left = refl

pub work_kept : work_after (replicate 16383 7) ≡ replicate 16383 7
unfolding work_after
work_kept = refl

-- past the line the output keeps its bytes, and a refusal without a line changes none
pub output_left : output_after (record { number = 0; line = Some (1 ∷ 2 ∷ []) }) (7 ∷ 8 ∷ 9 ∷ []) ≡ 1 ∷ 2 ∷ 9 ∷ []
output_left = refl

pub output_kept : output_after (record { number = 4; line = None }) (7 ∷ []) ≡ 7 ∷ []
output_kept = refl
