-- The paper's P table as one theorem, and its example, by computation from the texts.
-- Assumes nothing.
use mathlib.Core.List.{List, map, [], ◌++◌, ◌∷◌}
use Rattle.std.specs.Prelude.{Some}
use mathlib.Core.Path.{refl, ◌≡◌}
use Prim.Native.Nat.{ℕ}
use Prim.Native.String.{String}
use Rattle.answers.specs.Entry.{Reply, decide, evaluate}
use Rattle.json_text.specs.Bytes.{Bytes, ascii}

pub record Case : Type 0 where
  pub args : String
  pub condition : String
  pub number : ℕ
  pub line : String

abbrev pub sheet_of : Case → Bytes
sheet_of c =
    ascii "{\"entity\":\"e\",\"version\":1,\"fields\":{},\"old_fields\":{},\"to_state\":\"s\",\"states\":[],\"preconditions\":[],\"invariants\":[],\"outcomes\":[],\"args\":" ++
    ascii c.args ++
    ascii ",\"condition\":" ++
    ascii c.condition ++
    ascii "}"

abbrev pub reply_of : Case → Reply
reply_of c = record { number = c.number; line = Some (ascii c.line) }

-- P1 (twice) to P12
abbrev pub cases : List Case
cases =
    record { args = "{}"; condition = "{\"all\":[]}"; number = 0; line = "(truth true (names))\n" } ∷
    record { args = "{}"; condition = "{\"any\":[]}"; number = 0; line = "(truth false (names))\n" } ∷
    record { args = "{}"; condition = "{\"for_all\":{\"in\":\"abc\",\"as\":\"c\",\"that\":true}}"; number = 0; line = "(truth unknown (names))\n" } ∷
    record { args = "{}"; condition = "{\"eq\":[null,null]}"; number = 0; line = "(truth true (names))\n" } ∷
    record { args = "{}"; condition = "{\"gt\":[\"a\",1]}"; number = 0; line = "(truth false (names))\n" } ∷
    record { args = "{}"; condition = "{\"eq\":[1.0,10e-1]}"; number = 0; line = "(truth true (names))\n" } ∷
    record { args = "{}"; condition = "{\"eq\":[-0,0.00]}"; number = 0; line = "(truth true (names))\n" } ∷
    record { args = "{}"; condition = "{\"lt\":[9e12345678901234567890,1e12345678901234567891]}"; number = 0; line = "(truth true (names))\n" } ∷
    record { args = "{}"; condition = "{\"any\":[true,{\"eq\":[\"$foo\",1]}]}"; number = 13; line = "(refused 13 \"$foo\")\n" } ∷
    record { args = "{}"; condition = "{\"exists\":\"$args.z\"}"; number = 0; line = "(truth false (names))\n" } ∷
    record { args = "{\"a\":{\"\":5}}"; condition = "{\"eq\":[\"$args.a.\",5]}"; number = 0; line = "(truth true (names))\n" } ∷
    record { args = "{}"; condition = "{\"contains\":[{\"a\":1},\"a\"]}"; number = 0; line = "(truth true (names))\n" } ∷
    record { args = "{}"; condition = "{\"in\":[1,\"x\"]}"; number = 0; line = "(truth false (names))\n" } ∷
    []

pub p_table : map (λ c. evaluate (sheet_of c) 16384 65536) cases ≡ map reply_of cases
unfolding evaluate
p_table = refl

-- the paper's sheet, over its arguments
abbrev behind_args : Bytes
behind_args =
    ascii ",\"fields\":{},\"old_fields\":{},\"to_state\":\"in\",\"state\":\"in\",\"states\":[\"in\",\"out\"],\"preconditions\":[],\"invariants\":[],\"outcomes\":[" ++
    ascii "{\"name\":\"scrap\",\"when\":{\"for_any\":{\"in\":\"$args.v\",\"as\":\"c\",\"that\":{\"lt\":[\"$c\",2.5]}}}},{\"name\":\"rebuild\"}]}"

abbrev with_args : String → Bytes
with_args args = ascii "{\"entity\":\"pack\",\"version\":1,\"args\":" ++ (ascii args ++ behind_args)

abbrev pub sheet : Bytes
sheet = with_args "{\"v\":[3.61,3.58]}"

abbrev pub erased : Bytes
erased = with_args "{}"

pub example : decide sheet 16384 65536 ≡ record { number = 0; line = Some (ascii "(admitted 1 \"rebuild\")\n") }
unfolding decide
example = refl

pub example_erased : decide erased 16384 65536 ≡ record { number = 20; line = Some (ascii "(refused 20 0 \"scrap\" (names \"$args.v\"))\n") }
unfolding decide
example_erased = refl
