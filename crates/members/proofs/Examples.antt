-- Sheets that are refused with 9, 10 and 11, and some that are not, by computation from their texts.
-- Assumes nothing.
use mathlib.Core.List.{List, map, [], ◌++◌, ◌∷◌}
use Rattle.std.specs.Prelude.{Option, None, Some}
use mathlib.Core.Path.{refl, ◌≡◌}
use Prim.Native.String.{String}
use Rattle.json_text.specs.Bytes.{Bytes, ascii}
use Rattle.json_text.specs.Refusal.{Refusal, not_carried, wrong_shape, wrong_sheet}
use Rattle.members.specs.Sheet.{read_sheet}
use Rattle.members.specs.Verdicts.{fault_of}

-- what varies: `outcomes` stands before `preconditions`, further members after both
pub record Case : Type 0 where
  pub version : String
  pub outcomes : String
  pub preconditions : String
  pub further : String
  pub number : Option Refusal

abbrev pub sheet_of : Case → Bytes
sheet_of c =
    ascii "{\"entity\":\"e\",\"args\":{},\"fields\":{},\"old_fields\":{},\"to_state\":\"s\",\"states\":[\"s\",\"s\",\"\"],\"version\":" ++
    ascii c.version ++
    ascii ",\"outcomes\":" ++
    ascii c.outcomes ++
    ascii ",\"invariants\":[],\"preconditions\":" ++
    ascii c.preconditions ++
    ascii c.further ++
    ascii "}"

abbrev version_is : String → Option Refusal → Case
version_is v n = record { version = v; outcomes = "[]"; preconditions = "[]"; further = ""; number = n }

abbrev outcomes_are : String → Option Refusal → Case
outcomes_are os n = record { version = "1"; outcomes = os; preconditions = "[]"; further = ""; number = n }

abbrev rules_are : String → Option Refusal → Case
rules_are rs n = record { version = "1"; outcomes = "[]"; preconditions = rs; further = ""; number = n }

abbrev with : String → Option Refusal → Case
with m n = record { version = "1"; outcomes = "[]"; preconditions = "[]"; further = m; number = n }

abbrev pub cases : List Case
cases =
    version_is "0" None ∷
    version_is "4294967295" None ∷
    version_is "4294967296" (Some wrong_sheet) ∷
    version_is "-0" (Some wrong_sheet) ∷
    version_is "1.0" (Some wrong_sheet) ∷
    version_is "1e0" (Some wrong_sheet) ∷
    outcomes_are "[{\"name\":\"\",\"effect\":\"updates\"}]" None ∷
    outcomes_are "[{\"name\":\"a\",\"effect\":\"n\\u006fne\"}]" None ∷
    outcomes_are "[{\"name\":\"a\",\"effect\":\"deletes\"}]" (Some wrong_sheet) ∷
    outcomes_are "[{\"name\":\"a\",\"effect\":{}}]" (Some wrong_sheet) ∷
    outcomes_are "[{\"name\":\"a\",\"effect\":{\"none\":null}}]" (Some wrong_sheet) ∷
    outcomes_are "[{\"name\":\"a\",\"effect\":{\"moves\":{\"to\":\"b\",\"from\":[]}}}]" None ∷
    outcomes_are "[{\"name\":\"a\",\"effect\":{\"moves\":{\"to\":\"b\",\"from\":\"a\"},\"x\":1}}]" (Some wrong_sheet) ∷
    outcomes_are "[{\"name\":\"a\",\"effect\":{\"moves\":{\"to\":\"b\",\"from\":\"a\",\"x\":1}}}]" (Some wrong_sheet) ∷
    outcomes_are "[{\"name\":\"a\",\"wrong_state\":null}]" (Some wrong_sheet) ∷
    outcomes_are "[{\"name\":\"a\",\"when\":null}]" (Some wrong_sheet) ∷
    outcomes_are "[{\"when\":true}]" (Some wrong_sheet) ∷
    rules_are "[{\"assert\":null}]" (Some wrong_sheet) ∷
    rules_are "[{\"assert\":true,\"name\":null}]" (Some wrong_sheet) ∷
    rules_are "[{\"assert\":true,\"further\":1}]" (Some wrong_sheet) ∷
    rules_are "[{\"assert\":5}]" (Some wrong_shape) ∷
    with ",\"id\":null" (Some wrong_sheet) ∷
    with ",\"further\":1" (Some wrong_sheet) ∷
    with ",\"condition\":null" (Some wrong_sheet) ∷
    with ",\"condition\":{\"not\":null}" (Some wrong_shape) ∷
    with ",\"condition\":{\"all\":[null]}" (Some wrong_shape) ∷
    with ",\"condition\":{\"for_all\":{\"in\":1,\"as\":\"c\",\"that\":null}}" (Some wrong_shape) ∷
    with ",\"condition\":{\"for_all\":{\"that\":false,\"as\":\"c\",\"in\":1}}" None ∷
    with ",\"condition\":{\"for_any\":{\"in\":1,\"as\":1,\"that\":{\"before\":1}}}" (Some wrong_shape) ∷
    with ",\"condition\":{\"unknown\":1}" (Some wrong_shape) ∷
    with ",\"condition\":{\"before\":[]}" (Some not_carried) ∷
    with ",\"condition\":{\"before\":[],\"x\":1}" (Some wrong_shape) ∷
    with ",\"condition\":{\"all\":[{\"before\":1},null]}" (Some not_carried) ∷
    with ",\"condition\":{\"all\":[{\"before\":1}],\"x\":1}" (Some wrong_shape) ∷
    with ",\"condition\":{\"exists\":{\"before\":1}}" None ∷
    with ",\"condition\":{\"eq\":[1]}" (Some wrong_shape) ∷
    record { version = "1"; outcomes = "[{\"name\":\"a\",\"when\":{\"truthy\":1}}]"; preconditions = "[{\"assert\":{}}]"; further = ""; number = Some not_carried } ∷
    record { version = "1"; outcomes = "[{\"name\":\"a\",\"when\":{\"truthy\":1}}]"; preconditions = "[{\"assert\":null}]"; further = ""; number = Some wrong_sheet } ∷
    []

pub examples : map (λ c. fault_of (read_sheet (sheet_of c))) cases ≡ map (λ c. c.number) cases
unfolding read_sheet
examples = refl
