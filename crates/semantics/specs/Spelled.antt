-- Values whose numbers are all texts that RFC 8259 spells as numbers, and the conditions of a sheet.
-- Assumes nothing.
use mathlib.Core.List.{Memᴰ}
use Rattle.std.specs.Prelude.{Some}
use Rattle.std.specs.Prelude.{◌≡◌}
use Rattle.json_text.specs.Bytes.{Bytes}
use Rattle.json_text.specs.Grammar.{Spells}
use Rattle.json_text.specs.Json.{Members, Value, Values, array, bool, cons, empty, member, nil, null, number, object, text}
use Rattle.members.specs.Condition.{Condition}
use Rattle.members.specs.Outcome.{Outcome}
use Rattle.members.specs.Rule.{Rule}
use Rattle.members.specs.Sheet.{Sheet}

-- some text begins with it, and the grammar spells it there as a number
abbrev pub IsNumber : Bytes → Type 0
IsNumber x = (s : Bytes) × (r : Bytes) × Spells (number x) s r

unfoldable mutual
  pub AllNumbers : Value → Type 0
  AllNumbers null = Unit {0}
  AllNumbers (bool b) = Unit {0}
  AllNumbers (number s) = IsNumber s
  AllNumbers (text s) = Unit {0}
  AllNumbers (array vs) = AllNumbersIn vs
  AllNumbers (object ms) = AllNumbersOf ms

  pub AllNumbersIn : Values → Type 0
  AllNumbersIn nil = Unit {0}
  AllNumbersIn (cons v vs) = AllNumbers v × AllNumbersIn vs

  pub AllNumbersOf : Members → Type 0
  AllNumbersOf empty = Unit {0}
  AllNumbersOf (member k v ms) = AllNumbers v × AllNumbersOf ms

-- each condition that a sheet has: its own, those of its rules, and its guards
pub data ConditionOf (sheet : Sheet Condition) : Condition → Type 0 where
  its_own : {c : Condition} → sheet.condition ≡ Some c → ConditionOf sheet c
  precondition : {r : Rule Condition} → Memᴰ r sheet.preconditions → ConditionOf sheet r.assert
  invariant : {r : Rule Condition} → Memᴰ r sheet.invariants → ConditionOf sheet r.assert
  guard : {o : Outcome Condition} {c : Condition} → Memᴰ o sheet.outcomes → o.when ≡ Some c → ConditionOf sheet c
