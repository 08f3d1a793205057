-- The refusals of the paper's table, and the answer of everything that may refuse.
-- Assumes nothing.
use Rattle.std.specs.Prelude.{List, ℕ, Some, None}
use Rattle.std.specs.Prelude.{Option}
use Rattle.json_text.specs.Bytes.{Bytes}

pub data Rules : Type 0 where
  preconditions invariants : Rules

pub data Refusal : Type 0 where
  -- 1 to 8
  work_too_small too_long not_utf8 not_json too_deep number_too_long too_many_nodes repeated_name : Refusal
  -- 9 to 12
  wrong_sheet wrong_shape not_carried no_input : Refusal
  -- 13 with the expression, 14
  unknown_expression : Bytes → Refusal
  no_id : Refusal
  -- 15 and 17, 16 and 18: place, name, message, names
  rule_false : Rules → ℕ → Option Bytes → Option Bytes → Refusal
  rule_unknown : Rules → ℕ → Option Bytes → Option Bytes → List Bytes → Refusal
  -- 19, 20: place, name, names
  no_outcome : Refusal
  guard_unknown : ℕ → Bytes → List Bytes → Refusal
  -- 21: state; 22: place, name, state, sources
  wrong_state : Bytes → Refusal
  not_a_source : ℕ → Bytes → Bytes → List Bytes → Refusal
  -- 23
  line_too_long : Refusal

pub data Result (A : Type 0) : Type 0 where
  ok : A → Result A
  refused : Refusal → Result A

infixl 20 ◌>>=◌
abbrev pub ◌>>=◌ : {A B : Type 0} → Result A → (A → Result B) → Result B
ok a >>= f = f a
refused r >>= f = refused r

-- the value, or the refusal where there is none
abbrev pub or_else : {A : Type 0} → Option A → Refusal → Result A
or_else None r = refused r
or_else (Some a) r = ok a
