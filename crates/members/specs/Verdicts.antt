-- A reading as code answers it: whether it gives a value, and the number that it is refused with.
-- Assumes nothing.
use Rattle.std.specs.Prelude.{Bool, false, true, ◌&&◌}
use Rattle.std.specs.Prelude.{Option, None, Some}
use Rattle.json_text.specs.Json.{Value, Values, cons, nil}
use Rattle.json_text.specs.Refusal.{Refusal, Result, ok, refused}

-- whether it gives a value
abbrev pub is_ok : {A : Type 0} → Result A → Bool
is_ok (ok a) = true
is_ok (refused r) = false

-- what it is refused with, if it is
abbrev pub fault_of : {A : Type 0} → Result A → Option Refusal
fault_of (ok a) = None
fault_of (refused r) = Some r

-- whether every element is as the test says
abbrev pub all_of : (Value → Bool) → Values → Bool
all_of p nil = true
all_of p (cons v vs) = p v && all_of p vs
