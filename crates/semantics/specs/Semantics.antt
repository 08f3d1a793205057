-- What the dialects of the language differ in: how a path takes a step, when two numbers are equal, and how they are ordered. Expressions, operands
-- and conditions are defined over it; only kernel/1 is carried.
-- Assumes nothing.
use Rattle.std.specs.Prelude.{Bool, false, true}
use Rattle.std.specs.Prelude.{Option, None, Some}
use Prim.Native.Nat.{Ordering}
use Rattle.number.specs.Compare.{number_order}
use Rattle.number.specs.Decimal.{decimal, exact_order}
use Rattle.json_text.specs.Bytes.{Bytes, find}
use Rattle.json_text.specs.Json.{Value, as_object, entries}

pub record Semantics : Type 0 where
  pub step : Bytes → Value → Option Value
  pub same_number : Bytes → Bytes → Bool
  pub order : Bytes → Bytes → Ordering

-- the named member of an object, else nothing
abbrev pub member_step : Bytes → Value → Option Value
member_step k v = elim (as_object v) [ None ↦ None | Some ms ↦ find k (entries ms) ]

abbrev pub is_same : Ordering → Bool
is_same Ordering.lt = false
is_same Ordering.eq = true
is_same Ordering.gt = false

-- numbers as the code compares them
abbrev pub kernel : Semantics
kernel = record { step = member_step; same_number = λ s t. is_same (number_order s t); order = λ s t. number_order s t }

-- The same by exact values. On a sheet that is read the two give the same answers (`ordered_exactly`, proofs/Exactly.antt).
abbrev pub exact_kernel : Semantics
exact_kernel = record { step = member_step; same_number = λ s t. is_same (exact_order (decimal s) (decimal t)); order = λ s t. exact_order (decimal s) (decimal t) }
