-- Members that must be there or may be missing, and arrays, by what a test says of the value; and what a function that is asked as a test says.
-- Assumes nothing.
use Rattle.std.specs.Prelude.{Bool, false, true, List, ℕ, ◌≡◌}
use Rattle.std.specs.Prelude.{Option, None, Some}
use Rattle.std.specs.Borrow.{Bor}
use Rattle.json_text.specs.Bytes.{Bytes}
use Rattle.json_text.specs.Held.{IsNode}
use Rattle.json_text.specs.Json.{Value, as_array}
use Rattle.json_text.specs.Table.{value_at}
use Rattle.members.specs.Verdicts.{all_of}

-- a member that must be there, and one that may be missing
abbrev pub needed : (Value → Bool) → Option Value → Bool
needed p None = false
needed p (Some v) = p v

abbrev pub allowed : (Value → Bool) → Option Value → Bool
allowed p None = true
allowed p (Some v) = p v

-- an array each element of which is as the test says
abbrev pub array_where : (Value → Bool) → Value → Bool
array_where p v = elim (as_array v) [ None ↦ false | Some vs ↦ all_of p vs ]

-- a function of a sheet, a table and a node may be asked of every node of the table; and it says of a node what the test says of its value
abbrev pub MayTest : (Bor Bytes → Bor (List ℕ) → ℕ → Type 0) → Type 0
MayTest pre = (s : Bor Bytes) (w : Bor (List ℕ)) (n : ℕ) → IsNode s.now w.now 64 n → pre s w n

abbrev pub Tells : (Bor Bytes → Bor (List ℕ) → ℕ → Bool → Type 0) → (Value → Bool) → Type 0
Tells post p = (s : Bor Bytes) (w : Bor (List ℕ)) (n : ℕ) (b : Bool) → post s w n b → b ≡ p (value_at s.now w.now n)
