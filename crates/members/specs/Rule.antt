-- A rule (the paper's "Rule and outcome"): `assert`, and the texts `name` and `message`, which may be missing.
-- Assumes nothing.
use Rattle.std.specs.Prelude.{[], ◌∷◌}
use Rattle.std.specs.Prelude.{Option}
use Rattle.json_text.specs.Bytes.{Bytes, ascii, find}
use Rattle.json_text.specs.Json.{Value, keys}
use Rattle.json_text.specs.Refusal.{Result, ok, ◌>>=◌}
use Rattle.members.specs.Kinds.{a_text, an_object, only, optional, required}

-- a rule, over what a condition is read as: a value that is not null while 9 is judged, then a condition
pub record Rule (C : Type 0) : Type 0 where
  pub name : Option Bytes
  pub message : Option Bytes
  pub assert : C

module _ {C : Type 0} (kind : Value → Result C) where
  -- a value as a rule, or 9
  unfoldable pub a_rule : Value → Result (Rule C)
  unfolding find only
  a_rule v = do
    ms ← an_object v
    _ ← only (ascii "assert" ∷ ascii "name" ∷ ascii "message" ∷ []) (keys ms)
    c ← required kind (ascii "assert") ms
    n ← optional a_text (ascii "name") ms
    m ← optional a_text (ascii "message") ms
    ok (record { name = n; message = m; assert = c })
