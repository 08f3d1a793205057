-- Members of two sheets' texts that are alike as the owner compares values: members of objects in any order.
-- Assumes nothing.
use Rattle.std.specs.Prelude.{None, Some}
use Rattle.std.specs.Prelude.{◌≡◌}
use Rattle.json_text.specs.Alike.{Alike}
use Rattle.json_text.specs.Bytes.{Bytes, ascii, find}
use Rattle.json_text.specs.Json.{Members, Value, entries}

-- a member that is missing on both sides, or there with values that are alike
pub data AlikeMember (k : Bytes) (ms ns : Members) : Type 0 where
  both_missing : find k (entries ms) ≡ None → find k (entries ns) ≡ None → AlikeMember k ms ns
  both_there : (v w : Value) → find k (entries ms) ≡ Some v → find k (entries ns) ≡ Some w → Alike v w → AlikeMember k ms ns

-- the members that a decision's rules and state stand in
pub record AlikeRules (ms ns : Members) : Type 0 where
  pub rules : AlikeMember (ascii "preconditions") ms ns
  pub outcomes : AlikeMember (ascii "outcomes") ms ns
  pub state : AlikeMember (ascii "state") ms ns
  pub states : AlikeMember (ascii "states") ms ns

-- the members that expressions read
pub record AlikeSources (ms ns : Members) : Type 0 where
  pub id : AlikeMember (ascii "id") ms ns
  pub entity : AlikeMember (ascii "entity") ms ns
  pub version : AlikeMember (ascii "version") ms ns
  pub from_state : AlikeMember (ascii "from_state") ms ns
  pub to_state : AlikeMember (ascii "to_state") ms ns
  pub args : AlikeMember (ascii "args") ms ns
  pub fields : AlikeMember (ascii "fields") ms ns
  pub old_fields : AlikeMember (ascii "old_fields") ms ns
