-- What a call answers where nothing is refused.
-- Assumes nothing.
use Rattle.std.specs.Prelude.{ℕ}
use Rattle.semantics.specs.Names.{Names}
use Rattle.semantics.specs.Truth.{Truth}
use Rattle.json_text.specs.Bytes.{Bytes}

pub data Verdict : Type 0 where
  answered : Truth → Names → Verdict
  passed : Verdict
  selected : ℕ → Bytes → Verdict
  admitted : ℕ → Bytes → Verdict
