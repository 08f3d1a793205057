-- Bytes laid into an output. The same function measures and writes: over an empty part of the output it only counts.
-- Assumes nothing.
use Rattle.std.specs.Prelude.{◌++◌, ◌≡◌, min, ℕ, ◌+◌, drop, length}
use Rattle.std.proofs.lemmas.List.Edits.{sets}
use Rattle.json_text.specs.Bytes.{Bytes}
use Rattle.writer.specs.Room.{most}
use Rattle.writer.specs.declared.lay.Output.{Output}

-- an output over these bytes, of which nothing is laid yet
pub record Begun (o : Bytes) (out : Output) : Type 0 where
  pub bytes : out.bytes.now ≡ o
  pub start : out.at ≡ 0

-- Bytes laid into an output from its place on, as far as there is room. The place behind them is held at the largest number, so that no count can wrap and
-- no bound on a line's length is needed: a place below that is exact.
pub record Laid (old : Output) (bs : Bytes) (new : Output) : Type 0 where
  pub same : new.bytes.ghost_name ≡ old.bytes.ghost_name
  pub bytes : new.bytes.now ≡ sets old.bytes.now old.at bs
  pub place : new.at ≡ min (old.at + length bs) most

-- a whole text at the start of the output, the rest as it was
pub record Shown (text o o' : Bytes) (r : ℕ) : Type 0 where
  pub size : r ≡ length text
  pub bytes : o' ≡ text ++ drop (length text) o
