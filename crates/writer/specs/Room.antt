-- Where laying may go on.
-- Assumes nothing.
use Rattle.std.specs.Prelude.{ℕ, ◌≤◌, length}
use Rattle.json_text.specs.Bytes.{Bytes}

-- the largest place: a count is held there, so that it can't wrap
abbrev pub most : ℕ
most = 18446744073709551615

-- no byte of the output stands past the largest place, and the place in hand doesn't either
pub record Room (o : Bytes) (at : ℕ) : Type 0 where
  pub size : length o ≤ most
  pub upto : at ≤ most
