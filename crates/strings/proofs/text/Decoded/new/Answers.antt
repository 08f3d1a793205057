-- The iterator before a text's first byte has the whole text before it.
-- Assumes nothing.
use mathlib.Core.Path.{refl}
use Rattle.json_text.specs.Cursor.{before}
use Rattle.strings.specs.Decoded.{left_of}
use Rattle.strings.proofs.text.Decoded.new.Goals as goal

pub returns : goal.returns
unfolding left_of before
returns c = refl
