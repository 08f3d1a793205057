-- `ending` meets its contract: by what `is_complete` answers.
-- Assumes nothing.
use Rattle.strings.specs.Answers.{scan_of}
use mathlib.Core.Path.{sym}
use Rattle.tokens.proofs.numeral.Place.ending.Goals as goal

pub returns-then-is_complete : goal.returns-then-is_complete
unfolding scan_of
returns-then-is_complete c = rw (sym c.if-is_complete.ensures)

pub returns-else-is_complete : goal.returns-else-is_complete
unfolding scan_of
returns-else-is_complete c = rw (sym c.if-is_complete.ensures)
