-- `search::each::long_part` meets its contract: a shorter text cannot hold the part.
-- Assumes nothing.
use mathlib.Core.Path.{sym}
use Rattle.search.proofs.Reading.{part_short, past_none}
use Rattle.search.proofs.each.long_part.Goals as goal

pub returns-else-is_some : goal.returns-else-is_some
returns-else-is_some c =
    rw
    (c.if-is_some.false, ← c.new.ensures, ← c.new-2.ensures)
    (sym (part_short _ _ (past_none _ _ c.past.result (sym c.if-is_some.ensures) c.past.ensures)))
