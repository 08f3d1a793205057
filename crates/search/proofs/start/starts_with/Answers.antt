-- `search::start::starts_with` meets its contract: both are begun at their first bytes.
-- Assumes nothing.
use mathlib.Core.Path.{◌∙◌}
use Rattle.search.proofs.start.starts_with.Goals as goal

pub returns : goal.returns
returns c = c.begins.ensures ∙ rw (c.new.ensures, c.new-2.ensures)
