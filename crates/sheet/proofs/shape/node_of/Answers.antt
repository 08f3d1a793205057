-- `node_of` meets its contract: by what was found.
-- Assumes nothing.
use mathlib.Core.Path.{◌∙◌}
use Rattle.sheet.proofs.Accepted.{node_is}
use Rattle.sheet.proofs.shape.node_of.Goals as goal

pub returns : goal.returns
returns c = c.unwrap_or.ensures ∙ node_is c.args.found
