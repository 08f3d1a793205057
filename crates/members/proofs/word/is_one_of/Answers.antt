-- `is_one_of` meets its contract: the text has a place among the words.
-- Assumes nothing.
use mathlib.Core.Path.{◌∙◌}
use Rattle.members.proofs.Words.{is_listed}
use Rattle.members.proofs.word.is_one_of.Goals as goal

pub returns : goal.returns
returns c = c.is_some.ensures ∙ is_listed _ c.args.names.now c.which.ensures
