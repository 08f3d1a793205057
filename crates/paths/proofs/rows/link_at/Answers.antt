-- `operands::rows::link_at` meets its contract: the table has the word without its mark.
-- Assumes nothing.
use mathlib.Core.Path.{sym}
use Rattle.paths.proofs.Words.{link_word}
use Rattle.paths.proofs.rows.link_at.Goals as goal

pub returns : goal.returns
returns c = sym (link_word c.args.work.now c.args.node c.requires.node)
