-- `paths::rows::end_at` meets its contract: the word is one of the rows.
-- Assumes nothing.
use mathlib.Core.Path.{◌∙◌}
use Prim.Native.Nat.{◌*◌, ◌+◌}
use Rattle.paths.proofs.Words.{row_word}
use native.Mathlib.Omega.{arith}
use Rattle.paths.proofs.rows.end_at.Goals as goal

pub returns : goal.returns
returns c = c.end_at.ensures ∙ row_word c.args.work.now (3 * c.args.node + 1) (omega arith)
