-- `paths::rows::kind_at` meets its contract: the word is one of the rows.
-- Assumes nothing.
use mathlib.Core.Path.{ap, ◌∙◌}
use Prim.Native.Nat.{ℕ, ◌%◌, ◌*◌}
use Rattle.paths.proofs.Words.{row_word}
use native.Mathlib.Omega.{arith}
use Rattle.paths.proofs.rows.kind_at.Goals as goal

pub returns : goal.returns
returns c = c.kind_at.ensures ∙ ap (λ (x : ℕ). x % 8) (row_word c.args.work.now (3 * c.args.node) (omega arith))
