-- `printing::lines::keep` meets its contract: what was moved stands at the start.
-- Assumes nothing.
use native.Mathlib.Omega.{arith}
use Rattle.printing.proofs.Keeping.{kept}
use Rattle.printing.proofs.lines.keep.Goals as goal

pub returns : goal.returns
returns c =
    kept c.args.input.now _ c.args.from c.args.end _ c.min-n.ensures
    (omega (arith, c.min-n.ensures, c.requires.0, c.requires.1)) c.copy_within.ensures.after
