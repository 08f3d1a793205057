-- `paths::frames::Frames::outer` keeps the first slots.
-- Assumes nothing.
use Rattle.paths.proofs.Stack.{top_least}
use native.Mathlib.Omega.{arith}
use Rattle.paths.proofs.frames.Frames.outer.Goals as goal

pub returns : goal.returns
returns c = (
  omega (arith, c.min.ensures),
  omega (arith, c.min.ensures),
  top_least c.args.depth c.args.self.depth c.min.result c.args.self.slots (λ h. omega (
    arith,
    c.min.ensures,
  )) (omega (arith, c.min.ensures)) (omega (arith, c.min.ensures)),
)
