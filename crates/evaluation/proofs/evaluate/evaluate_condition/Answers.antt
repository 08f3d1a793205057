-- `evaluate_condition` meets its contract: the sheet is ready, and judged is what is defined.
-- Assumes nothing.
use mathlib.Core.Path.{◌∙◌}
use native.Mathlib.Omega.{arith}
use Rattle.evaluation.proofs.After.{gives_table}
use Rattle.evaluation.proofs.Entering.{given_here, judged_as, ready_for}
use Rattle.evaluation.proofs.evaluate.evaluate_condition.Goals as goal

pub evaluate-requires : goal.evaluate-requires
evaluate-requires c =
    let g = given_here c.requires.2 in (
      ready_for c.requires.1.known c.requires.0 (c.new.ensures.0 ∙ c.roots_of.ensures) c.new.ensures.1,
      omega (arith, c.new.ensures.1),
      g.0,
      g.1,
    )

pub returns : goal.returns
returns c =
    λ sheet d a g. judged_as a c.new.result.frames
    c.new.ensures.1 g (c.evaluate.ensures d (gives_table g))
