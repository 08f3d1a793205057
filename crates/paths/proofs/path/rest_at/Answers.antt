-- `paths::path::rest_at` meets its contract: no dot stands before the place, so the text from it on goes on as the whole does.
-- Assumes nothing.
use mathlib.Core.Path.{◌∙◌}
use Rattle.paths.proofs.Units.{dot_further, dot_here, rest_stops, unit_ended, unit_was}
use Rattle.paths.specs.Told.{RestTold}
use native.Mathlib.Omega.{arith}
use Rattle.paths.proofs.path.rest_at.Goals as goal

pub returns-in_err-x : goal.returns-in_err-x
returns-in_err-x c =
    rw c.from_residual.ensures (rest_stops c.args.path.now c.loop-x.at c.loop-x.invariant.1 (unit_ended c.args.path.now c.loop-x.at c.unit_at.ensures c.in_err-x.was))

pub returns-then-x-from : goal.returns-then-x-from
unfolding RestTold
returns-then-x-from c =
    let u = unit_was c.in_ok-x.x c.unit_at.ensures c.in_ok-x.was in (
      c.loop-x.invariant.1 ∙ dot_here u (c.if-x-from.true ∙ c.from.ensures),
      u.on_text,
      omega (arith, u.past),
      u.upto,
    )

pub loop-x-smaller : goal.loop-x-smaller
loop-x-smaller c =
    let u = unit_was c.in_ok-x.x c.unit_at.ensures c.in_ok-x.was in
    omega (arith, u.past, u.upto)

pub loop-x-preserved : goal.loop-x-preserved
loop-x-preserved c =
    let u = unit_was c.in_ok-x.x c.unit_at.ensures c.in_ok-x.was in
    (u.on_text, c.loop-x.invariant.1 ∙ dot_further u (rw c.from.ensures at c.if-x-from.false))
