-- `paths::written::classify` meets its contract: by the first two units of the text.
-- Assumes nothing.
use mathlib.Core.Path.{◌∙◌}
use Rattle.paths.proofs.Units.{alone, behind_dollar, not_dollar, once, twice, unit_ended, unit_was}
use Rattle.paths.specs.Told.{WrittenTold}
use Rattle.paths.proofs.written.classify.Goals as goal

pub unit_at-requires-in-Some : goal.unit_at-requires-in-Some
unit_at-requires-in-Some c = (unit_was c.in-Some.x c.unit_at.ensures c.in-Some.is).on_text

pub returns-in-Some-unit_at : goal.returns-in-Some-unit_at
unfolding WrittenTold
returns-in-Some-unit_at c =
    let b = behind_dollar (unit_was c.in-Some.x c.unit_at.ensures c.in-Some.is) (c.if-x-dollar.true ∙ c.from-dollar.ensures) in
    (twice b (unit_was c.in-Some-unit_at.y c.unit_at-in-Some.ensures c.in-Some-unit_at.is) (c.if-y-dollar.true ∙ c.from-dollar.ensures), b)

pub returns-in_default-unit_at : goal.returns-in_default-unit_at
unfolding WrittenTold
returns-in_default-unit_at c =
    let b = behind_dollar (unit_was c.in-Some.x c.unit_at.ensures c.in-Some.is) (c.if-x-dollar.true ∙ c.from-dollar.ensures) in
    (once b (unit_was c.in-Some-unit_at.y c.unit_at-in-Some.ensures c.in-Some-unit_at.is) (rw c.from-dollar.ensures at c.if-y-dollar.false), b)

pub returns-in_default-unit_at-2 : goal.returns-in_default-unit_at-2
unfolding WrittenTold
returns-in_default-unit_at-2 c =
    let b = behind_dollar (unit_was c.in-Some.x c.unit_at.ensures c.in-Some.is) (c.if-x-dollar.true ∙ c.from-dollar.ensures) in
    (alone b (unit_ended c.args.s.now c.in-Some.x.next c.unit_at-in-Some.ensures c.in_default-unit_at.is), b)

pub returns-in_default : goal.returns-in_default
unfolding WrittenTold
returns-in_default c = not_dollar (unit_was c.in-Some.x c.unit_at.ensures c.in-Some.is) (rw c.from-dollar.ensures at c.if-x-dollar.false)

pub returns-in_default-2 : goal.returns-in_default-2
unfolding WrittenTold
returns-in_default-2 c =
    let e = unit_ended c.args.s.now c.args.at c.unit_at.ensures c.in_default.is in
    rw e
