-- `number` meets its contract: the rest of the number decides the whole.
-- Assumes nothing.
use mathlib.Core.Path.{◌∙◌}
use native.Mathlib.Omega.{arith}
use Rattle.strings.specs.Answers.{scan_of}
use Rattle.tokens.proofs.Numbers.{Numbering, at_end, at_stop, no_number, numbering, on, over_digits, too_long}
use Rattle.tokens.proofs.numeral.number.Goals.{Joined-stays_on_digits, then-stays_on_digits, else-stays_on_digits}
use Rattle.tokens.proofs.numeral.number.Goals as goal

pub loop-here-init : goal.loop-here-init
loop-here-init c = numbering c.args.s.now c.args.at c.in-Some.place c.requires c.in-Some.ensures

pub returns-in_default : goal.returns-in_default
unfolding scan_of
returns-in_default c = no_number c.args.s.now c.args.at c.in_default.ensures

-- behind the digits, if any may come there
now : (c : Joined-stays_on_digits) → Numbering c.args.s.now c.args.at c.loop-here.place c.if-stays_on_digits.here
now c = elim c.if-stays_on_digits.branch [
  | then-stays_on_digits w ↦
      rw w.here-is
      (over_digits c.min-end.result c.loop-here.invariant (c.stays_on_digits.ensures w.if-stays_on_digits.true) w.digits-here.ensures
      (omega (arith, c.loop-here.invariant.upto, c.loop-here.invariant.few)) (omega arith) (omega arith))
  | else-stays_on_digits w ↦ rw w.here-is c.loop-here.invariant
]

pub returns-then-here-s : goal.returns-then-here-s
returns-then-here-s c = at_end (now (goal.at.returns-then-here-s c).Joined-stays_on_digits) (omega arith) ∙ c.ending.ensures

pub returns-in-None : goal.returns-in-None
returns-in-None c =
    let l = now (goal.at.returns-in-None c).Joined-stays_on_digits in
    at_stop l (omega (arith, l.upto)) c.in-None.ensures ∙ c.ending-in-None.ensures

pub returns-in-Some-onward : goal.returns-in-Some-onward
unfolding scan_of
returns-in-Some-onward c =
    let l = now (goal.at.returns-in-Some-onward c).Joined-stays_on_digits in
    too_long l (omega (arith, l.upto)) _ c.in-Some-onward.ensures (omega (arith, l.upto))

pub loop-here-preserved : goal.loop-here-preserved
loop-here-preserved c =
    let l = now (goal.at.loop-here-preserved c).Joined-stays_on_digits in
    on l (omega (arith, l.upto)) _ c.in-Some-onward.ensures (omega (arith, l.few))
