-- `is_version_number` meets its contract: the loop says that the digits from here on decide, after the number that was read.
-- Assumes nothing.
use native.Mathlib.Omega.{arith}
use mathlib.Core.Path.{sym, ◌∙◌}
use Rattle.members.proofs.Digits.{counting, digits_ended, no_digit, one_more, too_many}
use Rattle.members.proofs.kinds.is_version_number.Goals as goal

pub loop-c-init : goal.loop-c-init
loop-c-init c = counting c.args.digits.now

pub returns-then-not-is_ascii_digit : goal.returns-then-not-is_ascii_digit
returns-then-not-is_ascii_digit c =
    no_digit c.loop-c.invariant c.loop-c-test.true (sym c.is_ascii_digit.ensures.value ∙ c.if-not-is_ascii_digit.true)

pub returns-then-n-gt4294967295 : goal.returns-then-n-gt4294967295
returns-then-n-gt4294967295 c =
    too_many c.loop-c.invariant c.loop-c-test.true (sym c.is_ascii_digit.ensures.value ∙ c.if-not-is_ascii_digit.false)
    (rw c.from.ensures at c.if-n-gt4294967295.true)

pub loop-c-preserved : goal.loop-c-preserved
loop-c-preserved c =
    rw c.from.ensures (one_more c.loop-c.invariant c.loop-c-test.true (sym c.is_ascii_digit.ensures.value ∙ c.if-not-is_ascii_digit.false)
    (rw c.from.ensures at c.if-n-gt4294967295.false))

pub returns : goal.returns
returns c = digits_ended c.loop-c.invariant (omega arith)
