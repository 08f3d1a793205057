-- `strings::escape::hex4` meets its contract: digit by digit.
-- Assumes nothing.
use mathlib.Core.Path.{sym}
use Prim.Native.Nat.{◌<◌}
use native.Mathlib.Omega.{arith}
use Rattle.strings.proofs.Leaves.{all_four, chunk_room, digit_bad, digit_on, short, spelling, unit_fits}
use Rattle.strings.proofs.escape.hex4.Goals as goal

pub returns-in_err-c-items : goal.returns-in_err-c-items
returns-in_err-c-items c = rw c.from_residual.ensures (short c.args.s.now c.args.at c.in_err-c-items.ensures.cases)

pub overflow_mul-unit : goal.overflow_mul-unit
overflow_mul-unit c = omega (arith, unit_fits c.loop-c.invariant c.loop-c-test.true)

pub overflow_add-unit : goal.overflow_add-unit
overflow_add-unit c =
    let b : c.in_ok-unit.field-0 < 16 = c.in_ok-unit.ensures.upper_bound in
    omega (arith, unit_fits c.loop-c.invariant c.loop-c-test.true)

pub returns-in_err-unit : goal.returns-in_err-unit
returns-in_err-unit c =
    rw c.from_residual-in_err-unit.ensures (digit_bad c.loop-c.invariant c.loop-c-test.true c.in_ok-c-items.ensures.cases (sym c.in_err-unit.ensures.value))

pub loop-c-init : goal.loop-c-init
loop-c-init c = spelling c.args.s.now c.args.at (chunk_room c.args.s.now c.args.at c.in_ok-c-items.ensures.cases c.requires)

pub loop-c-preserved : goal.loop-c-preserved
loop-c-preserved c =
    digit_on c.loop-c.invariant c.loop-c-test.true c.in_ok-c-items.ensures.cases _ (sym c.in_ok-unit.ensures.value) c.in_ok-unit.ensures.upper_bound

pub returns : goal.returns
returns c = all_four c.loop-c.invariant c.loop-c-test.false
