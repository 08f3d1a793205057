-- `strings::escape::low_half` meets its contract: by what is known of its bytes.
-- Assumes nothing.
use mathlib.Core.Path.{refl}
use native.Mathlib.Omega.{arith}
use Prim.Native.Nat.{◌+◌}
use Rattle.strings.proofs.Leaves.{escape_bad, escape_is, good_low, hex_was, hex_was_bad, no_low, no_word, two_left, wrong_low}
use Rattle.strings.proofs.escape.low_half.Goals as goal

pub hex4-requires : goal.hex4-requires
hex4-requires c = two_left c.args.s.now c.args.at (c.if-not-starts_with.ensures.bound refl)

pub returns-then-not-starts_with : goal.returns-then-not-starts_with
returns-then-not-starts_with c = escape_bad (no_word c.args.high c.args.s.now c.args.at c.if-not-starts_with.ensures.value)

pub returns-in_err-low : goal.returns-in_err-low
returns-in_err-low c =
    rw c.from_residual.ensures
    (escape_bad (no_low c.args.high c.args.s.now c.args.at c.if-not-starts_with.ensures.value (hex_was_bad c.hex4.ensures c.in_err-low.was)))

pub returns-in-56320-to-57343 : goal.returns-in-56320-to-57343
returns-in-56320-to-57343 c =
    let w = hex_was c.in_ok-low.low (c.args.at + 6) c.hex4.ensures c.in_ok-low.was (omega arith) in
    escape_is _ _
    (good_low c.args.high c.args.s.now c.args.at c.if-not-starts_with.ensures.value _ _ w.0 (omega arith) (omega arith)) (omega arith) (omega arith) w.2

pub returns-in_default : goal.returns-in_default
returns-in_default c =
    let w = hex_was c.in_ok-low.low (c.args.at + 6) c.hex4.ensures c.in_ok-low.was (omega arith) in
    escape_bad (wrong_low c.args.high c.args.s.now c.args.at c.if-not-starts_with.ensures.value _ _ w.0 (λ p q. omega arith))

pub returns-in_default-2 : goal.returns-in_default-2
returns-in_default-2 c =
    let w = hex_was c.in_ok-low.low (c.args.at + 6) c.hex4.ensures c.in_ok-low.was (omega arith) in
    escape_bad (wrong_low c.args.high c.args.s.now c.args.at c.if-not-starts_with.ensures.value _ _ w.0 (λ p q. omega arith))
