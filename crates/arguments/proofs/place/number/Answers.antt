-- `arguments::place::number` meets its contract: the digits from here on decide, after the number that was read.
-- Assumes nothing.
use mathlib.Core.Path.{subst, sym, ◌∙◌, ◌≡◌}
use Prim.Native.Nat.{ℕ, ◌*◌, ◌+◌, ◌-◌}
use native.Mathlib.Omega.{arith}
use lib.ListN.{get_or}
use Rattle.arguments.proofs.Digits.{Spelling, no_digit, one_more, spelling, spelt, too_many}
use Rattle.arguments.proofs.place.number.Goals as goal

pub loop-c-init : goal.loop-c-init
loop-c-init c = spelling c.args.text.now

pub returns-then-not-is_ascii_digit : goal.returns-then-not-is_ascii_digit
returns-then-not-is_ascii_digit c =
    no_digit c.loop-c.invariant c.loop-c-test.true
    (sym c.is_ascii_digit.ensures.value ∙ c.if-not-is_ascii_digit.true)

pub returns-in_err-checked_mul : goal.returns-in_err-checked_mul
returns-in_err-checked_mul c =
    c.from_residual.ensures ∙ too_many c.loop-c.invariant c.loop-c-test.true
    (sym c.is_ascii_digit.ensures.value ∙ c.if-not-is_ascii_digit.false)
    (omega (arith, c.in_err-checked_mul.ensures))

pub returns-in_err-n : goal.returns-in_err-n
returns-in_err-n c =
    c.from_residual-in_err-n.ensures ∙ too_many c.loop-c.invariant c.loop-c-test.true
    (sym c.is_ascii_digit.ensures.value ∙ c.if-not-is_ascii_digit.false)
    (omega (arith, c.in_err-n.ensures, c.in_ok-checked_mul.ensures, c.from.ensures))

pub loop-c-preserved : goal.loop-c-preserved
loop-c-preserved c =
    let digit : ℕ = get_or c.args.text.now c.loop-c.c-index 0 in
    let sum : c.loop-c.n * 10 + (digit - 48) ≡ c.in_ok-n.n = omega (arith, c.in_ok-n.ensures, c.in_ok-checked_mul.ensures, c.from.ensures) in
    subst (λ (m : ℕ). Spelling c.args.text.now m (c.loop-c.c-index + 1)) sum
    (one_more c.loop-c.invariant c.loop-c-test.true
    (sym c.is_ascii_digit.ensures.value ∙ c.if-not-is_ascii_digit.false)
    (omega (arith, c.in_ok-n.ensures, c.in_ok-checked_mul.ensures, c.from.ensures)))

pub returns : goal.returns
returns c = spelt c.loop-c.invariant c.loop-c-test.false
