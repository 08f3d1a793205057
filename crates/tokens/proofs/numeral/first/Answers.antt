-- `first` meets its contract: a law for the bytes with which no number begins.
-- Assumes nothing.
use Rattle.tokens.proofs.Numbers.{first_none}
use native.Mathlib.Omega.{arith}
use Rattle.tokens.proofs.numeral.first.Goals as goal

pub returns-in_default : goal.returns-in_default
returns-in_default c = first_none c.args.c (λ e. omega arith) (λ e. omega arith) (λ p q. omega arith)

pub returns-in_default-2 : goal.returns-in_default-2
returns-in_default-2 c = first_none c.args.c (λ e. omega arith) (λ e. omega arith) (λ p q. omega arith)
