-- `leaves::leaf::kind` meets its contract: by the byte.
-- Assumes nothing.
use Rattle.leaves.proofs.Values.{starts_none}
use native.Mathlib.Omega.{arith}
use Rattle.leaves.proofs.leaf.kind.Goals as goal

pub returns-in-91 : goal.returns-in-91
returns-in-91 c = rw c.in-91.is

pub returns-in-123 : goal.returns-in-123
returns-in-123 c = rw c.in-123.is

pub returns-in-110 : goal.returns-in-110
returns-in-110 c = rw c.in-110.is

pub returns-in-116 : goal.returns-in-116
returns-in-116 c = rw c.in-116.is

pub returns-in-102 : goal.returns-in-102
returns-in-102 c = rw c.in-102.is

pub returns-in_default : goal.returns-in_default
returns-in_default c =
    rw
    (starts_none c.args.c (λ e. omega arith) (λ e. omega arith)
    (λ p q. omega arith) (λ e. omega arith) (λ e. omega arith) (λ e. omega arith) (λ e. omega arith) (λ e. omega arith))

pub returns-in_default-2 : goal.returns-in_default-2
returns-in_default-2 c =
    rw
    (starts_none c.args.c (λ e. omega arith) (λ e. omega arith)
    (λ p q. omega arith) (λ e. omega arith) (λ e. omega arith) (λ e. omega arith) (λ e. omega arith) (λ e. omega arith))
