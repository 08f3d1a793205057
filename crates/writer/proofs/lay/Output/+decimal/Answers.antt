-- `writer::lay::Output::decimal` meets its contract: the digits of a tenth, and then the last one; the number falls.
-- Assumes nothing.
use mathlib.Core.Path.{sym}
use native.Mathlib.Omega.{arith}
use Rattle.writer.proofs.Laying.{then, told}
use Rattle.answers.proofs.Digits.{more_digits, one_digit}
use Rattle.writer.proofs.lay.Output.+decimal.Goals as goal

pub returns-then-n-lt10 : goal.returns-then-n-lt10
returns-then-n-lt10 t c = told (sym (one_digit c.args.n c.if-n-lt10.true)) c.byte.ensures

pub returns-else-n-lt10 : goal.returns-else-n-lt10
returns-else-n-lt10 t c = told (sym (more_digits c.args.n c.if-n-lt10.false (omega arith))) (then c.decimal.ensures c.byte-else-n-lt10.ensures)
