-- `strings::utf8::utf8` meets its contract: what is left of the text decides the whole.
-- Assumes nothing.
use mathlib.Core.Path.{sym}
use Rattle.strings.proofs.Encoding.{ascii_utf8, broken_off, checked, checking, ended, refuted}
use Rattle.strings.proofs.utf8.utf8.Goals as goal

pub returns-then-is_ascii : goal.returns-then-is_ascii
returns-then-is_ascii c = sym (ascii_utf8 c.args.s.now (sym c.if-is_ascii.ensures))

pub loop-c-init : goal.loop-c-init
loop-c-init c = checking c.args.s.now

pub returns-in-None : goal.returns-in-None
returns-in-None c = refuted c.loop-c.invariant c.loop-c-test.true c.in-None.ensures

pub loop-c-preserved : goal.loop-c-preserved
loop-c-preserved c = checked c.loop-c.invariant _ c.loop-c-test.true c.in-Some.ensures

pub returns-in-Scalar : goal.returns-in-Scalar
returns-in-Scalar c = ended c.loop-c.invariant c.loop-c-test.false c.in-Scalar.is

pub returns-in_default : goal.returns-in_default
returns-in_default c = broken_off c.loop-c.invariant c.loop-c-test.false c.in_default.not-Scalar
