-- `trim_end` meets its contract: a zero passed is none of what is left.
-- Assumes nothing.
use Rattle.std.proofs.Common.{arith, refl}
use Rattle.number.proofs.Parts.{no_end, skip_end}
use Rattle.number.proofs.text.trim_end.Goals as goal

pub loop-rest-preserved : goal.loop-rest-preserved
loop-rest-preserved c = skip_end c.loop-rest.rest.now _ _ c.loop-rest.invariant (omega arith) (omega arith) refl

pub returns-in_default : goal.returns-in_default
returns-in_default c = no_end c.loop-rest.rest.now _ c.loop-rest.invariant (omega arith)

pub returns-in_default-2 : goal.returns-in_default-2
returns-in_default-2 c = no_end c.loop-rest.rest.now _ c.loop-rest.invariant (omega arith)
