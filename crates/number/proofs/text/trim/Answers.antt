-- `trim` meets its contract: a zero passed is none of what is left.
-- Assumes nothing.
use Rattle.std.proofs.Common.{arith, length-drop}
use Rattle.number.proofs.Parts.{all_of, no_zero, skip_zero}
use Rattle.number.proofs.text.trim.Goals as goal

pub loop-rest-preserved : goal.loop-rest-preserved
loop-rest-preserved c = skip_zero c.loop-rest.rest.now _ _ c.loop-rest.invariant (omega arith) (omega arith) (all_of _ _ (omega (arith, length-drop 1 c.loop-rest.rest.now)))

pub returns-in_default : goal.returns-in_default
returns-in_default c = no_zero c.loop-rest.rest.now _ c.loop-rest.invariant (omega arith)

pub returns-in_default-2 : goal.returns-in_default-2
returns-in_default-2 c = no_zero c.loop-rest.rest.now _ c.loop-rest.invariant (omega arith)
