-- `rules::marks::clear_marks` meets its contract: the loop says that the words passed are without their mark.
-- Assumes nothing.
use native.Mathlib.Omega.{arith}
use Rattle.rules.proofs.Unmarking.{clearing, clearing_one, unmarking}
use Rattle.rules.proofs.marks.clear_marks.Goals as goal

pub loop-word-init : goal.loop-word-init
loop-word-init c = clearing _

pub loop-word-preserved : goal.loop-word-preserved
loop-word-preserved c = clearing_one c.loop-word.invariant (omega arith)

pub returns : goal.returns
returns c = unmarking c.args.work.now c.loop-word.word-items c.loop-word.word-index c.requires c.loop-word.invariant c.loop-word-test.false
