-- `opening::work::clear` meets its contract: a smaller table is left, and zeros are written over the others.
-- Assumes nothing.
use lib.Seq.{length-take-le}
use Rattle.opening.proofs.Clearing.{cleared_table, filled, small_table}
use Rattle.opening.proofs.work.clear.Goals as goal

pub returns-then-work-lt16384 : goal.returns-then-work-lt16384
returns-then-work-lt16384 c = small_table c.args.work.now c.if-work-lt16384.true

pub returns : goal.returns
returns c =
    let h = c.if-work-lt16384.false in
    cleared_table c.args.work.now h (filled 16384 _ (length-take-le 16384 c.args.work.now h) c.fill.ensures.after)
