-- `Integer::minus` meets its contract: below the place that is looked at, the digits written and the second number make up the first, but for what is borrowed.
-- Assumes nothing.
use Rattle.std.proofs.Common.{arith, refl}
use Rattle.number.proofs.Columns.{all_borrowed, borrow_on, borrowing, none_written}
use Rattle.number.proofs.places.Integer.minus.Goals as goal

pub loop-i-init : goal.loop-i-init
loop-i-init c = borrowing c.args.self.now.digits c.args.other.now.digits _ _ c.args.self.now.fits c.args.other.now.fits _ none_written

pub loop-i-preserved : goal.loop-i-preserved
loop-i-preserved c =
    borrow_on c.args.self.now.digits c.args.other.now.digits _ _ c.args.self.now.fits c.args.other.now.fits c.loop-i.digits c.loop-i.borrow c.loop-i.i _ c.loop-i.invariant
    (omega (arith, c.args.self.now.fits.few, c.args.other.now.fits.few)) refl

pub returns-clause-left : goal.returns-clause-left
returns-clause-left c =
    all_borrowed c.args.self.now.digits c.args.other.now.digits _ _ c.args.self.now.fits c.args.other.now.fits c.loop-i.digits c.loop-i.borrow c.loop-i.i c.loop-i.invariant
    (omega arith) (omega arith) c.requires
