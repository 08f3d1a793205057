-- `Integer::minus` meets its contract: below the place that is looked at, the digits written and the second number make up the first, but for what is borrowed.
-- Assumes nothing.
use Rattle.number.proofs.Columns.{Borrowing}
use Rattle.number.proofs.places.Integer.minus.Given as goal

abbrev pub invariant-loop-i : goal.invariant-loop-i
invariant-loop-i l = Borrowing l.self.digits l.other.digits l.digits l.borrow l.i
