-- `order::sort::right_first` meets its contract: where the right has a node left, by the two nodes.
-- Assumes nothing.
use native.Mathlib.Omega.{arith}
use lib.ListN.{length, drop_of_length-le}
use lib.Seq.{drop-cons}
use borrow.Author.Tests.{le-ltb}
use Rattle.order.proofs.ByText.{text_get_d, text_next}
use Rattle.order.specs.ByText.{is_above}
use Rattle.order.proofs.sort.right_first.Goals as goal

pub is_after-requires : goal.is_after-requires
is_after-requires c = (
  c.requires.0,
  rw c.from.ensures (text_get_d c.args.s.now c.args.work.now c.args.left.now c.args.i c.requires.1 c.requires.3),
  rw c.from-then-j-right.ensures (text_next c.args.s.now c.args.work.now c.args.right.now c.args.j c.requires.2 (omega arith)),
)

pub returns-then-j-right : goal.returns-then-j-right
unfolding is_above
returns-then-j-right c =
    rw (drop-cons c.args.right.now c.args.j 0 (omega arith), is_above, ← c.from.ensures, ← c.from-then-j-right.ensures) c.is_after.ensures

pub returns-else-j-right : goal.returns-else-j-right
unfolding is_above
returns-else-j-right c =
    rw (drop_of_length-le c.args.right.now {i = c.args.j} (omega arith), is_above) (le-ltb c.args.j (length c.args.right.now) c.if-j-right.false)
