-- `writer::lay::Output::bytes` meets its contract: the loop says that the bytes from the index on are left to lay.
-- Assumes nothing.
use Prim.Native.Nat.{◌+◌}
use lib.ListN.{drop, drop_of_length-le}
use Rattle.writer.proofs.Laying.{ends, goes, next_byte, starts}
use Rattle.writer.proofs.lay.Output.bytes.Goals as goal

pub loop-b-init : goal.loop-b-init
loop-b-init c = starts c.args.self.now c.args.bs.now

pub loop-b-preserved : goal.loop-b-preserved
loop-b-preserved c =
    goes (drop (c.loop-b.b-index + 1) c.args.bs.now) (rw (next_byte c.args.bs.now c.loop-b.b-index c.loop-b-test.true) at c.loop-b.invariant) c.byte.ensures

pub returns : goal.returns
returns c = ends (rw (drop_of_length-le c.args.bs.now c.loop-b-test.false) at c.loop-b.invariant)
