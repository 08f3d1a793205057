-- `operands::holds::is_element` meets its contract: an equal one is looked for among the elements left.
-- Assumes nothing.
use mathlib.Core.Bool.{false}
use Rattle.paths.specs.Comparing.{alike}
use Rattle.paths.specs.Layered.{part_at}
use Rattle.members.specs.Sheet.{sheet_in}
use Rattle.paths.specs.Stored.{frames_of, operand_of, table}
use Rattle.resolving.proofs.Alike.{begin_room}
use Rattle.paths.proofs.Ordered.{child_end, child_given}
use Rattle.operands.proofs.Pairs.{child_node, element_here, element_none, element_on, look_begins, looked_all, looked_at, looked_here, looked_on}
use native.Mathlib.Omega.{arith}
use Rattle.operands.proofs.holds.is_element.Goals as goal

pub of-c-requires : goal.of-c-requires
of-c-requires c =
    begin_room c.args.s.now c.args.work.now false
    c.requires.0.rows c.requires.2

pub loop-x-init : goal.loop-x-init
loop-x-init c =
    look_begins false c.requires.2 c.requires.0.linked
    c.of-c.ensures

pub next-requires : goal.next-requires
next-requires c = (
  record { rows = c.requires.0.rows; node = omega arith },
  c.loop-x.invariant.walk.within,
)

pub returns : goal.returns
returns c =
    looked_all c.loop-x.invariant (child_end c.loop-x.invariant.walk c.next.ensures c.in_default.is)
    (element_none (alike (sheet_in c.args.s.now) c.args.left (frames_of c.args.s.now (table c.args.work.now) c.args.scope.now.frames))
    (operand_of c.args.s.now (table c.args.work.now) c.args.o)
    (part_at (sheet_in c.args.s.now) c.args.s.now (table c.args.work.now) (frames_of c.args.s.now (table c.args.work.now) c.args.scope.now.frames) c.args.whole))

pub part_of-part-requires : goal.part_of-part-requires
part_of-part-requires c = (
  c.requires.0,
  child_node c.args.s.now (table c.args.work.now)
      (looked_at c.loop-x.invariant
      (child_given c.loop-x.invariant.walk c.next.ensures c.in-Some.x
      c.in-Some.is)),
)

pub equal_at-requires : goal.equal_at-requires
equal_at-requires c =
    (c.requires.0, c.part_of-part.ensures.fits, c.requires.1)

pub returns-then-equal_at : goal.returns-then-equal_at
returns-then-equal_at c =
    looked_here c.loop-x.invariant
    (child_given c.loop-x.invariant.walk c.next.ensures c.in-Some.x c.in-Some.is)
    (element_here (alike (sheet_in c.args.s.now) c.args.left (frames_of c.args.s.now (table c.args.work.now) c.args.scope.now.frames))
    (operand_of c.args.s.now (table c.args.work.now) c.args.o)
    (part_at (sheet_in c.args.s.now) c.args.s.now (table c.args.work.now) (frames_of c.args.s.now (table c.args.work.now) c.args.scope.now.frames) c.args.whole) _ _
    c.part_of-part.ensures.means c.equal_at.ensures c.if-equal_at.true)

pub loop-x-smaller : goal.loop-x-smaller
loop-x-smaller c =
    (child_given c.loop-x.invariant.walk c.next.ensures
    c.in-Some.x c.in-Some.is).falls

pub loop-x-preserved : goal.loop-x-preserved
loop-x-preserved c =
    looked_on c.loop-x.invariant
    (child_given c.loop-x.invariant.walk c.next.ensures c.in-Some.x c.in-Some.is)
    (element_on (alike (sheet_in c.args.s.now) c.args.left (frames_of c.args.s.now (table c.args.work.now) c.args.scope.now.frames))
    (operand_of c.args.s.now (table c.args.work.now) c.args.o)
    (part_at (sheet_in c.args.s.now) c.args.s.now (table c.args.work.now) (frames_of c.args.s.now (table c.args.work.now) c.args.scope.now.frames) c.args.whole) _ _
    c.part_of-part.ensures.means c.equal_at.ensures
    c.if-equal_at.false)
