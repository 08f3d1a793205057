-- `operands::holds::has_key` meets its contract: the key is looked for among the names left.
-- Assumes nothing.
use mathlib.Core.Bool.{true}
use Rattle.json_text.specs.Spans.{text_at}
use Rattle.paths.specs.Stored.{table}
use Rattle.resolving.proofs.Alike.{begin_room}
use Rattle.paths.proofs.Ordered.{child_end, child_given, name_room, on_name}
use Rattle.operands.proofs.Pairs.{child_named, key_here, key_none, key_on, look_begins, looked_all, looked_at, looked_here, looked_on}
use Rattle.operands.proofs.holds.has_key.Goals as goal

pub of-c-requires : goal.of-c-requires
of-c-requires c =
    begin_room c.args.s.now c.args.work.now true
    c.requires.0.rows c.requires.2

pub loop-x-init : goal.loop-x-init
loop-x-init c = look_begins true c.requires.2 c.requires.3 c.of-c.ensures

pub next-requires : goal.next-requires
next-requires c = (c.requires.0, c.loop-x.invariant.walk.within)

pub returns : goal.returns
returns c =
    looked_all c.loop-x.invariant (child_end c.loop-x.invariant.walk c.next.ensures c.in_default.is)
    (key_none c.args.s.now (table c.args.work.now) (text_at c.args.s.now c.args.key))

pub start_at-requires : goal.start_at-requires
start_at-requires c =
    name_room c.args.s.now c.args.work.now c.requires.0.rows
    (child_named c.args.s.now (table c.args.work.now)
    (looked_at c.loop-x.invariant
    (child_given c.loop-x.invariant.walk c.next.ensures c.in-Some.x
    c.in-Some.is)))

pub same-requires : goal.same-requires
same-requires c = (
  c.requires.1,
  on_name
      (child_named c.args.s.now (table c.args.work.now)
      (looked_at c.loop-x.invariant
      (child_given c.loop-x.invariant.walk c.next.ensures
      c.in-Some.x c.in-Some.is))) c.start_at.ensures,
)

pub returns-then-same : goal.returns-then-same
returns-then-same c =
    looked_here c.loop-x.invariant
    (child_given c.loop-x.invariant.walk c.next.ensures c.in-Some.x c.in-Some.is)
    (key_here c.args.s.now (table c.args.work.now) (text_at c.args.s.now c.args.key) _ _
    c.start_at.ensures c.same.ensures c.if-same.true)

pub loop-x-smaller : goal.loop-x-smaller
loop-x-smaller c =
    (child_given c.loop-x.invariant.walk c.next.ensures
    c.in-Some.x c.in-Some.is).falls

pub loop-x-preserved : goal.loop-x-preserved
loop-x-preserved c =
    looked_on c.loop-x.invariant
    (child_given c.loop-x.invariant.walk c.next.ensures c.in-Some.x c.in-Some.is)
    (key_on c.args.s.now (table c.args.work.now) (text_at c.args.s.now c.args.key) _ _
    c.start_at.ensures c.same.ensures c.if-same.false)
