-- Equality and the walk over parts meet their contracts: classes first, then part by part. What falls is the number of layers left.
-- Assumes nothing.
use mathlib.Core.Path.{ap, sym, ◌∙◌}
use mathlib.Core.Bool.{false, not, true}
use Rattle.paths.specs.Comparing.{alike}
use Rattle.paths.specs.Layered.{part_at}
use Rattle.members.specs.Sheet.{sheet_in}
use Rattle.paths.specs.Stored.{frames_of, table}
use Rattle.resolving.proofs.Alike.{
  begin_room,
  compare_begins,
  equal_apart,
  equal_leaves,
  equal_none,
  equal_paired,
  equal_whole,
  first_child,
  names_differ,
  parts_differ,
  parts_same,
  second_child,
  second_ends,
  value_there,
}
use Rattle.operands.proofs.Pairs.{apart_kinds, parts_end, same_kinds}
use Rattle.paths.proofs.Ordered.{child_end, child_given}
use Rattle.resolving.proofs.Slices.{layer_falls, part_falls}
use native.Mathlib.Omega.{arith}
use Rattle.operands.proofs.equal.+equal_at_equal_parts.Goals as goal

pub equal_at-returns-then-left-eq0 : goal.equal_at-returns-then-left-eq0
equal_at-returns-then-left-eq0 t c = equal_none (sheet_in c.args.s.now) c.args.s.now (table c.args.work.now)
    (frames_of c.args.s.now (table c.args.work.now) c.args.scope.now.frames) c.args.a c.args.b c.args.left c.if-left-eq0.true

pub equal_at-returns-then-ne : goal.equal_at-returns-then-ne
equal_at-returns-then-ne t c =
    equal_apart (sheet_in c.args.s.now) c.args.s.now (table c.args.work.now)
    (frames_of c.args.s.now (table c.args.work.now) c.args.scope.now.frames) c.args.a c.args.b c.args.left c.if-left-eq0.false
    c.class-class.ensures c.class.ensures (apart_kinds _ _ c.ne.ensures c.if-ne.true)

pub equal_at-equal_parts-requires : goal.equal_at-equal_parts-requires
equal_at-equal_parts-requires t c = (
  layer_falls c.args.left c.decreases c.if-left-eq0.false,
  (
    c.requires.0,
    equal_paired (sheet_in c.args.s.now) c.args.s.now (table c.args.work.now)
        (frames_of c.args.s.now (table c.args.work.now) c.args.scope.now.frames) c.args.a c.args.b c.args.left c.if-left-eq0.false false
        (sym c.class-class.ensures ∙ c.in-Array.is) (sym c.class.ensures ∙ sym (same_kinds _ _ c.ne.ensures c.if-ne.false) ∙ c.in-Array.is) c.requires.1 c.requires.2,
  ),
)

pub equal_at-returns-in-Array : goal.equal_at-returns-in-Array
equal_at-returns-in-Array t c =
    equal_whole (sheet_in c.args.s.now) c.args.s.now (table c.args.work.now)
    (frames_of c.args.s.now (table c.args.work.now) c.args.scope.now.frames) c.args.a c.args.b c.args.left c.if-left-eq0.false false
    (sym c.class-class.ensures ∙ c.in-Array.is) (sym c.class.ensures ∙ sym (same_kinds _ _ c.ne.ensures c.if-ne.false) ∙ c.in-Array.is) c.equal_parts.ensures

pub equal_at-equal_parts-requires-in-Object : goal.equal_at-equal_parts-requires-in-Object
equal_at-equal_parts-requires-in-Object t c = (
  layer_falls c.args.left c.decreases c.if-left-eq0.false,
  (
    c.requires.0,
    equal_paired (sheet_in c.args.s.now) c.args.s.now (table c.args.work.now)
        (frames_of c.args.s.now (table c.args.work.now) c.args.scope.now.frames) c.args.a c.args.b c.args.left c.if-left-eq0.false true
        (sym c.class-class.ensures ∙ c.in-Object.is) (sym c.class.ensures ∙ sym (same_kinds _ _ c.ne.ensures c.if-ne.false) ∙ c.in-Object.is) c.requires.1 c.requires.2,
  ),
)

pub equal_at-returns-in-Object : goal.equal_at-returns-in-Object
equal_at-returns-in-Object t c =
    equal_whole (sheet_in c.args.s.now) c.args.s.now (table c.args.work.now)
    (frames_of c.args.s.now (table c.args.work.now) c.args.scope.now.frames) c.args.a c.args.b c.args.left c.if-left-eq0.false true
    (sym c.class-class.ensures ∙ c.in-Object.is) (sym c.class.ensures ∙ sym (same_kinds _ _ c.ne.ensures c.if-ne.false) ∙ c.in-Object.is) c.equal_parts-in-Object.ensures

pub equal_at-same_leaf-requires : goal.equal_at-same_leaf-requires
equal_at-same_leaf-requires t c = (
  record { rows = c.requires.0.rows; node = omega arith },
  c.requires.1,
  c.requires.2,
  record { no_array = c.in_default.not-Array; no_object = c.in_default.not-Object },
  sym c.class-class.ensures,
  sym c.class.ensures ∙ sym (same_kinds _ _ c.ne.ensures c.if-ne.false),
)

pub equal_at-returns-in_default : goal.equal_at-returns-in_default
equal_at-returns-in_default t c = equal_leaves (sheet_in c.args.s.now) c.args.s.now (table c.args.work.now)
    (frames_of c.args.s.now (table c.args.work.now) c.args.scope.now.frames) c.args.a c.args.b c.args.left c.if-left-eq0.false c.same_leaf.ensures

pub equal_parts-of-x-requires : goal.equal_parts-of-x-requires
equal_parts-of-x-requires t c =
    begin_room c.args.s.now c.args.work.now c.args.named c.requires.0.rows
    c.requires.1.first

pub equal_parts-of-y-requires : goal.equal_parts-of-y-requires
equal_parts-of-y-requires t c =
    begin_room c.args.s.now c.args.work.now c.args.named c.requires.0.rows
    c.requires.1.second

pub equal_parts-loop-p-init : goal.equal_parts-loop-p-init
equal_parts-loop-p-init t c =
    compare_begins c.requires.1 c.requires.0.linked c.of-x.ensures c.of-y.ensures

pub equal_parts-next-requires : goal.equal_parts-next-requires
equal_parts-next-requires t c = (
  record { rows = c.requires.0.rows; node = omega arith },
  c.loop-p.invariant.first.within,
)

pub equal_parts-returns : goal.equal_parts-returns
equal_parts-returns t c =
    let frames = frames_of c.args.s.now (table c.args.work.now) c.args.scope.now.frames in
    parts_end c.args.s.now (table c.args.work.now) (alike (sheet_in c.args.s.now) c.args.left frames) c.args.named
    (part_at (sheet_in c.args.s.now) c.args.s.now (table c.args.work.now) frames c.args.a) (part_at (sheet_in c.args.s.now) c.args.s.now (table c.args.work.now) frames c.args.b) _ c.loop-p.invariant
    (child_end c.loop-p.invariant.first c.next.ensures c.in_default.is) c.next-2.ensures c.is_none.ensures

pub equal_parts-next-requires-2 : goal.equal_parts-next-requires-2
equal_parts-next-requires-2 t c =
    (record { rows = c.requires.0.rows; node = omega arith }, c.loop-p.invariant.second.within)

pub equal_parts-next-requires-in-Some : goal.equal_parts-next-requires-in-Some
equal_parts-next-requires-in-Some t c = (
  record {
    rows = c.requires.0.rows;
    node = omega arith;
  },
  c.loop-p.invariant.second.within,
)

pub equal_parts-returns-in_default-next : goal.equal_parts-returns-in_default-next
equal_parts-returns-in_default-next t c =
    let frames = frames_of c.args.s.now (table c.args.work.now) c.args.scope.now.frames in
    second_ends c.args.s.now (table c.args.work.now) (alike (sheet_in c.args.s.now) c.args.left frames) c.args.named
    (part_at (sheet_in c.args.s.now) c.args.s.now (table c.args.work.now) frames c.args.a) (part_at (sheet_in c.args.s.now) c.args.s.now (table c.args.work.now) frames c.args.b) _ c.loop-p.invariant
    (child_given c.loop-p.invariant.first c.next.ensures c.in-Some.p
    c.in-Some.is)
    (child_end c.loop-p.invariant.second c.next-in-Some.ensures c.in_default-next.is)

pub equal_parts-names_agree-requires : goal.equal_parts-names_agree-requires
equal_parts-names_agree-requires t c =
    let frames = frames_of c.args.s.now (table c.args.work.now) c.args.scope.now.frames in
    let child-given1 = child_given c.loop-p.invariant.second c.next-in-Some.ensures
    c.in-Some-next.q c.in-Some-next.is in
    let child-given2 = child_given c.loop-p.invariant.first c.next.ensures c.in-Some.p
    c.in-Some.is in
    let part = part_at (sheet_in c.args.s.now) c.args.s.now (table c.args.work.now) frames c.args.a in
    let part1 = part_at (sheet_in c.args.s.now) c.args.s.now (table c.args.work.now) frames c.args.b in (
      record { rows = c.requires.0.rows; node = omega arith },
      first_child c.args.s.now (table c.args.work.now) (alike (sheet_in c.args.s.now) c.args.left frames) c.args.named part part1 _ c.loop-p.invariant child-given2
          child-given1,
      second_child c.args.s.now (table c.args.work.now) (alike (sheet_in c.args.s.now) c.args.left frames) c.args.named part part1 _ c.loop-p.invariant
          child-given2 child-given1,
    )

pub equal_parts-returns-then-not-names_agree : goal.equal_parts-returns-then-not-names_agree
equal_parts-returns-then-not-names_agree t c =
    let frames = frames_of c.args.s.now (table c.args.work.now) c.args.scope.now.frames in
    names_differ c.args.s.now (table c.args.work.now) (alike (sheet_in c.args.s.now) c.args.left frames) c.args.named
    (part_at (sheet_in c.args.s.now) c.args.s.now (table c.args.work.now) frames c.args.a) (part_at (sheet_in c.args.s.now) c.args.s.now (table c.args.work.now) frames c.args.b) _ c.loop-p.invariant
    (child_given c.loop-p.invariant.first c.next.ensures c.in-Some.p
    c.in-Some.is)
    (child_given c.loop-p.invariant.second c.next-in-Some.ensures c.in-Some-next.q
    c.in-Some-next.is) c.names_agree.ensures (ap not c.if-not-names_agree.true)

pub equal_parts-value_node-requires : goal.equal_parts-value_node-requires
equal_parts-value_node-requires t c =
    let frames = frames_of c.args.s.now (table c.args.work.now) c.args.scope.now.frames in
    (value_there c.args.s.now (table c.args.work.now) c.args.named
    (first_child c.args.s.now (table c.args.work.now) (alike (sheet_in c.args.s.now) c.args.left frames) c.args.named
    (part_at (sheet_in c.args.s.now) c.args.s.now (table c.args.work.now) frames c.args.a) (part_at (sheet_in c.args.s.now) c.args.s.now (table c.args.work.now) frames c.args.b) _
    c.loop-p.invariant
    (child_given c.loop-p.invariant.first c.next.ensures c.in-Some.p
    c.in-Some.is)
    (child_given c.loop-p.invariant.second c.next-in-Some.ensures c.in-Some-next.q
    c.in-Some-next.is))).1

pub equal_parts-part_of-u-requires : goal.equal_parts-part_of-u-requires
equal_parts-part_of-u-requires t c =
    let frames = frames_of c.args.s.now (table c.args.work.now) c.args.scope.now.frames in (
      c.requires.0,
      rw c.value_node.ensures
          (value_there c.args.s.now (table c.args.work.now) c.args.named
          (first_child c.args.s.now (table c.args.work.now) (alike (sheet_in c.args.s.now) c.args.left frames) c.args.named
          (part_at (sheet_in c.args.s.now) c.args.s.now (table c.args.work.now) frames c.args.a) (part_at (sheet_in c.args.s.now) c.args.s.now (table c.args.work.now) frames c.args.b)
          _ c.loop-p.invariant
          (child_given c.loop-p.invariant.first c.next.ensures c.in-Some.p
          c.in-Some.is)
          (child_given c.loop-p.invariant.second c.next-in-Some.ensures c.in-Some-next.q
          c.in-Some-next.is))).0,
    )

pub equal_parts-value_node-requires-in-Some : goal.equal_parts-value_node-requires-in-Some
equal_parts-value_node-requires-in-Some t c =
    let frames = frames_of c.args.s.now (table c.args.work.now) c.args.scope.now.frames in
    (value_there c.args.s.now (table c.args.work.now) c.args.named
    (second_child c.args.s.now (table c.args.work.now) (alike (sheet_in c.args.s.now) c.args.left frames) c.args.named
    (part_at (sheet_in c.args.s.now) c.args.s.now (table c.args.work.now) frames c.args.a) (part_at (sheet_in c.args.s.now) c.args.s.now (table c.args.work.now) frames c.args.b) _
    c.loop-p.invariant
    (child_given c.loop-p.invariant.first c.next.ensures c.in-Some.p
    c.in-Some.is)
    (child_given c.loop-p.invariant.second c.next-in-Some.ensures c.in-Some-next.q
    c.in-Some-next.is))).1

pub equal_parts-part_of-v-requires : goal.equal_parts-part_of-v-requires
equal_parts-part_of-v-requires t c =
    let frames = frames_of c.args.s.now (table c.args.work.now) c.args.scope.now.frames in (
      c.requires.0,
      rw c.value_node-in-Some.ensures
          (value_there c.args.s.now (table c.args.work.now) c.args.named
          (second_child c.args.s.now (table c.args.work.now) (alike (sheet_in c.args.s.now) c.args.left frames) c.args.named
          (part_at (sheet_in c.args.s.now) c.args.s.now (table c.args.work.now) frames c.args.a) (part_at (sheet_in c.args.s.now) c.args.s.now (table c.args.work.now) frames c.args.b)
          _ c.loop-p.invariant
          (child_given c.loop-p.invariant.first c.next.ensures c.in-Some.p
          c.in-Some.is)
          (child_given c.loop-p.invariant.second c.next-in-Some.ensures c.in-Some-next.q
          c.in-Some-next.is))).0,
    )

pub equal_parts-equal_at-requires : goal.equal_parts-equal_at-requires
equal_parts-equal_at-requires t c = (
  part_falls c.args.left c.decreases,
  (c.requires.0, c.part_of-u.ensures.fits, c.part_of-v.ensures.fits),
)

pub equal_parts-returns-then-not-equal_at : goal.equal_parts-returns-then-not-equal_at
equal_parts-returns-then-not-equal_at t c =
    let frames = frames_of c.args.s.now (table c.args.work.now) c.args.scope.now.frames in
    parts_differ c.args.s.now (table c.args.work.now) (alike (sheet_in c.args.s.now) c.args.left frames) c.args.named
    (part_at (sheet_in c.args.s.now) c.args.s.now (table c.args.work.now) frames c.args.a) (part_at (sheet_in c.args.s.now) c.args.s.now (table c.args.work.now) frames c.args.b) _ c.loop-p.invariant
    (child_given c.loop-p.invariant.first c.next.ensures c.in-Some.p
    c.in-Some.is)
    (child_given c.loop-p.invariant.second c.next-in-Some.ensures c.in-Some-next.q
    c.in-Some-next.is) c.names_agree.ensures (ap not c.if-not-names_agree.false)
    c.equal_at.ensures
    (rw c.value_node.ensures at c.part_of-u.ensures.means)
    (rw c.value_node-in-Some.ensures at c.part_of-v.ensures.means)
    (ap not c.if-not-equal_at.true)

pub equal_parts-loop-p-smaller : goal.equal_parts-loop-p-smaller
equal_parts-loop-p-smaller t c =
    (child_given c.loop-p.invariant.first c.next.ensures
    c.in-Some.p c.in-Some.is).falls

pub equal_parts-loop-p-preserved : goal.equal_parts-loop-p-preserved
equal_parts-loop-p-preserved t c =
    let frames = frames_of c.args.s.now (table c.args.work.now) c.args.scope.now.frames in
    parts_same c.args.s.now (table c.args.work.now) (alike (sheet_in c.args.s.now) c.args.left frames) c.args.named
    (part_at (sheet_in c.args.s.now) c.args.s.now (table c.args.work.now) frames c.args.a) (part_at (sheet_in c.args.s.now) c.args.s.now (table c.args.work.now) frames c.args.b) _ c.loop-p.invariant
    (child_given c.loop-p.invariant.first c.next.ensures c.in-Some.p
    c.in-Some.is)
    (child_given c.loop-p.invariant.second c.next-in-Some.ensures c.in-Some-next.q
    c.in-Some-next.is) c.names_agree.ensures (ap not c.if-not-names_agree.false)
    c.equal_at.ensures
    (rw c.value_node.ensures at c.part_of-u.ensures.means)
    (rw c.value_node-in-Some.ensures at
    c.part_of-v.ensures.means) (ap not c.if-not-equal_at.false)
