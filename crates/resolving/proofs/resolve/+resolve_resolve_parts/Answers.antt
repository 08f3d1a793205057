-- Resolving and the walk over parts meet their contracts: what was seen so far and the parts left make the whole. What falls is the brackets left.
-- Assumes nothing.
use borrow.Author.Rules.{rules}
use mathlib.Core.Bool.{Bool, ◌&&◌}
use mathlib.Core.Path.{ap, sym, ◌∙◌, ◌≡◌}
use Rattle.std.specs.Prelude.{Err}
use Rattle.strings.specs.Answers.{code_of}
use Rattle.resolving.proofs.Classes.{array_coded, object_coded, text_coded}
use Rattle.members.specs.Sheet.{sheet_in}
use Rattle.paths.specs.Stored.{frames_of, table}
use Rattle.resolving.proofs.Alike.{begin_room, value_there}
use Rattle.resolving.proofs.Gathering.{plain_value}
use Rattle.resolving.proofs.Marking.{ready_after}
use Rattle.paths.proofs.Ordered.{child_end, child_given}
use Rattle.resolving.proofs.Slices.{frames_length, node_room, part_falls, parts_falls}
use Rattle.resolving.proofs.Wholes.{gather_begin, gather_end, gather_on, gather_refused, this_child, this_shallow, whole_shallow}
use native.Mathlib.Omega.{arith}
use Rattle.resolving.proofs.resolve.+resolve_resolve_parts.Goals as goal

pub resolve-kind_at-requires : goal.resolve-kind_at-requires
resolve-kind_at-requires t c =
    node_room c.requires.0 c.requires.1

pub resolve-resolve_text-requires : goal.resolve-resolve_text-requires
resolve-resolve_text-requires t c = (
  c.requires.0,
  record { node = c.requires.1; kind = sym c.kind_at.ensures ∙ ap code_of c.in-Text.is },
)

pub resolve-returns-in-Text : goal.resolve-returns-in-Text
resolve-returns-in-Text t c = c.resolve_text.ensures

pub resolve-resolve_parts-requires : goal.resolve-resolve_parts-requires
resolve-resolve_parts-requires t c = (
  part_falls c.args.left c.decreases,
  (
    c.requires.0,
    record {
      node = c.requires.1;
      kind = sym c.kind_at.ensures ∙ ap code_of c.in-Array.is;
    },
    c.requires.2,
  ),
)

pub resolve-returns-in-Array : goal.resolve-returns-in-Array
resolve-returns-in-Array t c = c.resolve_parts.ensures

pub resolve-resolve_parts-requires-in-Object : goal.resolve-resolve_parts-requires-in-Object
resolve-resolve_parts-requires-in-Object t c = (
  part_falls c.args.left c.decreases,
  (
    c.requires.0,
    record {
      node = c.requires.1;
      kind = sym c.kind_at.ensures ∙ ap code_of c.in-Object.is;
    },
    c.requires.2,
  ),
)

pub resolve-returns-in-Object : goal.resolve-returns-in-Object
resolve-returns-in-Object t c = c.resolve_parts-in-Object.ensures

pub resolve-returns-in_default : goal.resolve-returns-in_default
resolve-returns-in_default t c =
    rw c.at.ensures
    (plain_value c.args.quiet (sheet_in c.args.s.now) (frames_of c.args.s.now (table c.args.work.now) c.args.scope.now.frames)
    c.requires.1 c.kind_at.ensures
    (λ e. c.in_default.not-Text (text_coded _ e)) (λ e. c.in_default.not-Array (array_coded _ e)) (λ e. c.in_default.not-Object (object_coded _ e))
    c.value_kind.ensures)

pub resolve_parts-of-c-requires : goal.resolve_parts-of-c-requires
resolve_parts-of-c-requires t c =
    begin_room c.args.s.now c.args.work.now c.args.named c.requires.0.rows
    c.requires.1

pub resolve_parts-loop-x-init : goal.resolve_parts-loop-x-init
resolve_parts-loop-x-init t c =
    gather_begin c.args.quiet c.args.s.now c.args.work.now (sheet_in c.args.s.now)
    (frames_of c.args.s.now (table c.args.work.now) c.args.scope.now.frames) c.args.node c.args.scope.now.frames.depth c.args.named
    c.args.left c.requires.1 c.requires.0.linked (frames_length c.requires.0) c.requires.2 c.of-c.ensures

pub resolve_parts-next-requires : goal.resolve_parts-next-requires
resolve_parts-next-requires t c = (
  record {
    rows = (ready_after c.requires.0
        c.loop-x.invariant.left).rows;
    node = omega arith;
  },
  c.loop-x.invariant.walk.within,
)

pub resolve_parts-returns : goal.resolve_parts-returns
resolve_parts-returns t c =
    gather_end c.loop-x.invariant c.requires.1 c.requires.0.bound.within
    (child_end c.loop-x.invariant.walk (rw c.loop-x.invariant.left.rows at c.next.ensures)
    c.in_default.is) c.gathered.ensures

pub resolve_parts-value_node-v-requires : goal.resolve_parts-value_node-v-requires
resolve_parts-value_node-v-requires t c =
    (value_there c.args.s.now (table c.args.work.now) c.args.named
    (this_child c.loop-x.invariant
    (child_given c.loop-x.invariant.walk (rw c.loop-x.invariant.left.rows at c.next.ensures)
    c.in-Some.x c.in-Some.is))).1

pub resolve_parts-overflow_sub-left : goal.resolve_parts-overflow_sub-left
resolve_parts-overflow_sub-left t c =
    (whole_shallow c.args.s.now (table c.args.work.now) c.args.named c.args.node c.args.left c.requires.1
    c.requires.2).0

pub resolve_parts-resolve-requires : goal.resolve_parts-resolve-requires
resolve_parts-resolve-requires t c =
    let one = (whole_shallow c.args.s.now (table c.args.work.now) c.args.named c.args.node c.args.left c.requires.1
    c.requires.2).0 in (
      parts_falls c.args.left c.decreases one,
      (
        ready_after c.requires.0 c.loop-x.invariant.left,
        rw (c.loop-x.invariant.left.rows, c.value_node-v.ensures)
            (value_there c.args.s.now (table c.args.work.now) c.args.named
            (this_child c.loop-x.invariant
            (child_given c.loop-x.invariant.walk (rw c.loop-x.invariant.left.rows at c.next.ensures) c.in-Some.x
            c.in-Some.is))).0,
        rw (c.loop-x.invariant.left.rows, c.value_node-v.ensures)
            (this_shallow c.loop-x.invariant
            (child_given c.loop-x.invariant.walk (rw c.loop-x.invariant.left.rows at c.next.ensures) c.in-Some.x
            c.in-Some.is)),
      ),
    )

pub resolve_parts-returns-in_err-part : goal.resolve_parts-returns-in_err-part
resolve_parts-returns-in_err-part t c =
    let r : c.from_residual.result ≡ Err c.in_err-part.field-0.0 = search rules in
    rw r
    (gather_refused c.loop-x.invariant
    (child_given c.loop-x.invariant.walk (rw c.loop-x.invariant.left.rows at c.next.ensures)
    c.in-Some.x c.in-Some.is)
    (rw (c.loop-x.invariant.left.rows, c.value_node-v.ensures) at c.resolve.ensures)
    _ c.in_err-part.was)

pub resolve_parts-loop-x-smaller : goal.resolve_parts-loop-x-smaller
resolve_parts-loop-x-smaller t c =
    (child_given c.loop-x.invariant.walk (rw c.loop-x.invariant.left.rows at c.next.ensures)
    c.in-Some.x c.in-Some.is).falls

pub resolve_parts-loop-x-preserved : goal.resolve_parts-loop-x-preserved
resolve_parts-loop-x-preserved t c =
    gather_on c.loop-x.invariant
    (child_given c.loop-x.invariant.walk (rw c.loop-x.invariant.left.rows at c.next.ensures)
    c.in-Some.x c.in-Some.is)
    (rw (c.loop-x.invariant.left.rows, c.value_node-v.ensures) at c.resolve.ensures)
    _ c.in_ok-part.was (ap (λ (b : Bool). c.loop-x.whole && b) c.is_some-whole.ensures)
