-- `resolving::resolve::resolve_text` meets its contract: by what the text is written as, and what its expression gives.
-- Assumes nothing.
use mathlib.Core.Path.{subst, sym}
use Prim.Native.Nat.{ℕ}
use Rattle.json_text.specs.Cursor.{OnText}
use Rattle.members.specs.Sheet.{sheet_in}
use Rattle.paths.specs.Stored.{frames_of, table}
use Rattle.resolving.proofs.Gathering.{text_escaped, text_observed, text_plain, text_refused}
use Rattle.paths.proofs.Ordered.{node_below}
use Rattle.resolving.proofs.Slices.{frames_length, node_room, path_from, text_from}
use Rattle.paths.proofs.Trees.{text_row}
use Rattle.paths.proofs.Units.{was_escaped, was_expression, was_plain}
use native.Mathlib.Omega.{arith}
use Rattle.resolving.proofs.resolve.resolve_text.Goals as goal

pub start_at-requires : goal.start_at-requires
start_at-requires c = node_room c.requires.0 c.requires.1.node

pub classify-requires : goal.classify-requires
classify-requires c =
    subst (λ (x : ℕ). OnText c.args.s.now x 0)
    (sym c.start_at.ensures) (text_row c.requires.1).on_text

pub slice_bounds-look_up-count : goal.slice_bounds-look_up-count
slice_bounds-look_up-count c =
    omega (
      arith,
      (was_expression
          c.args.s.now
          c.classify.ensures
          c.start_at.ensures _ c.in-Expression.is).1.upto,
    )

pub slice_bounds-look_up-start : goal.slice_bounds-look_up-start
slice_bounds-look_up-start c =
    omega (
      arith,
      (was_expression
          c.args.s.now
          c.classify.ensures
          c.start_at.ensures _ c.in-Expression.is).1.upto,
    )

pub look_up-requires : goal.look_up-requires
look_up-requires c = (
  c.requires.0,
  path_from c.args.s.now c.in-Expression.next
      (was_expression c.args.s.now c.classify.ensures c.start_at.ensures _
      c.in-Expression.is).1.on_text
      (was_expression c.args.s.now c.classify.ensures c.start_at.ensures _
      c.in-Expression.is).1.upto c.requires.0.short,
)

pub observed-requires : goal.observed-requires
observed-requires c = (
  c.requires.0.rows,
  (node_below c.args.s.now (table c.args.work.now) c.requires.1.node),
)

pub returns-in-Plain : goal.returns-in-Plain
returns-in-Plain c =
    rw c.at.ensures
    (text_plain c.args.quiet (sheet_in c.args.s.now) (frames_of c.args.s.now (table c.args.work.now) c.args.scope.now.frames) c.args.s.now c.args.work.now
    c.args.node c.requires.1
    (was_plain c.args.s.now c.classify.ensures c.start_at.ensures
    c.in-Plain.is))

pub returns-in-Escaped : goal.returns-in-Escaped
returns-in-Escaped c =
    rw c.at-in-Escaped.ensures
    (text_escaped c.args.quiet (sheet_in c.args.s.now) (frames_of c.args.s.now (table c.args.work.now) c.args.scope.now.frames) c.args.s.now c.args.work.now
    c.args.node c.requires.1
    (was_escaped c.args.s.now c.classify.ensures
    c.start_at.ensures _ c.in-Escaped.is))

pub returns-in-Ok : goal.returns-in-Ok
returns-in-Ok c =
    text_observed c.args.quiet (sheet_in c.args.s.now) (frames_of c.args.s.now (table c.args.work.now) c.args.scope.now.frames) c.args.s.now c.args.work.now
    c.args.node c.requires.1
    (was_expression c.args.s.now c.classify.ensures c.start_at.ensures _
    c.in-Expression.is).0
    (was_expression c.args.s.now c.classify.ensures c.start_at.ensures _
    c.in-Expression.is).1.dollar (frames_length c.requires.0)
    (rw text_from at c.look_up.ensures) c.requires.0.rows
    (node_below c.args.s.now (table c.args.work.now) c.requires.1.node) c.in-Ok.is
    c.observed.ensures

pub returns-in-Err : goal.returns-in-Err
returns-in-Err c =
    text_refused c.args.quiet (sheet_in c.args.s.now) (frames_of c.args.s.now (table c.args.work.now) c.args.scope.now.frames) c.args.s.now c.args.work.now
    c.args.node c.requires.1
    (was_expression c.args.s.now c.classify.ensures c.start_at.ensures _
    c.in-Expression.is).0
    (was_expression c.args.s.now c.classify.ensures c.start_at.ensures _
    c.in-Expression.is).1.dollar (frames_length c.requires.0)
    (rw text_from at c.look_up.ensures) _ c.in-Err.is c.at-in-Err.ensures
