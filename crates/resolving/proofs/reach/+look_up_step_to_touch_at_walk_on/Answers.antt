-- The cycle of touching, looking up, stepping and walking on meets its contracts: each return is a law of the definition's own step. What falls is the
-- number of expressions left, and within one the length of the path. Assumes nothing.
use Prim.Native.Nat.{ℕ}
use borrow.Author.Rules.{rules}
use mathlib.Core.Path.{ap, refl, sym, subst, ◌∙◌, ◌≡◌}
use Rattle.std.specs.Prelude.{Err, None, Some}
use Rattle.strings.specs.Answers.{code_of}
use Rattle.resolving.proofs.Classes.{text_coded}
use lib.ListN.{length}
use Rattle.json_text.specs.Cursor.{OnText}
use Rattle.json_text.specs.Spans.{text_at}
use Rattle.paths.specs.Lazy.{touch}
use Rattle.paths.specs.Path.{part}
use Rattle.paths.specs.Reached.{BoundAs}
use Rattle.paths.specs.Rooted.{base_gives, root_of}
use Rattle.members.specs.Sheet.{sheet_in}
use Rattle.paths.specs.Stored.{Fits, frames_of, operand_of, table}
use Rattle.paths.specs.declared.operand.Kind.TheVariants as kinds
use Rattle.paths.specs.declared.operand.LookupError.TheVariants as lookups
use Rattle.paths.proofs.Reaching.{
  bound_fits,
  fits_as,
  look_base,
  look_binder,
  look_empty,
  look_root,
  look_unknown,
  look_walk,
  member_is,
  named_none,
  named_some,
  object_none,
  object_some,
  other_none,
  touch_less,
  touch_looked,
  touch_none,
  touch_plain,
  touch_written,
  walk_arrives,
  walk_goes,
  walk_stops,
}
use Rattle.resolving.proofs.Slices.{
  binder,
  frames_length,
  frames_outer,
  length_from,
  look_falls,
  node_room,
  one_less,
  path_falls,
  path_from,
  ready_outer,
  step_falls,
  text_from,
  touch_falls,
}
use Rattle.paths.proofs.Trees.{text_row}
use Rattle.paths.proofs.Unbound.{no_base_root, no_root}
use Rattle.paths.proofs.Units.{rest_none, rest_was, was_escaped, was_expression, was_plain}
use native.Mathlib.Omega.{arith}
use Rattle.resolving.proofs.reach.+look_up_step_to_touch_at_walk_on.Goals as goal

pub look_up-find-bound-requires : goal.look_up-find-bound-requires
look_up-find-bound-requires t c =
    (c.requires.0.bound.within, c.requires.0.bound.names, c.requires.1.on_text)

pub look_up-rest_at-requires : goal.look_up-rest_at-requires
look_up-rest_at-requires t c = c.requires.1.on_text

pub look_up-root_named-requires : goal.look_up-root_named-requires
look_up-root_named-requires t c =
    c.requires.1.on_text

pub look_up-slice_bounds-walk_on-count : goal.look_up-slice_bounds-walk_on-count
look_up-slice_bounds-walk_on-count t c =
    omega (
      arith,
      (rest_was c.in-Some.next c.rest_at.ensures
          c.in-Some.is).3,
    )

pub look_up-slice_bounds-walk_on-start : goal.look_up-slice_bounds-walk_on-start
look_up-slice_bounds-walk_on-start t c =
    omega (
      arith,
      (rest_was c.in-Some.next c.rest_at.ensures
          c.in-Some.is).3,
    )

pub look_up-walk_on-requires : goal.look_up-walk_on-requires
look_up-walk_on-requires t c =
    let w = rest_was c.in-Some.next c.rest_at.ensures c.in-Some.is in (
      path_falls c.args.left (length c.args.path.now) _ c.in-Some.next 3 2 c.decreases
          (length_from c.args.path.now c.in-Some.next) w.2 w.3 (omega arith),
      (
        c.requires.0,
        path_from c.args.path.now c.in-Some.next w.1 w.3 c.requires.1.short,
        bound_fits
            (binder c.requires.0 _ c.find-bound.ensures) _
            c.in-Some-bound-2.is,
      ),
    )

pub look_up-root_named-requires-in-None-bound-2 : goal.look_up-root_named-requires-in-None-bound-2
look_up-root_named-requires-in-None-bound-2 t c =
    c.requires.1.on_text

pub look_up-slice_bounds-part_is_word-count : goal.look_up-slice_bounds-part_is_word-count
look_up-slice_bounds-part_is_word-count t c =
    omega (
      arith,
      (rest_was c.in-Some.next c.rest_at.ensures
          c.in-Some.is).3,
    )

pub look_up-slice_bounds-part_is_word-start : goal.look_up-slice_bounds-part_is_word-start
look_up-slice_bounds-part_is_word-start t c =
    omega (
      arith,
      (rest_was c.in-Some.next c.rest_at.ensures
          c.in-Some.is).3,
    )

pub look_up-part_is_word-requires : goal.look_up-part_is_word-requires
look_up-part_is_word-requires t c =
    let w = rest_was c.in-Some.next c.rest_at.ensures
    c.in-Some.is in
    (path_from c.args.path.now c.in-Some.next w.1 w.3
    c.requires.1.short).on_text

pub look_up-returns-in-Some-bound : goal.look_up-returns-in-Some-bound
look_up-returns-in-Some-bound t c =
    look_binder _ _ _ _ (binder c.requires.0 _ c.find-bound.ensures) _ c.in-Some-bound.is
    (rest_none c.args.path.now c.rest_at.ensures c.in-None.is)

pub look_up-returns-in-Some-bound-2 : goal.look_up-returns-in-Some-bound-2
look_up-returns-in-Some-bound-2 t c =
    look_walk _ _ _ _ (binder c.requires.0 _ c.find-bound.ensures)
    (rest_was c.in-Some.next c.rest_at.ensures
    c.in-Some.is).0 _ c.in-Some-bound-2.is
    (rw text_from at c.walk_on.ensures)

pub step_to-member_of-requires : goal.step_to-member_of-requires
unfolding Fits
step_to-member_of-requires t c =
    let k = fits_as c.args.s.now (table c.args.work.now) c.args.o kinds.Object c.in-Object.is
    c.requires.2.fits in
    (node_room c.requires.0 k.node, k, c.requires.1.on_text)

pub step_to-returns-in_err-v-in-Object : goal.step_to-returns-in_err-v-in-Object
step_to-returns-in_err-v-in-Object t c =
    rw c.from_residual.ensures
    (object_none (sheet_in c.args.s.now) (touch (sheet_in c.args.s.now) c.args.left)
    (frames_of c.args.s.now (table c.args.work.now) c.args.scope.now.frames) _ c.args.o
    c.in-Object.is c.member_of.ensures c.in_err-v-in-Object.was)

pub step_to-value_at-requires : goal.step_to-value_at-requires
step_to-value_at-requires t c =
    node_room c.requires.0 (member_is c.member_of.ensures c.in_ok-v-in-Object.was).1

pub step_to-member_of-requires-in-Named : goal.step_to-member_of-requires-in-Named
unfolding Fits
step_to-member_of-requires-in-Named t c =
    let k = fits_as c.args.s.now (table c.args.work.now) c.args.o kinds.Named c.in-Named.is
    c.requires.2.fits in
    (node_room c.requires.0 k.node, k, c.requires.1.on_text)

pub step_to-returns-in_err-v-in-Named : goal.step_to-returns-in_err-v-in-Named
step_to-returns-in_err-v-in-Named t c =
    rw c.from_residual-in_err-v-in-Named.ensures
    (named_none (sheet_in c.args.s.now) (touch (sheet_in c.args.s.now) c.args.left)
    (frames_of c.args.s.now (table c.args.work.now) c.args.scope.now.frames) _ c.args.o
    c.in-Named.is c.member_of-in-Named.ensures c.in_err-v-in-Named.was)

pub step_to-outer-requires : goal.step_to-outer-requires
step_to-outer-requires t c = c.requires.0.bound.within

pub step_to-touch_at-requires : goal.step_to-touch_at-requires
step_to-touch_at-requires t c = (
  touch_falls c.args.left c.decreases,
  (
    ready_outer c.requires.0 c.outer.ensures.0 c.args.o.depth c.outer.ensures.2
        c.outer.ensures.3,
    (member_is c.member_of-in-Named.ensures c.in_ok-v-in-Named.was).1,
  ),
)

pub step_to-returns-in_ok-v-in-Object : goal.step_to-returns-in_ok-v-in-Object
step_to-returns-in_ok-v-in-Object t c =
    object_some (sheet_in c.args.s.now) (touch (sheet_in c.args.s.now) c.args.left)
    (frames_of c.args.s.now (table c.args.work.now) c.args.scope.now.frames) _ c.args.o
    c.in-Object.is c.member_of.ensures c.in_ok-v-in-Object.was
    (c.value_at.ensures c.args.s.now (member_is c.member_of.ensures c.in_ok-v-in-Object.was).1)

pub step_to-returns-in_ok-v-in-Named : goal.step_to-returns-in_ok-v-in-Named
step_to-returns-in_ok-v-in-Named t c =
    named_some (sheet_in c.args.s.now) (touch (sheet_in c.args.s.now) c.args.left)
    (frames_of c.args.s.now (table c.args.work.now) c.args.scope.now.frames) _ c.args.o
    c.in-Named.is c.member_of-in-Named.ensures c.in_ok-v-in-Named.was
    (rw
    (frames_outer c.requires.0 c.outer.result.frames c.args.o.depth
    c.outer.ensures.3) at c.touch_at.ensures)

pub step_to-returns-in_default : goal.step_to-returns-in_default
step_to-returns-in_default t c =
    other_none (sheet_in c.args.s.now) (touch (sheet_in c.args.s.now) c.args.left)
    (frames_of c.args.s.now (table c.args.work.now) c.args.scope.now.frames) _ c.args.o c.in_default.not-Object c.in_default.not-Named

pub touch_at-returns-then-left-eq0 : goal.touch_at-returns-then-left-eq0
touch_at-returns-then-left-eq0 t c =
    touch_none (sheet_in c.args.s.now) (frames_of c.args.s.now (table c.args.work.now) c.args.scope.now.frames) c.args.node
    c.args.left c.if-left-eq0.true c.nothing.ensures

pub touch_at-kind_at-requires : goal.touch_at-kind_at-requires
touch_at-kind_at-requires t c =
    node_room c.requires.0 c.requires.1

pub touch_at-returns-in_default : goal.touch_at-returns-in_default
touch_at-returns-in_default t c =
    touch_written (sheet_in c.args.s.now) (frames_of c.args.s.now (table c.args.work.now) c.args.scope.now.frames) c.args.node
    c.args.left c.if-left-eq0.false c.requires.1 _
    c.kind_at.ensures (λ e. c.in_default.not-Text (text_coded _ e)) c.written_kind.ensures
    (sym (frames_length c.requires.0)) c.requires.0.bound.within

pub touch_at-start_at-requires : goal.touch_at-start_at-requires
touch_at-start_at-requires t c =
    node_room c.requires.0 c.requires.1

pub touch_at-classify-requires : goal.touch_at-classify-requires
touch_at-classify-requires t c =
    subst (λ (x : ℕ). OnText c.args.s.now x 0) (sym c.start_at.ensures)
    (text_row
    (record {
      node = c.requires.1;
      kind = sym c.kind_at.ensures ∙ ap code_of c.in-Text.is;
    })).on_text

pub touch_at-slice_bounds-look_up-count : goal.touch_at-slice_bounds-look_up-count
touch_at-slice_bounds-look_up-count t c =
    let x = was_expression
    c.args.s.now
    c.classify.ensures c.start_at.ensures _
    c.in-Expression.is in
    omega (arith, x.1.upto)

pub touch_at-slice_bounds-look_up-start : goal.touch_at-slice_bounds-look_up-start
touch_at-slice_bounds-look_up-start t c =
    let x = was_expression
    c.args.s.now
    c.classify.ensures c.start_at.ensures _
    c.in-Expression.is in
    omega (arith, x.1.upto)

pub touch_at-overflow_sub-left : goal.touch_at-overflow_sub-left
touch_at-overflow_sub-left t c =
    one_less c.args.left c.if-left-eq0.false

pub touch_at-look_up-requires : goal.touch_at-look_up-requires
touch_at-look_up-requires t c =
    let x = was_expression c.args.s.now c.classify.ensures
    c.start_at.ensures _ c.in-Expression.is in (
      look_falls c.args.left _ (length c.args.s.now) c.in-Expression.next c.decreases c.if-left-eq0.false
          (length_from c.args.s.now c.in-Expression.next) c.requires.0.short,
      (c.requires.0, path_from c.args.s.now c.in-Expression.next x.1.on_text x.1.upto c.requires.0.short),
    )

pub touch_at-returns-in-Plain : goal.touch_at-returns-in-Plain
touch_at-returns-in-Plain t c =
    rw c.at.ensures
    (touch_plain (sheet_in c.args.s.now) (frames_of c.args.s.now (table c.args.work.now) c.args.scope.now.frames) c.args.node
    c.args.left c.if-left-eq0.false
    (record { node = c.requires.1; kind = sym c.kind_at.ensures ∙ ap code_of c.in-Text.is })
    (was_plain c.args.s.now c.classify.ensures
    c.start_at.ensures c.in-Plain.is))

pub touch_at-returns-in-Escaped : goal.touch_at-returns-in-Escaped
touch_at-returns-in-Escaped t c =
    let x = was_escaped c.args.s.now c.classify.ensures
    c.start_at.ensures _ c.in-Escaped.is in
    rw c.at-in-Escaped.ensures
    (touch_less (sheet_in c.args.s.now) (frames_of c.args.s.now (table c.args.work.now) c.args.scope.now.frames) c.args.node
    c.args.left c.if-left-eq0.false
    (record { node = c.requires.1; kind = sym c.kind_at.ensures ∙ ap code_of c.in-Text.is }) x.0 x.1)

pub touch_at-returns-in-Expression : goal.touch_at-returns-in-Expression
touch_at-returns-in-Expression t c =
    let x = was_expression c.args.s.now c.classify.ensures
    c.start_at.ensures _ c.in-Expression.is in
    touch_looked (sheet_in c.args.s.now) (frames_of c.args.s.now (table c.args.work.now) c.args.scope.now.frames) c.args.node
    c.args.left c.if-left-eq0.false
    (record { node = c.requires.1; kind = sym c.kind_at.ensures ∙ ap code_of c.in-Text.is })
    x.0 (rw text_from at c.look_up.ensures) c.or_null.ensures

pub walk_on-step_to-requires : goal.walk_on-step_to-requires
walk_on-step_to-requires t c =
    (step_falls c.args.left (length c.args.path.now) c.decreases, (c.requires.0, c.requires.1, c.requires.2))

pub walk_on-rest_at-requires : goal.walk_on-rest_at-requires
walk_on-rest_at-requires t c = c.requires.1.on_text

pub walk_on-slice_bounds-walk_on-count : goal.walk_on-slice_bounds-walk_on-count
walk_on-slice_bounds-walk_on-count t c =
    omega (
      arith,
      (rest_was c.in-Some.next c.rest_at.ensures
          c.in-Some.is).3,
    )

pub walk_on-slice_bounds-walk_on-start : goal.walk_on-slice_bounds-walk_on-start
walk_on-slice_bounds-walk_on-start t c =
    omega (
      arith,
      (rest_was c.in-Some.next c.rest_at.ensures
          c.in-Some.is).3,
    )

pub walk_on-walk_on-requires : goal.walk_on-walk_on-requires
walk_on-walk_on-requires t c =
    let w = rest_was c.in-Some.next c.rest_at.ensures c.in-Some.is in (
      path_falls c.args.left (length c.args.path.now) _ c.in-Some.next 2 2 c.decreases
          (length_from c.args.path.now c.in-Some.next) w.2 w.3 (omega arith),
      (
        c.requires.0,
        path_from c.args.path.now c.in-Some.next w.1 w.3 c.requires.1.short,
        bound_fits c.step_to.ensures _
            c.in_ok-p.was,
      ),
    )

pub walk_on-returns-in_err-p : goal.walk_on-returns-in_err-p
walk_on-returns-in_err-p t c =
    rw c.from_residual.ensures
    (walk_stops (sheet_in c.args.s.now) (touch (sheet_in c.args.s.now) c.args.left) (frames_of c.args.s.now (table c.args.work.now) c.args.scope.now.frames)
    (text_at c.args.path.now 0) (operand_of c.args.s.now (table c.args.work.now) c.args.o)
    c.step_to.ensures c.in_err-p.was)

pub walk_on-returns-in-None : goal.walk_on-returns-in-None
walk_on-returns-in-None t c =
    walk_arrives (sheet_in c.args.s.now) (touch (sheet_in c.args.s.now) c.args.left) (frames_of c.args.s.now (table c.args.work.now) c.args.scope.now.frames)
    (text_at c.args.path.now 0) (operand_of c.args.s.now (table c.args.work.now) c.args.o)
    c.step_to.ensures _ c.in_ok-p.was
    (rest_none c.args.path.now c.rest_at.ensures c.in-None.is)

pub walk_on-returns-in-Some : goal.walk_on-returns-in-Some
walk_on-returns-in-Some t c =
    walk_goes (sheet_in c.args.s.now) (touch (sheet_in c.args.s.now) c.args.left) (frames_of c.args.s.now (table c.args.work.now) c.args.scope.now.frames)
    (text_at c.args.path.now 0) (operand_of c.args.s.now (table c.args.work.now) c.args.o)
    c.step_to.ensures _ c.in_ok-p.was
    (text_at c.args.path.now c.in-Some.next)
    (rest_was c.in-Some.next c.rest_at.ensures
    c.in-Some.is).0 (rw text_from at c.walk_on.ensures)

pub look_up-returns-in_err-ok_or-in-None-bound : goal.look_up-returns-in_err-ok_or-in-None-bound
look_up-returns-in_err-ok_or-in-None-bound t c =
    let e : c.root_named.result ≡ None = search rules in
    let r : c.from_residual.result ≡ Err lookups.Unknown = search rules in
    look_root _ _ _ _ (binder c.requires.0 _ c.find-bound.ensures)
    c.in-None-bound.is
    (rest_none c.args.path.now c.rest_at.ensures c.in-None.is)
    (rw (r, sym c.root_named.ensures ∙ e) (no_root (sheet_in c.args.s.now) c.args.s.now (table c.args.work.now) (text_at c.args.path.now 0)))

pub look_up-returns-in_ok-ok_or-in-None-bound : goal.look_up-returns-in_ok-ok_or-in-None-bound
look_up-returns-in_ok-ok_or-in-None-bound t c =
    let e : c.root_named.result ≡ Some c.in_ok-ok_or-in-None-bound.field-0 = search rules in
    look_root _ _ _ _ (binder c.requires.0 _ c.find-bound.ensures)
    c.in-None-bound.is
    (rest_none c.args.path.now c.rest_at.ensures c.in-None.is)
    (rw (sym c.root_named.ensures ∙ e)
    (c.root_at.ensures (sheet_in c.args.s.now) c.args.s.now (table c.args.work.now) (text_at c.args.path.now 0) c.requires.0.rooted))

pub look_up-returns-in_err-root-in-None-bound-2 : goal.look_up-returns-in_err-root-in-None-bound-2
look_up-returns-in_err-root-in-None-bound-2 t c =
    let e : c.root_named-in-None-bound-2.result ≡ None = search rules in
    let r : c.from_residual-in_err-root-in-None-bound-2.result ≡ Err lookups.Unknown = search rules in
    rw r
    (
    look_unknown _ _ _ _ (binder c.requires.0 _ c.find-bound.ensures)
    (rest_was c.in-Some.next c.rest_at.ensures
    c.in-Some.is).0 c.in-None-bound-2.is
    (rw (sym c.root_named-in-None-bound-2.ensures ∙ e) (no_base_root (sheet_in c.args.s.now) c.args.s.now (table c.args.work.now))) refl)

pub look_up-returns-in_err-o-in-None-bound-2 : goal.look_up-returns-in_err-o-in-None-bound-2
look_up-returns-in_err-o-in-None-bound-2 t c =
    let x : c.root_named-in-None-bound-2.result ≡ Some c.in_ok-root-in-None-bound-2.root = search rules in
    let e : c.base_at.result ≡ None = search rules in
    let r : c.from_residual-in_err-o-in-None-bound-2.result ≡ Err lookups.Unknown = search rules in
    rw r
    (
    look_unknown _ _ _ _ (binder c.requires.0 _ c.find-bound.ensures)
    (rest_was c.in-Some.next c.rest_at.ensures
    c.in-Some.is).0 c.in-None-bound-2.is
    (rw (sym c.root_named-in-None-bound-2.ensures ∙ x)
    (c.base_at.ensures (sheet_in c.args.s.now) c.args.s.now (table c.args.work.now) c.requires.0.rooted)) e)

pub look_up-returns-then-part_is_word : goal.look_up-returns-then-part_is_word
look_up-returns-then-part_is_word t c =
    let x : c.root_named-in-None-bound-2.result ≡ Some c.in_ok-root-in-None-bound-2.root = search rules in
    let o : c.base_at.result ≡ Some c.in_ok-o-in-None-bound-2.o = search rules in
    look_empty _ _ _ _ (binder c.requires.0 _ c.find-bound.ensures)
    (rest_was c.in-Some.next c.rest_at.ensures
    c.in-Some.is).0 c.in-None-bound-2.is
    (rw (sym c.root_named-in-None-bound-2.ensures ∙ x)
    (c.base_at.ensures (sheet_in c.args.s.now) c.args.s.now (table c.args.work.now) c.requires.0.rooted)) _ o
    (sym c.if-part_is_word.true ∙ (rw text_from at c.part_is_word.ensures))

pub look_up-slice_bounds-walk_on-count-in-None-bound-2 : goal.look_up-slice_bounds-walk_on-count-in-None-bound-2
look_up-slice_bounds-walk_on-count-in-None-bound-2 t c =
    omega (
      arith,
      (rest_was c.in-Some.next c.rest_at.ensures
          c.in-Some.is).3,
    )

pub look_up-slice_bounds-walk_on-start-in-None-bound-2 : goal.look_up-slice_bounds-walk_on-start-in-None-bound-2
look_up-slice_bounds-walk_on-start-in-None-bound-2 t c =
    omega (
      arith,
      (rest_was c.in-Some.next c.rest_at.ensures
          c.in-Some.is).3,
    )

pub look_up-walk_on-requires-in-None-bound-2 : goal.look_up-walk_on-requires-in-None-bound-2
look_up-walk_on-requires-in-None-bound-2 t c =
    let x : c.root_named-in-None-bound-2.result ≡ Some c.in_ok-root-in-None-bound-2.root = search rules in
    let o : c.base_at.result ≡ Some c.in_ok-o-in-None-bound-2.o = search rules in
    let b : BoundAs c.args.s.now (table c.args.work.now) c.base_at.result (base_gives (sheet_in c.args.s.now) (root_of (part (text_at c.args.path.now 0)))) =
    rw (sym c.root_named-in-None-bound-2.ensures ∙ x)
    (c.base_at.ensures (sheet_in c.args.s.now) c.args.s.now (table c.args.work.now) c.requires.0.rooted) in
    let w = rest_was c.in-Some.next c.rest_at.ensures c.in-Some.is in (
      path_falls c.args.left (length c.args.path.now) _ c.in-Some.next 3 2 c.decreases
          (length_from c.args.path.now c.in-Some.next) w.2 w.3 (omega arith),
      (
        c.requires.0,
        path_from c.args.path.now c.in-Some.next w.1 w.3 c.requires.1.short,
        bound_fits b _ o,
      ),
    )

pub look_up-returns-else-part_is_word : goal.look_up-returns-else-part_is_word
look_up-returns-else-part_is_word t c =
    let x : c.root_named-in-None-bound-2.result ≡ Some c.in_ok-root-in-None-bound-2.root = search rules in
    let o : c.base_at.result ≡ Some c.in_ok-o-in-None-bound-2.o = search rules in
    look_base _ _ _ _ (binder c.requires.0 _ c.find-bound.ensures)
    (rest_was c.in-Some.next c.rest_at.ensures
    c.in-Some.is).0 c.in-None-bound-2.is
    (rw (sym c.root_named-in-None-bound-2.ensures ∙ x)
    (c.base_at.ensures (sheet_in c.args.s.now) c.args.s.now (table c.args.work.now) c.requires.0.rooted)) _ o
    (sym c.if-part_is_word.false ∙ (rw text_from at c.part_is_word.ensures))
    (rw text_from at c.walk_on-in-None-bound-2.ensures)
