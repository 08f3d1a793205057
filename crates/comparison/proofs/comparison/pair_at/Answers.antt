-- `pair_at` meets its contract: by what the two operands are, left before right.
-- Assumes nothing.
use mathlib.Core.Path.{ap, ◌∙◌, ◌≡◌}
use borrow.Author.Rules.{rules}
use Rattle.std.specs.Prelude.{Option, Ok, Err, Result as Fallible}
use Rattle.members.specs.Answers.{form_of}
use Rattle.members.specs.Sheet.{sheet_in}
use Rattle.paths.specs.Stored.{frames_of, table, tree}
use Rattle.paths.specs.declared.operand.EvalError.{EvalError}
use Rattle.paths.specs.declared.operand.Operand.{Operand}
use Rattle.semantics.specs.Truth.{of_bool}
use Rattle.resolving.proofs.Marking.{ready_after}
use Rattle.comparison.proofs.Judging.{both_present, is_present_lem, left_missing, pair_refused, refused_first, right_missing, right_refused}
use Rattle.comparison.proofs.comparison.pair_at.Goals as goal

abbrev found : Option Operand → Fallible (Option Operand) EvalError
found x = Ok x

pub returns-in_err-a : goal.returns-in_err-a
returns-in_err-a c =
    let r : c.from_residual.result ≡ Err c.in_err-a.field-0.0 = search rules in
    rw r (refused_first c.resolve.ensures _ c.in_err-a.was (pair_refused (sheet_in c.args.s.now) (frames_of c.args.s.now (table c.args.work.now) c.args.scope.now.frames) (form_of c.args.form)
    (tree c.args.s.now (table c.args.work.now) c.args.m) (tree c.args.s.now (table c.args.work.now) c.args.n)))

pub resolve-requires-2 : goal.resolve-requires-2
resolve-requires-2 c =
    (ready_after c.requires.0 c.resolve.ensures.left, rw c.resolve.ensures.left.rows c.requires.2, rw c.resolve.ensures.left.rows c.requires.4)

pub returns-in_err-b : goal.returns-in_err-b
returns-in_err-b c =
    let r : c.from_residual-in_err-b.result ≡ Err c.in_err-b.field-0.0 = search rules in
    rw r (right_refused (sheet_in c.args.s.now) (frames_of c.args.s.now (table c.args.work.now) c.args.scope.now.frames) (form_of c.args.form)
    (tree c.args.s.now (table c.args.work.now) c.args.m) (tree c.args.s.now (table c.args.work.now) c.args.n) c.resolve.ensures
    (rw c.resolve.ensures.left.rows at c.resolve-2.ensures) _ c.in_ok-a.was _ c.in_err-b.was)

pub holds-requires : goal.holds-requires
holds-requires c = (
  ready_after (ready_after c.requires.0 c.resolve.ensures.left) c.resolve-2.ensures.left,
  rw (c.resolve-2.ensures.left.rows ∙ c.resolve.ensures.left.rows) (is_present_lem c.resolve.ensures _ (c.in_ok-a.was ∙ ap found c.in-Some-Some.is-0)).1,
  rw c.resolve-2.ensures.left.rows (is_present_lem c.resolve-2.ensures _ (c.in_ok-b.was ∙ ap found c.in-Some-Some.is-1)).1,
)

pub returns-in-Some-Some : goal.returns-in-Some-Some
returns-in-Some-Some c =
    both_present (sheet_in c.args.s.now) (frames_of c.args.s.now (table c.args.work.now) c.args.scope.now.frames) (form_of c.args.form)
    (tree c.args.s.now (table c.args.work.now) c.args.m) (tree c.args.s.now (table c.args.work.now) c.args.n) c.resolve.ensures
    (rw c.resolve.ensures.left.rows at c.resolve-2.ensures) _ _ (c.in_ok-a.was ∙ ap found c.in-Some-Some.is-0) (c.in_ok-b.was ∙ ap found c.in-Some-Some.is-1)
    (c.from.ensures ∙ ap of_bool (rw (c.resolve-2.ensures.left.rows ∙ c.resolve.ensures.left.rows) at c.holds.ensures))

pub returns-in_default : goal.returns-in_default
returns-in_default c =
    right_missing (sheet_in c.args.s.now) (frames_of c.args.s.now (table c.args.work.now) c.args.scope.now.frames) (form_of c.args.form)
    (tree c.args.s.now (table c.args.work.now) c.args.m) (tree c.args.s.now (table c.args.work.now) c.args.n) c.resolve.ensures
    (rw c.resolve.ensures.left.rows at c.resolve-2.ensures) _ (c.in_ok-a.was ∙ ap found c.in_default.is-0) (c.in_ok-b.was ∙ ap found c.in_default.is-1)

pub returns-in_default-2 : goal.returns-in_default-2
returns-in_default-2 c =
    left_missing (sheet_in c.args.s.now) (frames_of c.args.s.now (table c.args.work.now) c.args.scope.now.frames) (form_of c.args.form)
    (tree c.args.s.now (table c.args.work.now) c.args.m) (tree c.args.s.now (table c.args.work.now) c.args.n) c.resolve.ensures
    (rw c.resolve.ensures.left.rows at c.resolve-2.ensures) (c.in_ok-a.was ∙ ap found c.in_default.is-0) _ c.in_ok-b.was
