-- `exists_at` meets its contract: by what its operand is, quietly.
-- Assumes nothing.
use mathlib.Core.Path.{ap, ◌∙◌, ◌≡◌}
use borrow.Author.Rules.{rules}
use Rattle.std.specs.Prelude.{Err}
use Rattle.members.specs.Sheet.{sheet_in}
use Rattle.paths.specs.Stored.{frames_of, table, tree}
use Rattle.semantics.specs.Truth.{of_bool}
use Rattle.comparison.proofs.Judging.{exists_known, exists_refused, refused_first}
use Rattle.comparison.proofs.comparison.exists_at.Goals as goal

pub returns-in_err-found : goal.returns-in_err-found
returns-in_err-found c =
    let r : c.from_residual.result ≡ Err c.in_err-found.field-0.0 = search rules in
    rw r (refused_first c.resolve.ensures _ c.in_err-found.was (exists_refused (sheet_in c.args.s.now) (frames_of c.args.s.now (table c.args.work.now)
    c.args.scope.now.frames) (tree c.args.s.now (table c.args.work.now) c.args.node)))

pub returns : goal.returns
returns c = exists_known (sheet_in c.args.s.now) (frames_of c.args.s.now (table c.args.work.now) c.args.scope.now.frames) (tree c.args.s.now (table c.args.work.now)
    c.args.node) c.resolve.ensures _ c.in_ok-found.was (c.from.ensures ∙ ap of_bool c.is_some.ensures)
