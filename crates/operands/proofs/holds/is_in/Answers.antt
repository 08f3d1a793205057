-- `is_in` meets its contract: by the class of the second.
-- Assumes nothing.
use mathlib.Core.Path.{ap, sym, ◌∙◌}
use Rattle.paths.specs.Comparing.{nesting}
use Rattle.members.specs.Sheet.{sheet_in}
use Rattle.paths.specs.Stored.{frames_of, table}
use Rattle.resolving.proofs.Slices.{frames_length}
use Rattle.resolving.proofs.Layered.{array_kind}
use Rattle.operands.proofs.Pairs.{in_none, in_some}
use Rattle.operands.proofs.holds.is_in.Goals as goal

pub nesting-requires : goal.nesting-requires
nesting-requires c = c.requires.0.bound.within

pub is_element-requires : goal.is_element-requires
is_element-requires c =
    (c.requires.0, c.requires.1, array_kind c.args.s.now (table c.args.work.now) c.args.b.node c.args.b.kind c.requires.2.fits (sym c.class.ensures ∙ c.in-Array.is))

pub returns-in-Array : goal.returns-in-Array
returns-in-Array c =
    in_some (sheet_in c.args.s.now) c.args.s.now (table c.args.work.now)
    (frames_of c.args.s.now (table c.args.work.now) c.args.scope.now.frames) c.args.a c.args.b (sym c.class.ensures ∙ c.in-Array.is)
    (rw (c.nesting.ensures ∙ ap nesting (sym (frames_length c.requires.0))) at c.is_element.ensures)

pub returns-in_default : goal.returns-in_default
returns-in_default c = in_none (sheet_in c.args.s.now) c.args.s.now (table c.args.work.now)
    (frames_of c.args.s.now (table c.args.work.now) c.args.scope.now.frames) c.args.a c.args.b (λ e. c.in_default.not-Array (c.class.ensures ∙ e))
