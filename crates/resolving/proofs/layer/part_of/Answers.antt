-- `resolving::layer::part_of` meets its contract: by the kind of the whole.
-- Assumes nothing.
use mathlib.Core.Path.{ap, sym}
use Prim.Native.Nat.{ℕ, ◌+◌}
use Rattle.resolving.proofs.Layered.{part_value, part_written}
use Rattle.resolving.proofs.Slices.{frames_length, frames_outer, node_room, ready_outer}
use Rattle.members.specs.Sheet.{sheet_in}
use Rattle.paths.specs.Stored.{frames_of, table}
use native.Mathlib.Omega.{arith}
use Rattle.resolving.proofs.layer.part_of.Goals as goal

pub outer-under-requires : goal.outer-under-requires
outer-under-requires c = c.requires.0.bound.within

pub overflow_add-under : goal.overflow_add-under
overflow_add-under c = omega (arith, c.outer-under.ensures.2, c.requires.0.bound.within)

pub touch_at-requires : goal.touch_at-requires
touch_at-requires c = (ready_outer c.requires.0 c.outer-under.ensures.0 c.args.o.depth c.outer-under.ensures.2 c.outer-under.ensures.3, c.requires.1)

pub value_at-requires : goal.value_at-requires
value_at-requires c = node_room c.requires.0 c.requires.1

pub returns-in-Listed : goal.returns-in-Listed
returns-in-Listed c =
    part_written (sheet_in c.args.s.now) (frames_of c.args.s.now (table c.args.work.now) c.args.scope.now.frames) c.args.o
    c.args.node c.in-Listed.is
    (frames_outer c.requires.0 c.outer-under.result.frames c.args.o.depth c.outer-under.ensures.3)
    (ap (λ (x : ℕ). x + 1)
    (sym
    (frames_length (ready_outer c.requires.0 c.outer-under.ensures.0 c.args.o.depth c.outer-under.ensures.2 c.outer-under.ensures.3))))
    c.touch_at.ensures

pub returns-in_default : goal.returns-in_default
returns-in_default c =
    part_value (sheet_in c.args.s.now) (frames_of c.args.s.now (table c.args.work.now) c.args.scope.now.frames) c.args.o
    c.args.node c.in_default.not-Listed c.in_default.not-Named
    (c.value_at.ensures c.args.s.now c.requires.1)
