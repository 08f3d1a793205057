-- `reader::rows::find` meets its contract: the loop says that the search from here on is the whole search.
-- Assumes nothing.
use native.Mathlib.Omega.{arith}
use mathlib.Core.Path.{refl, sym, ◌∙◌}
use Rattle.strings.proofs.Members.{ended, name_room, value_room, on_name, here, falls, on}
use Rattle.strings.proofs.rows.find.Goals as goal

pub loop-k-init : goal.loop-k-init
loop-k-init c = record { members = c.requires.0; text = c.requires.1; rest = refl }

pub start_at-a-requires : goal.start_at-a-requires
start_at-a-requires c = name_room c.loop-k.invariant c.loop-k-test.true

pub same-requires : goal.same-requires
same-requires c = (
  c.loop-k.invariant.text,
  on_name c.loop-k.invariant c.loop-k-test.true _ c.start_at-a.ensures,
)

pub overflow_add-result : goal.overflow_add-result
overflow_add-result c =
    omega (
      arith,
      (value_room c.loop-k.invariant
          c.loop-k-test.true).1,
    )

pub returns-then-same : goal.returns-then-same
returns-then-same c =
    here c.loop-k.invariant c.loop-k-test.true _
    c.start_at-a.ensures (sym c.if-same.true ∙ c.same.ensures)

pub overflow_add-k : goal.overflow_add-k
overflow_add-k c =
    omega (
      arith,
      (value_room c.loop-k.invariant
          c.loop-k-test.true).1,
    )

pub after_at-k-requires : goal.after_at-k-requires
after_at-k-requires c =
    value_room c.loop-k.invariant c.loop-k-test.true

pub loop-k-smaller : goal.loop-k-smaller
loop-k-smaller c =
    omega (
      arith,
      (falls c.loop-k.invariant c.loop-k-test.true _ c.after_at-k.ensures).0,
      (falls c.loop-k.invariant c.loop-k-test.true _ c.after_at-k.ensures).1,
    )

pub loop-k-preserved : goal.loop-k-preserved
loop-k-preserved c =
    on c.loop-k.invariant
    c.loop-k-test.true _ c.start_at-a.ensures
    (sym c.if-same.false ∙ c.same.ensures) _ c.after_at-k.ensures

pub returns : goal.returns
returns c = ended c.loop-k.invariant c.loop-k-test.false
