-- `pair_fault` meets its contract: an array of two elements, or the fault.
-- Assumes nothing.
use mathlib.Core.Path.{refl}
use Rattle.strings.proofs.KindCodes.{is_kind, is_other}
use Rattle.strings.specs.declared.rows.Kind.TheVariants as kinds
use Rattle.syntax.proofs.Faults.{pair_no_array, pair_other, pair_two}
use Rattle.members.proofs.Walks.{room}
use Rattle.members.proofs.Wanted.{array_nodes}
use Rattle.members.specs.Answers.{fault_is}
use Rattle.syntax.proofs.condition.pair_fault.Goals.{else-eq-via-else-eq, else-eq-via-then-eq+else-count_elements-eq2}
use Rattle.syntax.proofs.condition.pair_fault.Goals as goal

pub kind_at-requires : goal.kind_at-requires
kind_at-requires c = room c.requires

pub after_at-requires : goal.after_at-requires
after_at-requires c = room c.requires

pub count_elements-requires : goal.count_elements-requires
count_elements-requires c =
    array_nodes c.requires _ c.kind_at.ensures
    (is_kind _ kinds.Array refl c.if-eq.ensures) _ c.after_at.ensures

pub returns-then-count_elements-eq2 : goal.returns-then-count_elements-eq2
unfolding fault_is
returns-then-count_elements-eq2 c =
    pair_two c.requires _ c.kind_at.ensures
    (is_kind _ kinds.Array refl c.if-eq.ensures) _ c.after_at.ensures _ c.count_elements.ensures
    c.if-count_elements-eq2.true

pub returns-else-eq : goal.returns-else-eq
unfolding fault_is
returns-else-eq c =
    elim c.else-eq.branch [
      | else-eq-via-then-eq+else-count_elements-eq2 w ↦
          pair_other c.requires _ c.kind_at.ensures
          (is_kind _ kinds.Array refl w.if-eq.ensures) _ w.after_at.ensures _ w.count_elements.ensures
          w.if-count_elements-eq2.false
      | else-eq-via-else-eq w ↦
          pair_no_array c.requires _ c.kind_at.ensures (is_other _ kinds.Array refl w.if-eq.ensures)
    ]
