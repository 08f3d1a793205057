-- `held` meets its contract: by the name's tests in turn.
-- Assumes nothing.
use mathlib.Core.Path.{refl, sym}
use Rattle.members.proofs.Soundness.{held_first, held_itself, held_nothing, held_second, held_third}
use Rattle.members.specs.Answers.{fault_is}
use Rattle.sheet.proofs.written.held.Goals.{then-is_word-2-via-else-is_word-2+then-is_word-3, then-is_word-2-via-then-is_word-2}
use Rattle.sheet.proofs.written.held.Goals as goal

pub returns-then-is_word : goal.returns-then-is_word
returns-then-is_word c = held_itself _ _ (sym c.if-is_word.ensures) c.condition.ensures

pub returns-then-is_word-2 : goal.returns-then-is_word-2
returns-then-is_word-2 c =
    elim c.then-is_word-2.branch [
      | then-is_word-2-via-then-is_word-2 w ↦
          held_first _ _ (sym c.if-is_word.ensures) (sym w.if-is_word-2.ensures) c.under_each.ensures
      | then-is_word-2-via-else-is_word-2+then-is_word-3 w ↦
          held_second _ _ (sym c.if-is_word.ensures) (sym w.if-is_word-2.ensures) (sym w.if-is_word-3.ensures) c.under_each.ensures
    ]

pub returns-then-is_word-4 : goal.returns-then-is_word-4
returns-then-is_word-4 c =
    held_third _ _ (sym c.if-is_word.ensures) (sym c.if-is_word-2.ensures) (sym c.if-is_word-3.ensures) (sym c.if-is_word-4.ensures)
    c.under_each-then-is_word-4.ensures

pub returns : goal.returns
unfolding fault_is
returns c = held_nothing _ _ (sym c.if-is_word.ensures) (sym c.if-is_word-2.ensures) (sym c.if-is_word-3.ensures) (sym c.if-is_word-4.ensures) refl
