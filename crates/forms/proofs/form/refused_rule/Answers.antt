-- `forms::form::refused_rule` meets its contract: its parts, one after another.
-- Assumes nothing.
use mathlib.Core.List.{append_assoc}
use Rattle.writer.proofs.Laying.{then, told}
use Rattle.answers.specs.Line.{spaced}
use Rattle.forms.proofs.form.refused_rule.Goals as goal

pub returns : goal.returns
unfolding spaced
returns c =
    told (simp append_assoc)
    (then
    (then (then c.refused.ensures c.number.ensures)
    c.element_or.ensures)
    c.element_or-2.ensures)
