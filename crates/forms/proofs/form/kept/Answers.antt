-- `forms::form::kept` meets its contract: its parts, one after another.
-- Assumes nothing.
use mathlib.Core.List.{append_assoc}
use Rattle.writer.proofs.Laying.{then, told}
use Rattle.answers.specs.Line.{spaced}
use Rattle.forms.proofs.form.kept.Goals as goal

pub returns : goal.returns
unfolding spaced
returns c =
    told (simp append_assoc)
    (then
    (then
    (then
    (then c.byte.ensures
    c.bytes.ensures) c.number.ensures)
    c.element.ensures)
    c.byte-2.ensures)
