-- `forms::form::truth` meets its contract: its parts, one after another.
-- Assumes nothing.
use mathlib.Core.List.{append_assoc}
use Rattle.writer.proofs.Laying.{then, told}
use Rattle.answers.specs.Line.{spaced}
use Rattle.forms.proofs.form.truth.Goals as goal

pub returns : goal.returns
unfolding spaced
returns c =
    told (simp append_assoc)
    (then
    (then
    c.bytes.ensures
    c.bytes-2.ensures)
    c.close_named.ensures)
