-- `forms::form::refused` meets its contract: its parts, one after another.
-- Assumes nothing.
use Rattle.writer.proofs.Laying.{then}
use Rattle.answers.specs.Line.{spaced}
use Rattle.forms.proofs.form.refused.Goals as goal

pub returns : goal.returns
unfolding spaced
returns c =
    then c.bytes.ensures
    c.number.ensures
