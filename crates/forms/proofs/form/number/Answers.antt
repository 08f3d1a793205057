-- `forms::form::number` meets its contract: a space, and then the digits.
-- Assumes nothing.
use Rattle.writer.proofs.Laying.{then}
use Rattle.forms.proofs.form.number.Goals as goal

pub returns : goal.returns
returns c =
    then c.byte.ensures
    c.decimal.ensures
