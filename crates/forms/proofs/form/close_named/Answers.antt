-- `forms::form::close_named` meets its contract: a space, the names and the bracket.
-- Assumes nothing.
use Rattle.writer.proofs.Laying.{then}
use Rattle.forms.proofs.form.close_named.Goals as goal

pub returns : goal.returns
returns c =
    then (then c.byte.ensures c.names.ensures)
    c.byte-2.ensures
