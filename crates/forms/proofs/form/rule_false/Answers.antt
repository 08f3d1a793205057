-- `forms::form::rule_false` meets its contract: its parts, one after another.
-- Assumes nothing.
use Rattle.writer.proofs.Laying.{then, told}
use Rattle.answers.specs.Line.{quoted_bytes}
use Rattle.forms.proofs.form.rule_false.Goals as goal

pub returns : goal.returns
unfolding quoted_bytes
returns c =
    told
    (rw c.false_number.ensures)
    (then c.refused_rule.ensures
    c.byte.ensures)
