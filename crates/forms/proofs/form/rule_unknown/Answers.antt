-- `forms::form::rule_unknown` meets its contract: its parts, one after another.
-- Assumes nothing.
use mathlib.Core.List.{[], ◌∷◌}
use Rattle.forms.proofs.Forms.{closed_with}
use Rattle.answers.specs.Line.{decimal_digits, message_or, name_or, names}
use Rattle.writer.specs.Meaning.{names_in}
use Rattle.writer.specs.Texts.{text_of}
use Rattle.json_text.specs.Bytes.{ascii}
use Rattle.writer.proofs.Laying.{then, told}
use Rattle.answers.specs.Line.{quoted_bytes}
use Rattle.forms.proofs.form.rule_unknown.Goals as goal

pub returns : goal.returns
unfolding quoted_bytes
returns c =
    told
    (rw c.unknown_number.ensures at
    (closed_with (names (names_in c.args.s.now c.args.work.now)) (ascii "refused")
    (decimal_digits c.unknown_number.result ∷ decimal_digits c.args.rule.place ∷ name_or (text_of c.args.s.now c.args.rule.name) ∷ message_or
    (ascii "condition could not be evaluated") (text_of c.args.s.now c.args.rule.message) ∷ [])))
    (then (rw c.unknown_number.ensures at c.refused_rule.ensures)
    c.close_named.ensures)
