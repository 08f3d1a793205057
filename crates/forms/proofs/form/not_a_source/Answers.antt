-- `forms::form::not_a_source` meets its contract: its parts, one after another.
-- Assumes nothing.
use mathlib.Core.List.{[], ◌++◌, ◌∷◌}
use Rattle.forms.proofs.Forms.{closed_with, opened_further}
use Rattle.answers.specs.Line.{decimal_digits, listed, quoted}
use Rattle.writer.specs.Texts.{texts_in}
use Rattle.json_text.specs.Bytes.{ascii}
use Rattle.json_text.specs.Spans.{text_at}
use Rattle.json_text.specs.Table.{value_at}
use Rattle.writer.proofs.Laying.{then, told}
use Rattle.forms.proofs.form.not_a_source.Goals as goal

pub returns : goal.returns
returns c =
    let ws = decimal_digits 22 ∷ decimal_digits c.args.m.outcome.place ∷ quoted
    (text_at c.args.s.now c.args.m.outcome.name) ∷ [] in
    let state = quoted (text_at c.args.s.now c.args.m.state) in
    told
    (closed_with (listed (ascii "from") (texts_in (value_at c.args.s.now c.args.work.now c.args.m.from))) (ascii "refused")
    (ws ++ (state ∷ [])))
    (then
    (told (opened_further state (ascii "refused") ws)
    (then c.refused_outcome.ensures
    c.element.ensures))
    (then
    (then c.byte.ensures c.sources.ensures)
    c.byte-2.ensures))
