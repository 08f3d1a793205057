-- `printing::call::answer` meets its contract: the line that the call has written, or the number where it has written none.
-- Assumes nothing.
use mathlib.Core.Path.{sym, ◌∙◌}
use Rattle.printing.proofs.Printing.{as_answer, with_line, with_number}
use Rattle.printing.proofs.call.answer.Goals as goal

pub returns-in-Some : goal.returns-in-Some
returns-in-Some c = as_answer c.args.call c.args.sheet.now c.requires.0 c.requires.1 (with_line c.run-reply.ensures (sym c.size.ensures ∙ c.in-Some.is))

pub returns-in-None : goal.returns-in-None
returns-in-None c =
    as_answer c.args.call c.args.sheet.now c.requires.0 c.requires.1
    (with_number c.run-reply.ensures (sym c.size.ensures ∙ c.in-None.is) c.number.ensures.value c.number_line.ensures)
