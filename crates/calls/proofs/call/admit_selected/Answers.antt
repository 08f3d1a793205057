-- `calls::call::admit_selected` meets its contract: by what is selected.
-- Assumes nothing.
use Rattle.json_text.specs.Spans.{text_at}
use Rattle.calls.proofs.Deciding.{admission_of, admission_refused, admits_selected}
use Rattle.calls.proofs.call.admit_selected.Goals as goal

pub admit-requires : goal.admit-requires
admit-requires c =
    admits_selected c.requires.1.given
    (c.select.ensures c.requires.1.given c.requires.1.known)
    c.in-Ok.p c.in-Ok.is c.requires.1.known c.requires.2

pub returns-in-Ok : goal.returns-in-Ok
returns-in-Ok c =
    λ sheet a. admission_of sheet (c.select.ensures sheet a)
    c.in-Ok.p c.in-Ok.is a
    c.args.state c.admit.ensures

pub returns-in-Err : goal.returns-in-Err
returns-in-Err c =
    λ sheet a. admission_refused sheet (c.select.ensures sheet a)
    (text_at c.args.s.now c.args.state) c.in-Err.a c.in-Err.is
