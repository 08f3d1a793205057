-- `calls::call::select_call` meets its contract: by what is selected.
-- Assumes nothing.
use Rattle.calls.proofs.Deciding.{select_chosen, select_refused, selected_node}
use Rattle.calls.proofs.call.select_call.Goals as goal

pub entry-requires : goal.entry-requires
entry-requires c =
    selected_node c.requires.1.given
    (c.select.ensures c.requires.1.given c.requires.1.known)
    c.in-Ok.p c.in-Ok.is

pub returns-in-Ok : goal.returns-in-Ok
returns-in-Ok c =
    λ sheet a. select_chosen sheet (c.select.ensures sheet a)
    c.in-Ok.p c.in-Ok.is c.entry.ensures

pub returns-in-Err : goal.returns-in-Err
returns-in-Err c =
    λ sheet a. select_refused sheet (c.select.ensures sheet a)
    c.in-Err.a c.in-Err.is
