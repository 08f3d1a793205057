-- `decision::call::run` meets its contract: refused on opening the sheet, or answered by the call on it.
-- Assumes nothing.
use Rattle.decision.proofs.Entries.{called_refused, called_sheet, held_answer, opened_large, still_bounded}
use Rattle.decision.proofs.call.run.Goals as goal

pub answer-a-requires : goal.answer-a-requires
answer-a-requires c = opened_large c.«open».ensures c.«open».auto.work c.in-Ok.m c.in-Ok.is

pub emit-reply-requires : goal.emit-reply-requires
emit-reply-requires c = held_answer c.«open».ensures c.«open».auto.work c.in-Ok.m c.in-Ok.is c.args.call c.answer-a.ensures

pub clear_rows-requires : goal.clear_rows-requires
clear_rows-requires c = still_bounded c.«open».ensures c.«open».auto.work c.in-Ok.m c.in-Ok.is c.args.call c.answer-a.ensures

pub returns-in-Err : goal.returns-in-Err
returns-in-Err c =
    called_refused c.«open».ensures c.«open».auto.work c.args.call c.clear.ensures c.in-Err.why c.in-Err.is c.refused.ensures c.args.out.now

pub returns-in-Ok : goal.returns-in-Ok
returns-in-Ok c =
    called_sheet c.«open».ensures c.«open».auto.work c.in-Ok.m c.in-Ok.is c.args.call c.answer-a.ensures c.emit-reply.ensures
    c.clear_rows.ensures
