-- `rules::alone::evaluate_alone` meets its contract: over cleared marks, what is marked then are the names met.
-- Assumes nothing.
use native.Mathlib.Omega.{arith}
use Rattle.evaluation.proofs.After.{accepted_rows, gives_rows}
use Rattle.rules.proofs.Unmarking.{alone, alone_refused, refusal_known, still_accepted, still_given}
use Rattle.rules.proofs.alone.evaluate_alone.Goals as goal

pub evaluate_condition-requires : goal.evaluate_condition-requires
evaluate_condition-requires c =
    (omega (arith, c.clear_marks.ensures.only.long, c.requires.0), still_accepted c.clear_marks.ensures.only c.requires.1, still_given c.clear_marks.ensures.only c.requires.2)

pub refused-requires : goal.refused-requires
refused-requires c =
    let o = c.clear_marks.ensures.only in
    refusal_known c.requires.0 c.clear_marks.ensures
    (c.evaluate_condition.ensures c.requires.1.given c.requires.2.given (accepted_rows o.rows c.requires.1.known) (gives_rows o.rows c.requires.2.known))
    c.in-Err.why c.in-Err.is

pub returns-in-Ok : goal.returns-in-Ok
returns-in-Ok c =
    λ sheet x a g. let o = c.clear_marks.ensures.only in
    alone c.requires.0 c.clear_marks.ensures (c.evaluate_condition.ensures sheet x (accepted_rows o.rows a) (gives_rows o.rows g)) c.in-Ok.t c.in-Ok.is

pub returns-in-Err : goal.returns-in-Err
returns-in-Err c =
    λ sheet x a g. let o = c.clear_marks.ensures.only in
    alone_refused c.requires.0 c.clear_marks.ensures (c.evaluate_condition.ensures sheet x (accepted_rows o.rows a) (gives_rows o.rows g)) c.in-Err.why c.in-Err.is
    c.refused.ensures
