-- `calls::call::evaluate_call` meets its contract: no condition, or what it gives alone.
-- Assumes nothing.
use Rattle.calls.proofs.Evaluating.{answered_condition, answered_no_condition, condition_known, its_truth, of_condition, told_truth}
use Rattle.rules.proofs.Settling.{judged, stopped}
use Rattle.calls.proofs.call.evaluate_call.Goals as goal

pub evaluate_alone-requires : goal.evaluate_alone-requires
evaluate_alone-requires c = (c.requires.0, c.requires.1, condition_known c.requires.1.known c.in-Some.node c.in-Some.is)

pub returns-in_default : goal.returns-in_default
returns-in_default c = λ sheet a. answered_no_condition a c.in_default.is

pub returns-in-Ok : goal.returns-in-Ok
returns-in-Ok c =
    λ sheet a. let y = its_truth a c.in-Some.node c.in-Some.is c.evaluate_alone.ensures in
    answered_condition a c.in-Some.node c.in-Some.is c.evaluate_alone.ensures (told_truth c.in-Ok.t (judged y c.in-Ok.t c.in-Ok.is) c.of_truth.ensures)

pub returns-in-Err : goal.returns-in-Err
returns-in-Err c =
    λ sheet a. let y = its_truth a c.in-Some.node c.in-Some.is c.evaluate_alone.ensures in
    answered_condition a c.in-Some.node c.in-Some.is c.evaluate_alone.ensures (stopped y c.in-Err.a c.in-Err.is of_condition)
