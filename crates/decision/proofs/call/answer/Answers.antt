-- `decision::call::answer` meets its contract: by the case of the call.
-- Assumes nothing.
use Rattle.decision.proofs.Calls.{by_case}
use Rattle.rules.proofs.Checking.{answered_over}
use Rattle.rules.proofs.Unmarking.{marks_none}
use Rattle.decision.proofs.call.answer.Goals as goal

pub returns-in-Evaluate : goal.returns-in-Evaluate
returns-in-Evaluate c = by_case c.in-Evaluate.is c.evaluate_call.ensures

pub returns-in-Preconditions : goal.returns-in-Preconditions
returns-in-Preconditions c =
    by_case c.in-Preconditions.is
    c.rules_call.ensures

pub returns-in-Invariants : goal.returns-in-Invariants
returns-in-Invariants c =
    by_case c.in-Invariants.is
    c.rules_call-in-Invariants.ensures

pub returns-in-Select : goal.returns-in-Select
returns-in-Select c =
    by_case c.in-Select.is
    c.select_call.ensures

pub returns-in-Admit : goal.returns-in-Admit
returns-in-Admit c =
    by_case c.in-Admit.is
    (λ sheet a. answered_over (marks_none _) (c.admit_call.ensures sheet a))

pub returns-in-Decide : goal.returns-in-Decide
returns-in-Decide c =
    by_case c.in-Decide.is
    c.decide_call.ensures
