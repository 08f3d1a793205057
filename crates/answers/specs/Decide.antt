-- The calls on an accepted sheet.
-- Assumes nothing.
use mathlib.Core.List.{[]}
use Rattle.std.specs.Prelude.{ℕ}
use Rattle.answers.specs.Admission.{admit}
use Rattle.answers.specs.Outcomes.{Placed, at, select}
use Rattle.answers.specs.Rules.{check}
use Rattle.answers.specs.Verdict.{Verdict, admitted, answered, selected}
use Rattle.semantics.specs.Evaluate.{evaluate}
use Rattle.semantics.specs.Names.{ascending}
use Rattle.semantics.specs.Semantics.{kernel}
use Rattle.json_text.specs.Refusal.{Result, ◌>>=◌, invariants, no_input, ok, or_else, preconditions}
use Rattle.members.specs.Condition.{Condition}
use Rattle.members.specs.Sheet.{Sheet}

abbrev pub as_selected : Placed → Verdict
as_selected p = selected p.place p.outcome.name

abbrev pub as_admitted : Placed → Verdict
as_admitted p = admitted p.place p.outcome.name

module _ (sheet : Sheet Condition) where
  -- the calls
  unfoldable pub evaluate_call : Result Verdict
  unfolding evaluate ascending
  evaluate_call = do
    c ← or_else sheet.condition no_input
    a ← evaluate kernel sheet [] c
    ok (answered a.truth (ascending a.names))

  unfoldable pub preconditions_call : Result Verdict
  unfolding check
  preconditions_call = check sheet preconditions 0 sheet.preconditions

  unfoldable pub invariants_call : Result Verdict
  unfolding check
  invariants_call = check sheet invariants 0 sheet.invariants

  unfoldable pub select_call : Result Verdict
  unfolding select
  select_call = do
    p ← select sheet 0 sheet.outcomes
    ok (as_selected p)

  unfoldable pub admit_call : ℕ → Result Verdict
  unfolding admit at
  admit_call n = do
    p ← or_else (at 0 n sheet.outcomes) no_input
    s ← or_else sheet.state no_input
    q ← admit sheet.states sheet.outcomes s p
    ok (as_admitted q)

  unfoldable pub decide_call : Result Verdict
  unfolding check select admit
  decide_call = do
    s ← or_else sheet.state no_input
    _ ← check sheet preconditions 0 sheet.preconditions
    p ← select sheet 0 sheet.outcomes
    q ← admit sheet.states sheet.outcomes s p
    ok (as_admitted q)
