-- What each of the six calls answers.
-- Assumes nothing.
use Rattle.std.specs.Prelude.{ℕ}
use Rattle.answers.specs.Verdict.{Verdict}
use Rattle.json_text.specs.Bytes.{Bytes}
use Rattle.json_text.specs.Refusal.{Result}
use Rattle.answers.specs.Decide.{admit_call, decide_call, evaluate_call, invariants_call, preconditions_call, select_call}
use Rattle.members.specs.Condition.{Condition}
use Rattle.members.specs.Sheet.{Sheet}
use Rattle.answers.specs.Entry.{Reply, admit, check_invariants, check_preconditions, decide, evaluate, select}
use Rattle.calling.specs.declared.Call.{Call}
use Rattle.calling.specs.declared.Call.TheVariants as calls

-- on an accepted sheet
abbrev pub verdict_of : Call → Sheet Condition → Result Verdict
verdict_of calls.Evaluate sheet = evaluate_call sheet
verdict_of calls.Preconditions sheet = preconditions_call sheet
verdict_of calls.Invariants sheet = invariants_call sheet
verdict_of calls.Select sheet = select_call sheet
verdict_of (calls.Admit place) sheet = admit_call sheet place
verdict_of calls.Decide sheet = decide_call sheet

-- on any bytes
abbrev pub call_of : Call → Bytes → ℕ → ℕ → Reply
call_of calls.Evaluate s work output = evaluate s work output
call_of calls.Preconditions s work output = check_preconditions s work output
call_of calls.Invariants s work output = check_invariants s work output
call_of calls.Select s work output = select s work output
call_of (calls.Admit place) s work output = admit place s work output
call_of calls.Decide s work output = decide s work output
