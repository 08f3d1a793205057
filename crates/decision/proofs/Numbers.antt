-- Every reply ends as the table has it; so its number has a line's length where the table has a line.
-- Assumes nothing.
use mathlib.Core.Bool.{Bool, false, true}
use Rattle.std.specs.Prelude.{Option, None, Some}
use mathlib.Core.Logic.{◌⊎◌, inl, inr}
use mathlib.Core.Path.{refl, subst, sym, ◌≡◌}
use Prim.Native.Nat.{ℕ, ◌≤◌}
use native.Mathlib.Omega.{arith}
use lib.Dec.{leb}
use lib.ListN.{length}
use Rattle.answers.specs.Line.{refusal_line, refusal_number, verdict_line}
use Rattle.answers.specs.Reply.{Reply, fitted, line_size, reply}
use Rattle.answers.specs.Verdict.{Verdict}
use Rattle.json_text.specs.Bytes.{Bytes}
use Rattle.json_text.specs.Refusal as refusals
use Rattle.json_text.specs.Refusal.{
  Refusal,
  Result,
  guard_unknown,
  invariants,
  no_id,
  no_input,
  no_outcome,
  not_a_source,
  not_carried,
  not_json,
  not_utf8,
  number_too_long,
  ok,
  preconditions,
  refused,
  repeated_name,
  rule_false,
  rule_unknown,
  too_deep,
  too_long,
  too_many_nodes,
  unknown_expression,
  work_too_small,
  wrong_shape,
  wrong_sheet,
  wrong_state,
  ◌>>=◌,
}
use Rattle.members.specs.Condition.{Condition}
use Rattle.members.specs.Sheet.{Sheet, read_sheet}
use Rattle.decision.specs.Calls.{call_of, verdict_of}
use Rattle.answers.specs.Entry.{call, enough}
use Rattle.answers.specs.Ended.{Ended, answered, line_too_long, with_line, without_line}
use Rattle.calling.specs.declared.Call.{Call}
use Rattle.decision.proofs.Calls.{of_verdict}
use Rattle.line.specs.Replies.{Told}

-- a line that fits, or 23
abbrev kept : ℕ → Bytes → Bool → Reply
kept n l b = elim b [ true ↦ record { number = n; line = Some l } | false ↦ record { number = refusal_number refusals.line_too_long; line = None } ]

kept_ended : (n : ℕ) (l : Bytes) → Ended (record { number = n; line = Some l }) → (b : Bool) → Ended (kept n l b)
unfolding refusal_number
kept_ended n l h true = h
kept_ended n l h false = line_too_long

-- what the table says of a number with a line, and of one without
abbrev Lined : ℕ → Option Bytes → Type 0
Lined n None = ((1 ≤ n) × (n ≤ 12)) ⊎ (n ≡ 23)
Lined n (Some l) = (13 ≤ n) × (n ≤ 22)

lined : (r : Refusal) → Lined (refusal_number r) (refusal_line r)
unfolding refusal_number refusal_line
lined work_too_small = inl (omega arith, omega arith)
lined too_long = inl (omega arith, omega arith)
lined not_utf8 = inl (omega arith, omega arith)
lined not_json = inl (omega arith, omega arith)
lined too_deep = inl (omega arith, omega arith)
lined number_too_long = inl (omega arith, omega arith)
lined too_many_nodes = inl (omega arith, omega arith)
lined repeated_name = inl (omega arith, omega arith)
lined wrong_sheet = inl (omega arith, omega arith)
lined wrong_shape = inl (omega arith, omega arith)
lined not_carried = inl (omega arith, omega arith)
lined no_input = inl (omega arith, omega arith)
lined (unknown_expression e) = (omega arith, omega arith)
lined no_id = (omega arith, omega arith)
lined (rule_false preconditions i n m) = (omega arith, omega arith)
lined (rule_false invariants i n m) = (omega arith, omega arith)
lined (rule_unknown preconditions i n m ns) = (omega arith, omega arith)
lined (rule_unknown invariants i n m ns) = (omega arith, omega arith)
lined no_outcome = (omega arith, omega arith)
lined (guard_unknown i n ns) = (omega arith, omega arith)
lined (wrong_state s) = (omega arith, omega arith)
lined (not_a_source i n s from) = (omega arith, omega arith)
lined refusals.line_too_long = inr refl

fitted_ended : (output n : ℕ) (l : Option Bytes) → Lined n l → Ended (fitted output n l)
fitted_ended output n None (inl h) = without_line n h.0 h.1
fitted_ended output n None (inr e) = subst (λ (m : ℕ). Ended (record { number = m; line = None })) (sym e) line_too_long
fitted_ended output n (Some l) h = kept_ended n l (with_line n l h.0 h.1) (leb (length l) output)

pub ended : (output : ℕ) (x : Result Verdict) → Ended (reply output x)
unfolding reply
ended output (ok v) = kept_ended 0 (verdict_line v) (answered (verdict_line v)) (leb (length (verdict_line v)) output)
ended output (refused r) = fitted_ended output (refusal_number r) (refusal_line r) (lined r)

-- ---- every call ends so, on any bytes, with any sizes
pub every_call_ends : (f : Sheet Condition → Result Verdict) (s : Bytes) (words size : ℕ) → Ended (call f s words size)
unfolding call
every_call_ends f s words size = ended size (enough words >>= (λ _. read_sheet s >>= (λ sheet. f sheet)))

pub ends : (x : Call) (s : Bytes) (words size : ℕ) → Ended (call_of x s words size)
ends x s words size = rw of_verdict (every_call_ends (verdict_of x) s words size)

-- ---- so its number has a line's length where the table has a line
pub told_ended : {r : Reply} → Ended r → Told r.number (line_size r)
told_ended (answered line) = record { most = omega arith; early = λ a b. absurd (omega (arith, a)); last = λ e. absurd (omega (arith, e)) }
told_ended (with_line n line a b) = record { most = omega (arith, b); early = λ c d. absurd (omega (arith, a, d)); last = λ e. absurd (omega (arith, b, e)) }
told_ended (without_line n a b) = record { most = omega (arith, b); early = λ _ _. refl; last = λ _. refl }
told_ended line_too_long = record { most = omega arith; early = λ _ _. refl; last = λ _. refl }
