-- The call that evaluates the sheet's condition, from the nodes of an accepted sheet.
-- Assumes nothing.
use Rattle.std.specs.Prelude.{Result as Fallible}
use mathlib.Core.List.{List, []}
use Rattle.std.specs.Prelude.{Option, None, Some}
use mathlib.Core.Path.{ap, subst, sym, ◌∙◌, ◌≡◌}
use Prim.Native.Nat.{ℕ}
use Rattle.writer.specs.Meaning.{Held, meaning, names_in}
use Rattle.writer.specs.Texts.{NamesHeld}
use Rattle.answers.specs.Verdict.{Verdict, answered}
use Rattle.writer.specs.declared.answer.Answer.{Answer as Reply}
use Rattle.writer.specs.declared.answer.Answer.TheVariants as answers
use Rattle.json_text.specs.Bytes.{Bytes}
use Rattle.json_text.specs.Refusal.{Result, no_input, ok, or_else, ◌>>=◌}
use Rattle.semantics.specs.Evaluate.{Answer, evaluate}
use Rattle.semantics.specs.Names.{Names, ascending}
use Rattle.semantics.specs.Semantics.{kernel}
use Rattle.semantics.specs.Told.{truth_of}
use Rattle.semantics.specs.Truth.{False, True, Unknown}
use Rattle.semantics.specs.declared.truth.Truth.{Truth}
use Rattle.semantics.specs.declared.truth.Truth.TheVariants as truths
use Rattle.sheet.specs.Accepted.{Accepted, Gives, Known}
use Rattle.members.specs.Condition.{Condition, condition}
use Rattle.members.specs.Sheet.{Sheet}
use Rattle.sheet.specs.declared.shape.Members.{Members}
use Rattle.rules.specs.Alone.{Alone, Judged}
use Rattle.answers.specs.Decide.{evaluate_call}
use Rattle.rules.specs.Told.{Answered, Told, answer_of}
use Rattle.calls.proofs.Calls.{told_no_input}
use Rattle.rules.proofs.Checking.{answered_over}
use Rattle.rules.proofs.Eligibility.{missing, there}
use Rattle.rules.proofs.Unmarking.{marks_none}

-- what is answered of a condition's truth
abbrev pub of_condition : Answer → Result Verdict
of_condition x = ok (answered x.truth (ascending x.names))

by_condition : (sheet : Sheet Condition) (c : Option Condition) → sheet.condition ≡ c →
    evaluate_call sheet ≡ (or_else c no_input >>= (λ x. evaluate kernel sheet [] x >>= of_condition))
unfolding evaluate_call
by_condition sheet c q = ap {B = Result Verdict} (λ (y : Option Condition). or_else y no_input >>= (λ x. evaluate kernel sheet [] x >>= of_condition)) q

pub told_truth : {s : Bytes} {w : List ℕ} {m : Result Answer} (t : Truth) → Judged s w m t → {y : Reply} → y ≡ answer_of t → Told s w (m >>= of_condition) y
unfolding meaning Held
told_truth {s} {w} {m} t j e =
    subst (Told s w (m >>= of_condition)) (sym e)
    (record {
      means = meant t j.names j.marked ∙ sym (ap {B = Result Verdict} (λ (y : Result Answer). y >>= of_condition) j.is);
      held = holds t j.held;
    })
  where
    meant : (x : Truth) (ns : Names) → names_in s w ≡ ascending ns → meaning s w (answer_of x) ≡ of_condition (record { truth = truth_of x; names = ns })
    meant truths.True ns i = ap {B = Result Verdict} (λ (y : Names). ok (answered True y)) i
    meant truths.False ns i = ap {B = Result Verdict} (λ (y : Names). ok (answered False y)) i
    meant truths.Unknown ns i = ap {B = Result Verdict} (λ (y : Names). ok (answered Unknown y)) i

    holds : (x : Truth) → NamesHeld s w → Held s w (answer_of x)
    holds truths.True h = h
    holds truths.False h = h
    holds truths.Unknown h = h

module _ {s : Bytes} {w : List ℕ} {m : Members} {sheet : Sheet Condition} (a : Accepted s w m sheet) where
  pub answered_no_condition : m.condition ≡ None → Answered s w w (evaluate_call sheet) answers.NoInput
  answered_no_condition q =
      answered_over (marks_none w)
      (subst (λ (y : Result Verdict). Told s w y answers.NoInput)
      (sym (by_condition sheet None (missing condition s w q a.its_condition))) (told_no_input s w))

  module _ (n : ℕ) (q : m.condition ≡ Some n) where
    pub its_condition_lem : (c : Condition) × (sheet.condition ≡ Some c) × Gives condition s w n c
    its_condition_lem = there condition s w n q a.its_condition

    pub condition_known : Known (Gives condition s w n)
    condition_known = record { given = its_condition_lem.0; known = its_condition_lem.2 }

    module _ {w' : List ℕ} {r : Fallible Truth Reply}
        (h : (sheet : Sheet Condition) (c : Condition) → Accepted s w m sheet → Gives condition s w n c → Alone s w w' r
        (evaluate kernel sheet [] c)) where
      pub its_truth : Alone s w w' r (evaluate kernel sheet [] its_condition_lem.0)
      its_truth = h sheet its_condition_lem.0 a its_condition_lem.2

      pub answered_condition : {y : Reply} → Told s w' (evaluate kernel sheet [] its_condition_lem.0 >>= of_condition) y → Answered s w w' (evaluate_call sheet) y
      answered_condition {y} t = answered_over its_truth.only (subst (λ (z : Result Verdict). Told s w' z y) (sym (by_condition sheet (Some its_condition_lem.0) its_condition_lem.1)) t)
