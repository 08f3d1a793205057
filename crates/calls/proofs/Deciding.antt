-- The calls that select and decide, from what the preconditions, the selection and the admission say.
-- Assumes nothing.
use Rattle.std.specs.Prelude.{Result as Fallible}
use mathlib.Core.List.{List}
use Rattle.std.specs.Prelude.{◌≢◌, Option, None, Some, Ok, Err}
use mathlib.Core.Path.{ap, refl, subst, sym, ◌∙◌, ◌≡◌}
use Prim.Native.Nat.{ℕ}
use Rattle.paths.proofs.Stands.{impossible}
use Rattle.evaluation.proofs.After.{accepted_rows}
use Rattle.writer.specs.Meaning.{Held, meaning, rules_of}
use Rattle.writer.specs.declared.answer.Rules.{Rules}
use Rattle.writer.specs.declared.answer.Rules.TheVariants as kinds
use Rattle.members.specs.Rule.{Rule, a_rule}
use Rattle.calls.specs.Rules.{rules_call}
use Rattle.answers.specs.Verdict.{Verdict, passed}
use Rattle.writer.specs.declared.answer.Answer.{Answer}
use Rattle.writer.specs.declared.answer.Answer.TheVariants as answers
use Rattle.writer.specs.declared.answer.Outcome.{Outcome as Entry}
use Rattle.json_text.proofs.Laws.{bind_ok}
use Rattle.json_text.specs.Bytes.{Bytes}
use Rattle.json_text.specs.Cursor.{OnText}
use Rattle.json_text.specs.Refusal.{Result, no_input, ok, or_else, preconditions, ◌>>=◌}
use Rattle.json_text.specs.Spans.{text_at}
use Rattle.json_text.specs.Table.{start_at}
use Rattle.sheet.specs.Accepted.{Accepted, Gives, Known}
use Rattle.members.specs.Condition.{Condition, condition}
use Rattle.members.specs.Kinds.{a_text, an_array_of}
use Rattle.members.specs.Outcome.{Outcome, an_outcome}
use Rattle.members.specs.Sheet.{Sheet}
use Rattle.sheet.specs.declared.shape.Members.{Members}
use Rattle.answers.specs.Admission.{admit}
use Rattle.rules.specs.Alone.{OnlyMarks}
use Rattle.rules.specs.Ruled.{Checked, CheckedAs}
use Rattle.rules.proofs.Stopping.{stops_told}
use Rattle.answers.specs.Decide.{as_selected, decide_call, invariants_call, preconditions_call, select_call}
use Rattle.answers.specs.Outcomes.{Placed, select}
use Rattle.answers.specs.Rules.{check}
use Rattle.rules.specs.Told.{Answered, Entered, Told, admission}
use Rattle.calls.specs.Trying.{SelectedAs, Selects, admit_selected}
use Rattle.rules.specs.declared.placed.Placed.{Placed as Spot}
use Rattle.admission.proofs.Admitting.{told_selected}
use Rattle.calls.proofs.Calls.{told_no_input}
use Rattle.rules.proofs.Checking.{answered_over}
use Rattle.rules.proofs.Eligibility.{missing, state_text}
use Rattle.rules.proofs.Unmarking.{marks_none, marks_then}

only_marks : {s : Bytes} {w w' : List ℕ} {x : Result Verdict} {r : Answer} → Answered s w w' x r → OnlyMarks w w'
only_marks a = record { rows = a.rows; long = a.long; further = a.further }

-- ---- after a selection
module _ {s : Bytes} {w w' : List ℕ} (sheet : Sheet Condition) {r : Fallible Spot Answer} (h : Selects s w w' (select sheet 0 sheet.outcomes) r) where
  refused_on : (f : Placed → Result Verdict) (a : Answer) → r ≡ Err a → Answered s w w' (select sheet 0 sheet.outcomes >>= f) a
  unfolding SelectedAs
  refused_on f a q = answered_over h.only (subst (SelectedAs s w' (select sheet 0 sheet.outcomes)) q h.is f)

  pub select_refused : (a : Answer) → r ≡ Err a → Answered s w w' (select_call sheet) a
  unfolding select_call
  select_refused = refused_on (λ (p : Placed). ok (as_selected p))

  pub admission_refused : (t : Bytes) (a : Answer) → r ≡ Err a → Answered s w w' (admit_selected sheet t) a
  unfolding admit_selected
  admission_refused t = refused_on (λ (p : Placed). admission (admit sheet.states sheet.outcomes t p))

  module _ (p : Spot) (q : r ≡ Ok p) where
    its : (o : Outcome Condition) × (select sheet 0 sheet.outcomes ≡ ok (record { place = p.place; outcome = o })) × Gives (an_outcome condition) s w' p.node o
    unfolding SelectedAs
    its = subst (SelectedAs s w' (select sheet 0 sheet.outcomes)) q h.is

    pub selected_node : Known (Gives (an_outcome condition) s w' p.node)
    selected_node = record { given = its.0; known = its.2 }

    chosen_on : (f : Placed → Result Verdict) (a : Answer) → Told s w' (f (record { place = p.place; outcome = its.0 })) a →
        Answered s w w' (select sheet 0 sheet.outcomes >>= f) a
    chosen_on f a t = answered_over h.only (subst (λ (y : Result Verdict). Told s w' y a) (sym (bind_ok f its.1)) t)

    pub select_chosen :
        {e : Entry} → ((o : Outcome Condition) → Gives (an_outcome condition) s w' p.node o → Entered s p.place o.name e) →
        Answered s w w' (select_call sheet) (answers.Selected e)
    unfolding select_call
    select_chosen {e} g = chosen_on (λ (x : Placed). ok (as_selected x)) (answers.Selected e) (told_selected s w' p.place its.0 (g its.0 its.2))

    module _ {m : Members} (a : Accepted s w m sheet) where
      pub admits_selected : {x : ℕ} → OnText s x 0 →
          Known (Gives (an_array_of a_text) s w' m.states) × Known (Gives (an_array_of (an_outcome condition)) s w' m.outcomes) ×
          OnText s x 0 × Known (Gives (an_outcome condition) s w' p.node)
      admits_selected t =
          let b = accepted_rows h.only.rows a in
          (record { given = sheet.states; known = b.states }, record { given = sheet.outcomes; known = b.outcomes }, t, selected_node)

      pub admission_of : (x : ℕ) {v : Answer} →
          ((ts : List Bytes) (os : List (Outcome Condition)) (o : Outcome Condition) → Gives (an_array_of a_text) s w' m.states ts → Gives
          (an_array_of (an_outcome condition)) s w' m.outcomes os → Gives (an_outcome condition) s w' p.node o → Told s w'
          (admission (admit ts os (text_at s x) (record { place = p.place; outcome = o }))) v) →
          Answered s w w' (admit_selected sheet (text_at s x)) v
      unfolding admit_selected
      admission_of x {v} g =
          let b = accepted_rows h.only.rows a in
          chosen_on (λ (y : Placed). admission (admit sheet.states sheet.outcomes (text_at s x) y)) v (g sheet.states sheet.outcomes its.0 b.states b.outcomes its.2)

-- ---- a list of rules
-- the member that has them, by its node
abbrev pub member : Rules → Members → ℕ
member kinds.Preconditions m = m.preconditions
member kinds.Invariants m = m.invariants

abbrev pub its_rules : Rules → Sheet Condition → List (Rule Condition)
its_rules kinds.Preconditions sheet = sheet.preconditions
its_rules kinds.Invariants sheet = sheet.invariants

pub rules_given :
    {s : Bytes} {w : List ℕ} {m : Members} {sheet : Sheet Condition} (kind : Rules) → Accepted s w m sheet → {n : ℕ} → n ≡ member kind m →
    Gives (an_array_of (a_rule condition)) s w n (its_rules kind sheet)
rules_given {s} {w} {m} {sheet} kinds.Preconditions a q = subst (λ (x : ℕ). Gives (an_array_of (a_rule condition)) s w x sheet.preconditions) (sym q) a.preconditions
rules_given {s} {w} {m} {sheet} kinds.Invariants a q = subst (λ (x : ℕ). Gives (an_array_of (a_rule condition)) s w x sheet.invariants) (sym q) a.invariants

pub rules_call_is : (kind : Rules) (sheet : Sheet Condition) → check sheet (rules_of kind) 0 (its_rules kind sheet) ≡ rules_call kind sheet
unfolding preconditions_call invariants_call rules_of
rules_call_is kinds.Preconditions sheet = refl
rules_call_is kinds.Invariants sheet = refl

-- what the code checked, as an answer
pub checked : {s : Bytes} {w w' : List ℕ} {x : Result Verdict} {r : Fallible (Unit {0}) Answer} → Checked s w w' x r → {u : Unit {0}} → r ≡ Ok u → Answered s w w' x answers.Passed
unfolding meaning Held
checked {s} {w} {w'} {x} h q =
    let z : x ≡ ok passed = subst (CheckedAs s w' x) q h.is in
    answered_over h.only (record { means = sym z; held = tt })

pub check_refused : {s : Bytes} {w w' : List ℕ} {x : Result Verdict} {r : Fallible (Unit {0}) Answer} → Checked s w w' x r → (a : Answer) → r ≡ Err a → Answered s w w' x a
check_refused {s} {w} {w'} {x} h a q = answered_over h.only (stops_told x (subst (CheckedAs s w' x) q h.is))

-- ---- the decision
abbrev in_state : Sheet Condition → Option Bytes → Result Verdict
in_state sheet t = or_else t no_input >>= (λ (x : Bytes). check sheet preconditions 0 sheet.preconditions >>= (λ _. admit_selected sheet x))

by_state : (sheet : Sheet Condition) (t : Option Bytes) → sheet.state ≡ t → decide_call sheet ≡ in_state sheet t
unfolding decide_call admit_selected
by_state sheet t q = ap {B = Result Verdict} (in_state sheet) q

module _ (s : Bytes) (w : List ℕ) (m : Members) (sheet : Sheet Condition) (a : Accepted s w m sheet) where
  pub decides_stateless : m.state ≡ None → Answered s w w (decide_call sheet) answers.NoInput
  decides_stateless f =
      answered_over (marks_none w)
      (subst (λ (y : Result Verdict). Told s w y answers.NoInput) (sym (by_state sheet None (missing a_text s w f a.state)))
      (told_no_input s w))

  module _ (n : ℕ) (f : m.state ≡ Some n) {x : ℕ} (e : x ≡ start_at w n) {w₁ : List ℕ} {v : Fallible (Unit {0}) Answer}
      (h : Checked s w w₁ (check sheet preconditions 0 sheet.preconditions) v) where
    by_check : decide_call sheet ≡ (check sheet preconditions 0 sheet.preconditions >>= (λ _. admit_selected sheet (text_at s x)))
    by_check = by_state sheet (Some (text_at s x)) (state_text s w n f a.state e)

    pub decides_on : {u : Unit {0}} → v ≡ Ok u → {w' : List ℕ} {r : Answer} →
        ((sheet' : Sheet Condition) → Accepted s w₁ m sheet' → Answered s w₁ w' (admit_selected sheet' (text_at s x)) r) →
        Answered s w w' (decide_call sheet) r
    decides_on q {w'} {r} g =
        let passes : check sheet preconditions 0 sheet.preconditions ≡ ok passed = subst (CheckedAs s w₁ (check sheet preconditions 0 sheet.preconditions)) q h.is in
        let b = g sheet (accepted_rows h.only.rows a) in
        answered_over (marks_then h.only (only_marks b))
        (subst (λ (y : Result Verdict). Told s w' y r) (sym (by_check ∙ bind_ok (λ _. admit_selected sheet (text_at s x)) passes))
        b.told)

    pub decides_refused : (y : Answer) → v ≡ Err y → Answered s w w₁ (decide_call sheet) y
    decides_refused y q =
        answered_over h.only
        (subst (λ (z : Result Verdict). Told s w₁ z y) (sym by_check)
        (subst (CheckedAs s w₁ (check sheet preconditions 0 sheet.preconditions)) q h.is (λ _. admit_selected sheet (text_at s x))))

-- every answer but `Passed`
not_passed_lem : (s : Bytes) (w : List ℕ) (a : Answer) → a ≢ answers.Passed → meaning s w a ≡ ok passed → ⊥
unfolding meaning
not_passed_lem s w answers.True o e = impossible (cc)
not_passed_lem s w answers.False o e = impossible (cc)
not_passed_lem s w answers.Unknown o e = impossible (cc)
not_passed_lem s w answers.Passed o e = absurd (o refl)
not_passed_lem s w (answers.Selected x) o e = impossible (cc)
not_passed_lem s w (answers.Admitted x) o e = impossible (cc)
not_passed_lem s w answers.NoInput o e = impossible (cc)
not_passed_lem s w (answers.UnknownExpression x) o e = impossible (cc)
not_passed_lem s w answers.NoId o e = impossible (cc)
not_passed_lem s w (answers.RuleFalse x) o e = impossible (cc)
not_passed_lem s w (answers.RuleUnknown x) o e = impossible (cc)
not_passed_lem s w answers.NoOutcome o e = impossible (cc)
not_passed_lem s w (answers.GuardUnknown x) o e = impossible (cc)
not_passed_lem s w (answers.WrongState x) o e = impossible (cc)
not_passed_lem s w (answers.NotASource x) o e = impossible (cc)
