-- The third demand, proved: two whole decisions, from the rules and the guards tried again.
-- Assumes nothing.
use mathlib.Core.Bool.{Bool, false, true}
use mathlib.Core.List.{List, Memᴰ, [], ◌∷◌}
use mathlib.Core.Logic.{inl, inr, ◌≢◌, ◌⊎◌}
use Rattle.std.specs.Prelude.{Option, None, Some}
use mathlib.Core.Path.{ap, ap₂, refl, subst, sym, ◌∙◌, ◌≡◌}
use Prim.Native.Nat.{ℕ, ◌+◌, ◌<◌}
use native.Mathlib.Omega.{arith}
use lib.Dec.{leb}
use lib.ListN.{length}
use Rattle.answers.proofs.Demand.{Erased, fact_of}
use Rattle.answers.proofs.Guards.{GuardRefused, GuardShape, GuardTried, GuardsLater, chosen, exhausted, guard_at, later_select, stopped}
use Rattle.answers.proofs.LaterRules.{RuleRefused, RuleShape, RulesLater, later_check, rule_at}
use Rattle.answers.specs.Decide.{as_admitted, decide_call}
use Rattle.answers.specs.Outcomes.{Placed, at, eligible, first_from, guard as guard_held, select}
use Rattle.answers.specs.Rules.{check}
use Rattle.answers.specs.Demand.{
  AcceptedAs,
  Demand,
  IsUnobservable,
  NamesVanished,
  RefusedAgain,
  Repeats,
  SameRules,
  Settler,
  Step,
  at_guard,
  at_or_before,
  at_place,
  at_rule,
  counts_for,
  everything,
  guard,
  is_guarded,
  is_tried,
  refusal_reply,
  rule,
  selection,
  settler,
  up_to_outcome,
  up_to_settler,
}
use Rattle.answers.specs.Entry.{Reply, call, decide, enough, fitted, reply, work_words}
use Rattle.answers.specs.Line.{refusal_line, refusal_number, verdict_line}
use Rattle.answers.specs.Admission.{admit, is_wrong}
use Rattle.answers.specs.Verdict.{Verdict, passed}
use Rattle.semantics.proofs.Later.{Alike, Every, Fact, Lost, alike_evaluate, every_left, every_right}
use Rattle.semantics.specs.Evaluate.{Answer}
use Rattle.semantics.specs.Names.{Names, ascending}
use Rattle.semantics.specs.Readings.{clean, guard_readings, readings, rule_readings, sheet_readings, when_readings}
use Rattle.semantics.specs.Semantics.{kernel}
use Rattle.semantics.specs.Truth.{False, True, Unknown}
use Rattle.json_text.proofs.Laws.{bind_ok, leb_true, ltb_true}
use Rattle.json_text.specs.Bytes.{Bytes, is_one_of}
use Rattle.json_text.specs.Refusal.{Refusal, Result, guard_unknown, no_input, no_outcome, ok, or_else, preconditions, refused, rule_false, rule_unknown, ◌>>=◌}
use Rattle.members.specs.Condition.{Condition}
use Rattle.members.specs.Outcome.{Effect, Outcome, moves, stays}
use Rattle.members.specs.Rule.{Rule}
use Rattle.members.specs.Sheet.{Sheet}

-- a decision by its parts
decide_from : Sheet Condition → Option Bytes → List (Rule Condition) → List (Outcome Condition) → List Bytes → Result Verdict
decide_from s st rs os states = do
  x ← or_else st no_input
  _ ← check s preconditions 0 rs
  p ← select s 0 os
  q ← admit states os x p
  ok (as_admitted q)

decide_parts : (s : Sheet Condition) → decide_call s ≡ decide_from s s.state s.preconditions s.outcomes s.states
unfolding decide_call decide_from
decide_parts s = refl

-- what admission answers is no rule's or guard's refusal
abbrev AdmitShape : Result Placed → Type 0
AdmitShape x = ((p : Placed) × (x ≡ ok p)) ⊎ ((q : Refusal) × (x ≡ refused q) × (settler q ≡ selection))

admit_shape : (states : List Bytes) (os : List (Outcome Condition)) (s : Bytes) (p : Placed) → AdmitShape (admit states os s p)
unfolding admit settler
admit_shape states os s p = by p.outcome.effect
  where
    first : (o : Option Placed) → AdmitShape (or_else o (Refusal.wrong_state s))
    first None = inr (_, refl, refl)
    first (Some q) = inl (q, refl)

    wrong : List Bytes → Bool → Result Placed
    wrong from b = elim b [ true ↦ or_else (first_from (λ o. o.wrong_state) 0 os) (Refusal.wrong_state s) | false ↦ refused (Refusal.not_a_source p.place p.outcome.name s from) ]

    inner : (from : List Bytes) (b : Bool) → AdmitShape (wrong from b)
    inner from true = first (first_from (λ o. o.wrong_state) 0 os)
    inner from false = inr (_, refl, refl)

    outer : (from : List Bytes) (b : Bool) → AdmitShape (elim b [ true ↦ ok p | false ↦ wrong from (is_wrong states os s) ])
    outer from true = inl (p, refl)
    outer from false = inner from (is_wrong states os s)

    by : (e : Effect) → AdmitShape (elim e [ stays ↦ ok p | moves to from ↦ elim (is_one_of s from) [ true ↦ ok p | false ↦ wrong from (is_wrong states os s) ] ])
    by stays = inl (p, refl)
    by (moves to from) = outer from (is_one_of s from)

-- which steps count, by what the decision was
counts_refused : (s : Sheet Condition) (q : Refusal) (t : Settler) (k : Step) → decide_call s ≡ refused q → settler q ≡ t →
    counts_for s k ≡ up_to_settler (select s 0 s.outcomes) t k
unfolding counts_for
counts_refused s q t k p e = rw (p, counts_for, e) refl

counts_ok : (s : Sheet Condition) (v : Verdict) (p : Placed) (k : Step) → decide_call s ≡ ok v → select s 0 s.outcomes ≡ ok p →
    counts_for s k ≡ up_to_outcome p.outcome.when p.place k
unfolding counts_for
counts_ok s v p k e f = rw (e, counts_for, f) refl

counts_late : (s : Sheet Condition) (q : Refusal) (p : Placed) (k : Step) → decide_call s ≡ refused q → settler q ≡ selection →
    select s 0 s.outcomes ≡ ok p → counts_for s k ≡ up_to_outcome p.outcome.when p.place k
unfolding counts_for
counts_late s q p k e n f = rw (e, counts_for, n, f) refl

settler_no_outcome : settler no_outcome ≡ everything
unfolding settler
settler_no_outcome = refl

settler_guard : (j : ℕ) (n : Bytes) (ns : Names) → settler (guard_unknown j n ns) ≡ at_place (guard j)
unfolding settler
settler_guard j n ns = refl

admitted_from : List Bytes → List (Outcome Condition) → Bytes → Placed → Result Verdict
admitted_from states os x p = do
  q ← admit states os x p
  ok (as_admitted q)

-- once the rules have passed
module _ (s : Sheet Condition) (x : Bytes) (st : s.state ≡ Some x) (pass : check s preconditions 0 s.preconditions ≡ ok passed) where
  decide_select : decide_call s ≡ (select s 0 s.outcomes >>= admitted_from s.states s.outcomes x)
  unfolding decide_from admitted_from
  decide_select = decide_parts s ∙ ap (λ (o : Option Bytes). decide_from s o s.preconditions s.outcomes s.states) st ∙ bind_ok _ pass

  decide_refused : (q : Refusal) → select s 0 s.outcomes ≡ refused q → decide_call s ≡ refused q
  decide_refused q e = decide_select ∙ ap (λ (y : Result Placed). y >>= admitted_from s.states s.outcomes x) e

  counts_chosen : (p : Placed) (k : Step) → select s 0 s.outcomes ≡ ok p → counts_for s k ≡ up_to_outcome p.outcome.when p.place k
  unfolding admitted_from
  counts_chosen p k e = by (admit_shape s.states s.outcomes x p)
    where
      by : AdmitShape (admit s.states s.outcomes x p) → counts_for s k ≡ up_to_outcome p.outcome.when p.place k
      by (inl a) = counts_ok s _ p k (decide_select ∙ bind_ok _ e ∙ bind_ok _ a.1) e
      by (inr a) = counts_late s a.0 p k (decide_select ∙ bind_ok _ e ∙ ap (λ (y : Result Placed). y >>= λ q. ok (as_admitted q)) a.1) a.2 e

  counts_exhausted : (k : Step) → select s 0 s.outcomes ≡ refused no_outcome → counts_for s k ≡ true
  counts_exhausted k e = counts_refused s no_outcome everything k (decide_refused no_outcome e) settler_no_outcome

  counts_stopped : (j : ℕ) (n : Bytes) (ns : Names) (k : Step) → select s 0 s.outcomes ≡ refused (guard_unknown j n ns) → counts_for s k ≡ at_or_before k (guard j)
  counts_stopped j n ns k e = counts_refused s (guard_unknown j n ns) (at_place (guard j)) k (decide_refused _ e) (settler_guard j n ns)

  rule_counts : (k : ℕ) → GuardShape 0 (select s 0 s.outcomes) → counts_for s (rule k) ≡ true
  rule_counts k (chosen p e h) = counts_chosen p (rule k) e ∙ by p.outcome.when
    where
      by : (w : Option Condition) → up_to_outcome w p.place (rule k) ≡ true
      by None = refl
      by (Some c) = refl
  rule_counts k (exhausted e) = counts_exhausted (rule k) e
  rule_counts k (stopped j n ns e h) = counts_stopped j n ns (rule k) e

  guard_counts : (k : ℕ) → GuardTried k (select s 0 s.outcomes) → counts_for s (guard k) ≡ true
  guard_counts k (inl (chosen p e h)) = counts_chosen p (guard k) e ∙ by p.outcome.when
    where
      by : (w : Option Condition) → up_to_outcome w p.place (guard k) ≡ true
      by None = ltb_true k p.place (omega arith)
      by (Some c) = leb_true k p.place (omega arith)
  guard_counts k (inl (exhausted e)) = counts_exhausted (guard k) e
  guard_counts k (inl (stopped j n ns e h)) = counts_stopped j n ns (guard k) e ∙ leb_true k j (omega arith)
  guard_counts k (inr (inl e)) = counts_exhausted (guard k) e
  guard_counts k (inr (inr (inl t))) =
      counts_chosen t.0 (guard k) t.2 ∙
      ap (λ (w : Option Condition). up_to_outcome w t.0.place (guard k)) t.3 ∙
      leb_true k t.0.place t.4
  guard_counts k (inr (inr (inr t))) = counts_stopped t.0 t.1 t.2 (guard k) t.3 ∙ leb_true k t.0 t.4

-- two sheets with the same rules and state
module _ (old new : Sheet Condition) (same : SameRules old new) where
  vanished_named : (ns : Names) → Lost (Erased old new) ns → NamesVanished old new ns
  unfolding Erased
  vanished_named ns l = (l.1.0, l.1.2, l.1.3, subst (λ (e : Bytes). Memᴰ (36 ∷ e) ns) (sym l.1.1) l.2)

  -- the new decision, over the old rules
  new_parts : (st : Option Bytes) → old.state ≡ st → decide_call new ≡ decide_from new st old.preconditions old.outcomes old.states
  new_parts st e =
      let a = same.rules in
      let b = same.outcomes in
      let c = same.state in
      let d = same.states in
      decide_parts new ∙ cc

  old_parts : (st : Option Bytes) → old.state ≡ st → decide_call old ≡ decide_from old st old.preconditions old.outcomes old.states
  old_parts st e = decide_parts old ∙ cc

  rule_step : (j : ℕ) → (k : ℕ) × (j ≡ 0 + k) × (k < length old.preconditions) → is_tried old (rule j) ≡ true
  unfolding is_tried
  rule_step j f = ltb_true j (length old.preconditions) (omega (arith, f.1, f.2))

  guard_step : (j : ℕ) → (k : ℕ) × (j ≡ 0 + k) × (is_guarded new.state (at 0 k old.outcomes) ≡ true) → is_tried old (guard j) ≡ true
  unfolding is_tried
  guard_step j f =
      let p : f.0 ≡ j = omega (arith, f.1) in
      let q = same.state in
      ap (λ (k : ℕ). is_guarded old.state (at 0 k old.outcomes)) (sym p) ∙ ap (λ (st : Option Bytes). is_guarded st (at 0 f.0 old.outcomes)) (sym q) ∙ f.2

  eligible_same : (o : Outcome Condition) → eligible new.state o ≡ eligible old.state o
  eligible_same o = ap (λ (st : Option Bytes). eligible st o) same.state

  -- a refused rule ends both
  refused_rules :
      (s : Sheet Condition) (x : Bytes) (rs : List (Rule Condition)) (os : List (Outcome Condition)) (states : List Bytes) (q : Refusal) →
      check s preconditions 0 rs ≡ refused q → decide_from s (Some x) rs os states ≡ refused q
  unfolding decide_from
  refused_rules s x rs os states q e = ap (λ (y : Result Verdict). y >>= λ _. (select s 0 os >>= λ p. (admit states os x p >>= λ z. ok (as_admitted z)))) e

  passed_rules : (s : Sheet Condition) (x : Bytes) (rs : List (Rule Condition)) (os : List (Outcome Condition)) (states : List Bytes) →
      check s preconditions 0 rs ≡ ok passed → decide_from s (Some x) rs os states ≡ (select s 0 os >>= admitted_from states os x)
  unfolding decide_from admitted_from
  passed_rules s x rs os states e = bind_ok _ e

  module _ (facts : Every (Fact kernel (Erased old new) old new) (sheet_readings old)) where
    R : RulesLater (Erased old new) 0 (check old preconditions 0 old.preconditions) (check new preconditions 0 old.preconditions)
    R = later_check (Erased old new) old new 0 old.preconditions (every_left (rule_readings old.preconditions) (guard_readings old.outcomes) facts)

    G : GuardsLater (Erased old new) 0 (select old 0 old.outcomes) (select new 0 old.outcomes)
    G = later_select (Erased old new) old new 0 old.outcomes eligible_same (every_right (rule_readings old.preconditions) (guard_readings old.outcomes) facts)

    module _ (x : Bytes) (st : old.state ≡ Some x) where
      -- the rules passed on the old sheet, so a new refusal at a rule came before what settled it
      rule_tried : (k : ℕ) → RuleShape k (check old preconditions 0 old.preconditions) → counts_for old (rule k) ≡ true
      rule_tried k (inl p) = rule_counts old x st p k G.shape
      rule_tried k (inr t) = counts_refused old t.0 (at_place (rule t.1)) (rule k) (old_parts (Some x) st ∙ refused_rules old x _ _ _ t.0 t.2) t.3 ∙ leb_true k t.1 t.4

      at_rule_lem : RuleRefused (Erased old new) (check old preconditions 0 old.preconditions) (check new preconditions 0 old.preconditions) → RefusedAgain old new
      at_rule_lem r =
          record {
            refusal = _;
            step = rule r.place;
            names = r.names;
            unobservable = at_rule;
            is_new = new_parts (Some x) st ∙ refused_rules new x _ _ _ _ r.is_new;
            tried =
                rule_step r.place
                (rule_at (Erased old new) old new 0 old.preconditions
                (every_left (rule_readings old.preconditions) (guard_readings old.outcomes) facts) r.place r.name r.message
                r.names r.is_new);
            counts = rule_tried r.place r.tried;
            named = by r.named;
          }
        where
          by : Lost (Erased old new) r.names ⊎
              ((ms : Names) ×
              (check old preconditions 0 old.preconditions ≡
              refused (rule_unknown preconditions r.place r.name r.message ms))) →
              NamesVanished old new r.names ⊎ IsUnobservable old (rule r.place)
          by (inl l) = inl (vanished_named r.names l)
          by (inr l) = inr (_, l.0, old_parts (Some x) st ∙ refused_rules old x _ _ _ _ l.1, at_rule)

      module _ (pass : check old preconditions 0 old.preconditions ≡ ok passed) (pass_new : check new preconditions 0 old.preconditions ≡ ok passed) where
        new_select : decide_call new ≡ (select new 0 old.outcomes >>= admitted_from old.states old.outcomes x)
        new_select = new_parts (Some x) st ∙ passed_rules new x _ _ _ pass_new

        old_select : decide_call old ≡ (select old 0 old.outcomes >>= admitted_from old.states old.outcomes x)
        old_select = old_parts (Some x) st ∙ passed_rules old x _ _ _ pass

        at_guard_lem : GuardRefused (Erased old new) (select old 0 old.outcomes) (select new 0 old.outcomes) → RefusedAgain old new
        at_guard_lem r =
            record {
              refusal = _;
              step = guard r.place;
              names = r.names;
              unobservable = at_guard;
              is_new = new_select ∙ ap (λ (y : Result Placed). y >>= admitted_from old.states old.outcomes x) r.is_new;
              tried =
                  guard_step r.place
                  (guard_at (Erased old new) old new 0 old.outcomes
                  (every_right (rule_readings old.preconditions) (guard_readings old.outcomes) facts) r.place r.name r.names
                  r.is_new);
              counts = guard_counts old x st pass r.place r.tried;
              named = by r.named;
            }
          where
            by : Lost (Erased old new) r.names ⊎
                ((ms : Names) × (select old 0 old.outcomes ≡ refused (guard_unknown r.place r.name ms))) →
                NamesVanished old new r.names ⊎ IsUnobservable old (guard r.place)
            by (inl l) = inl (vanished_named r.names l)
            by (inr l) = inr (_, l.0, old_select ∙ ap (λ (y : Result Placed). y >>= admitted_from old.states old.outcomes x) l.1, at_guard)

        by_guards : (select new 0 old.outcomes ≡ select old 0 old.outcomes) ⊎
            GuardRefused (Erased old new) (select old 0 old.outcomes) (select new 0 old.outcomes) →
            (decide_call new ≡ decide_call old) ⊎ RefusedAgain old new
        by_guards (inl e) = inl (new_select ∙ ap (λ (y : Result Placed). y >>= admitted_from old.states old.outcomes x) e ∙ sym old_select)
        by_guards (inr r) = inr (at_guard_lem r)

      by_rules : RuleShape 0 (check old preconditions 0 old.preconditions) →
          (check new preconditions 0 old.preconditions ≡ check old preconditions 0 old.preconditions) ⊎
          RuleRefused (Erased old new) (check old preconditions 0 old.preconditions) (check new preconditions 0 old.preconditions) →
          (decide_call new ≡ decide_call old) ⊎ RefusedAgain old new
      by_rules (inl p) (inl e) = by_guards p (e ∙ p) G.later
      by_rules (inr t) (inl e) = inl (new_parts (Some x) st ∙ refused_rules new x _ _ _ t.0 (e ∙ t.2) ∙ sym (old_parts (Some x) st ∙ refused_rules old x _ _ _ t.0 t.2))
      by_rules p (inr r) = inr (at_rule_lem r)

    decision_later : (decide_call new ≡ decide_call old) ⊎ RefusedAgain old new
    unfolding decide_from
    decision_later = by old.state refl
      where
        by : (st : Option Bytes) → old.state ≡ st → (decide_call new ≡ decide_call old) ⊎ RefusedAgain old new
        by None e = inl (new_parts None e ∙ sym (old_parts None e))
        by (Some x) e = by_rules x e R.shape R.later

-- the reply of a call whose line fits
plain_reply : Result Verdict → Reply
plain_reply (ok v) = record { number = 0; line = Some (verdict_line v) }
plain_reply (refused r) = refusal_reply r

fitted_plain : (output n : ℕ) (line : Option Bytes) → (fitted output n line).number ≢ 23 → fitted output n line ≡ record { number = n; line = line }
unfolding refusal_number
fitted_plain output n None h = refl
fitted_plain output n (Some line) h = by (leb (length line) output) refl
  where
    by : (b : Bool) → leb (length line) output ≡ b → fitted output n (Some line) ≡ record { number = n; line = Some line }
    by true e = rw (e, fitted) refl
    by false e = absurd (h (rw (e, fitted) refl))

reply_plain : (output : ℕ) (x : Result Verdict) → (reply output x).number ≢ 23 → reply output x ≡ plain_reply x
unfolding reply plain_reply
reply_plain output (ok v) h = fitted_plain output 0 (Some (verdict_line v)) h
reply_plain output (refused r) h = fitted_plain output (refusal_number r) (refusal_line r) h

decide_plain : (s : Bytes) (work output : ℕ) {sheet : Sheet Condition} → AcceptedAs sheet s work (decide s work output) → decide s work output ≡ plain_reply (decide_call sheet)
unfolding decide call enough
decide_plain s work output {sheet} a = whole ∙ reply_plain output (decide_call sheet) (subst (λ (r : Reply). r.number ≢ 23) whole a.enough_output)
  where
    whole : decide s work output ≡ reply output (decide_call sheet)
    whole = rw (leb_true work_words work a.enough_work, enough) (rw a.reads refl)

-- where nothing changed, every rule and guard answers as before
alike_check : (old new : Sheet Condition) (i : ℕ) (rs : List (Rule Condition)) → Every (Alike kernel old new) (rule_readings rs) →
    check new preconditions i rs ≡ check old preconditions i rs
unfolding check rule_readings
alike_check old new i [] h = refl
alike_check old new i (r ∷ rs) h =
    ap₂
    (λ (x : Result Answer) (y : Result Verdict). x >>= after y)
    (alike_evaluate kernel old new [] r.assert (every_left (readings [] r.assert) (rule_readings rs) h))
    (alike_check old new (i + 1) rs (every_right (readings [] r.assert) (rule_readings rs) h))
  where
    after : Result Verdict → Answer → Result Verdict
    after rest a =
        elim
        a.truth [
          | True ↦
              rest
          | False ↦
              refused (rule_false preconditions i r.name r.message)
          | Unknown ↦
              refused (rule_unknown preconditions i r.name r.message (ascending a.names))
        ]

alike_guard : (old new : Sheet Condition) (w : Option Condition) → Every (Alike kernel old new) (when_readings w) → guard_held new w ≡ guard_held old w
unfolding guard_held
alike_guard old new None h = refl
alike_guard old new (Some c) h = alike_evaluate kernel old new [] c h

alike_select : (old new : Sheet Condition) (i : ℕ) (os : List (Outcome Condition)) → new.state ≡ old.state →
    Every (Alike kernel old new) (guard_readings os) → select new i os ≡ select old i os
unfolding select guard_readings
alike_select old new i [] st h = refl
alike_select old new i (o ∷ os) st h =
    ap (λ (x : Option Bytes). judged (eligible x o) (guard_held new o.when) (select new (i + 1) os)) st ∙
    ap₂
    (λ (g : Result Answer) (rest : Result Placed). judged (eligible old.state o) g rest)
    (alike_guard old new o.when (every_left (when_readings o.when) (guard_readings os) h))
    (alike_select old new (i + 1) os st (every_right (when_readings o.when) (guard_readings os) h))
  where
    judged : Bool → Result Answer → Result Placed → Result Placed
    judged b g rest =
        elim
        b [
          | false ↦
              rest
          | true ↦
              (g >>=
              λ a. elim
              a.truth [
                | True ↦
                    ok (record { place = i; outcome = o })
                | False ↦
                    rest
                | Unknown ↦
                    refused (guard_unknown i o.name (ascending a.names))
              ])
        ]

decision_alike : (old new : Sheet Condition) → SameRules old new → Every (Alike kernel old new) (sheet_readings old) → decide_call new ≡ decide_call old
unfolding decide_from admitted_from
decision_alike old new same h =
    new_parts old new same old.state refl ∙
    rewritten ∙
    sym (old_parts old new same old.state refl)
  where
    rewritten : decide_from new old.state old.preconditions old.outcomes old.states ≡ decide_from old old.state old.preconditions old.outcomes old.states
    rewritten =
        ap₂
        (λ (x : Result Verdict) (y : Result Placed). or_else old.state no_input >>= λ z. (x >>= λ _. (y >>= admitted_from old.states old.outcomes z)))
        (alike_check old new 0 old.preconditions (every_left (rule_readings old.preconditions) (guard_readings old.outcomes) h))
        (alike_select old new 0 old.outcomes same.state (every_right (rule_readings old.preconditions) (guard_readings old.outcomes) h))

pub demand : Demand
unfolding Demand plain_reply
demand s s' work work' output output' old new h =
    record {
      same_or_refused = by (decision_later old new same (fact_of old new h.comparable));
      same_where_unchanged = λ u. same_reply (decision_alike old new same u);
    }
  where
    same : SameRules old new
    same = h.comparable.same_rules

    old_reply : decide s work output ≡ plain_reply (decide_call old)
    old_reply = decide_plain s work output h.accepted

    new_reply : decide s' work' output' ≡ plain_reply (decide_call new)
    new_reply = decide_plain s' work' output' h.accepted_again

    same_reply : decide_call new ≡ decide_call old → decide s' work' output' ≡ decide s work output
    same_reply p = new_reply ∙ ap plain_reply p ∙ sym old_reply

    by : (decide_call new ≡ decide_call old) ⊎ RefusedAgain old new →
        (decide s' work' output' ≡ decide s work output) ⊎
        ((r : RefusedAgain old new) × (decide s' work' output' ≡ refusal_reply r.refusal))
    by (inl p) = inl (same_reply p)
    by (inr r) = inr (r, new_reply ∙ ap plain_reply r.is_new)

-- the same of whatever is seen of two calls, where that is their replies
pub demand_seen :
    (s s' : Bytes) (work work' output output' : ℕ) {was now : Reply} → was ≡ decide s work output → now ≡ decide s' work' output' →
    Repeats s s' work work' was now
unfolding Demand
demand_seen s s' work work' output output' {was} {now} p q =
    subst
    (λ (x : Reply). Repeats s s' work work' x now)
    (sym p)
    (subst (λ (y : Reply). Repeats s s' work work' (decide s work output) y) (sym q) (demand s s' work work' output output'))

-- a decision with clean rules: an admission, 12, or a refusal that a rule, a guard, all that were tried or the outcome selected settled; so neither 13 nor 14
pub data IsSettler : Settler → Type 0 where
  a_step : (k : Step) → IsSettler (at_place k)
  all_tried : IsSettler everything
  the_selected : IsSettler selection

pub data Decided : Result Verdict → Type 0 where
  admits : (v : Verdict) → Decided (ok v)
  no_state : Decided (refused no_input)
  by_settler : (q : Refusal) (t : Settler) → settler q ≡ t → IsSettler t → Decided (refused q)

pub clean_decided : (s : Sheet Condition) → clean kernel s ≡ true → Decided (decide_call s)
unfolding decide_from admitted_from
clean_decided s c = by s.state refl
  where
    same : SameRules s s
    same = record { rules = refl; outcomes = refl; state = refl; states = refl }

    facts : Every (Fact kernel (Erased s s) s s) (sheet_readings s)
    facts = fact_of s s (record { same_rules = same; is_clean = c; is_clean_again = c; old_value_or_nothing = λ r m. inl refl })

    admitting : (x : Bytes) (p : Placed) → decide_call s ≡ admitted_from s.states s.outcomes x p → AdmitShape (admit s.states s.outcomes x p) → Decided (decide_call s)
    admitting x p e (inl a) = subst Decided (sym (e ∙ bind_ok _ a.1)) (admits _)
    admitting x p e (inr a) = subst Decided (sym (e ∙ ap (λ (y : Result Placed). y >>= λ q. ok (as_admitted q)) a.1)) (by_settler a.0 selection a.2 the_selected)

    guards : (x : Bytes) (e : s.state ≡ Some x) (pass : check s preconditions 0 s.preconditions ≡ ok passed) → GuardShape 0 (select s 0 s.outcomes) → Decided (decide_call s)
    guards x e pass (chosen p f h) = admitting x p (decide_select s x e pass ∙ bind_ok _ f) (admit_shape s.states s.outcomes x p)
    guards x e pass (exhausted f) = subst Decided (sym (decide_refused s x e pass no_outcome f)) (by_settler no_outcome everything settler_no_outcome all_tried)
    guards x e pass (stopped j n ns f h) =
        subst Decided (sym (decide_refused s x e pass (guard_unknown j n ns) f))
        (by_settler (guard_unknown j n ns) (at_place (guard j)) (settler_guard j n ns) (a_step (guard j)))

    ruled : (x : Bytes) (e : s.state ≡ Some x) → RuleShape 0 (check s preconditions 0 s.preconditions) → Decided (decide_call s)
    ruled x e (inl p) = guards x e p (G s s same facts).shape
    ruled x e (inr t) =
        subst Decided (sym (old_parts s s same (Some x) e ∙ refused_rules s s same s x _ _ _ t.0 t.2))
        (by_settler t.0 (at_place (rule t.1)) t.3 (a_step (rule t.1)))

    by : (st : Option Bytes) → s.state ≡ st → Decided (decide_call s)
    by None e = subst Decided (sym (old_parts s s same None e)) no_state
    by (Some x) e = ruled x e (R s s same facts).shape
