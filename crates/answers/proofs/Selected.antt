-- The outcome selected is the first eligible one with no guard or a True one, and conversely.
-- Assumes nothing.
use mathlib.Core.Bool.{Bool, false, true, true≢false}
use mathlib.Core.List.Memᴰ
use mathlib.Core.List.{List, Memᴰ, [], ◌++◌, ◌∷◌}
use mathlib.Core.Logic.{inl, inr, ◌⊎◌}
use mathlib.Core.Path.{ap, refl, subst, sym, ◌∙◌, ◌≡◌}
use Prim.Native.Nat.{ℕ, ◌+◌}
use native.Mathlib.Omega.{arith}
use lib.ListN.{length}
use Rattle.answers.proofs.Guards.{select_false, select_none, select_skip, select_true, select_unknown}
use Rattle.answers.specs.Outcomes.{Placed, eligible, guard, select}
use Rattle.answers.specs.Selection.{Answers, FirstTrue}
use Rattle.semantics.specs.Evaluate.{Answer}
use Rattle.semantics.specs.Truth.{False, True, Truth, Unknown}
use Rattle.json_text.proofs.Laws.{ok_injective}
use Rattle.json_text.specs.Refusal.{Refusal, Result, no_outcome, ok, refused}
use Rattle.members.specs.Condition.{Condition}
use Rattle.members.specs.Outcome.{Outcome}
use Rattle.members.specs.Sheet.{Sheet}

-- one outcome that was passed over
passed_over : (s : Sheet Condition) (i : ℕ) (o : Outcome Condition) (os : List (Outcome Condition)) (p : Placed) →
    (eligible s.state o ≡ false) ⊎ Answers s o.when False → FirstTrue s (i + 1) os p → FirstTrue s i (o ∷ os) p
passed_over s i o os p why f =
    record {
      before = o ∷ f.before;
      behind = f.behind;
      parts = ap {B = List (Outcome Condition)} (λ r. o ∷ r) f.parts;
      place = f.place ∙ omega arith;
      is_eligible = f.is_eligible;
      is_true = f.is_true;
      are_false = λ x m. by x (Memᴰ.cases_cons m);
    }
  where
    by : (x : Outcome Condition) → (x ≡ o) ⊎ Memᴰ x f.before → (eligible s.state x ≡ false) ⊎ Answers s x.when False
    by x (inl e) = rw e why
    by x (inr m) = f.are_false x m

select_stopped :
    (s : Sheet Condition) (i : ℕ) (o : Outcome Condition) (os : List (Outcome Condition)) (r : Refusal) → eligible s.state o ≡ true →
    guard s o.when ≡ refused r → select s i (o ∷ os) ≡ refused r
unfolding select
select_stopped s i o os r e g = rw (e, select, g) refl

never : {X : Type 0} (x : Result Placed) (p : Placed) (r : Refusal) → x ≡ ok p → x ≡ refused r → X
never x p r e f = let z : ◌≡◌ {A = Bool} true false = cc in absurd (true≢false z)

pub selected_is_first : (s : Sheet Condition) (i : ℕ) (os : List (Outcome Condition)) (p : Placed) → select s i os ≡ ok p → FirstTrue s i os p
selected_is_first s i [] p e = never (select s i []) p no_outcome e (select_none s i)
selected_is_first s i (o ∷ os) p e = by (λ h. selected_is_first s (i + 1) os p h) (eligible s.state o) refl
  where
    here : eligible s.state o ≡ true → (a : Answer) → guard s o.when ≡ ok a → a.truth ≡ True → FirstTrue s i (o ∷ os) (record { place = i; outcome = o })
    here b a g t = record { before = []; behind = os; parts = refl; place = omega arith; is_eligible = b; is_true = (a, g, t); are_false = λ x m. elim m [ ] }

    truly :
        (select s (i + 1) os ≡ ok p → FirstTrue s (i + 1) os p) → eligible s.state o ≡ true → (a : Answer) → guard s o.when ≡ ok a →
        (t : Truth) → a.truth ≡ t → FirstTrue s i (o ∷ os) p
    truly below b a g True t = subst (λ (x : Placed). FirstTrue s i (o ∷ os) x) (ok_injective (sym (select_true s i o os a b g t) ∙ e)) (here b a g t)
    truly below b a g False t = passed_over s i o os p (inr (a, g, t)) (below (sym (select_false s i o os a b g t) ∙ e))
    truly below b a g Unknown t = never (select s i (o ∷ os)) p _ e (select_unknown s i o os a b g t)

    guarded :
        (select s (i + 1) os ≡ ok p → FirstTrue s (i + 1) os p) → eligible s.state o ≡ true → (x : Result Answer) → guard s o.when ≡ x →
        FirstTrue s i (o ∷ os) p
    guarded below b (ok a) g = truly below b a g a.truth refl
    guarded below b (refused r) g = never (select s i (o ∷ os)) p r e (select_stopped s i o os r b g)

    by : (select s (i + 1) os ≡ ok p → FirstTrue s (i + 1) os p) → (b : Bool) → eligible s.state o ≡ b → FirstTrue s i (o ∷ os) p
    by below false q = passed_over s i o os p (inl q) (below (sym (select_skip s i o os q) ∙ e))
    by below true q = guarded below q (guard s o.when) refl

-- Conversely, that one is selected.
first_of : (s : Sheet Condition) (i : ℕ) (before behind : List (Outcome Condition)) (o : Outcome Condition) → eligible s.state o ≡ true →
    Answers s o.when True → ((x : Outcome Condition) → Memᴰ x before → (eligible s.state x ≡ false) ⊎ Answers s x.when False) →
    select s i (before ++ (o ∷ behind)) ≡ ok (record { place = i + length before; outcome = o })
first_of s i [] behind o e a h = select_true s i o behind a.0 e a.1 a.2 ∙ ap (λ (k : ℕ). ok (record { place = k; outcome = o })) (omega arith)
first_of s i (x ∷ before) behind o e a h =
    by (h x (Memᴰ.head refl)) ∙
    first_of s (i + 1) before behind o e a (λ y m. h y (Memᴰ.tail m)) ∙
    ap (λ (k : ℕ). ok (record { place = k; outcome = o })) (omega arith)
  where
    by : (eligible s.state x ≡ false) ⊎ Answers s x.when False → select s i (x ∷ (before ++ (o ∷ behind))) ≡ select s (i + 1) (before ++ (o ∷ behind))
    by (inl n) = select_skip s i x (before ++ (o ∷ behind)) n
    by (inr f) = over (eligible s.state x) refl
      where
        over : (b : Bool) → eligible s.state x ≡ b → select s i (x ∷ (before ++ (o ∷ behind))) ≡ select s (i + 1) (before ++ (o ∷ behind))
        over false q = select_skip s i x (before ++ (o ∷ behind)) q
        over true q = select_false s i x (before ++ (o ∷ behind)) f.0 q f.1 f.2

pub first_is_selected : (s : Sheet Condition) (i : ℕ) (os : List (Outcome Condition)) (p : Placed) → FirstTrue s i os p → select s i os ≡ ok p
first_is_selected s i os p f =
    let q = f.parts in let r = f.place in let e = first_of s i f.before f.behind p.outcome f.is_eligible f.is_true
    f.are_false in ap (select s i) q ∙
    e ∙
    ap (λ (k : ℕ). ok (record { place = k; outcome = p.outcome })) (sym r)
