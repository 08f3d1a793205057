-- Outcomes by their places: the one at a place, and the first for the wrong state.
-- Assumes nothing.
use mathlib.Core.Bool.{Bool, false, true}
use mathlib.Core.List.{List, [], ◌∷◌}
use Rattle.std.specs.Prelude.{Option, None, Some}
use mathlib.Core.Path.{ap, refl, subst, sym, ◌∙◌, ◌≡◌}
use Prim.Native.Nat.{ℕ, suc, ◌+◌, ◌-◌, ◌<◌, ◌≤◌}
use native.Mathlib.Omega.{arith}
use Rattle.json_text.specs.Bytes.{Bytes}
use Rattle.json_text.specs.Table.{after_at}
use Rattle.sheet.specs.Accepted.{EachGives, Gives, MayGive, OutcomeGives}
use Rattle.members.specs.Condition.{Condition, condition}
use Rattle.members.specs.Kinds.{a_bool}
use Rattle.members.specs.Outcome.{Outcome, an_outcome, or_false}
use Rattle.sheet.specs.declared.outcome.OutcomeMembers.{OutcomeMembers}
use Rattle.sheet.specs.Accepted.{Known}
use Rattle.answers.specs.Outcomes.{Placed, at, first_from}
use Rattle.admission.specs.Places.{PlacedAt}
use Rattle.rules.proofs.Walking.{Walking, ended, goes_on, next, settled, starts}

-- ---- an answer
module _ (s : Bytes) (w : List ℕ) {from e : ℕ} {whole here : List (Outcome Condition) → Option Placed} {k : ℕ} (l : Walking (an_outcome condition) s w from e whole here k) where
  none_placed : e ≤ k → here [] ≡ None → (os : List (Outcome Condition)) → EachGives (an_outcome condition) s w from e os → PlacedAt s w (whole os) None
  unfolding PlacedAt
  none_placed h q os g = sym (ended l h os g) ∙ q

  placed : (h : k < e) (i : ℕ) → Some (record { place = i; outcome = (next l h).first }) ≡ here ((next l h).first ∷ (next l h).others) →
      (os : List (Outcome Condition)) → EachGives (an_outcome condition) s w from e os →
      PlacedAt s w (whole os) (Some (record { place = i; node = k }))
  unfolding PlacedAt
  placed h i q os g = ((next l h).first, sym (settled l h (Some (record { place = i; outcome = (next l h).first })) q os g), (next l h).here)

pub outcome_known :
    {s : Bytes} {w : List ℕ} {from e : ℕ} {whole here : List (Outcome Condition) → Option Placed} {k : ℕ} → Walking (an_outcome condition) s w from e whole here k → k < e →
    Known (Gives (an_outcome condition) s w k)
outcome_known l h = record { given = (next l h).first; known = (next l h).here }

-- ---- the outcome at a place
at_more : (i n m : ℕ) (o : Outcome Condition) (os : List (Outcome Condition)) → n ≡ suc m → at i n (o ∷ os) ≡ at (i + 1) m os
unfolding at
at_more i n m o os q = ap (λ (x : ℕ). at i x (o ∷ os)) q

at_here : (i n : ℕ) (o : Outcome Condition) (os : List (Outcome Condition)) → n ≡ 0 → at i n (o ∷ os) ≡ Some (record { place = i; outcome = o })
unfolding at
at_here i n o os q = ap (λ (x : ℕ). at i x (o ∷ os)) q

at_none : (i n : ℕ) → at i n [] ≡ None
unfolding at
at_none i n = refl

-- so many passed: the places behind them are those of what is left
pub record Passed (s : Bytes) (w : List ℕ) (from e i k : ℕ) : Type 0 where
  pub walking : (m : ℕ) → Walking (an_outcome condition) s w from e (at 0 (i + m)) (at i m) k

pub passed : {s : Bytes} {w : List ℕ} {from e : ℕ} → Known (EachGives (an_outcome condition) s w from e) → Passed s w from e 0 from
passed {s} {w} {from} {e} g =
    record {
      walking = λ m.
          let q : m ≡ 0 + m = omega arith in
          subst (λ (x : ℕ). Walking (an_outcome condition) s w from e (at 0 x) (at 0 m) from) q (starts (at 0 m) g);
    }

module _ {s : Bytes} {w : List ℕ} {from e i k : ℕ} (l : Passed s w from e i k) where
  pub passed_on : k < e → Passed s w from e (i + 1) (after_at w k)
  passed_on h =
      record {
        walking = λ m.
            let q : i + (m + 1) ≡ i + 1 + m = omega arith in
            let n = next (l.walking (m + 1)) h in
            subst (λ (x : ℕ). Walking (an_outcome condition) s w from e (at 0 x) (at (i + 1) m) (after_at w k)) q
            (goes_on (l.walking (m + 1)) h (at (i + 1) m) (at_more i (m + 1) m n.first n.others (omega arith)) (after_at w k) refl);
      }

  module _ (place : ℕ) (os : List (Outcome Condition)) (g : EachGives (an_outcome condition) s w from e os) where
    pub past_all : e ≤ k → i ≤ place → PlacedAt s w (at 0 place os) None
    past_all h b =
        let q : i + (place - i) ≡ place = omega arith in
        subst (λ (x : ℕ). PlacedAt s w (at 0 x os) None) q (none_placed s w (l.walking (place - i)) h (at_none i (place - i)) os g)

    pub at_place : k < e → i ≡ place → PlacedAt s w (at 0 place os) (Some (record { place = place; node = k }))
    at_place h b =
        let q : i + 0 ≡ place = omega arith in
        let n = next (l.walking 0) h in
        subst (λ (x : ℕ). PlacedAt s w (at 0 x os) (Some (record { place = place; node = k }))) q
        (subst (λ (x : ℕ). PlacedAt s w (at 0 (i + 0) os) (Some (record { place = x; node = k }))) b
        (placed s w (l.walking 0) h i (sym (at_here i 0 n.first n.others refl)) os g))

-- ---- the first for the wrong state
abbrev pub first_wrong : ℕ → List (Outcome Condition) → Option Placed
first_wrong i os = first_from (λ o. o.wrong_state) i os

first_of : (i : ℕ) (o : Outcome Condition) (os : List (Outcome Condition)) (b : Bool) → o.wrong_state ≡ b →
    first_wrong i (o ∷ os) ≡ elim b [ true ↦ Some (record { place = i; outcome = o }) | false ↦ first_wrong (i + 1) os ]
unfolding first_from
first_of i o os b q = ap {B = Option Placed} (λ (c : Bool). elim c [ true ↦ Some (record { place = i; outcome = o }) | false ↦ first_wrong (i + 1) os ]) q

first_none : (i : ℕ) → first_wrong i [] ≡ None
unfolding first_from
first_none i = refl

pub record Passing (s : Bytes) (w : List ℕ) (from e i k : ℕ) : Type 0 where
  pub walking : Walking (an_outcome condition) s w from e (first_wrong 0) (first_wrong i) k

pub passing : {s : Bytes} {w : List ℕ} {from e i : ℕ} → i ≡ 0 → Known (EachGives (an_outcome condition) s w from e) → Passing s w from e i from
passing {s} {w} {from} {e} q g = subst (λ (i : ℕ). Passing s w from e i from) (sym q) (record { walking = starts (first_wrong 0) g })

pub flag_known : {s : Bytes} {w : List ℕ} {m : OutcomeMembers} {o : Outcome Condition} → OutcomeGives s w m o → Known (λ (t : Bytes). Known (MayGive a_bool t w m.wrong_state))
flag_known {s} g = record { given = s; known = record { given = g.wrong; known = g.wrong_state } }

module _ {s : Bytes} {w : List ℕ} {from e i k : ℕ} (l : Passing s w from e i k) where
  pub none_wrong : e ≤ k → (os : List (Outcome Condition)) → EachGives (an_outcome condition) s w from e os → PlacedAt s w (first_wrong 0 os) None
  none_wrong h = none_placed s w l.walking h (first_none i)

  module _ (h : k < e) {m : OutcomeMembers} (given : (o : Outcome Condition) → Gives (an_outcome condition) s w k o → OutcomeGives s w m o)
      (b : Bool) (a : (t : Bytes) (f : Option Bool) → MayGive a_bool t w m.wrong_state f → b ≡ or_false f) where
    here_is : (next l.walking h).first.wrong_state ≡ b
    here_is = let g = given (next l.walking h).first (next l.walking h).here in g.is_wrong ∙ sym (a s g.wrong g.wrong_state)

    pub wrong_here : b ≡ true → {j : ℕ} → j ≡ i → (os : List (Outcome Condition)) → EachGives (an_outcome condition) s w from e os →
        PlacedAt s w (first_wrong 0 os) (Some (record { place = j; node = k }))
    wrong_here q {j} z os g = subst (λ (x : ℕ). PlacedAt s w (first_wrong 0 os) (Some (record { place = x; node = k }))) (sym z)
        (placed s w l.walking h i (sym (first_of i (next l.walking h).first (next l.walking h).others true (here_is ∙ q))) os g)

    pub wrong_later : b ≡ false → {j : ℕ} → j ≡ i + 1 → Passing s w from e j (after_at w k)
    wrong_later q {j} z =
        subst (λ (x : ℕ). Passing s w from e x (after_at w k)) (sym z)
        (record {
          walking = goes_on l.walking h (first_wrong (i + 1))
              (first_of i (next l.walking h).first (next l.walking h).others false (here_is ∙ q)) (after_at w k) refl;
        })
