-- The rules tried again, where readings are as before or gone: all pass as before, the same rule settles, or one up to it cannot be evaluated.
-- Assumes nothing.
use mathlib.Core.Bool.{Bool, false, true, true≢false}
use mathlib.Core.List.{List, [], ◌∷◌}
use mathlib.Core.Logic.{inl, inr, ◌⊎◌}
use Rattle.std.specs.Prelude.{Option}
use mathlib.Core.Path.{refl, sym, ◌∙◌, ◌≡◌}
use Prim.Native.Nat.{ℕ, ◌+◌, ◌<◌, ◌≤◌}
use native.Mathlib.Nat.{le_refl, le_trans}
use native.Mathlib.Omega.{arith}
use lib.ListN.{length}
use Rattle.answers.specs.Rules.{check}
use Rattle.answers.specs.Demand.{at_place, rule, settler}
use Rattle.answers.specs.Verdict.{Verdict, passed}
use Rattle.semantics.proofs.Later.{Both, Every, Fact, Later, Lost, every_left, every_right, later_evaluate, truth_gone, truth_kept}
use Rattle.semantics.proofs.Names.{ascending_mem}
use Rattle.semantics.specs.Evaluate.{Answer, evaluate}
use Rattle.semantics.specs.Names.{Names, ascending}
use Rattle.semantics.specs.Readings.{readings, rule_readings}
use Rattle.semantics.specs.Semantics.{kernel}
use Rattle.semantics.specs.Truth.{False, True, Truth, Unknown}
use Rattle.json_text.proofs.Laws.{bind_ok, ok_not_refused}
use Rattle.json_text.specs.Bytes.{Bytes}
use Rattle.json_text.specs.Refusal.{Refusal, Result, Rules, ok, preconditions, refused, rule_false, rule_unknown}
use Rattle.members.specs.Condition.{Condition}
use Rattle.members.specs.Rule.{Rule}
use Rattle.members.specs.Sheet.{Sheet}

-- one rule more
module _ (s : Sheet Condition) (kind : Rules) (i : ℕ) (r : Rule Condition) (rs : List (Rule Condition)) (a : Answer) (e : evaluate kernel s [] r.assert ≡ ok a) where
  pub check_true : a.truth ≡ True → check s kind i (r ∷ rs) ≡ check s kind (i + 1) rs
  unfolding check
  check_true t = bind_ok _ e ∙ rw t refl

  pub check_false : a.truth ≡ False → check s kind i (r ∷ rs) ≡ refused (rule_false kind i r.name r.message)
  unfolding check
  check_false t = bind_ok _ e ∙ rw t refl

  pub check_unknown : a.truth ≡ Unknown → check s kind i (r ∷ rs) ≡ refused (rule_unknown kind i r.name r.message (ascending a.names))
  unfolding check
  check_unknown t = bind_ok _ e ∙ rw t refl

pub check_none : (s : Sheet Condition) (i : ℕ) → check s preconditions i [] ≡ ok passed
unfolding check
check_none s i = refl

pub settled_false : (i : ℕ) (n m : Option Bytes) → settler (rule_false preconditions i n m) ≡ at_place (rule i)
unfolding settler
settled_false i n m = refl

pub settled_unknown : (i : ℕ) (n m : Option Bytes) (ns : Names) → settler (rule_unknown preconditions i n m ns) ≡ at_place (rule i)
unfolding settler
settled_unknown i n m ns = refl

-- where an earlier result settled: passed, or refused at a rule from a place on
abbrev pub RuleShape : ℕ → Result Verdict → Type 0
RuleShape i x = (x ≡ ok passed) ⊎ ((q : Refusal) × (j : ℕ) × (x ≡ refused q) × (settler q ≡ at_place (rule j)) × (i ≤ j))

pub shape_down : (i : ℕ) (x : Result Verdict) → RuleShape (i + 1) x → RuleShape i x
shape_down i x (inl p) = inl p
shape_down i x (inr p) = inr (p.0, p.1, p.2, p.3, le_trans (omega arith) p.4)

module _ (Erased : Bytes → Type 0) where
  pub record RuleRefused (x y : Result Verdict) : Type 0 where
    pub place : ℕ
    pub name : Option Bytes
    pub message : Option Bytes
    pub names : Names
    pub is_new : y ≡ refused (rule_unknown preconditions place name message names)
    pub tried : RuleShape place x
    pub named : Lost Erased names ⊎ ((ms : Names) × (x ≡ refused (rule_unknown preconditions place name message ms)))

  pub record RulesLater (i : ℕ) (x y : Result Verdict) : Type 0 where
    pub shape : RuleShape i x
    pub later : (y ≡ x) ⊎ RuleRefused x y

  pub lost_ascending : (ns : Names) → Lost Erased ns → Lost Erased (ascending ns)
  lost_ascending ns l = (l.0, l.1, ascending_mem _ ns l.2)

  module _ (old new : Sheet Condition) where
    -- one rule more: the case of the rule itself, and of those behind it
    pub later_rule : (i : ℕ) (r : Rule Condition) (rs : List (Rule Condition)) →
        (k : Both (Later Erased) (evaluate kernel old [] r.assert) (evaluate kernel new [] r.assert)) →
        RulesLater (i + 1) (check old preconditions (i + 1) rs) (check new preconditions (i + 1) rs) →
        RulesLater i (check old preconditions i (r ∷ rs)) (check new preconditions i (r ∷ rs))
    later_rule i r rs k below = go k.rel k.was.truth refl
      where
        shape_here : (q : Refusal) → check old preconditions i (r ∷ rs) ≡ refused q → settler q ≡ at_place (rule i) → RuleShape i (check old preconditions i (r ∷ rs))
        shape_here q e f = inr (q, i, e, f, le_refl i)

        shape_of : (t : Truth) → k.was.truth ≡ t → RuleShape i (check old preconditions i (r ∷ rs))
        shape_of True p = rw (check_true old preconditions i r rs k.was k.is_was p) (shape_down i _ below.shape)
        shape_of False p = shape_here _ (check_false old preconditions i r rs k.was k.is_was p) (settled_false i r.name r.message)
        shape_of Unknown p = shape_here _ (check_unknown old preconditions i r rs k.was k.is_was p) (settled_unknown i r.name r.message (ascending k.was.names))

        go : Later Erased k.was k.now → (t : Truth) → k.was.truth ≡ t → RulesLater i (check old preconditions i (r ∷ rs)) (check new preconditions i (r ∷ rs))
        go (truth_kept q) True p =
            rw (check_true old preconditions i r rs k.was k.is_was p, check_true new preconditions i r rs k.now k.is_now (q ∙ p))
            (record { shape = shape_down i _ below.shape; later = below.later })
        go (truth_kept q) False p =
            record {
              shape = shape_of False p;
              later = inl
                  (check_false new preconditions i r rs k.now k.is_now (q ∙ p) ∙
                  sym (check_false old preconditions i r rs k.was k.is_was p));
            }
        go (truth_kept q) Unknown p =
            record {
              shape = shape_of Unknown p;
              later =
                  inr
                  (record {
                    place = i;
                    name = r.name;
                    message = r.message;
                    names = _;
                    is_new = check_unknown new preconditions i r rs k.now k.is_now (q ∙ p);
                    tried = shape_of Unknown p;
                    named = inr (_, check_unknown old preconditions i r rs k.was k.is_was p);
                  });
            }
        go (truth_gone u l) t p =
            record {
              shape = shape_of t p;
              later =
                  inr
                  (record {
                    place = i;
                    name = r.name;
                    message = r.message;
                    names = _;
                    is_new = check_unknown new preconditions i r rs k.now k.is_now u;
                    tried = shape_of t p;
                    named = inl (lost_ascending k.now.names l);
                  });
            }

    pub later_check : (i : ℕ) (rs : List (Rule Condition)) → Every (Fact kernel Erased old new) (rule_readings rs) →
        RulesLater i (check old preconditions i rs) (check new preconditions i rs)
    unfolding rule_readings
    later_check i [] h = record { shape = inl (check_none old i); later = inl (check_none new i ∙ sym (check_none old i)) }
    later_check i (r ∷ rs) h =
        later_rule
        i
        r
        rs
        (later_evaluate kernel Erased old new [] r.assert (every_left (readings [] r.assert) (rule_readings rs) h))
        (later_check (i + 1) rs (every_right (readings [] r.assert) (rule_readings rs) h))

    -- a rule that could not be evaluated is one of the rules
    pub rule_at : (i : ℕ) (rs : List (Rule Condition)) → Every (Fact kernel Erased old new) (rule_readings rs) →
        (j : ℕ) (n m : Option Bytes) (ns : Names) → check new preconditions i rs ≡ refused (rule_unknown preconditions j n m ns) →
        (k : ℕ) × (j ≡ i + k) × (k < length rs)
    unfolding rule_readings
    rule_at i [] h j n m ns e = ok_not_refused passed _ (sym (check_none new i) ∙ e)
    rule_at i (r ∷ rs) h j n m ns e = by (λ f. rule_at (i + 1) rs (every_right (readings [] r.assert) (rule_readings rs) h) j n m ns f) a.now.truth refl
      where
        a : Both (Later Erased) (evaluate kernel old [] r.assert) (evaluate kernel new [] r.assert)
        a = later_evaluate kernel Erased old new [] r.assert (every_left (readings [] r.assert) (rule_readings rs) h)

        by : (check new preconditions (i + 1) rs ≡ refused (rule_unknown preconditions j n m ns) → (k : ℕ) × (j ≡ i + 1 + k) ×
            (k < length rs)) → (t : Truth) → a.now.truth ≡ t → (k : ℕ) × (j ≡ i + k) × (k < length (r ∷ rs))
        by below True p = let f = below (sym (check_true new preconditions i r rs a.now a.is_now p) ∙ e) in (f.0 + 1, omega (arith, f.1), omega (arith, f.2))
        by below False p =
            let q = sym (check_false new preconditions i r rs a.now a.is_now p) ∙ e in
            let z : ◌≡◌ {A = Bool} true false = cc in
            absurd (true≢false z)
        by below Unknown p =
            let q = sym (check_unknown new preconditions i r rs a.now a.is_now p) ∙ e in
            let f : j ≡ i = cc in
            (0, omega (arith, f), omega arith)
