-- What an answer tells once a condition was evaluated alone: 13 and 14, and one rule.
-- Assumes nothing.
use Rattle.std.specs.Prelude.{IsErrAnd, IsSomeAnd, MatchOption, Result as Fallible}
use mathlib.Core.List.{List, [], ◌∷◌}
use Rattle.std.specs.Prelude.{Option, Some, None, Ok, Err}
use mathlib.Core.Path.{ap, refl, subst, sym, ◌∙◌, ◌≡◌}
use Prim.Native.Nat.{ℕ, ◌+◌}
use Rattle.writer.specs.Meaning.{Held, meaning, rules_of}
use Rattle.writer.specs.Texts.{IsText, TextTold, text_of}
use Rattle.answers.specs.Verdict.{Verdict}
use Rattle.writer.specs.declared.answer.Answer.{Answer as Reply}
use Rattle.writer.specs.declared.answer.Answer.TheVariants as answers
use Rattle.writer.specs.declared.answer.Rule.{Rule as Entry}
use Rattle.writer.specs.declared.answer.Rules.{Rules as Kind}
use Rattle.json_text.specs.Bytes.{Bytes}
use Rattle.json_text.specs.Refusal.{Result, Rules, ok, refused, rule_false, rule_unknown, ◌>>=◌}
use Rattle.json_text.specs.Table.{after_at, members_at, start_at}
use Rattle.semantics.specs.Evaluate.{Answer, evaluate}
use Rattle.semantics.specs.Names.{ascending}
use Rattle.semantics.specs.Semantics.{kernel}
use Rattle.semantics.specs.Truth.{False, True, Unknown}
use Rattle.semantics.specs.declared.truth.Truth.{Truth as CodeTruth}
use Rattle.semantics.specs.declared.truth.Truth.TheVariants as truths
use Rattle.sheet.proofs.Given.{ObjectHere, rule_given}
use Rattle.sheet.specs.Accepted.{Gives, Known, MayGive, RuleGives}
use Rattle.members.specs.Condition.{Condition, condition}
use Rattle.members.specs.Kinds.{a_text}
use Rattle.sheet.specs.Named.{RuleNamed}
use Rattle.members.specs.Rule.{Rule, a_rule}
use Rattle.members.specs.Sheet.{Sheet}
use Rattle.sheet.specs.declared.rule.RuleMembers.{RuleMembers}
use Rattle.rules.specs.Alone.{Alone, AloneAs, Judged}
use Rattle.rules.specs.Ruled.{RuleEntered, Ruled}
use Rattle.answers.specs.Rules.{check}
use Rattle.rules.specs.Told.{Stops}
use Rattle.rules.proofs.Stopping.{returned, stops_as, stops_refused, stops_through}
use Rattle.rules.proofs.Eligibility.{missing, state_on_text, state_text}

-- ---- a condition evaluated alone
module _ {s : Bytes} {w w' : List ℕ} {r : Fallible CodeTruth Reply} {m : Result Answer} (a : Alone s w w' r m) where
  pub judged : (x : CodeTruth) → r ≡ Ok x → Judged s w' m x
  judged x q = subst (AloneAs s w' m) q a.is

  pub stopped : (y : Reply) → r ≡ Err y → Stops s w' m y
  stopped y q = subst (AloneAs s w' m) q a.is

-- ---- a rule's texts
module _ (w : List ℕ) (f : Option ℕ) where
  pub text_told :
      (a : Option ℕ) → MatchOption f (a ≡ None) (λ n. IsSomeAnd a (λ x. x ≡ start_at w n)) → (s : Bytes) (t : Option Bytes) → MayGive a_text s w f t → TextTold s t a
  unfolding text_of IsText
  text_told a h s t g = go f refl h
    where
      go : (x : Option ℕ) → f ≡ x → MatchOption x (a ≡ None) (λ n. IsSomeAnd a (λ y. y ≡ start_at w n)) → TextTold s t a
      go None q i = subst (TextTold s t) (sym i) (record { is = sym (missing a_text s w q g); is_text = tt })
      go (Some n) q i = there a i
        where
          there : (b : Option ℕ) → IsSomeAnd b (λ y. y ≡ start_at w n) → TextTold s t b
          there None j = absurd j
          there (Some y) j = record { is = sym (state_text s w n q g j); is_text = state_on_text s w n q (record { given = t; known = g }) j }

-- ---- a rule's members
pub rule_here : {s : Bytes} {w : List ℕ} {n : ℕ} {x : Rule Condition} → Gives (a_rule condition) s w n x → ObjectHere s w n
rule_here g = (rule_given g).0

module _ {s : Bytes} {w : List ℕ} {n e : ℕ} {m : RuleMembers} (q : e ≡ after_at w n) (named : RuleNamed s w (members_at s w (n + 1) e) m) where
  pub rule_members : {x : Rule Condition} → Gives (a_rule condition) s w n x → RuleGives s w m x
  rule_members g = (rule_given g).1 m (subst (λ (i : ℕ). RuleNamed s w (members_at s w (n + 1) i) m) q named)

  pub rule_known : Known (Gives (a_rule condition) s w n) → Known (λ (t : Bytes). Known (RuleGives t w m))
  rule_known k = record { given = s; known = record { given = k.given; known = rule_members k.known } }

-- ---- one rule
module _ (sheet : Sheet Condition) (kind : Rules) (i : ℕ) (x : Rule Condition) (xs : List (Rule Condition)) where
  abbrev pub behind : Answer → Result Verdict
  behind a =
      elim
      a.truth [
        | True ↦
            check sheet kind (i + 1) xs
        | False ↦
            refused (rule_false kind i x.name x.message)
        | Unknown ↦
            refused (rule_unknown kind i x.name x.message (ascending a.names))
      ]

  check_first : check sheet kind i (x ∷ xs) ≡ (evaluate kernel sheet [] x.assert >>= behind)
  unfolding check
  check_first = refl

  check_judged : (a : Answer) → evaluate kernel sheet [] x.assert ≡ ok a → check sheet kind i (x ∷ xs) ≡ behind a
  check_judged a q = check_first ∙ ap {B = Result Verdict} (λ (y : Result Answer). y >>= behind) q

module _ {s : Bytes} {w w' : List ℕ} (kind : Kind) (i : ℕ) (x : Rule Condition) {sheet : Sheet Condition} {r : Fallible CodeTruth Reply}
    (a : Alone s w w' r (evaluate kernel sheet [] x.assert)) where
  pub rule_refused : (y : Reply) → r ≡ Err y → (z : Fallible (Unit {0}) Reply) → IsErrAnd z (λ v. v ≡ y) → Ruled s w w' sheet (rules_of kind) i x z
  rule_refused y q z e =
      subst (Ruled s w w' sheet (rules_of kind) i x) (returned z e)
      (record {
        is = λ xs. stops_as (check_first sheet (rules_of kind) i x xs) (stops_through (evaluate kernel sheet [] x.assert) (behind sheet (rules_of kind) i x xs) (stopped a y q));
        only = a.only;
      })

  pub rule_holds : r ≡ Ok truths.True → Ruled s w w' sheet (rules_of kind) i x (Ok tt)
  rule_holds q = record { is = λ xs. check_judged sheet (rules_of kind) i x xs _ (judged a truths.True q).is; only = a.only }

  module _ {named : Entry} (n : RuleEntered s kind i x named) where
    pub rule_false_lem : r ≡ Ok truths.False → Ruled s w w' sheet (rules_of kind) i x (Err (answers.RuleFalse named))
    unfolding meaning Held
    rule_false_lem q = record {
      is = λ xs.
          stops_refused (rule_false (rules_of kind) i x.name x.message) (check_judged sheet (rules_of kind) i x xs _ (judged a truths.False q).is)
          (record {
            means = rw (n.is_kind, n.is_place, n.name.is, n.message.is) refl;
            held = record { name = n.name.is_text; message = n.message.is_text };
          });
      only = a.only;
    }

    pub rule_unknown_lem : r ≡ Ok truths.Unknown → Ruled s w w' sheet (rules_of kind) i x (Err (answers.RuleUnknown named))
    unfolding meaning Held
    rule_unknown_lem q = let j = judged a truths.Unknown q in record {
      is = λ xs.
          stops_refused (rule_unknown (rules_of kind) i x.name x.message (ascending j.names)) (check_judged sheet (rules_of kind) i x xs _ j.is)
          (record {
            means = rw (n.is_kind, n.is_place, n.name.is, n.message.is, j.marked) refl;
            held = (record { name = n.name.is_text; message = n.message.is_text }, j.held);
          });
      only = a.only;
    }
