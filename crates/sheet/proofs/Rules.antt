-- Rules, outcomes and effects give a value where their names are known and each member is what it must be.
-- Assumes nothing.
use mathlib.Core.Bool.{Bool, false, true, ◌&&◌}
use mathlib.Core.List.{List, [], ◌∷◌}
use Rattle.std.specs.Prelude.{Option}
use mathlib.Core.Path.{ap, refl, subst, sym, ◌∙◌, ◌≡◌}
use Prim.Native.Nat.{ℕ, ◌+◌}
use native.Mathlib.Omega.{arith}
use Rattle.json_text.proofs.Laws.{find_none, find_some}
use Rattle.strings.specs.Answers.{found_of}
use Rattle.json_text.specs.Bytes.{Bytes, ascii, find, is_one_of}
use Rattle.json_text.specs.Cursor.{OnText}
use Rattle.json_text.specs.Held.{AreMembers, IsNode}
use Rattle.json_text.specs.Json.{Members, Value, array, bool, entries, keys, null, number, object, text}
use Rattle.json_text.specs.Refusal.{Result, or_else, wrong_sheet, ◌>>=◌}
use Rattle.json_text.specs.Spans.{text_at}
use Rattle.json_text.specs.Table.{after_at, end_at, kind_at, members_at, start_at, value_at}
use Rattle.members.proofs.Shapes.{object_at, tag, tagged, text_at_lem}
use Rattle.members.proofs.Verdicts.{ok_bind, ok_last, optional_ok, required_ok}
use Rattle.members.proofs.Walks.{full_members}
use Rattle.members.specs.Kinds.{a_bool, a_text, an_object, not_null, only, optional, required, some_texts}
use Rattle.sheet.specs.Named.{MoveNamed, OutcomeNamed, RuleNamed}
use Rattle.members.specs.Outcome.{Effect, a_move, an_effect, an_outcome, effect_words}
use Rattle.members.specs.Rule.{a_rule}
use Rattle.members.specs.Verdicts.{is_ok}
use Rattle.members.specs.Wants.{allowed, needed}
use Rattle.sheet.specs.declared.outcome.MoveMembers.{MoveMembers}
use Rattle.sheet.specs.declared.outcome.OutcomeMembers.{OutcomeMembers}
use Rattle.sheet.specs.declared.rule.RuleMembers.{RuleMembers}

-- parts joined from the left, as code joins them
pub left3 : (a b c : Bool) → (a && (b && c)) ≡ ((a && b) && c)
left3 true b c = refl
left3 false b c = refl

-- what is no object has no members
pub no_object : {B : Type 0} (v : Value) (f : Members → Result B) → (tag v ≡ 6 → ⊥) → false ≡ is_ok (an_object v >>= f)
no_object null f h = refl
no_object (bool true) f h = refl
no_object (bool false) f h = refl
no_object (number s) f h = refl
no_object (text s) f h = refl
no_object (array vs) f h = refl
no_object (object ms) f h = absurd (h refl)

module _ (ms : Members) where
  rule_parts : is_ok (a_rule not_null (object ms)) ≡
      (is_ok (only (ascii "assert" ∷ ascii "name" ∷ ascii "message" ∷ []) (keys ms)) &&
      (is_ok (required not_null (ascii "assert") ms) &&
      (is_ok (optional a_text (ascii "name") ms) && is_ok (optional a_text (ascii "message") ms))))
  unfolding a_rule
  rule_parts =
      ok_bind (only (ascii "assert" ∷ ascii "name" ∷ ascii "message" ∷ []) (keys ms)) _ _
      (λ _. ok_bind (required not_null (ascii "assert") ms) _ _
      (λ x0. ok_bind (optional a_text (ascii "name") ms) _ _ (λ x1. ok_last (optional a_text (ascii "message") ms) _)))

  pub rule_ok : is_ok (a_rule not_null (object ms)) ≡
      (((is_ok (only (ascii "assert" ∷ ascii "name" ∷ ascii "message" ∷ []) (keys ms)) &&
      needed (λ v. is_ok (not_null v)) (find (ascii "assert") (entries ms))) &&
      allowed (λ v. is_ok (a_text v)) (find (ascii "name") (entries ms))) &&
      allowed (λ v. is_ok (a_text v)) (find (ascii "message") (entries ms)))
  rule_ok = rule_parts ∙ rw (required_ok not_null (ascii "assert") ms, optional_ok a_text (ascii "name") ms, optional_ok a_text (ascii "message") ms) (simp left3)

  move_parts : is_ok (a_move (object ms)) ≡
      (is_ok (only (ascii "to" ∷ ascii "from" ∷ []) (keys ms)) &&
      (is_ok (required a_text (ascii "to") ms) && is_ok (required some_texts (ascii "from") ms)))
  unfolding a_move
  move_parts =
      ok_bind (only (ascii "to" ∷ ascii "from" ∷ []) (keys ms)) _ _
      (λ _. ok_bind (required a_text (ascii "to") ms) _ _ (λ x0. ok_last (required some_texts (ascii "from") ms) _))

  pub move_ok : is_ok (a_move (object ms)) ≡
      ((is_ok (only (ascii "to" ∷ ascii "from" ∷ []) (keys ms)) && needed (λ v. is_ok (a_text v)) (find (ascii "to") (entries ms))) &&
      needed (λ v. is_ok (some_texts v)) (find (ascii "from") (entries ms)))
  move_ok = move_parts ∙ rw (required_ok a_text (ascii "to") ms, required_ok some_texts (ascii "from") ms) (simp left3)

  effect_parts : is_ok (an_effect (object ms)) ≡ (is_ok (only (ascii "moves" ∷ []) (keys ms)) && is_ok (required a_move (ascii "moves") ms))
  unfolding an_effect
  effect_parts = ok_bind (only (ascii "moves" ∷ []) (keys ms)) _ _ (λ _. refl)

  pub effect_ok : is_ok (an_effect (object ms)) ≡ (is_ok (only (ascii "moves" ∷ []) (keys ms)) && needed (λ v. is_ok (a_move v)) (find (ascii "moves") (entries ms)))
  effect_ok = effect_parts ∙ rw (required_ok a_move (ascii "moves") ms)

  outcome_parts : is_ok (an_outcome not_null (object ms)) ≡
      (is_ok (only (ascii "name" ∷ ascii "when" ∷ ascii "in_state" ∷ ascii "wrong_state" ∷ ascii "effect" ∷ []) (keys ms)) &&
      (is_ok (required a_text (ascii "name") ms) &&
      (is_ok (optional not_null (ascii "when") ms) &&
      (is_ok (optional a_text (ascii "in_state") ms) &&
      (is_ok (optional a_bool (ascii "wrong_state") ms) && is_ok (optional an_effect (ascii "effect") ms))))))
  unfolding an_outcome
  outcome_parts =
      ok_bind (only (ascii "name" ∷ ascii "when" ∷ ascii "in_state" ∷ ascii "wrong_state" ∷ ascii "effect" ∷ []) (keys ms)) _ _
      (λ _. ok_bind (required a_text (ascii "name") ms) _ _
      (λ x0. ok_bind (optional not_null (ascii "when") ms) _ _
      (λ x1. ok_bind (optional a_text (ascii "in_state") ms) _ _
      (λ x2. ok_bind (optional a_bool (ascii "wrong_state") ms) _ _ (λ x3. ok_last (optional an_effect (ascii "effect") ms) _)))))

  pub outcome_ok : is_ok (an_outcome not_null (object ms)) ≡
      (((((is_ok
      (only (ascii "name" ∷ ascii "when" ∷ ascii "in_state" ∷ ascii "wrong_state" ∷ ascii "effect" ∷ [])
      (keys ms)) && needed (λ v. is_ok (a_text v)) (find (ascii "name") (entries ms))) &&
      allowed (λ v. is_ok (not_null v)) (find (ascii "when") (entries ms))) &&
      allowed (λ v. is_ok (a_text v)) (find (ascii "in_state") (entries ms))) &&
      allowed (λ v. is_ok (a_bool v)) (find (ascii "wrong_state") (entries ms))) &&
      allowed (λ v. is_ok (an_effect v)) (find (ascii "effect") (entries ms)))
  outcome_ok =
      outcome_parts ∙
      rw (
        required_ok a_text (ascii "name") ms,
        optional_ok not_null (ascii "when") ms,
        optional_ok a_text (ascii "in_state") ms,
        optional_ok
            a_bool (ascii "wrong_state") ms,
        optional_ok an_effect (ascii "effect") ms,
      ) (simp left3)

-- ---- the same by what code has read of a node
module _ {s : Bytes} {w : List ℕ} {n : ℕ} (h : IsNode s w 64 n) (k : ℕ) (p : k ≡ kind_at w n) where
  pub not_rule : (k ≡ 6 → ⊥) → false ≡ is_ok (a_rule not_null (value_at s w n))
  unfolding a_rule
  not_rule f = no_object (value_at s w n) _ (λ q. f (tagged h k p ∙ q))

  pub not_move : (k ≡ 6 → ⊥) → false ≡ is_ok (a_move (value_at s w n))
  unfolding a_move
  not_move f = no_object (value_at s w n) _ (λ q. f (tagged h k p ∙ q))

  pub not_outcome : (k ≡ 6 → ⊥) → false ≡ is_ok (an_outcome not_null (value_at s w n))
  unfolding an_outcome
  not_outcome f = no_object (value_at s w n) _ (λ q. f (tagged h k p ∙ q))

  module _ (q : k ≡ 6) (e : ℕ) (j : e ≡ after_at w n) where
    pub object_members : AreMembers s w 64 (n + 1) e
    object_members = subst (AreMembers s w 64 (n + 1)) (sym j) (full_members (object_at h (sym p ∙ q)).1)

    pub object_is : value_at s w n ≡ object (members_at s w (n + 1) e)
    object_is = (object_at h (sym p ∙ q)).0 ∙ ap (λ (x : ℕ). object (members_at s w (n + 1) x)) (sym j)

    pub is_rule : (m : RuleMembers) → RuleNamed s w (members_at s w (n + 1) e) m → (a b c d : Bool) →
        a ≡ is_ok (only (ascii "assert" ∷ ascii "name" ∷ ascii "message" ∷ []) (keys (members_at s w (n + 1) e))) →
        b ≡ needed (λ v. is_ok (not_null v)) (found_of s w m.assert) → c ≡ allowed (λ v. is_ok (a_text v)) (found_of s w m.name) →
        d ≡ allowed (λ v. is_ok (a_text v)) (found_of s w m.message) → (((a && b) && c) && d) ≡ is_ok (a_rule not_null (value_at s w n))
    is_rule m t a b c d i1 i2 i3 i4 =
        sym
        (ap (λ (v : Value). is_ok (a_rule not_null v)) object_is ∙
        rule_ok (members_at s w (n + 1) e) ∙
        rw (t.assert.answers, t.name.answers, t.message.answers, ← i1, ← i2, ← i3, ← i4))

    pub is_move : (m : MoveMembers) → MoveNamed s w (members_at s w (n + 1) e) m → (a b c : Bool) →
        a ≡ is_ok (only (ascii "to" ∷ ascii "from" ∷ []) (keys (members_at s w (n + 1) e))) →
        b ≡ needed (λ v. is_ok (a_text v)) (found_of s w m.to) → c ≡ needed (λ v. is_ok (some_texts v)) (found_of s w m.from) →
        ((a && b) && c) ≡ is_ok (a_move (value_at s w n))
    is_move m t a b c i1 i2 i3 = sym (ap (λ (v : Value). is_ok (a_move v)) object_is ∙ move_ok (members_at s w (n + 1) e) ∙ rw (t.to.answers, t.from.answers, ← i1, ← i2, ← i3))

    pub is_outcome : (m : OutcomeMembers) → OutcomeNamed s w (members_at s w (n + 1) e) m → (a b c d f g : Bool) →
        a ≡
        is_ok
        (only (ascii "name" ∷ ascii "when" ∷ ascii "in_state" ∷ ascii "wrong_state" ∷ ascii "effect" ∷ [])
        (keys (members_at s w (n + 1) e))) → b ≡ needed (λ v. is_ok (a_text v)) (found_of s w m.name) →
        c ≡ allowed (λ v. is_ok (not_null v)) (found_of s w m.when) → d ≡ allowed (λ v. is_ok (a_text v)) (found_of s w m.in_state) →
        f ≡ allowed (λ v. is_ok (a_bool v)) (found_of s w m.wrong_state) → g ≡ allowed (λ v. is_ok (an_effect v)) (found_of s w m.effect) →
        (((((a && b) && c) && d) && f) && g) ≡ is_ok (an_outcome not_null (value_at s w n))
    is_outcome m t a b c d f g i1 i2 i3 i4 i5 i6 =
        sym
        (ap (λ (v : Value). is_ok (an_outcome not_null v)) object_is ∙
        outcome_ok (members_at s w (n + 1) e) ∙
        rw (
          t.name.answers,
          t.when.answers,
          t.in_state.answers,
          t.wrong_state.answers,
          t.effect.answers,
          ← i1,
          ← i2,
          ← i3,
          ← i4,
          ← i5,
          ← i6,
        ))

    pub effect_moved : (r : Option ℕ) → find (ascii "moves") (entries (members_at s w (n + 1) e)) ≡ found_of s w r → (a b : Bool) →
        a ≡ is_ok (only (ascii "moves" ∷ []) (keys (members_at s w (n + 1) e))) → b ≡ needed (λ v. is_ok (a_move v)) (found_of s w r) →
        (a && b) ≡ is_ok (an_effect (value_at s w n))
    effect_moved r t a b i1 i2 =
        sym (ap (λ (v : Value). is_ok (an_effect v)) object_is ∙ effect_ok (members_at s w (n + 1) e) ∙ rw (t, ← i1, ← i2))

  pub not_effect : (k ≡ 4 → ⊥) → (k ≡ 6 → ⊥) → false ≡ is_ok (an_effect (value_at s w n))
  unfolding an_effect
  not_effect f g = go (value_at s w n) (λ q. f (tagged h k p ∙ q)) (λ q. g (tagged h k p ∙ q))
    where
      go : (v : Value) → (tag v ≡ 4 → ⊥) → (tag v ≡ 6 → ⊥) → false ≡ is_ok (an_effect v)
      go null a b = refl
      go (bool true) a b = refl
      go (bool false) a b = refl
      go (number t) a b = refl
      go (text t) a b = absurd (a refl)
      go (array vs) a b = refl
      go (object ms) a b = absurd (b refl)

  module _ (q : k ≡ 4) (a : ℕ) (i : a ≡ start_at w n) where
    pub on_text_lem : OnText s a 0
    on_text_lem = subst (λ (x : ℕ). OnText s x 0) (sym i) (record { stop = end_at w n; text = (text_at_lem h (sym p ∙ q)).1; few = omega arith })

    pub a_word : {b : Bool} → b ≡ is_one_of (text_at s a) (ascii "none" ∷ ascii "creates" ∷ ascii "updates" ∷ []) → b ≡ is_ok (an_effect (value_at s w n))
    unfolding an_effect
    a_word j =
        j ∙
        known (text_at s a) (is_one_of (text_at s a) (ascii "none" ∷ ascii "creates" ∷ ascii "updates" ∷ [])) refl ∙
        sym (ap (λ (v : Value). is_ok (an_effect v)) ((text_at_lem h (sym p ∙ q)).0 ∙ ap (λ (x : ℕ). text (text_at s x)) (sym i)))
      where
        known : (k : Bytes) (b : Bool) → is_one_of k (ascii "none" ∷ ascii "creates" ∷ ascii "updates" ∷ []) ≡ b →
            is_one_of k (ascii "none" ∷ ascii "creates" ∷ ascii "updates" ∷ []) ≡ is_ok (or_else (find k effect_words) wrong_sheet)
        known k true e = e ∙ sym (ap (λ (o : Option Effect). is_ok (or_else o wrong_sheet)) (find_some k effect_words e).1)
        known k false e = e ∙ sym (ap (λ (o : Option Effect). is_ok (or_else o wrong_sheet)) (find_none k effect_words e))
