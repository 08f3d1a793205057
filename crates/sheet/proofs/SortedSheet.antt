-- A sheet without a fault gives a sheet when its members are sorted.
-- Assumes nothing.
use mathlib.Core.Bool.{Bool, false, true, ◌&&◌}
use mathlib.Core.List.{List, [], ◌∷◌}
use Rattle.std.specs.Prelude.{Option, None, Some}
use mathlib.Core.Path.{ap, refl, subst, sym, ◌∙◌, ◌≡◌}
use Prim.Native.Nat.{ℕ}
use native.Mathlib.Omega.{arith}
use Rattle.json_text.proofs.Laws.{bind_ok, same_bytes_true}
use Rattle.json_text.specs.Bytes.{Bytes, ascii, find, same_bytes}
use Rattle.json_text.specs.Json.{Members, Value, Values, array, bool, cons, elements, entries, keys, nil, null, number, object, text}
use Rattle.json_text.specs.Limits.{max_number, tidy, tidy_in, tidy_of}
use Rattle.json_text.specs.Refusal.{Refusal, Result, ok, refused, wrong_sheet}
use Rattle.json_text.specs.Sorted.{sorted, sorted_in, sorted_of}
use Rattle.sheet.proofs.SortedConditions.{first_none, sound_sorted}
use Rattle.sheet.proofs.SortedKinds.{
  Kept,
  Okay,
  a_bool_sorted,
  a_text_sorted,
  a_version_sorted,
  as_object_lem,
  bind_inv,
  bind_okay,
  effect_sorted,
  kept,
  object_kept,
  okay,
  only_okay,
  optional_sorted,
  required_sorted,
  texts_sorted,
}
use Rattle.sheet.proofs.SortedMembers.{and_first, and_second}
use Rattle.sheet.proofs.Sheets.{sheet_parts}
use Rattle.members.proofs.Soundness.{member_of_lem, one_of, sound_append, sound_one, soundness, soundness_of}
use Rattle.members.proofs.Verdicts.{never}
use Rattle.members.specs.Condition.{Condition, condition}
use Rattle.members.specs.Kinds.{a_bool, a_text, a_version, an_array_of, an_object, each_of, not_null, only, optional, required}
use Rattle.members.specs.Outcome.{an_effect, an_outcome}
use Rattle.members.specs.Rule.{a_rule}
use Rattle.members.specs.Sheet.{Sheet, a_sheet, held_by, holders, in_array, member_of, member_of_each, sheet_names, written}
use Rattle.members.specs.Verdicts.{fault_of, is_ok}

-- no fault: a condition
fault_okay : {A : Type 0} (x : Result A) → fault_of x ≡ None → Okay x
fault_okay (ok a) e = (a, refl)
fault_okay (refused r) e = let z : ◌≡◌ {A = ℕ} 0 1 = cc in absurd (omega arith)

condition_okay : (v : Value) → tidy max_number v ≡ true → fault_of (condition v) ≡ None → Okay (condition (sorted v))
condition_okay v t h = fault_okay (condition (sorted v)) (sound_sorted v t h)

-- the condition that an element has under a name
under_kept : (ms : Members) (k : Bytes) → soundness (member_of k (object ms)) ≡ None → Kept ms k not_null condition
under_kept ms k h v t e o = condition_okay v t (sym (sound_one v) ∙ sym (ap soundness (member_of_lem k ms ∙ ap one_of e)) ∙ h)

-- ---- rules and outcomes
rule_sorted : (v : Value) → tidy max_number v ≡ true → soundness (member_of (ascii "assert") v) ≡ None → Okay (a_rule not_null v) → Okay (a_rule condition (sorted v))
unfolding a_rule sorted tidy
rule_sorted v t s o =
    subst
    (λ (x : Value). tidy max_number x ≡ true → soundness (member_of (ascii "assert") x) ≡
    None → Okay (a_rule not_null x) → Okay (a_rule condition (sorted x))) (sym q.1) (go q.0) t s o
  where
    q : (ms : Members) × (v ≡ object ms)
    q = as_object_lem v _ o

    go : (ms : Members) → tidy_of max_number ms ≡ true → soundness (member_of (ascii "assert") (object ms)) ≡ None →
        Okay (a_rule not_null (object ms)) → Okay (a_rule condition (object (sorted_of ms)))
    go ms u h x =
        let a = bind_inv (only (ascii "assert" ∷ ascii "name" ∷ ascii "message" ∷ []) (keys ms)) _ x in
        let b = bind_inv (required not_null (ascii "assert") ms) _ a.2 in
        let c = bind_inv (optional a_text (ascii "name") ms) _ b.2 in
        let d = bind_inv (optional a_text (ascii "message") ms) _ c.2 in
        let a' = only_okay (ascii "assert" ∷ ascii "name" ∷ ascii "message" ∷ []) ms (a.0, a.1) in
        let b' = required_sorted not_null condition ms u (ascii "assert") (under_kept ms (ascii "assert") h) (b.0, b.1) in
        let c' = optional_sorted a_text a_text ms u (ascii "name") (kept a_text a_text_sorted ms (ascii "name")) (c.0, c.1) in
        let d' = optional_sorted a_text a_text ms u (ascii "message") (kept a_text a_text_sorted ms (ascii "message")) (d.0, d.1) in
        bind_okay _ a'.0 a'.1 (bind_okay _ b'.0 b'.1 (bind_okay _ c'.0 c'.1 (bind_okay _ d'.0 d'.1 (_, refl))))

outcome_sorted : (v : Value) → tidy max_number v ≡ true → soundness (member_of (ascii "when") v) ≡ None → Okay (an_outcome not_null v) → Okay (an_outcome condition (sorted v))
unfolding an_outcome sorted tidy
outcome_sorted v t s o =
    subst
    (λ (x : Value). tidy max_number x ≡ true → soundness (member_of (ascii "when") x) ≡
    None → Okay (an_outcome not_null x) → Okay (an_outcome condition (sorted x))) (sym q.1) (go q.0) t s o
  where
    q : (ms : Members) × (v ≡ object ms)
    q = as_object_lem v _ o

    go : (ms : Members) → tidy_of max_number ms ≡ true → soundness (member_of (ascii "when") (object ms)) ≡ None →
        Okay (an_outcome not_null (object ms)) → Okay (an_outcome condition (object (sorted_of ms)))
    go ms u h x =
        let a = bind_inv (only (ascii "name" ∷ ascii "when" ∷ ascii "in_state" ∷ ascii "wrong_state" ∷ ascii "effect" ∷ []) (keys ms)) _ x in
        let b = bind_inv (required a_text (ascii "name") ms) _ a.2 in
        let c = bind_inv (optional not_null (ascii "when") ms) _ b.2 in
        let d = bind_inv (optional a_text (ascii "in_state") ms) _ c.2 in
        let e = bind_inv (optional a_bool (ascii "wrong_state") ms) _ d.2 in
        let f = bind_inv (optional an_effect (ascii "effect") ms) _ e.2 in
        let a' = only_okay (ascii "name" ∷ ascii "when" ∷ ascii "in_state" ∷ ascii "wrong_state" ∷ ascii "effect" ∷ []) ms (a.0, a.1) in
        let b' = required_sorted a_text a_text ms u (ascii "name") (kept a_text a_text_sorted ms (ascii "name")) (b.0, b.1) in
        let c' = optional_sorted not_null condition ms u (ascii "when") (under_kept ms (ascii "when") h) (c.0, c.1) in
        let d' = optional_sorted a_text a_text ms u (ascii "in_state") (kept a_text a_text_sorted ms (ascii "in_state")) (d.0, d.1) in
        let e' = optional_sorted a_bool a_bool ms u (ascii "wrong_state") (kept a_bool a_bool_sorted ms (ascii "wrong_state")) (e.0, e.1) in
        let f' = optional_sorted an_effect an_effect ms u (ascii "effect") (λ v i j k. effect_sorted v i k) (f.0, f.1) in
        bind_okay _ a'.0 a'.1
        (bind_okay _ b'.0 b'.1
        (bind_okay _ c'.0 c'.1
        (bind_okay _ d'.0 d'.1 (bind_okay _ e'.0 e'.1 (bind_okay _ f'.0 f'.1 (_, refl))))))

-- ---- an array of them
module _ {A B : Type 0} (kind : Value → Result A) (kind' : Value → Result B) (key : Bytes)
    (each : (v : Value) → tidy max_number v ≡ true → soundness (member_of key v) ≡ None → Okay (kind v) → Okay (kind' (sorted v))) where
  elements_sorted :
      (vs : Values) → tidy_in max_number vs ≡ true → soundness (member_of_each key (elements vs)) ≡ None → Okay (each_of kind (elements vs)) →
      Okay (each_of kind' (elements (sorted_in vs)))
  unfolding tidy_in member_of_each each_of sorted_in
  elements_sorted nil t s o = ([], refl)
  elements_sorted (cons v vs) t s o =
      let p = first_none (soundness (member_of key v)) (soundness (member_of_each key (elements vs))) (sym (sound_append (member_of key v) (member_of_each key (elements vs))) ∙ s) in
      let a = bind_inv (kind v) _ o in
      let b = bind_inv (each_of kind (elements vs)) _ a.2 in
      let a' = each v (and_first (tidy max_number v) (tidy_in max_number vs) t) p.0 (a.0, a.1) in
      let b' = elements_sorted vs (and_second (tidy max_number v) (tidy_in max_number vs) t) p.1 (b.0, b.1) in
      bind_okay _ a'.0 a'.1 (bind_okay _ b'.0 b'.1 (_, refl))

  array_kept : (v : Value) → tidy max_number v ≡ true → soundness (in_array key v) ≡ None → Okay (an_array_of kind v) → Okay (an_array_of kind' (sorted v))
  unfolding tidy sorted
  array_kept null t s o = never wrong_sheet o.0 o.1
  array_kept (bool b) t s o = never wrong_sheet o.0 o.1
  array_kept (number n) t s o = never wrong_sheet o.0 o.1
  array_kept (text n) t s o = never wrong_sheet o.0 o.1
  array_kept (object ms) t s o = never wrong_sheet o.0 o.1
  array_kept (array vs) t s o = elements_sorted vs t s o

-- ---- the sheet's members
held_all : (es : List (Bytes × Value)) (k : Bytes) (v : Value) → soundness (written es) ≡ None → find k es ≡ Some v → soundness (held_by (find k holders) v) ≡ None
unfolding written find
held_all [] k v s e = let z : ◌≡◌ {A = ℕ} 0 1 = cc in absurd (omega arith)
held_all (x ∷ es) k v s e = go (same_bytes k x.0) refl (held_all es k v p.1)
  where
    p : (soundness (held_by (find x.0 holders) x.1) ≡ None) × (soundness (written es) ≡ None)
    p = first_none (soundness (held_by (find x.0 holders) x.1)) (soundness (written es)) (sym (sound_append (held_by (find x.0 holders) x.1) (written es)) ∙ s)

    go : (b : Bool) → same_bytes k x.0 ≡ b → (find k es ≡ Some v → soundness (held_by (find k holders) v) ≡ None) → soundness (held_by (find k holders) v) ≡ None
    go true q below =
        let i : k ≡ x.0 = same_bytes_true k x.0 q in
        let j : x.1 ≡ v = cc (rw (q, find) at e) in
        ap {B = Option Refusal} (λ y. soundness (held_by (find y holders) v)) i ∙ ap {B = Option Refusal} (λ y. soundness (held_by (find x.0 holders) y)) (sym j) ∙ p.0
    go false q below = below (rw (q, find) at e)

module _ (ms : Members) (s : soundness_of ms ≡ None) where
  condition_kept : Kept ms (ascii "condition") not_null condition
  unfolding find same_bytes
  condition_kept v t e o = condition_okay v t (sym (sound_one v) ∙ held_all (entries ms) (ascii "condition") v s e)

  preconditions_kept : Kept ms (ascii "preconditions") (an_array_of (a_rule not_null)) (an_array_of (a_rule condition))
  unfolding find same_bytes
  preconditions_kept v t e o = array_kept (a_rule not_null) (a_rule condition) (ascii "assert") rule_sorted v t (held_all (entries ms) (ascii "preconditions") v s e) o

  invariants_kept : Kept ms (ascii "invariants") (an_array_of (a_rule not_null)) (an_array_of (a_rule condition))
  unfolding find same_bytes
  invariants_kept v t e o = array_kept (a_rule not_null) (a_rule condition) (ascii "assert") rule_sorted v t (held_all (entries ms) (ascii "invariants") v s e) o

  outcomes_kept : Kept ms (ascii "outcomes") (an_array_of (an_outcome not_null)) (an_array_of (an_outcome condition))
  unfolding find same_bytes
  outcomes_kept v t e o = array_kept (an_outcome not_null) (an_outcome condition) (ascii "when") outcome_sorted v t (held_all (entries ms) (ascii "outcomes") v s e) o

-- what each member is read as
pub record SheetParts (ms : Members) (sheet : Sheet Condition) : Type 0 where
  pub whole : a_sheet condition (object ms) ≡ ok sheet
  pub id : optional a_text (ascii "id") ms ≡ ok sheet.id
  pub entity : required a_text (ascii "entity") ms ≡ ok sheet.entity
  pub version : required a_version (ascii "version") ms ≡ ok sheet.version
  pub args : required an_object (ascii "args") ms ≡ ok sheet.args
  pub fields : required an_object (ascii "fields") ms ≡ ok sheet.fields
  pub old_fields : required an_object (ascii "old_fields") ms ≡ ok sheet.old_fields
  pub from_state : optional a_text (ascii "from_state") ms ≡ ok sheet.from_state
  pub to_state : required a_text (ascii "to_state") ms ≡ ok sheet.to_state
  pub state : optional a_text (ascii "state") ms ≡ ok sheet.state
  pub states : required (an_array_of a_text) (ascii "states") ms ≡ ok sheet.states
  pub its_condition : optional condition (ascii "condition") ms ≡ ok sheet.condition
  pub preconditions : required (an_array_of (a_rule condition)) (ascii "preconditions") ms ≡ ok sheet.preconditions
  pub invariants : required (an_array_of (a_rule condition)) (ascii "invariants") ms ≡ ok sheet.invariants
  pub outcomes : required (an_array_of (an_outcome condition)) (ascii "outcomes") ms ≡ ok sheet.outcomes

-- fifteen tests at once
record AllTrue (b0 b1 b2 b3 b4 b5 b6 b7 b8 b9 b10 b11 b12 b13 b14 : Bool) : Type 0 where
  pub is0 : b0 ≡ true
  pub is1 : b1 ≡ true
  pub is2 : b2 ≡ true
  pub is3 : b3 ≡ true
  pub is4 : b4 ≡ true
  pub is5 : b5 ≡ true
  pub is6 : b6 ≡ true
  pub is7 : b7 ≡ true
  pub is8 : b8 ≡ true
  pub is9 : b9 ≡ true
  pub is10 : b10 ≡ true
  pub is11 : b11 ≡ true
  pub is12 : b12 ≡ true
  pub is13 : b13 ≡ true
  pub is14 : b14 ≡ true

all_true : (b0 b1 b2 b3 b4 b5 b6 b7 b8 b9 b10 b11 b12 b13 b14 : Bool) →
    (b0 && (b1 && (b2 && (b3 && (b4 && (b5 && (b6 && (b7 && (b8 && (b9 && (b10 && (b11 && (b12 && (b13 && b14)))))))))))))) ≡ true →
    AllTrue b0 b1 b2 b3 b4 b5 b6 b7 b8 b9 b10 b11 b12 b13 b14
all_true false b1 b2 b3 b4 b5 b6 b7 b8 b9 b10 b11 b12 b13 b14 e = let z : ◌≡◌ {A = ℕ} 0 1 = cc in absurd (omega arith)
all_true true false b2 b3 b4 b5 b6 b7 b8 b9 b10 b11 b12 b13 b14 e = let z : ◌≡◌ {A = ℕ} 0 1 = cc in absurd (omega arith)
all_true true true false b3 b4 b5 b6 b7 b8 b9 b10 b11 b12 b13 b14 e = let z : ◌≡◌ {A = ℕ} 0 1 = cc in absurd (omega arith)
all_true true true true false b4 b5 b6 b7 b8 b9 b10 b11 b12 b13 b14 e = let z : ◌≡◌ {A = ℕ} 0 1 = cc in absurd (omega arith)
all_true true true true true false b5 b6 b7 b8 b9 b10 b11 b12 b13 b14 e = let z : ◌≡◌ {A = ℕ} 0 1 = cc in absurd (omega arith)
all_true true true true true true false b6 b7 b8 b9 b10 b11 b12 b13 b14 e = let z : ◌≡◌ {A = ℕ} 0 1 = cc in absurd (omega arith)
all_true true true true true true true false b7 b8 b9 b10 b11 b12 b13 b14 e = let z : ◌≡◌ {A = ℕ} 0 1 = cc in absurd (omega arith)
all_true true true true true true true true false b8 b9 b10 b11 b12 b13 b14 e = let z : ◌≡◌ {A = ℕ} 0 1 = cc in absurd (omega arith)
all_true true true true true true true true true false b9 b10 b11 b12 b13 b14 e = let z : ◌≡◌ {A = ℕ} 0 1 = cc in absurd (omega arith)
all_true true true true true true true true true true false b10 b11 b12 b13 b14 e = let z : ◌≡◌ {A = ℕ} 0 1 = cc in absurd (omega arith)
all_true true true true true true true true true true true false b11 b12 b13 b14 e = let z : ◌≡◌ {A = ℕ} 0 1 = cc in absurd (omega arith)
all_true true true true true true true true true true true true false b12 b13 b14 e = let z : ◌≡◌ {A = ℕ} 0 1 = cc in absurd (omega arith)
all_true true true true true true true true true true true true true false b13 b14 e = let z : ◌≡◌ {A = ℕ} 0 1 = cc in absurd (omega arith)
all_true true true true true true true true true true true true true true false b14 e = let z : ◌≡◌ {A = ℕ} 0 1 = cc in absurd (omega arith)
all_true true true true true true true true true true true true true true true false e = let z : ◌≡◌ {A = ℕ} 0 1 = cc in absurd (omega arith)
all_true true true true true true true true true true true true true true true true e =
    record {
      is0 = refl;
      is1 = refl;
      is2 = refl;
      is3 = refl;
      is4 = refl;
      is5 = refl;
      is6 = refl;
      is7 = refl;
      is8 = refl;
      is9 = refl;
      is10 = refl;
      is11 = refl;
      is12 = refl;
      is13 = refl;
      is14 = refl;
    }

-- every member gives a value
record Given (ms : Members) : Type 0 where
  pub known : Okay (only sheet_names (keys ms))
  pub id : Okay (optional a_text (ascii "id") ms)
  pub entity : Okay (required a_text (ascii "entity") ms)
  pub version : Okay (required a_version (ascii "version") ms)
  pub args : Okay (required an_object (ascii "args") ms)
  pub fields : Okay (required an_object (ascii "fields") ms)
  pub old_fields : Okay (required an_object (ascii "old_fields") ms)
  pub from_state : Okay (optional a_text (ascii "from_state") ms)
  pub to_state : Okay (required a_text (ascii "to_state") ms)
  pub state : Okay (optional a_text (ascii "state") ms)
  pub states : Okay (required (an_array_of a_text) (ascii "states") ms)
  pub its_condition : Okay (optional condition (ascii "condition") ms)
  pub preconditions : Okay (required (an_array_of (a_rule condition)) (ascii "preconditions") ms)
  pub invariants : Okay (required (an_array_of (a_rule condition)) (ascii "invariants") ms)
  pub outcomes : Okay (required (an_array_of (an_outcome condition)) (ascii "outcomes") ms)

given_sorted : (ms : Members) → tidy_of max_number ms ≡ true → soundness_of ms ≡ None →
    AllTrue (is_ok (only sheet_names (keys ms))) (is_ok (optional a_text (ascii "id") ms)) (is_ok (required a_text (ascii "entity") ms))
    (is_ok (required a_version (ascii "version") ms)) (is_ok (required an_object (ascii "args") ms))
    (is_ok (required an_object (ascii "fields") ms)) (is_ok (required an_object (ascii "old_fields") ms))
    (is_ok (optional a_text (ascii "from_state") ms)) (is_ok (required a_text (ascii "to_state") ms)) (is_ok (optional a_text (ascii "state") ms))
    (is_ok (required (an_array_of a_text) (ascii "states") ms)) (is_ok (optional not_null (ascii "condition") ms))
    (is_ok (required (an_array_of (a_rule not_null)) (ascii "preconditions") ms))
    (is_ok (required (an_array_of (a_rule not_null)) (ascii "invariants") ms))
    (is_ok (required (an_array_of (an_outcome not_null)) (ascii "outcomes") ms)) → Given (sorted_of ms)
given_sorted ms u s f =
    record {
      known = only_okay sheet_names ms (okay (only sheet_names (keys ms)) f.is0);
      id = optional_sorted a_text a_text ms u (ascii "id") (kept a_text a_text_sorted ms (ascii "id")) (okay (optional a_text (ascii "id") ms) f.is1);
      entity = required_sorted a_text a_text ms u (ascii "entity") (kept a_text a_text_sorted ms (ascii "entity")) (okay (required a_text (ascii "entity") ms) f.is2);
      version = required_sorted a_version a_version ms u (ascii "version") (kept a_version a_version_sorted ms (ascii "version")) (okay (required a_version (ascii "version") ms) f.is3);
      args = required_sorted an_object an_object ms u (ascii "args") (object_kept ms (ascii "args")) (okay (required an_object (ascii "args") ms) f.is4);
      fields = required_sorted an_object an_object ms u (ascii "fields") (object_kept ms (ascii "fields")) (okay (required an_object (ascii "fields") ms) f.is5);
      old_fields = required_sorted an_object an_object ms u (ascii "old_fields") (object_kept ms (ascii "old_fields")) (okay (required an_object (ascii "old_fields") ms) f.is6);
      from_state = optional_sorted a_text a_text ms u (ascii "from_state") (kept a_text a_text_sorted ms (ascii "from_state")) (okay (optional a_text (ascii "from_state") ms) f.is7);
      to_state = required_sorted a_text a_text ms u (ascii "to_state") (kept a_text a_text_sorted ms (ascii "to_state")) (okay (required a_text (ascii "to_state") ms) f.is8);
      state = optional_sorted a_text a_text ms u (ascii "state") (kept a_text a_text_sorted ms (ascii "state")) (okay (optional a_text (ascii "state") ms) f.is9);
      states =
          required_sorted (an_array_of a_text) (an_array_of a_text) ms u (ascii "states")
          (kept (an_array_of a_text) texts_sorted ms (ascii "states")) (okay (required (an_array_of a_text) (ascii "states") ms) f.is10);
      its_condition = optional_sorted not_null condition ms u (ascii "condition") (condition_kept ms s) (okay (optional not_null (ascii "condition") ms) f.is11);
      preconditions =
          required_sorted (an_array_of (a_rule not_null)) (an_array_of (a_rule condition)) ms u (ascii "preconditions") (preconditions_kept ms s)
          (okay (required (an_array_of (a_rule not_null)) (ascii "preconditions") ms) f.is12);
      invariants =
          required_sorted (an_array_of (a_rule not_null)) (an_array_of (a_rule condition)) ms u (ascii "invariants") (invariants_kept ms s)
          (okay (required (an_array_of (a_rule not_null)) (ascii "invariants") ms) f.is13);
      outcomes =
          required_sorted (an_array_of (an_outcome not_null)) (an_array_of (an_outcome condition)) ms u (ascii "outcomes") (outcomes_kept ms s)
          (okay (required (an_array_of (an_outcome not_null)) (ascii "outcomes") ms) f.is14);
    }

given_sheet : (ms : Members) → Given ms → (sheet : Sheet Condition) × SheetParts ms sheet
unfolding a_sheet
given_sheet ms g = (
  record {
    id = g.id.0;
    entity = g.entity.0;
    version = g.version.0;
    args = g.args.0;
    fields = g.fields.0;
    old_fields = g.old_fields.0;
    from_state = g.from_state.0;
    to_state = g.to_state.0;
    state = g.state.0;
    states = g.states.0;
    condition = g.its_condition.0;
    preconditions = g.preconditions.0;
    invariants = g.invariants.0;
    outcomes = g.outcomes.0;
  },
  record {
    whole = bind_ok _ g.known.1 ∙
        bind_ok _ g.id.1 ∙
        bind_ok _ g.entity.1 ∙
        bind_ok _ g.version.1 ∙
        bind_ok _ g.args.1 ∙
        bind_ok _ g.fields.1 ∙
        bind_ok _ g.old_fields.1 ∙
        bind_ok _ g.from_state.1 ∙
        bind_ok _ g.to_state.1 ∙
        bind_ok _ g.state.1 ∙
        bind_ok _ g.states.1 ∙
        bind_ok _ g.its_condition.1 ∙
        bind_ok _ g.preconditions.1 ∙
        bind_ok _ g.invariants.1 ∙
        bind_ok _ g.outcomes.1;
    id = g.id.1;
    entity = g.entity.1;
    version = g.version.1;
    args = g.args.1;
    fields = g.fields.1;
    old_fields = g.old_fields.1;
    from_state = g.from_state.1;
    to_state = g.to_state.1;
    state = g.state.1;
    states = g.states.1;
    its_condition = g.its_condition.1;
    preconditions = g.preconditions.1;
    invariants = g.invariants.1;
    outcomes = g.outcomes.1;
  },
)

pub sheet_sorted : (ms : Members) → tidy_of max_number ms ≡ true → soundness_of ms ≡ None → is_ok (a_sheet not_null (object ms)) ≡ true →
    (sheet : Sheet Condition) × SheetParts (sorted_of ms) sheet
sheet_sorted ms u s o = given_sheet (sorted_of ms) (given_sorted ms u s (all_true _ _ _ _ _ _ _ _ _ _ _ _ _ _ _ (sym (sheet_parts ms) ∙ o)))
