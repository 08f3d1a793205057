-- What holds of a value and of all that stands in it holds of the texts and operands of a sheet that is read from it; reading refuses without a line.
-- Assumes nothing.
use mathlib.Core.Bool.{Bool, false, true}
use mathlib.Core.List.{List, [], ◌∷◌}
use Rattle.std.specs.Prelude.{Option, None, Some}
use Prim.Native.Nat.{ℕ}
use native.Mathlib.Omega.{arith}
use lib.Dec.{eqb}
use lib.ListN.{length}
use Rattle.answers.specs.Line.{refusal_form}
use Rattle.json_text.specs.Bytes.{Bytes, ascii, find, is_one_of, same_bytes}
use Rattle.json_text.specs.Fault as fault
use Rattle.json_text.specs.Fault.{FirstFault, StandsAt}
use Rattle.json_text.specs.Json.{Members, Value, Values, array, as_text, bool, cons, elements, empty, entries, keys, member, nil, null, number, object, text}
use Rattle.json_text.specs.Refusal.{Refusal, Result, not_carried, ok, or_else, refused, wrong_shape, wrong_sheet, ◌>>=◌}
use Rattle.json_text.specs.Tally.{Tally}
use Rattle.members.specs.Condition.{
  Condition,
  Conditions,
  Form,
  Mode,
  Operator,
  condition,
  condition_array,
  condition_object,
  conditions_in,
  conditions_of,
  formed,
  one_member,
  op_exists,
  op_junction,
  op_negation,
  op_not_carried,
  op_pair,
  op_quantified,
  operators,
  pair,
  quantified,
  quantifier,
  two_of,
}
use Rattle.members.specs.Kinds.{a_bool, a_text, a_version, an_array_of, an_object, each_of, is_version, only, optional, required, some_texts}
use Rattle.members.specs.Outcome.{Effect, Outcome, a_move, an_effect, an_outcome, effect_words, moves, or_stays, stays}
use Rattle.members.specs.Rule.{Rule, a_rule}
use Rattle.members.specs.Sheet.{Sheet, a_sheet, sheet_names}
use Rattle.semantics.proofs.Parts.{All, Entries, Hereditary, Operands, OperandsIn}
use Rattle.exports.proofs.Named.{Fine, Shown, fine, fine_then, shown}

abbrev pub Anything : {A : Type 0} → A → Type 0
Anything a = Unit {0}

-- 2 to 11 have no line
pub not_sheet : {A : Type 0} {P : A → Type 0} → Fine P (refused wrong_sheet)
unfolding refusal_form
not_sheet = shown {r = wrong_sheet} (omega arith)

not_shape : {A : Type 0} {P : A → Type 0} → Fine P (refused wrong_shape)
unfolding refusal_form
not_shape = shown {r = wrong_shape} (omega arith)

not_carried_lem : {A : Type 0} {P : A → Type 0} → Fine P (refused not_carried)
unfolding refusal_form
not_carried_lem = shown {r = not_carried} (omega arith)

pub fault_shown : {s : Bytes} {q : Refusal} → FirstFault s q → Shown q
unfolding refusal_form
fault_shown (fault.long h) = omega arith
fault_shown (fault.undecoded h k) = omega arith
fault_shown (fault.unspelled h k n) = omega arith
fault_shown (fault.past {q} h k p) = go p.stands
  where
    go : {before : Tally} {c : ℕ} {r : Refusal} → StandsAt before c r → Shown r
    go (fault.bracket e a b) = omega arith
    go (fault.numeral e a b) = omega arith
    go (fault.begins e a b) = omega arith
    go (fault.quote e a) = omega arith

-- what a table holds under a name
abbrev pub Maybe : {A : Type 0} → (A → Type 0) → Option A → Type 0
Maybe P None = Unit {0}
Maybe P (Some a) = P a

pub maybe_found : {A : Type 0} (P : A → Type 0) (k : Bytes) (xs : List (Bytes × A)) → Entries P xs → Maybe P (find k xs)
unfolding find
maybe_found P k [] h = tt
maybe_found {A} P k (x ∷ xs) h = go (maybe_found P k xs h.1) (same_bytes k x.0)
  where
    go : Maybe P (find k xs) → (b : Bool) → Maybe {A = A} P (elim b [ true ↦ Some x.1 | false ↦ find k xs ])
    go rest true = h.0
    go rest false = rest

module _ (P : Value → Type 0) (parts : Hereditary P) where
  -- ---- conditions
  abbrev Sub : Value × Result Condition → Type 0
  Sub x = P x.0 × Fine (Operands P) x.1

  or_shape : {A : Type 0} (Q : A → Type 0) (x : Option A) → Maybe Q x → Fine Q (or_else x wrong_shape)
  or_shape Q None h = not_shape
  or_shape Q (Some a) h = fine h

  any_shape : {A : Type 0} (x : Option A) → Fine Anything (or_else x wrong_shape)
  any_shape None = not_shape
  any_shape (Some a) = fine tt

  two_fine : (f : Form) (v : Value) → P v → Fine (Operands P) (two_of f v)
  unfolding Operands
  two_fine f null h = not_shape
  two_fine f (bool b) h = not_shape
  two_fine f (number s) h = not_shape
  two_fine f (text s) h = not_shape
  two_fine f (object ms) h = not_shape
  two_fine f (array nil) h = not_shape
  two_fine f (array (cons v nil)) h = not_shape
  two_fine f (array (cons v (cons w nil))) h = let k = parts.in_array _ h in fine {a = pair f v w} (k.0, k.1.0)
  two_fine f (array (cons v (cons w (cons x vs)))) h = not_shape

  quantifier_fine : (m : Mode) (ps : List (Bytes × (Value × Result Condition))) → Entries Sub ps → Fine (Operands P) (quantifier m ps)
  unfolding quantifier Operands
  quantifier_fine m ps h = go (eqb (length ps) 3)
    where
      parted : (over bind body : Value × Result Condition) → Sub over → Sub body →
          Fine (Operands P) (or_else (as_text bind.0) wrong_shape >>= λ name. (body.1 >>= λ c. ok (quantified m over.0 name c)))
      parted over bind body h₁ h₃ =
          fine_then _ (any_shape (as_text bind.0)) λ name _.
          fine_then _ h₃.1 λ c k.
          fine (h₁.0, k)

      found : (k : Bytes) → Fine Sub (or_else (find k ps) wrong_shape)
      found k = or_shape Sub (find k ps) (maybe_found Sub k ps h)

      go : (b : Bool) →
          Fine (Operands P)
          (elim b [
            | false ↦ refused wrong_shape
            | true ↦
                (or_else (find (ascii "in") ps) wrong_shape >>= λ over.
                (or_else (find (ascii "as") ps) wrong_shape >>= λ bind.
                (or_else (find (ascii "that") ps) wrong_shape >>= λ body.
                (or_else (as_text bind.0) wrong_shape >>= λ name. (body.1 >>= λ c. ok (quantified m over.0 name c))))))
          ])
      go false = not_shape
      go true =
          fine_then _ (found (ascii "in")) λ over h₁.
          fine_then _ (found (ascii "as")) λ bind h₂.
          fine_then _ (found (ascii "that")) λ body h₃.
          parted over bind body h₁ h₃

  formed_fine :
      (v : Value) (one : Result Condition) (several : Result Conditions) (ps : Result (List (Bytes × (Value × Result Condition)))) → P v →
      Fine (Operands P) one → Fine (OperandsIn P) several → Fine (Entries Sub) ps → (x : Option Operator) →
      Fine (Operands P) (formed v one several ps x)
  unfolding Operands
  formed_fine v one several ps h k l n None = not_shape
  formed_fine v one several ps h k l n (Some (op_junction m)) = fine_then _ l λ cs j. fine j
  formed_fine v one several ps h k l n (Some op_negation) = fine_then _ k λ c j. fine j
  formed_fine v one several ps h k l n (Some op_exists) = fine h
  formed_fine v one several ps h k l n (Some (op_pair f)) = two_fine f v h
  formed_fine v one several ps h k l n (Some (op_quantified m)) = fine_then _ n λ qs j. quantifier_fine m qs j
  formed_fine v one several ps h k l n (Some op_not_carried) = not_carried_lem

  mutual
    unfolding condition Operands

    pub condition_fine : (v : Value) → P v → Fine (Operands P) (condition v)
    condition_fine null h = not_shape
    condition_fine (bool b) h = fine tt
    condition_fine (number s) h = not_shape
    condition_fine (text s) h = not_shape
    condition_fine (array vs) h = not_shape
    condition_fine (object ms) h = member_fine ms (parts.in_object ms h)

    member_fine : (ms : Members) → Entries P (entries ms) → Fine (Operands P) (one_member ms)
    member_fine empty h = not_shape
    member_fine (member k v (member l w ms)) h = not_shape
    member_fine (member k v empty) h =
        formed_fine v (condition v) (condition_array v) (condition_object v) h.0 (condition_fine v h.0) (array_fine v h.0)
        (object_fine v h.0) (find k operators)

    array_fine : (v : Value) → P v → Fine (OperandsIn P) (condition_array v)
    array_fine null h = not_shape
    array_fine (bool b) h = not_shape
    array_fine (number s) h = not_shape
    array_fine (text s) h = not_shape
    array_fine (array vs) h = in_fine vs (parts.in_array vs h)
    array_fine (object ms) h = not_shape

    in_fine : (vs : Values) → All P (elements vs) → Fine (OperandsIn P) (conditions_in vs)
    in_fine nil h = fine tt
    in_fine (cons v vs) h = fine_then _ (condition_fine v h.0) λ c k. fine_then _ (in_fine vs h.1) λ cs l. fine (k, l)

    object_fine : (v : Value) → P v → Fine (Entries Sub) (condition_object v)
    object_fine null h = not_shape
    object_fine (bool b) h = not_shape
    object_fine (number s) h = not_shape
    object_fine (text s) h = not_shape
    object_fine (array vs) h = not_shape
    object_fine (object ms) h = fine (of_fine ms (parts.in_object ms h))

    of_fine : (ms : Members) → Entries P (entries ms) → Entries Sub (conditions_of ms)
    of_fine empty h = tt
    of_fine (member k v ms) h = ((h.0, condition_fine v h.0), of_fine ms h.1)

  -- ---- members by their kinds
  or_sheet : {A : Type 0} (Q : A → Type 0) (x : Option A) → Maybe Q x → Fine Q (or_else x wrong_sheet)
  or_sheet Q None h = not_sheet
  or_sheet Q (Some a) h = fine h

  only_of : (allowed ks : List Bytes) → Fine Anything (only allowed ks)
  unfolding only
  only_of allowed [] = fine tt
  only_of allowed (k ∷ ks) = go (only_of allowed ks) (is_one_of k allowed)
    where
      go : Fine Anything (only allowed ks) → (b : Bool) → Fine {A = Bool} Anything (elim b [ true ↦ only allowed ks | false ↦ refused wrong_sheet ])
      go rest true = rest
      go rest false = not_sheet

  pub object_of : (v : Value) → P v → Fine (λ ms. P (object ms)) (an_object v)
  object_of null h = not_sheet
  object_of (bool b) h = not_sheet
  object_of (number s) h = not_sheet
  object_of (text s) h = not_sheet
  object_of (array vs) h = not_sheet
  object_of (object ms) h = fine h

  abbrev pub TextHas : Bytes → Type 0
  TextHas t = P (text t)

  text_of : (v : Value) → P v → Fine TextHas (a_text v)
  text_of null h = not_sheet
  text_of (bool b) h = not_sheet
  text_of (number s) h = not_sheet
  text_of (text s) h = fine h
  text_of (array vs) h = not_sheet
  text_of (object ms) h = not_sheet

  bool_of : (v : Value) → P v → Fine Anything (a_bool v)
  bool_of null h = not_sheet
  bool_of (bool b) h = fine tt
  bool_of (number s) h = not_sheet
  bool_of (text s) h = not_sheet
  bool_of (array vs) h = not_sheet
  bool_of (object ms) h = not_sheet

  version_of : (v : Value) → P v → Fine Anything (a_version v)
  unfolding a_version
  version_of null h = not_sheet
  version_of (bool b) h = not_sheet
  version_of (number s) h = go (is_version s)
    where
      go : (b : Bool) → Fine {A = Bytes} Anything (elim b [ true ↦ ok s | false ↦ refused wrong_sheet ])
      go true = fine tt
      go false = not_sheet
  version_of (text s) h = not_sheet
  version_of (array vs) h = not_sheet
  version_of (object ms) h = not_sheet

  module _ {A : Type 0} (kind : Value → Result A) (Q : A → Type 0) (has : (v : Value) → P v → Fine Q (kind v)) where
    required_of : (k : Bytes) (ms : Members) → Entries P (entries ms) → Fine Q (required kind k ms)
    required_of k ms h = fine_then kind (or_sheet P (find k (entries ms)) (maybe_found P k (entries ms) h)) has

    optional_of : (k : Bytes) (ms : Members) → Entries P (entries ms) → Fine (Maybe Q) (optional kind k ms)
    optional_of k ms h = go (find k (entries ms)) (maybe_found P k (entries ms) h)
      where
        go : (x : Option Value) → Maybe P x → Fine (Maybe Q) (elim x [ None ↦ ok None | Some v ↦ (kind v >>= λ a. ok (Some a)) ])
        go None n = fine {a = None} tt
        go (Some v) n = fine_then _ (has v n) λ a q. fine {a = Some a} q

    each_of_lem : (vs : List Value) → All P vs → Fine (All Q) (each_of kind vs)
    unfolding each_of
    each_of_lem [] h = fine {a = []} tt
    each_of_lem (v ∷ vs) h = fine_then _ (has v h.0) λ a q. fine_then _ (each_of_lem vs h.1) λ xs qs. fine {a = a ∷ xs} (q, qs)

    array_of : (v : Value) → P v → Fine (All Q) (an_array_of kind v)
    array_of null h = not_sheet
    array_of (bool b) h = not_sheet
    array_of (number s) h = not_sheet
    array_of (text s) h = not_sheet
    array_of (array vs) h = each_of_lem (elements vs) (parts.in_array vs h)
    array_of (object ms) h = not_sheet

  -- ---- rules, outcomes and the sheet, over what is known of a move's sources and of a condition
  module _ (S : List Bytes → Type 0) (sources_of : (v : Value) → P v → Fine S (some_texts v)) where
    abbrev pub From : Effect → Type 0
    From stays = Unit {0}
    From (moves to from) = S from

    or_stays_lem : (x : Option Effect) → Maybe From x → From (or_stays x)
    or_stays_lem None h = tt
    or_stays_lem (Some e) h = h

    move_of : (v : Value) → P v → Fine From (a_move v)
    unfolding a_move
    move_of v h =
        fine_then _ (object_of v h) λ ms k.
        fine_then _ (only_of (ascii "to" ∷ ascii "from" ∷ []) (keys ms)) λ _ _.
        fine_then _ (required_of a_text TextHas text_of (ascii "to") ms (parts.in_object ms k)) λ to _.
        fine_then _ (required_of some_texts S sources_of (ascii "from") ms (parts.in_object ms k)) λ from l.
        fine {a = moves to from} l

    effect_of : (v : Value) → P v → Fine From (an_effect v)
    unfolding an_effect
    effect_of v h = go (as_text v)
      where
        go : (x : Option Bytes) →
            Fine From
            (elim x [
              | Some s ↦ or_else (find s effect_words) wrong_sheet
              | None ↦
                  (an_object v >>= λ ms. (only (ascii "moves" ∷ []) (keys ms) >>= λ _. required a_move (ascii "moves") ms))
            ])
        go (Some s) = or_sheet From (find s effect_words) (maybe_found From s effect_words (tt, (tt, (tt, tt))))
        go None =
            fine_then _ (object_of v h) λ ms k.
            fine_then _ (only_of (ascii "moves" ∷ []) (keys ms)) λ _ _.
            required_of a_move From move_of (ascii "moves") ms (parts.in_object ms k)

    module _ {C : Type 0} (kind : Value → Result C) (Q : C → Type 0) (has : (v : Value) → P v → Fine Q (kind v)) where
      pub record RuleOf (r : Rule C) : Type 0 where
        pub name : Maybe TextHas r.name
        pub message : Maybe TextHas r.message
        pub assert : Q r.assert

      rule_of : (v : Value) → P v → Fine RuleOf (a_rule kind v)
      unfolding a_rule
      rule_of v h =
          fine_then _ (object_of v h) λ ms k.
          fine_then _ (only_of (ascii "assert" ∷ ascii "name" ∷ ascii "message" ∷ []) (keys ms)) λ _ _.
          let p = parts.in_object ms k in
          fine_then _ (required_of kind Q has (ascii "assert") ms p) λ c q.
          fine_then _ (optional_of a_text TextHas text_of (ascii "name") ms p) λ n a.
          fine_then _ (optional_of a_text TextHas text_of (ascii "message") ms p) λ m b.
          fine (record { name = a; message = b; assert = q })

      pub record OutcomeOf (o : Outcome C) : Type 0 where
        pub name : TextHas o.name
        pub when : Maybe Q o.when
        pub effect : From o.effect

      outcome_of : (v : Value) → P v → Fine OutcomeOf (an_outcome kind v)
      unfolding an_outcome
      outcome_of v h =
          fine_then _ (object_of v h) λ ms k.
          fine_then _ (only_of (ascii "name" ∷ ascii "when" ∷ ascii "in_state" ∷ ascii "wrong_state" ∷ ascii "effect" ∷ []) (keys ms)) λ _ _.
          let p = parts.in_object ms k in
          fine_then _ (required_of a_text TextHas text_of (ascii "name") ms p) λ n a.
          fine_then _ (optional_of kind Q has (ascii "when") ms p) λ c b.
          fine_then _ (optional_of a_text TextHas text_of (ascii "in_state") ms p) λ i _.
          fine_then _ (optional_of a_bool Anything bool_of (ascii "wrong_state") ms p) λ w _.
          fine_then _ (optional_of an_effect From effect_of (ascii "effect") ms p) λ e d.
          fine (record { name = a; when = b; effect = or_stays_lem e d })

      pub record SheetOf (sheet : Sheet C) : Type 0 where
        pub state : Maybe TextHas sheet.state
        pub condition : Maybe Q sheet.condition
        pub preconditions : All RuleOf sheet.preconditions
        pub invariants : All RuleOf sheet.invariants
        pub outcomes : All OutcomeOf sheet.outcomes

      pub sheet_of : (v : Value) → P v → Fine SheetOf (a_sheet kind v)
      unfolding a_sheet
      sheet_of v h =
          fine_then _ (object_of v h) λ ms k.
          fine_then _ (only_of sheet_names (keys ms)) λ _ _.
          let p = parts.in_object ms k in
          fine_then _ (optional_of a_text TextHas text_of (ascii "id") ms p) λ i _.
          fine_then _ (required_of a_text TextHas text_of (ascii "entity") ms p) λ e _.
          fine_then _ (required_of a_version Anything version_of (ascii "version") ms p) λ n _.
          fine_then _ (required_of an_object (λ ns. P (object ns)) object_of (ascii "args") ms p) λ a _.
          fine_then _ (required_of an_object (λ ns. P (object ns)) object_of (ascii "fields") ms p) λ f _.
          fine_then _ (required_of an_object (λ ns. P (object ns)) object_of (ascii "old_fields") ms p) λ o _.
          fine_then _ (optional_of a_text TextHas text_of (ascii "from_state") ms p) λ fs _.
          fine_then _ (required_of a_text TextHas text_of (ascii "to_state") ms p) λ to _.
          fine_then _ (optional_of a_text TextHas text_of (ascii "state") ms p) λ st x.
          fine_then _ (required_of (an_array_of a_text) (All TextHas) (array_of a_text TextHas text_of) (ascii "states") ms p) λ ss _.
          fine_then _ (optional_of kind Q has (ascii "condition") ms p) λ c q.
          fine_then _ (required_of (an_array_of (a_rule kind)) (All RuleOf) (array_of (a_rule kind) RuleOf rule_of) (ascii "preconditions") ms p) λ ps y.
          fine_then _ (required_of (an_array_of (a_rule kind)) (All RuleOf) (array_of (a_rule kind) RuleOf rule_of) (ascii "invariants") ms p) λ is z.
          fine_then _ (required_of (an_array_of (an_outcome kind)) (All OutcomeOf) (array_of (an_outcome kind) OutcomeOf outcome_of) (ascii "outcomes") ms p) λ os w.
          fine (record { state = x; condition = q; preconditions = y; invariants = z; outcomes = w })
