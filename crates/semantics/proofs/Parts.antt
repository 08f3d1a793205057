-- What holds of a value and of all that stands in it holds of the values of a sheet that is read from it, and of the operands written in its conditions.
-- Assumes nothing.
use mathlib.Core.Bool.{Bool, false, true}
use mathlib.Core.List.Memᴰ
use mathlib.Core.List.{List, Memᴰ, [], ◌∷◌}
use mathlib.Core.Logic.{inl, inr, ◌⊎◌}
use Rattle.std.specs.Prelude.{Option, None, Some}
use mathlib.Core.Path.{ap, refl, subst, sym, ◌∙◌, ◌≡◌}
use Prim.Native.Nat.{ℕ}
use native.Mathlib.Omega.{arith}
use lib.Dec.{eqb}
use lib.ListN.{length}
use Rattle.json_text.proofs.Laws.{ok_injective}
use Rattle.json_text.proofs.Sound.{bind_inv, bind_with, not_ok}
use Rattle.json_text.specs.Bytes.{Bytes, ascii, find, same_bytes}
use Rattle.json_text.specs.Json.{Members, Value, Values, array, as_text, bool, cons, elements, empty, entries, keys, member, nil, null, number, object, text}
use Rattle.json_text.specs.Refusal.{Refusal, Result, ok, or_else, refused, wrong_shape, wrong_sheet, not_carried, ◌>>=◌}
use Rattle.semantics.specs.Spelled.{ConditionOf, guard, invariant, its_own, precondition}
use Rattle.members.specs.Condition.{
  Condition,
  Conditions,
  Form,
  Mode,
  Operator,
  also,
  condition,
  condition_array,
  condition_object,
  conditions_in,
  conditions_of,
  exists,
  junction,
  literal,
  negation,
  no_more,
  one_member,
  op_exists,
  op_junction,
  op_negation,
  op_not_carried,
  op_pair,
  op_quantified,
  operators,
  pair,
  quantified,
  quantifier,
  two_of,
}
use Rattle.members.specs.Kinds.{a_bool, a_text, a_version, an_array_of, an_object, each_of, is_version, only, optional, required}
use Rattle.members.specs.Outcome.{Outcome, an_effect, an_outcome}
use Rattle.members.specs.Rule.{Rule, a_rule}
use Rattle.members.specs.Sheet.{Sheet, a_sheet, sheet_names}

-- ---- of each in a list, and of each entry of a table
abbrev pub All : {A : Type 0} → (A → Type 0) → List A → Type 0
All P [] = Unit {0}
All P (x ∷ xs) = P x × All P xs

pub all_member : {A : Type 0} (P : A → Type 0) (xs : List A) {x : A} → All P xs → Memᴰ x xs → P x
all_member P [] h m = absurd (Memᴰ.not-nil m)
all_member P (y ∷ xs) {x} h m = go (λ n. all_member P xs h.1 n) (Memᴰ.cases_cons m)
  where
    go : (Memᴰ x xs → P x) → (x ≡ y) ⊎ Memᴰ x xs → P x
    go rest (inl e) = subst P (sym e) h.0
    go rest (inr n) = rest n

abbrev pub Entries : {A : Type 0} → (A → Type 0) → List (Bytes × A) → Type 0
Entries P [] = Unit {0}
Entries P (x ∷ xs) = P x.1 × Entries P xs

pub none_some : {A X : Type 0} (a : A) → None ≡ Some a → X
none_some a e = let z : ◌≡◌ {A = ℕ} 0 1 = cc in absurd (omega arith)

pub find_entry : {A : Type 0} (P : A → Type 0) (k : Bytes) (xs : List (Bytes × A)) {a : A} → Entries P xs → find k xs ≡ Some a → P a
unfolding find
find_entry P k [] h e = none_some _ e
find_entry {A} P k (x ∷ xs) {a} h e = go (find_entry P k xs h.1) (same_bytes k x.0) refl
  where
    go : (find k xs ≡ Some a → P a) → (b : Bool) → same_bytes k x.0 ≡ b → P a
    go rest true q = let z : x.1 ≡ a = (let y = rw (q, find) at e in cc) in subst P z h.0
    go rest false q = rest (rw (q, find) at e)

or_inv : {A : Type 0} (x : Option A) (r : Refusal) {a : A} → or_else x r ≡ ok a → x ≡ Some a
or_inv None r e = not_ok r e
or_inv (Some b) r e = cc

-- ---- what a value hands on to its parts, and what is known of a condition's operands
pub record Hereditary (P : Value → Type 0) : Type 0 where
  pub in_array : (vs : Values) → P (array vs) → All P (elements vs)
  pub in_object : (ms : Members) → P (object ms) → Entries P (entries ms)

module _ (P : Value → Type 0) where
  unfoldable mutual
    pub Operands : Condition → Type 0
    Operands (literal b) = Unit {0}
    Operands (junction m cs) = OperandsIn cs
    Operands (negation c) = Operands c
    Operands (exists v) = P v
    Operands (pair f v w) = P v × P w
    Operands (quantified m v x c) = P v × Operands c

    pub OperandsIn : Conditions → Type 0
    OperandsIn no_more = Unit {0}
    OperandsIn (also c cs) = Operands c × OperandsIn cs

  -- the values that expressions start from, and every condition
  pub record SheetHas (sheet : Sheet Condition) : Type 0 where
    pub version : P (number sheet.version)
    pub args : P (object sheet.args)
    pub fields : P (object sheet.fields)
    pub old_fields : P (object sheet.old_fields)
    pub conditions : {c : Condition} → ConditionOf sheet c → Operands c

-- ---- conditions: their operands are parts of the value that they are read from
module _ (P : Value → Type 0) (parts : Hereditary P) where
  -- a member of a quantifier, and what it is as a condition
  abbrev Sub : Value × Result Condition → Type 0
  Sub x = P x.0 × ((c : Condition) → x.1 ≡ ok c → Operands P c)

  two_has : (f : Form) (v : Value) {c : Condition} → P v → two_of f v ≡ ok c → Operands P c
  unfolding Operands
  two_has f null h e = not_ok wrong_shape e
  two_has f (bool b) h e = not_ok wrong_shape e
  two_has f (number s) h e = not_ok wrong_shape e
  two_has f (text s) h e = not_ok wrong_shape e
  two_has f (object ms) h e = not_ok wrong_shape e
  two_has f (array nil) h e = not_ok wrong_shape e
  two_has f (array (cons v nil)) h e = not_ok wrong_shape e
  two_has f (array (cons v (cons w nil))) {c} h e = let z : pair f v w ≡ c = cc in let k = parts.in_array _ h in subst (Operands P) z (k.0, k.1.0)
  two_has f (array (cons v (cons w (cons x vs)))) h e = not_ok wrong_shape e

  quantifier_has : (m : Mode) (ps : List (Bytes × (Value × Result Condition))) {c : Condition} → Entries Sub ps → quantifier m ps ≡ ok c → Operands P c
  unfolding quantifier Operands
  quantifier_has m ps {c} h e = go (eqb (length ps) 3) refl
    where
      go : (b : Bool) → eqb (length ps) 3 ≡ b → Operands P c
      go false q = not_ok wrong_shape (rw (q, quantifier) at e)
      go true q =
          bind_with (or_else (find (ascii "in") ps) wrong_shape) _ (rw (q, quantifier) at e) λ over p₁ e₁.
          bind_with (or_else (find (ascii "as") ps) wrong_shape) _ e₁ λ bind p₂ e₂.
          bind_with (or_else (find (ascii "that") ps) wrong_shape) _ e₂ λ body p₃ e₃.
          bind_with (or_else (as_text bind.0) wrong_shape) _ e₃ λ name p₄ e₄.
          bind_with body.1 _ e₄ λ d p₅ e₅.
          let s₁ = find_entry Sub (ascii "in") ps h (or_inv (find (ascii "in") ps) wrong_shape p₁) in
          let s₃ = find_entry Sub (ascii "that") ps h (or_inv (find (ascii "that") ps) wrong_shape p₃) in
          subst (Operands P) (ok_injective e₅) (s₁.0, s₃.1 d p₅)

  one_has : (k : Bytes) (v : Value) (ms : Members) (c : Condition) → P v → ((d : Condition) → condition v ≡ ok d → Operands P d) →
      ((cs : Conditions) → condition_array v ≡ ok cs → OperandsIn P cs) →
      ((ps : List (Bytes × (Value × Result Condition))) → condition_object v ≡ ok ps → Entries Sub ps) → one_member (member k v ms) ≡ ok c →
      Operands P c
  unfolding condition Operands
  one_has k v (member l w more) c h one all body e = not_ok wrong_shape e
  one_has k v empty c h one all body e = go (find k operators) refl
    where
      carried : (op : Operator) → find k operators ≡ Some op → Operands P c
      carried (op_junction m) q = bind_with (condition_array v) _ (rw (q, one_member) at e) λ cs p e₁. subst (Operands P) (ok_injective e₁) (all cs p)
      carried op_negation q = bind_with (condition v) _ (rw (q, one_member) at e) λ d p e₁. subst (Operands P) (ok_injective e₁) (one d p)
      carried op_exists q = subst (Operands P) (ok_injective (rw (q, one_member) at e)) h
      carried (op_pair f) q = two_has f v h (rw (q, one_member) at e)
      carried (op_quantified m) q = bind_with (condition_object v) _ (rw (q, one_member) at e) λ ps p e₁. quantifier_has m ps (body ps p) e₁
      carried op_not_carried q = not_ok not_carried (rw (q, one_member) at e)

      go : (x : Option Operator) → find k operators ≡ x → Operands P c
      go None q = not_ok wrong_shape (rw (q, one_member) at e)
      go (Some op) q = carried op q

  mutual
    unfolding condition Operands

    pub condition_has : (v : Value) (c : Condition) → P v → condition v ≡ ok c → Operands P c
    condition_has null c h e = not_ok wrong_shape e
    condition_has (bool b) c h e = subst (Operands P) (ok_injective e) tt
    condition_has (number s) c h e = not_ok wrong_shape e
    condition_has (text s) c h e = not_ok wrong_shape e
    condition_has (array vs) c h e = not_ok wrong_shape e
    condition_has (object ms) c h e = one_member_has ms c (parts.in_object ms h) e

    one_member_has : (ms : Members) (c : Condition) → Entries P (entries ms) → one_member ms ≡ ok c → Operands P c
    one_member_has empty c h e = not_ok wrong_shape e
    one_member_has (member k v ms) c h e =
        one_has k v ms c h.0 (λ d q. condition_has v d h.0 q) (λ cs q. condition_array_has v cs h.0 q)
        (λ ps q. condition_object_has v ps h.0 q) e

    condition_array_has : (v : Value) (cs : Conditions) → P v → condition_array v ≡ ok cs → OperandsIn P cs
    condition_array_has null cs h e = not_ok wrong_shape e
    condition_array_has (bool b) cs h e = not_ok wrong_shape e
    condition_array_has (number s) cs h e = not_ok wrong_shape e
    condition_array_has (text s) cs h e = not_ok wrong_shape e
    condition_array_has (array vs) cs h e = conditions_in_has vs cs (parts.in_array vs h) e
    condition_array_has (object ms) cs h e = not_ok wrong_shape e

    conditions_in_has : (vs : Values) (cs : Conditions) → All P (elements vs) → conditions_in vs ≡ ok cs → OperandsIn P cs
    conditions_in_has nil cs h e = subst (OperandsIn P) (ok_injective e) tt
    conditions_in_has (cons v vs) cs h e =
        let a = bind_inv (condition v) _ e in
        let b = bind_inv (conditions_in vs) _ a.2 in
        subst (OperandsIn P) (ok_injective b.2) (condition_has v a.0 h.0 a.1, conditions_in_has vs b.0 h.1 b.1)

    condition_object_has : (v : Value) (ps : List (Bytes × (Value × Result Condition))) → P v → condition_object v ≡ ok ps → Entries Sub ps
    condition_object_has null ps h e = not_ok wrong_shape e
    condition_object_has (bool b) ps h e = not_ok wrong_shape e
    condition_object_has (number s) ps h e = not_ok wrong_shape e
    condition_object_has (text s) ps h e = not_ok wrong_shape e
    condition_object_has (array vs) ps h e = not_ok wrong_shape e
    condition_object_has (object ms) ps h e = subst (Entries Sub) (ok_injective e) (conditions_of_has ms (parts.in_object ms h))

    conditions_of_has : (ms : Members) → Entries P (entries ms) → Entries Sub (conditions_of ms)
    conditions_of_has empty h = tt
    conditions_of_has (member k v ms) h = ((h.0, λ c e. condition_has v c h.0 e), conditions_of_has ms h.1)

  -- ---- the members of an object, by their kinds
  object_has : (v : Value) (ms : Members) → P v → an_object v ≡ ok ms → P (object ms)
  object_has null ms h e = not_ok wrong_sheet e
  object_has (bool b) ms h e = not_ok wrong_sheet e
  object_has (number s) ms h e = not_ok wrong_sheet e
  object_has (text s) ms h e = not_ok wrong_sheet e
  object_has (array vs) ms h e = not_ok wrong_sheet e
  object_has (object ns) ms h e = subst (λ (x : Members). P (object x)) (ok_injective e) h

  version_has : (v : Value) (s : Bytes) → P v → a_version v ≡ ok s → P (number s)
  unfolding a_version
  version_has null s h e = not_ok wrong_sheet e
  version_has (bool b) s h e = not_ok wrong_sheet e
  version_has (number t) s h e = go (is_version t) e
    where
      go : (b : Bool) → ◌≡◌ {A = Result Bytes} (elim b [ true ↦ ok t | false ↦ refused wrong_sheet ]) (ok s) → P (number s)
      go false q = not_ok wrong_sheet q
      go true q = subst (λ (x : Bytes). P (number x)) (ok_injective q) h
  version_has (text t) s h e = not_ok wrong_sheet e
  version_has (array vs) s h e = not_ok wrong_sheet e
  version_has (object ms) s h e = not_ok wrong_sheet e

  module _ {A : Type 0} (kind : Value → Result A) (Q : A → Type 0) (has : (v : Value) (a : A) → P v → kind v ≡ ok a → Q a) where
    required_has : (k : Bytes) (ms : Members) {a : A} → Entries P (entries ms) → required kind k ms ≡ ok a → Q a
    required_has k ms {a} h e =
        bind_with (or_else (find k (entries ms)) wrong_sheet) kind e λ v p e₁. has v a
        (find_entry P k (entries ms) h (or_inv (find k (entries ms)) wrong_sheet p)) e₁

    optional_has : (k : Bytes) (ms : Members) {x : Option A} → Entries P (entries ms) → optional kind k ms ≡ ok x → (a : A) → x ≡ Some a → Q a
    optional_has k ms {x} h e a q = go (find k (entries ms)) refl e
      where
        go : (y : Option Value) → find k (entries ms) ≡ y → ◌≡◌ {A = Result (Option A)} (elim y [ None ↦ ok None | Some v ↦ (kind v >>= λ b. ok (Some b)) ]) (ok x) → Q a
        go None r z = none_some a (ok_injective z ∙ q)
        go (Some v) r z = bind_with (kind v) _ z λ b p e₁. let y : b ≡ a = cc in has v a (find_entry P k (entries ms) h r) (p ∙ ap {B = Result A} (λ u. ok u) y)

    each_has : (vs : Values) (xs : List A) → All P (elements vs) → each_of kind (elements vs) ≡ ok xs → All Q xs
    unfolding each_of
    each_has nil xs h e = subst (All Q) (ok_injective e) tt
    each_has (cons v vs) xs h e =
        let a = bind_inv (kind v) _ e in
        let b = bind_inv (each_of kind (elements vs)) _ a.2 in
        subst (All Q) (ok_injective b.2) (has v a.0 h.0 a.1, each_has vs b.0 h.1 b.1)

    array_has : (v : Value) (xs : List A) → P v → an_array_of kind v ≡ ok xs → All Q xs
    array_has null xs h e = not_ok wrong_sheet e
    array_has (bool b) xs h e = not_ok wrong_sheet e
    array_has (number s) xs h e = not_ok wrong_sheet e
    array_has (text s) xs h e = not_ok wrong_sheet e
    array_has (array vs) xs h e = each_has vs xs (parts.in_array vs h) e
    array_has (object ms) xs h e = not_ok wrong_sheet e

  -- ---- rules, outcomes and the sheet
  abbrev RuleHas : Rule Condition → Type 0
  RuleHas r = Operands P r.assert

  rule_has : (v : Value) (r : Rule Condition) → P v → a_rule condition v ≡ ok r → RuleHas r
  unfolding a_rule
  rule_has v r h e =
      bind_with (an_object v) _ e λ ms q e₁.
      bind_with (only (ascii "assert" ∷ ascii "name" ∷ ascii "message" ∷ []) (keys ms)) _ e₁ λ _ _ e₂.
      bind_with (required condition (ascii "assert") ms) _ e₂ λ c p e₃.
      bind_with (optional a_text (ascii "name") ms) _ e₃ λ _ _ e₄.
      bind_with (optional a_text (ascii "message") ms) _ e₄ λ _ _ e₅.
      subst (Operands P) (ap (λ (x : Rule Condition). x.assert) (ok_injective e₅))
      (required_has condition (Operands P) condition_has (ascii "assert") ms (parts.in_object ms (object_has v ms h q)) p)

  abbrev GuardHas : Outcome Condition → Type 0
  GuardHas o = (c : Condition) → o.when ≡ Some c → Operands P c

  outcome_has : (v : Value) (o : Outcome Condition) → P v → an_outcome condition v ≡ ok o → GuardHas o
  unfolding an_outcome
  outcome_has v o h e c g =
      bind_with (an_object v) _ e λ ms q e₁.
      bind_with (only (ascii "name" ∷ ascii "when" ∷ ascii "in_state" ∷ ascii "wrong_state" ∷ ascii "effect" ∷ []) (keys ms)) _ e₁ λ _ _ e₂.
      bind_with (required a_text (ascii "name") ms) _ e₂ λ _ _ e₃.
      bind_with (optional condition (ascii "when") ms) _ e₃ λ x p e₄.
      bind_with (optional a_text (ascii "in_state") ms) _ e₄ λ _ _ e₅.
      bind_with (optional a_bool (ascii "wrong_state") ms) _ e₅ λ _ _ e₆.
      bind_with (optional an_effect (ascii "effect") ms) _ e₆ λ _ _ e₇.
      optional_has condition (Operands P) condition_has (ascii "when") ms (parts.in_object ms (object_has v ms h q)) p c (ap (λ (y : Outcome Condition). y.when) (ok_injective e₇) ∙ g)

  conditions_have :
      (sheet : Sheet Condition) → ((c : Condition) → sheet.condition ≡ Some c → Operands P c) → All RuleHas sheet.preconditions →
      All RuleHas sheet.invariants → All GuardHas sheet.outcomes → {c : Condition} → ConditionOf sheet c → Operands P c
  conditions_have sheet own pre inv out (its_own {c} e) = own c e
  conditions_have sheet own pre inv out (precondition m) = all_member RuleHas sheet.preconditions pre m
  conditions_have sheet own pre inv out (invariant m) = all_member RuleHas sheet.invariants inv m
  conditions_have sheet own pre inv out (guard {c = c} m e) = all_member GuardHas sheet.outcomes out m c e

  pub sheet_has : (v : Value) (sheet : Sheet Condition) → P v → a_sheet condition v ≡ ok sheet → SheetHas P sheet
  unfolding a_sheet
  sheet_has v sheet h e =
      bind_with (an_object v) _ e λ ms q e₀.
      bind_with (only sheet_names (keys ms)) _ e₀ λ _ _ e₁.
      bind_with (optional a_text (ascii "id") ms) _ e₁ λ _ _ e₂.
      bind_with (required a_text (ascii "entity") ms) _ e₂ λ _ _ e₃.
      bind_with (required a_version (ascii "version") ms) _ e₃ λ n p₀ e₄.
      bind_with (required an_object (ascii "args") ms) _ e₄ λ a p₁ e₅.
      bind_with (required an_object (ascii "fields") ms) _ e₅ λ f p₂ e₆.
      bind_with (required an_object (ascii "old_fields") ms) _ e₆ λ o p₃ e₇.
      bind_with (optional a_text (ascii "from_state") ms) _ e₇ λ _ _ e₈.
      bind_with (required a_text (ascii "to_state") ms) _ e₈ λ _ _ e₉.
      bind_with (optional a_text (ascii "state") ms) _ e₉ λ _ _ f₀.
      bind_with (required (an_array_of a_text) (ascii "states") ms) _ f₀ λ _ _ f₁.
      bind_with (optional condition (ascii "condition") ms) _ f₁ λ c p₄ f₂.
      bind_with (required (an_array_of (a_rule condition)) (ascii "preconditions") ms) _ f₂ λ ps p₅ f₃.
      bind_with (required (an_array_of (a_rule condition)) (ascii "invariants") ms) _ f₃ λ is p₆ f₄.
      bind_with (required (an_array_of (an_outcome condition)) (ascii "outcomes") ms) _ f₄ λ os p₇ f₅.
      let k = parts.in_object ms (object_has v ms h q) in
      subst (SheetHas P) (ok_injective f₅)
      (record {
        version = required_has a_version (λ s. P (number s)) version_has (ascii "version") ms k p₀;
        args = required_has an_object (λ ns. P (object ns)) object_has (ascii "args") ms k p₁;
        fields = required_has an_object (λ ns. P (object ns)) object_has (ascii "fields") ms k p₂;
        old_fields = required_has an_object (λ ns. P (object ns)) object_has (ascii "old_fields") ms k p₃;
        conditions =
            conditions_have _
            (optional_has condition (Operands P) condition_has (ascii "condition") ms k p₄)
            (required_has (an_array_of (a_rule condition)) (All RuleHas) (array_has (a_rule condition) RuleHas rule_has) (ascii "preconditions") ms k p₅)
            (required_has (an_array_of (a_rule condition)) (All RuleHas) (array_has (a_rule condition) RuleHas rule_has) (ascii "invariants") ms k p₆)
            (required_has (an_array_of (an_outcome condition)) (All GuardHas) (array_has (an_outcome condition) GuardHas outcome_has) (ascii "outcomes") ms k p₇);
      })
