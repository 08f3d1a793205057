-- Faults by what code has read of a node.
-- Assumes nothing.
use mathlib.Core.Bool.{Bool, false, true, ◌||◌}
use mathlib.Core.List.{List}
use Rattle.std.specs.Prelude.{Result as Fallible}
use Rattle.std.specs.Prelude.{Option, None, Some, Ok, Err}
use Rattle.std.specs.Prelude.{ok_or, option_map}
use Rattle.std.specs.Result.{result_ok}
use mathlib.Core.Path.{ap, refl, subst, sym, ◌∙◌, ◌≡◌}
use Prim.Native.Nat.{ℕ, ◌*◌, ◌+◌, ◌-◌, ◌<◌, ◌≤◌}
use native.Mathlib.Omega.{arith}
use lib.Dec.{eqb, leb}
use lib.ListN.{length}
use borrow.Author.Tests.{leb-false, leb-true}
use Rattle.json_text.proofs.Walk.{MoreMembers, inside, members_done, members_more}
use Rattle.strings.specs.Answers.{found_of}
use Rattle.json_text.specs.Bytes.{Bytes, ascii, find}
use Rattle.json_text.specs.Cursor.{OnText}
use Rattle.json_text.specs.Held.{AreMembers, AreNodes, IsNode}
use Rattle.json_text.specs.Json.{Members, Value, array, as_text, bool, elements, empty, entries, member, null, number, object, text}
use Rattle.json_text.specs.Refusal.{Refusal, not_carried, wrong_shape}
use Rattle.json_text.specs.Spans.{text_at}
use Rattle.json_text.specs.Table.{after_at, end_at, kind_at, members_at, start_at, value_at, values_at}
use Rattle.members.proofs.Conditions.{
  a_boolean,
  by_operator,
  conditions_array,
  conditions_first,
  conditions_none,
  faults_in,
  first_of,
  made,
  made_junction,
  made_negation,
  made_pair,
  made_quantified,
  no_as,
  no_condition,
  no_conditions,
  no_in,
  no_name,
  no_pair,
  no_quantifier,
  no_that,
  not_one,
  not_two,
  quantifier_of,
  several,
  the_body,
  two,
}
use Rattle.members.proofs.Shapes.{array_at, object_at, tag, tagged, text_at_lem}
use Rattle.members.proofs.Walks.{OverNodes, an_element, element_on, full_members, no_element}
use Rattle.members.specs.declared.told.Fault.{Fault}
use Rattle.members.specs.declared.told.Fault.TheVariants as faults
use Rattle.members.specs.Answers.{FoundLeft, Located, fault_is, form_of, mode_of, operator_of}
use Rattle.members.specs.Condition as conditions
use Rattle.members.specs.Condition.{condition, condition_array, conditions_of, every, operators, quantifier}
use Rattle.members.specs.Faults.{pair_fault, quantifier_fault}
use Rattle.members.specs.Verdicts.{fault_of}
use Rattle.members.specs.declared.told.Form.{Form}
use Rattle.members.specs.declared.told.Mode.{Mode}
use Rattle.members.specs.declared.told.Operator.{Operator}
use Rattle.members.specs.declared.told.Operator.TheVariants as ops

no_entries : (ms : Members) → length (entries ms) ≡ 0 → ms ≡ empty
no_entries empty e = refl
no_entries (member k v ms) e = absurd (omega arith)

no_text : (v : Value) → (tag v ≡ 4 → ⊥) → as_text v ≡ None
no_text null h = refl
no_text (bool true) h = refl
no_text (bool false) h = refl
no_text (number t) h = refl
no_text (text t) h = absurd (h refl)
no_text (array vs) h = refl
no_text (object ms) h = refl

module _ {s : Bytes} {w : List ℕ} {left n : ℕ} (h : IsNode s w left n) (k : ℕ) (p : k ≡ kind_at w n) where
  pub pair_no_array : (k ≡ 5 → ⊥) → pair_fault (value_at s w n) ≡ Some wrong_shape
  pair_no_array f = no_pair (value_at s w n) (λ q. f (tagged h k p ∙ q))

  module _ (q : k ≡ 5) (e : ℕ) (j : e ≡ after_at w n) where
    array_is : value_at s w n ≡ array (values_at s w (n + 1) e)
    array_is = (array_at h (sym p ∙ q)).0 ∙ ap (λ (x : ℕ). array (values_at s w (n + 1) x)) (sym j)

    pub pair_two : (c : ℕ) → c ≡ length (elements (values_at s w (n + 1) e)) → c ≡ 2 → pair_fault (value_at s w n) ≡ None
    pair_two c i z = ap pair_fault array_is ∙ two (values_at s w (n + 1) e) (sym i ∙ z)

    pub pair_other : (c : ℕ) → c ≡ length (elements (values_at s w (n + 1) e)) → (c ≡ 2 → ⊥) → pair_fault (value_at s w n) ≡ Some wrong_shape
    pair_other c i f = ap pair_fault array_is ∙ not_two (values_at s w (n + 1) e) (λ z. f (i ∙ z))

  -- ---- a condition
  pub cond_boolean : (eqb k 1 || eqb k 2) ≡ true → fault_of (condition (value_at s w n)) ≡ None
  cond_boolean e = a_boolean (value_at s w n) (ap (λ (x : ℕ). eqb x 1 || eqb x 2) (sym (tagged h k p)) ∙ e)

  pub cond_neither : (eqb k 1 || eqb k 2) ≡ false → (k ≡ 6 → ⊥) → fault_of (condition (value_at s w n)) ≡ Some wrong_shape
  cond_neither e f = no_condition (value_at s w n) (ap (λ (x : ℕ). eqb x 1 || eqb x 2) (sym (tagged h k p)) ∙ e) (λ q. f (tagged h k p ∙ q))

  pub not_quantifier : (k ≡ 6 → ⊥) → quantifier_fault (value_at s w n) ≡ Some wrong_shape
  not_quantifier f = no_quantifier (value_at s w n) (λ q. f (tagged h k p ∙ q))

  module _ (q : k ≡ 6) where
    pub object_left : 1 ≤ left
    object_left = (object_at h (sym p ∙ q)).2

    module _ (e : ℕ) (j : e ≡ after_at w n) where
      pub members_left : AreMembers s w (left - 1) (n + 1) e
      members_left = subst (AreMembers s w (left - 1) (n + 1)) (sym j) (object_at h (sym p ∙ q)).1

      pub members_full : AreMembers s w 64 (n + 1) e
      members_full = full_members members_left

      object_is : value_at s w n ≡ object (members_at s w (n + 1) e)
      object_is = (object_at h (sym p ∙ q)).0 ∙ ap (λ (x : ℕ). object (members_at s w (n + 1) x)) (sym j)

      quant_is : quantifier_fault (value_at s w n) ≡ fault_of (quantifier every (conditions_of (members_at s w (n + 1) e)))
      quant_is = ap quantifier_fault object_is ∙ quantifier_of (members_at s w (n + 1) e)

      module _ (c : ℕ) (i : c ≡ length (entries (members_at s w (n + 1) e))) where
        pub cond_several : (c ≡ 1 → ⊥) → fault_of (condition (value_at s w n)) ≡ Some wrong_shape
        cond_several f = ap (λ (v : Value). fault_of (condition v)) object_is ∙ not_one (members_at s w (n + 1) e) (λ z. f (i ∙ z))

        module _ (z : c ≡ 1) where
          has_one : n + 1 < e
          has_one = go (leb e (n + 1)) refl
            where
              go : (b : Bool) → leb e (n + 1) ≡ b → n + 1 < e
              go true g = absurd (omega (arith, ap (λ (ms : Members). length (entries ms)) (members_done s w members_left (leb-true e (n + 1) g))))
              go false g = leb-false e (n + 1) g

          the_one : MoreMembers s w (left - 1) (n + 1) e
          the_one = members_more s w members_left has_one

          pub inner_node : IsNode s w (left - 1) (n + 1 + 1)
          inner_node = the_one.here

          pub name_place : (3 * (n + 1) + 3 ≤ length w) × (n + 1 < 4096)
          name_place = (omega (arith, inside s w inner_node), omega (arith, members_left.most, has_one))

          module _ (a : ℕ) (g : a ≡ start_at w (n + 1)) where
            pub inner_name : OnText s a 0
            inner_name = subst (λ (x : ℕ). OnText s x 0) (sym g) (record { stop = end_at w (n + 1); text = the_one.name; few = omega arith })

            pub alone : value_at s w n ≡ object (member (text_at s a) (value_at s w (n + 1 + 1)) empty)
            alone =
                let r : length (entries (members_at s w (after_at w (n + 1 + 1)) e)) ≡ 0 = omega (arith, ap (λ (ms : Members). length (entries ms)) the_one.value) in
                object_is ∙
                ap object
                (the_one.value ∙
                ap (λ (x : ℕ). member (text_at s x) (value_at s w (n + 1 + 1)) (members_at s w (after_at w (n + 1 + 1)) e)) (sym g) ∙
                ap (member (text_at s a) (value_at s w (n + 1 + 1))) (no_entries (members_at s w (after_at w (n + 1 + 1)) e) r))

            pub cond_unknown : find (text_at s a) operators ≡ None → fault_of (condition (value_at s w n)) ≡ Some wrong_shape
            cond_unknown f = ap (λ (v : Value). fault_of (condition v)) alone ∙ by_operator (text_at s a) (value_at s w (n + 1 + 1)) f

            module _ (r : Operator) (t : find (text_at s a) operators ≡ Some (operator_of r)) where
              by : (x : Operator) → r ≡ x → fault_of (condition (value_at s w n)) ≡ made (value_at s w (n + 1 + 1)) (Some (operator_of x))
              by x f = ap (λ (v : Value). fault_of (condition v)) alone ∙ by_operator (text_at s a) (value_at s w (n + 1 + 1)) (t ∙ ap (λ (y : Operator). Some (operator_of y)) f)

              pub cond_junction :
                  (m : Mode) {o : Option Refusal} → r ≡ ops.Junction m → fault_of (condition_array (value_at s w (n + 1 + 1))) ≡ o →
                  fault_of (condition (value_at s w n)) ≡ o
              unfolding operator_of
              cond_junction m f u = by (ops.Junction m) f ∙ made_junction (value_at s w (n + 1 + 1)) (mode_of m) ∙ u

              pub cond_negation : {o : Option Refusal} → r ≡ ops.Negation → fault_of (condition (value_at s w (n + 1 + 1))) ≡ o → fault_of (condition (value_at s w n)) ≡ o
              unfolding operator_of
              cond_negation f u = by ops.Negation f ∙ made_negation (value_at s w (n + 1 + 1)) ∙ u

              pub cond_exists : r ≡ ops.Exists → fault_of (condition (value_at s w n)) ≡ None
              unfolding operator_of
              cond_exists f = by ops.Exists f

              pub cond_pair : (m : Form) {o : Option Refusal} → r ≡ ops.Pair m → pair_fault (value_at s w (n + 1 + 1)) ≡ o → fault_of (condition (value_at s w n)) ≡ o
              unfolding operator_of
              cond_pair m f u = by (ops.Pair m) f ∙ made_pair (value_at s w (n + 1 + 1)) (form_of m) ∙ u

              pub cond_quantified : (m : Mode) {o : Option Refusal} → r ≡ ops.Quantified m → quantifier_fault (value_at s w (n + 1 + 1)) ≡ o →
                  fault_of (condition (value_at s w n)) ≡ o
              unfolding operator_of
              cond_quantified m f u = by (ops.Quantified m) f ∙ made_quantified (value_at s w (n + 1 + 1)) (mode_of m) ∙ u

              pub cond_not_carried : r ≡ ops.NotCarried → fault_of (condition (value_at s w n)) ≡ Some not_carried
              unfolding operator_of
              cond_not_carried f = by ops.NotCarried f

        -- ---- a quantifier
        pub quant_several : (c ≡ 3 → ⊥) → quantifier_fault (value_at s w n) ≡ Some wrong_shape
        quant_several f = quant_is ∙ several every (members_at s w (n + 1) e) (λ z. f (i ∙ z))

        module _ (three : c ≡ 3) (r_in : Option ℕ) (is_in : find (ascii "in") (entries (members_at s w (n + 1) e)) ≡ found_of s w r_in) where
          pub quant_no_in : r_in ≡ None → quantifier_fault (value_at s w n) ≡ Some wrong_shape
          unfolding found_of
          quant_no_in f = quant_is ∙ no_in every (members_at s w (n + 1) e) (sym i ∙ three) (is_in ∙ ap (found_of s w) f)

          module _ (x : ℕ) (at_in : r_in ≡ Some x) (r_as : Option ℕ) (is_as : find (ascii "as") (entries (members_at s w (n + 1) e)) ≡ found_of s w r_as) where
            found_in : find (ascii "in") (entries (members_at s w (n + 1) e)) ≡ Some (value_at s w x)
            unfolding found_of
            found_in = is_in ∙ ap (found_of s w) at_in

            pub quant_no_as : r_as ≡ None → quantifier_fault (value_at s w n) ≡ Some wrong_shape
            unfolding found_of
            quant_no_as f = quant_is ∙ no_as every (members_at s w (n + 1) e) (sym i ∙ three) (value_at s w x) found_in (is_as ∙ ap (found_of s w) f)

            module _ (y : ℕ) (at_as : r_as ≡ Some y) (r_that : Option ℕ) (is_that : find (ascii "that") (entries (members_at s w (n + 1) e)) ≡ found_of s w r_that) where
              found_as : find (ascii "as") (entries (members_at s w (n + 1) e)) ≡ Some (value_at s w y)
              unfolding found_of
              found_as = is_as ∙ ap (found_of s w) at_as

              pub quant_no_that : r_that ≡ None → quantifier_fault (value_at s w n) ≡ Some wrong_shape
              unfolding found_of
              quant_no_that f = quant_is ∙ no_that every (members_at s w (n + 1) e) (sym i ∙ three) (value_at s w x) found_in (value_at s w y) found_as (is_that ∙ ap (found_of s w) f)

              module _ (u : ℕ) (at_that : r_that ≡ Some u) (hy : IsNode s w 64 y) (ky : ℕ) (py : ky ≡ kind_at w y) where
                found_that : find (ascii "that") (entries (members_at s w (n + 1) e)) ≡ Some (value_at s w u)
                unfolding found_of
                found_that = is_that ∙ ap (found_of s w) at_that

                pub quant_no_name : (ky ≡ 4 → ⊥) → quantifier_fault (value_at s w n) ≡ Some wrong_shape
                quant_no_name f =
                    quant_is ∙
                    no_name every (members_at s w (n + 1) e) (sym i ∙ three) (value_at s w x) found_in (value_at s w y) found_as
                    (value_at s w u) found_that (no_text (value_at s w y) (λ q'. f (tagged hy ky py ∙ q')))

                pub quant_body : {o : Option Refusal} → ky ≡ 4 → fault_of (condition (value_at s w u)) ≡ o → quantifier_fault (value_at s w n) ≡ o
                quant_body f g =
                    quant_is ∙
                    the_body every (members_at s w (n + 1) e) (sym i ∙ three) (value_at s w x) found_in (value_at s w y) found_as
                    (value_at s w u) found_that (text_at s (start_at w y)) (ap as_text (text_at_lem hy (sym py ∙ f)).0) ∙
                    g

-- a member or an operator that code has found, or asked for and not found
pub found_so : {A : Type 0} {r : Option A} {x : Fallible A Fault} {a : A} → r ≡ result_ok x → x ≡ Ok a → r ≡ Some a
found_so p q = p ∙ ap result_ok q

pub known_so : {o : Option conditions.Operator} {r : Option Operator} {x : Fallible Operator Fault} {a : Operator} → o ≡ option_map operator_of r → r ≡ result_ok x →
    x ≡ Ok a → o ≡ Some (operator_of a)
known_so t p q = t ∙ ap (option_map operator_of) (found_so p q)

pub missed : {A : Type 0} {r : Option A} {x : Fallible A Fault} {e : Fault} → x ≡ ok_or r faults.Shape → x ≡ Err e → (r ≡ None) × (Some wrong_shape ≡ fault_is (Err e))
unfolding fault_is
missed {A} {r} {x} {e} p q = go r (sym p ∙ q)
  where
    go : (o : Option A) → ok_or o faults.Shape ≡ Err e → (o ≡ None) × (Some wrong_shape ≡ fault_is (Err e))
    go None i = let z : faults.Shape ≡ e = cc in (refl, ap (λ (y : Fault). fault_is (Err y)) z)
    go (Some n) i = absurd (cc)

-- where a member that was found may be entered
pub found_left : {s : Bytes} {w : List ℕ} {from e : ℕ} {whole : Option Value} {r : Option ℕ} (n : ℕ) {left : ℕ} → Located s w from e whole r →
    r ≡ Some n → AreMembers s w left from e → IsNode s w left n
unfolding FoundLeft
found_left {s} {w} n {left} l f m = subst (FoundLeft s w left) f (l.within left m)

-- ---- conditions in an array, turn by turn
module _ {s : Bytes} {w : List ℕ} {left n : ℕ} (h : IsNode s w left n) (k : ℕ) (p : k ≡ kind_at w n) where
  pub not_conditions : (k ≡ 5 → ⊥) → fault_of (condition_array (value_at s w n)) ≡ Some wrong_shape
  not_conditions f = no_conditions (value_at s w n) (λ q. f (tagged h k p ∙ q))

  module _ (q : k ≡ 5) (e : ℕ) (j : e ≡ after_at w n) where
    pub array_left : 1 ≤ left
    array_left = (array_at h (sym p ∙ q)).2

    pub over_conditions : OverNodes s w (left - 1) e (fault_of (condition_array (value_at s w n))) faults_in (n + 1)
    over_conditions =
        record {
          nodes = subst (AreNodes s w (left - 1) (n + 1)) (sym j) (array_at h (sym p ∙ q)).1;
          rest =
              ap (λ (v : Value). fault_of (condition_array v))
              ((array_at h (sym p ∙ q)).0 ∙ ap (λ (x : ℕ). array (values_at s w (n + 1) x)) (sym j)) ∙
              conditions_array (values_at s w (n + 1) e);
        }

module _ {s : Bytes} {w : List ℕ} {left e : ℕ} {whole : Option Refusal} {k : ℕ} (l : OverNodes s w left e whole faults_in k) where
  pub conditions_sound : e ≤ k → whole ≡ None
  conditions_sound g = no_element l g ∙ conditions_none

  module _ (g : k < e) {o : Option Refusal} (f : fault_of (condition (value_at s w k)) ≡ o) where
    conditions_here : whole ≡ first_of o (faults_in (values_at s w (after_at w k) e))
    conditions_here =
        an_element l g ∙
        conditions_first (value_at s w k) (values_at s w (after_at w k) e) ∙
        ap (λ (x : Option Refusal). first_of x (faults_in (values_at s w (after_at w k) e))) f

    pub conditions_fault : (r : Fault) → o ≡ fault_is (Err r) → whole ≡ fault_is (Err r)
    unfolding fault_is
    conditions_fault faults.Shape i = conditions_here ∙ ap (λ (x : Option Refusal). first_of x (faults_in (values_at s w (after_at w k) e))) i
    conditions_fault faults.NotCarried i = conditions_here ∙ ap (λ (x : Option Refusal). first_of x (faults_in (values_at s w (after_at w k) e))) i

    pub conditions_on : o ≡ None → (k' : ℕ) → k' ≡ after_at w k → OverNodes s w left e whole faults_in k'
    conditions_on i k' j = element_on l g k' j (conditions_here ∙ ap (λ (x : Option Refusal). first_of x (faults_in (values_at s w (after_at w k) e))) i)
