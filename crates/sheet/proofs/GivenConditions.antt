-- A condition of an accepted sheet, node by node: what it is by its kind, its operator and what that holds.
-- Assumes nothing.
use mathlib.Core.Bool.{Bool, false, true, ◌&&◌}
use mathlib.Core.List.{List}
use Rattle.std.specs.Prelude.{Option, Some, None}
use mathlib.Core.Path.{ap, refl, subst, sym, ◌∙◌, ◌≡◌}
use Prim.Native.Nat.{ℕ, ◌*◌, ◌+◌, ◌<◌, ◌≤◌}
use native.Mathlib.Omega.{arith}
use lib.Dec.{eqb, ltb}
use lib.ListN.{length}
use borrow.Author.Tests.{ltb-false, ltb-true}
use Rattle.json_text.proofs.Laws.{bind_ok, eqb_no, eqb_true}
use Rattle.json_text.proofs.Walk.{values_done, values_more}
use Rattle.strings.specs.Answers.{FoundIn, FoundTold, found_of}
use Rattle.json_text.specs.Bytes.{Bytes, ascii, find, order_bytes}
use Rattle.json_text.specs.Cursor.{OnText}
use Rattle.json_text.specs.Held.{AreNodes, IsNode}
use Rattle.json_text.specs.Json.{Members, Value, Values, array, bool, cons, empty, entries, member, nil, null, number, object, text}
use Rattle.json_text.specs.Limits.{max_number, tidy, tidy_in, tidy_of}
use Rattle.json_text.specs.Refusal.{Refusal, Result, not_carried, ok, or_else, refused, wrong_sheet, wrong_shape, ◌>>=◌}
use Rattle.json_text.specs.Sorted.{sorted, sorted_in, sorted_of}
use Rattle.json_text.specs.Spans.{text_at}
use Rattle.json_text.specs.Table.{after_at, kind_at, members_at, start_at, value_at, values_at}
use Rattle.members.proofs.Conditions.{exactly, find_conditions, not_one}
use Rattle.syntax.proofs.Faults.{alone, inner_name, inner_node, name_place}
use Rattle.sheet.proofs.Given.{ObjectHere, object_here}
use Rattle.members.proofs.Shapes.{array_at, tag, tag_at}
use Rattle.sheet.proofs.SortedConditions.{Parts, parts}
use Rattle.sheet.proofs.SortedKinds.{bind_inv}
use Rattle.sheet.proofs.SortedMembers.{and_first, and_second, find_sorted, find_tidy, length_sorted, mapped, unrepeated}
use Rattle.members.proofs.Verdicts.{never}
use Rattle.members.proofs.Walks.{full, full_nodes}
use Rattle.sheet.specs.Accepted.{ConditionsGive, Gives}
use Rattle.members.specs.Answers.{form_of, mode_of, operator_of}
use Rattle.members.specs.Condition.{
  Condition,
  Conditions,
  Form,
  Mode,
  Operator,
  also,
  condition,
  condition_array,
  condition_object,
  conditions_in,
  conditions_of,
  exists,
  formed,
  junction,
  literal,
  negation,
  no_more,
  one_member,
  operators,
  pair,
  quantified,
  quantifier,
  two_of,
}
use Rattle.members.specs.Kinds.{a_text}
use Rattle.members.specs.Verdicts.{fault_of}
use Rattle.members.specs.declared.told.Form.{Form as CodeForm}
use Rattle.members.specs.declared.told.Mode.{Mode as CodeMode}
use Rattle.members.specs.declared.told.Operator.{Operator as CodeOperator}
use Rattle.members.specs.declared.told.Operator.TheVariants as ops

-- ---- by its kind
literal_of : (v : Value) (b : Bool) (c : Condition) → v ≡ bool b → condition (sorted v) ≡ ok c → c ≡ literal b
unfolding condition sorted
literal_of v b c e i = let y : ◌≡◌ {A = Result Condition} (ok (literal b)) (ok c) = sym (ap (λ (x : Value). condition (sorted x)) e) ∙ i in let z : c ≡ literal b = cc in z

bool_tag : (v : Value) → (tag v ≡ 1 → v ≡ bool true) × (tag v ≡ 2 → v ≡ bool false)
bool_tag null = (λ e. absurd (omega arith), λ e. absurd (omega arith))
bool_tag (bool true) = (λ e. refl, λ e. absurd (omega arith))
bool_tag (bool false) = (λ e. absurd (omega arith), λ e. refl)
bool_tag (number s) = (λ e. absurd (omega arith), λ e. absurd (omega arith))
bool_tag (text s) = (λ e. absurd (omega arith), λ e. absurd (omega arith))
bool_tag (array vs) = (λ e. absurd (omega arith), λ e. absurd (omega arith))
bool_tag (object ms) = (λ e. absurd (omega arith), λ e. absurd (omega arith))

-- the one member of a condition that is no literal
pub record OneMember (s : Bytes) (w : List ℕ) (n : ℕ) (c : Condition) : Type 0 where
  pub is_kind : kind_at w n ≡ 6
  pub name_place : (3 * (n + 1) + 3 ≤ length w) × (n + 1 < 4096)
  pub name : OnText s (start_at w (n + 1)) 0
  pub inner : IsNode s w 64 (n + 1 + 1)
  pub is_tidy : tidy max_number (value_at s w (n + 1 + 1)) ≡ true
  pub is_formed : formed (sorted (value_at s w (n + 1 + 1))) (condition (sorted (value_at s w (n + 1 + 1))))
      (condition_array (sorted (value_at s w (n + 1 + 1)))) (condition_object (sorted (value_at s w (n + 1 + 1))))
      (find (text_at s (start_at w (n + 1))) operators) ≡ ok c

module _ {s : Bytes} {w : List ℕ} {n : ℕ} {c : Condition} (g : Gives condition s w n c) where
  pub literal_true : kind_at w n ≡ 1 → c ≡ literal true
  literal_true k = literal_of (value_at s w n) true c ((bool_tag (value_at s w n)).0 (sym (tag_at g.node) ∙ k)) g.is

  pub literal_false : kind_at w n ≡ 2 → c ≡ literal false
  literal_false k = literal_of (value_at s w n) false c ((bool_tag (value_at s w n)).1 (sym (tag_at g.node) ∙ k)) g.is

  is_object : (kind_at w n ≡ 1 → ⊥) → (kind_at w n ≡ 2 → ⊥) → ObjectHere s w n
  unfolding condition sorted
  is_object a b = go (value_at s w n) refl g.is
    where
      go : (v : Value) → value_at s w n ≡ v → condition (sorted v) ≡ ok c → ObjectHere s w n
      go null e i = never wrong_shape c i
      go (bool true) e i = absurd (a (tag_at g.node ∙ ap tag e))
      go (bool false) e i = absurd (b (tag_at g.node ∙ ap tag e))
      go (number t) e i = never wrong_shape c i
      go (text t) e i = never wrong_shape c i
      go (array vs) e i = never wrong_shape c i
      go (object ms) e i = object_here g.node g.is_tidy ms e

  pub one_member_lem : (kind_at w n ≡ 1 → ⊥) → (kind_at w n ≡ 2 → ⊥) → OneMember s w n c
  unfolding condition one_member sorted sorted_of order_bytes tidy tidy_of
  one_member_lem a b =
      record {
        is_kind = x.is_kind;
        name_place = name_place g.node (kind_at w n) refl x.is_kind (after_at w n) refl (length (entries ms)) refl one;
        name = inner_name g.node (kind_at w n) refl x.is_kind (after_at w n) refl (length (entries ms)) refl one (start_at w (n + 1)) refl;
        inner = full (record { left = 63; is_node = inner_node g.node (kind_at w n) refl x.is_kind (after_at w n) refl (length (entries ms)) refl one });
        is_tidy = (unrepeated (text_at s (start_at w (n + 1))) (value_at s w (n + 1 + 1)) empty (sym (ap (tidy max_number) only_one) ∙ g.is_tidy)).value;
        is_formed = sym (ap (λ (v : Value). condition (sorted v)) only_one) ∙ g.is;
      }
    where
      x : ObjectHere s w n
      x = is_object a b

      ms : Members
      ms = members_at s w (n + 1) (after_at w n)

      sorted_is : condition (object (sorted_of (members_at s w (n + 1) (after_at w n)))) ≡ ok c
      sorted_is = sym (ap (λ (v : Value). condition (sorted v)) x.value) ∙ g.is

      one : length (entries (members_at s w (n + 1) (after_at w n))) ≡ 1
      one = go (eqb (length (entries (sorted_of (members_at s w (n + 1) (after_at w n))))) 1) refl
        where
          go : (t : Bool) → eqb (length (entries (sorted_of (members_at s w (n + 1) (after_at w n))))) 1 ≡ t → length (entries (members_at s w (n + 1) (after_at w n))) ≡ 1
          go true e = sym (length_sorted (members_at s w (n + 1) (after_at w n)) x.is_tidy) ∙ eqb_true (length (entries (sorted_of (members_at s w (n + 1) (after_at w n))))) 1 e
          go false e =
              let z : ◌≡◌ {A = ℕ} 0 1 =
              cc (
                not_one (sorted_of (members_at s w (n + 1) (after_at w n)))
                    (eqb_no (length (entries (sorted_of (members_at s w (n + 1) (after_at w n))))) 1 e),
                ap fault_of sorted_is,
              ) in absurd
              (omega arith)

      only_one : value_at s w n ≡ object (member (text_at s (start_at w (n + 1))) (value_at s w (n + 1 + 1)) empty)
      only_one = alone g.node (kind_at w n) refl x.is_kind (after_at w n) refl (length (entries (members_at s w (n + 1) (after_at w n)))) refl one (start_at w (n + 1)) refl

-- ---- conditions in an array, one after the other
pub record NextCondition (s : Bytes) (w : List ℕ) (k e : ℕ) (cs : Conditions) : Type 0 where
  pub first : Condition
  pub others : Conditions
  pub is_also : cs ≡ also first others
  pub here : Gives condition s w k first
  pub rest : ConditionsGive s w (after_at w k) e others
  pub past : k < after_at w k
  pub upto : after_at w k ≤ e

module _ {s : Bytes} {w : List ℕ} {k e : ℕ} {cs : Conditions} (g : ConditionsGive s w k e cs) where
  pub conditions_done : e ≤ k → cs ≡ no_more
  unfolding conditions_in sorted_in
  conditions_done h =
      let y : ◌≡◌ {A = Result Conditions} (ok no_more) (ok cs) = sym
      (ap (λ (vs : Values). conditions_in (sorted_in vs)) (values_done s w g.nodes h)) ∙
      g.is in let z : cs ≡ no_more = cc in z

  pub conditions_next : k < e → NextCondition s w k e cs
  unfolding conditions_in sorted_in tidy_in
  conditions_next h =
      let m = values_more s w g.nodes h in
      let a = bind_inv (condition (sorted (value_at s w k))) _ (cs, sym (ap (λ (vs : Values). conditions_in (sorted_in vs)) m.value) ∙ g.is) in
      let b = bind_inv (conditions_in (sorted_in (values_at s w (after_at w k) e))) _ a.2 in
      let t : (tidy max_number (value_at s w k) && tidy_in max_number (values_at s w (after_at w k) e)) ≡ true = sym (ap (tidy_in max_number) m.value) ∙ g.is_tidy in
      record {
        first = a.0;
        others = b.0;
        is_also = joined a.0 b.0 a.1 b.1 m.value;
        here = record { node = m.here; is_tidy = and_first (tidy max_number (value_at s w k)) _ t; is = a.1 };
        rest = record { nodes = m.others; is_tidy = and_second (tidy max_number (value_at s w k)) _ t; is = b.1 };
        past = m.past;
        upto = m.upto;
      }
    where
      joined : (x : Condition) (ys : Conditions) → condition (sorted (value_at s w k)) ≡ ok x →
          conditions_in (sorted_in (values_at s w (after_at w k) e)) ≡ ok ys →
          values_at s w k e ≡ cons (value_at s w k) (values_at s w (after_at w k) e) → cs ≡ also x ys
      joined x ys p q v =
          let y : conditions_in (sorted_in (values_at s w k e)) ≡ ok (also x ys) = ap (λ (vs : Values). conditions_in (sorted_in vs)) v ∙ bind_ok _ p ∙ bind_ok _ q in
          let z : ◌≡◌ {A = Result Conditions} (ok cs) (ok (also x ys)) = sym g.is ∙ y in
          let i : cs ≡ also x ys = cc in
          i

-- ---- by its operator
-- two operands: the first element and the one after it
pub record PairHere (s : Bytes) (w : List ℕ) (m : ℕ) (f : Form) (c : Condition) : Type 0 where
  pub is_kind : kind_at w m ≡ 5
  pub left : IsNode s w 64 (m + 1)
  pub right : IsNode s w 64 (after_at w (m + 1))
  pub is : c ≡ pair f (sorted (value_at s w (m + 1))) (sorted (value_at s w (after_at w (m + 1))))

array_values :
    {A : Type 0} (v : Value) (f : Value → Result A) → ((x : Value) → (tag x ≡ 5 → ⊥) → (r : Refusal) × (f x ≡ refused r)) → (a : A) →
    f (sorted v) ≡ ok a → tag v ≡ 5
unfolding sorted
array_values {A} null f h a e = let r = h null (λ q. absurd (omega arith)) in never r.0 a (sym r.1 ∙ e)
array_values {A} (bool true) f h a e = let r = h (bool true) (λ q. absurd (omega arith)) in never r.0 a (sym r.1 ∙ e)
array_values {A} (bool false) f h a e = let r = h (bool false) (λ q. absurd (omega arith)) in never r.0 a (sym r.1 ∙ e)
array_values {A} (number t) f h a e = let r = h (number t) (λ q. absurd (omega arith)) in never r.0 a (sym r.1 ∙ e)
array_values {A} (text t) f h a e = let r = h (text t) (λ q. absurd (omega arith)) in never r.0 a (sym r.1 ∙ e)
array_values {A} (array vs) f h a e = refl
array_values {A} (object ms) f h a e = let r = h (object (sorted_of ms)) (λ q. absurd (omega arith)) in never r.0 a (sym r.1 ∙ e)

no_two : (f : Form) (x : Value) → (tag x ≡ 5 → ⊥) → (r : Refusal) × (two_of f x ≡ refused r)
no_two f null h = (wrong_shape, refl)
no_two f (bool b) h = (wrong_shape, refl)
no_two f (number s) h = (wrong_shape, refl)
no_two f (text s) h = (wrong_shape, refl)
no_two f (object ms) h = (wrong_shape, refl)
no_two f (array vs) h = absurd (h refl)

no_conditions : (x : Value) → (tag x ≡ 5 → ⊥) → (r : Refusal) × (condition_array x ≡ refused r)
unfolding condition_array
no_conditions null h = (wrong_shape, refl)
no_conditions (bool b) h = (wrong_shape, refl)
no_conditions (number s) h = (wrong_shape, refl)
no_conditions (text s) h = (wrong_shape, refl)
no_conditions (object ms) h = (wrong_shape, refl)
no_conditions (array vs) h = absurd (h refl)

pair_here : {s : Bytes} {w : List ℕ} {m : ℕ} (h : IsNode s w 64 m) (f : Form) (c : Condition) → two_of f (sorted (value_at s w m)) ≡ ok c → PairHere s w m f c
unfolding sorted sorted_in
pair_here {s} {w} {m} h f c e = first (ltb (m + 1) (after_at w m)) refl
  where
    k : kind_at w m ≡ 5
    k = tag_at h ∙ array_values (value_at s w m) (two_of f) (no_two f) c e

    ns : AreNodes s w 64 (m + 1) (after_at w m)
    ns = full_nodes (array_at h k).1

    two : two_of f (array (sorted_in (values_at s w (m + 1) (after_at w m)))) ≡ ok c
    two = sym (ap (λ (v : Value). two_of f (sorted v)) (array_at h k).0) ∙ e

    third : (vs : Values) (x y : Value) → two_of f (array (cons (sorted x) (cons (sorted y) (sorted_in vs)))) ≡ ok c → c ≡ pair f (sorted x) (sorted y)
    third nil x y i = let z : c ≡ pair f (sorted x) (sorted y) = cc in z
    third (cons v vs) x y i = never wrong_shape c i

    second : (g : m + 1 < after_at w m) (b : Bool) → ltb (after_at w (m + 1)) (after_at w m) ≡ b → PairHere s w m f c
    second g true i =
        let a = values_more s w ns g in
        let d = values_more s w a.others (ltb-true (after_at w (m + 1)) (after_at w m) i) in
        record {
          is_kind = k;
          left = a.here;
          right = d.here;
          is =
              third (values_at s w (after_at w (after_at w (m + 1))) (after_at w m)) (value_at s w (m + 1)) (value_at s w (after_at w (m + 1)))
              (sym (ap (λ (vs : Values). two_of f (array (sorted_in vs))) (a.value ∙ ap (cons (value_at s w (m + 1))) d.value)) ∙ two);
        }
    second g false i =
        let a = values_more s w ns g in
        let d = values_done s w a.others (ltb-false (after_at w (m + 1)) (after_at w m) i) in
        never wrong_shape c (sym (ap (λ (vs : Values). two_of f (array (sorted_in vs))) (a.value ∙ ap (cons (value_at s w (m + 1))) d)) ∙ two)

    first : (b : Bool) → ltb (m + 1) (after_at w m) ≡ b → PairHere s w m f c
    first true i = second (ltb-true (m + 1) (after_at w m) i) (ltb (after_at w (m + 1)) (after_at w m)) refl
    first false i = never wrong_shape c (sym (ap (λ (vs : Values). two_of f (array (sorted_in vs))) (values_done s w ns (ltb-false (m + 1) (after_at w m) i))) ∙ two)

-- a quantifier by the nodes of its members
pub record QuantifiedHere (s : Bytes) (w : List ℕ) (m : Mode) (r_in r_as r_that : Option ℕ) (c : Condition) : Type 0 where
  pub over : ℕ
  pub is_in : r_in ≡ Some over
  pub over_node : IsNode s w 64 over
  pub bind : ℕ
  pub is_as : r_as ≡ Some bind
  pub name : Bytes
  pub binder : Gives a_text s w bind name
  pub body : ℕ
  pub is_that : r_that ≡ Some body
  pub that : Condition
  pub inside : Gives condition s w body that
  pub is : c ≡ quantified m (sorted (value_at s w over)) name that

-- the value that a quantifier's parts make
quantifier_is : (m : Mode) (ms : Members) (p : Parts ms) → quantifier m (conditions_of ms) ≡ (condition p.body >>= (λ c. ok (quantified m p.over p.name c)))
unfolding quantifier
quantifier_is m ms p =
    rw (
      exactly m ms p.three,
      quantifier,
      find_conditions (ascii "in") ms,
      p.is_in,
      find_conditions (ascii "as") ms,
      p.is_as,
      find_conditions (ascii "that") ms,
      p.is_that,
      p.is_name,
    )

-- a member of the sorted object is the sorted value at a node
pub record At (s : Bytes) (w : List ℕ) (r : Option ℕ) (x : Value) : Type 0 where
  pub node : ℕ
  pub found : r ≡ Some node
  pub is_node : IsNode s w 64 node
  pub is_tidy : tidy max_number (value_at s w node) ≡ true
  pub is : sorted (value_at s w node) ≡ x

sorted_at :
    {s : Bytes} {w : List ℕ} (ms : Members) → tidy_of max_number ms ≡ true → (k : Bytes) (r : Option ℕ) → FoundTold s w (find k (entries ms)) r →
    (x : Value) → find k (entries (sorted_of ms)) ≡ Some x → At s w r x
unfolding found_of FoundIn
sorted_at {s} {w} ms t k r f x e = go r refl
  where
    found : mapped sorted (found_of s w r) ≡ Some x
    found = sym (find_sorted k ms t ∙ ap (mapped sorted) f.answers) ∙ e

    go : (y : Option ℕ) → r ≡ y → At s w r x
    go None i = let z : ◌≡◌ {A = ℕ} 0 1 = cc (sym (ap (λ (y : Option ℕ). mapped sorted (found_of s w y)) i) ∙ found) in absurd (omega arith)
    go (Some n) i =
        let z : sorted (value_at s w n) ≡ x = cc (sym (ap (λ (y : Option ℕ). mapped sorted (found_of s w y)) i) ∙ found) in
        record { node = n; found = i; is_node = full (subst (FoundIn s w) i f.bounds); is_tidy = find_tidy k ms (value_at s w n) t (f.answers ∙ ap (found_of s w) i); is = z }

quantified_by : {s : Bytes} {w : List ℕ} (ms : Members) → tidy_of max_number ms ≡ true → (m : Mode) (c : Condition) →
    quantifier m (conditions_of (sorted_of ms)) ≡ ok c → (r_in r_as r_that : Option ℕ) → FoundTold s w (find (ascii "in") (entries ms)) r_in →
    FoundTold s w (find (ascii "as") (entries ms)) r_as → FoundTold s w (find (ascii "that") (entries ms)) r_that →
    QuantifiedHere s w m r_in r_as r_that c
quantified_by {s} {w} ms t m c e r_in r_as r_that f_in f_as f_that = go (parts m (sorted_of ms) (ap fault_of e))
  where
    go : Parts (sorted_of ms) → QuantifiedHere s w m r_in r_as r_that c
    go p =
        let x = sorted_at ms t (ascii "in") r_in f_in p.over p.is_in in
        let y = sorted_at ms t (ascii "as") r_as f_as p.bind p.is_as in
        let z = sorted_at ms t (ascii "that") r_that f_that p.body p.is_that in
        let b = bind_inv (condition p.body) (λ d. ok (quantified m p.over p.name d)) (c, sym (quantifier_is m (sorted_of ms) p) ∙ e) in
        let u : ◌≡◌ {A = Result Condition} (ok (quantified m p.over p.name b.0)) (ok c) = sym
        (bind_ok (λ d. ok (quantified m p.over p.name d)) b.1) ∙
        sym (quantifier_is m (sorted_of ms) p) ∙
        e in
        let v : c ≡ quantified m p.over p.name b.0 = cc in
        record {
          over = x.node;
          is_in = x.found;
          over_node = x.is_node;
          bind = y.node;
          is_as = y.found;
          name = p.name;
          binder = record { node = y.is_node; is_tidy = y.is_tidy; is = ap a_text y.is ∙ ap {B = Result Bytes} (λ o. or_else o wrong_sheet) p.is_name };
          body = z.node;
          is_that = z.found;
          that = b.0;
          inside = record { node = z.is_node; is_tidy = z.is_tidy; is = ap condition z.is ∙ b.1 };
          is = v ∙ ap (λ (o : Value). quantified m o p.name b.0) (sym x.is);
        }

pub quantified_here :
    {s : Bytes} {w : List ℕ} {n : ℕ} → IsNode s w 64 n → tidy max_number (value_at s w n) ≡ true → (m : Mode) (c : Condition) →
    (condition_object (sorted (value_at s w n)) >>= quantifier m) ≡ ok c →
    ObjectHere s w n ×
    ((r_in r_as r_that : Option ℕ) → FoundTold s w (find (ascii "in") (entries (members_at s w (n + 1) (after_at w n)))) r_in → FoundTold s w
    (find (ascii "as") (entries (members_at s w (n + 1) (after_at w n)))) r_as → FoundTold s w
    (find (ascii "that") (entries (members_at s w (n + 1) (after_at w n)))) r_that → QuantifiedHere s w m r_in r_as r_that c)
unfolding condition_object sorted
quantified_here {s} {w} {n} h t m c e = go (value_at s w n) refl e
  where
    go : (v : Value) → value_at s w n ≡ v → (condition_object (sorted v) >>= quantifier m) ≡ ok c →
        ObjectHere s w n ×
        ((r_in r_as r_that : Option ℕ) → FoundTold s w (find (ascii "in") (entries (members_at s w (n + 1) (after_at w n)))) r_in → FoundTold s w
        (find (ascii "as") (entries (members_at s w (n + 1) (after_at w n)))) r_as → FoundTold s w
        (find (ascii "that") (entries (members_at s w (n + 1) (after_at w n)))) r_that → QuantifiedHere s w m r_in r_as r_that c)
    go null i j = never wrong_shape c j
    go (bool b) i j = never wrong_shape c j
    go (number x) i j = never wrong_shape c j
    go (text x) i j = never wrong_shape c j
    go (array vs) i j = never wrong_shape c j
    go (object ms) i j =
        let x = object_here h t ms i in (
          x,
          λ r_in r_as r_that. quantified_by (members_at s w (n + 1) (after_at w n)) x.is_tidy m c
              (sym (ap (λ (v : Value). condition_object (sorted v) >>= quantifier m) x.value) ∙
              ap (λ (v : Value). condition_object (sorted v) >>= quantifier m) i ∙
              j) r_in r_as r_that,
        )

-- what the operator makes of the value at a node
abbrev MadeOf : Bytes → List ℕ → ℕ → Option Operator → Result Condition
MadeOf s w m o = formed (sorted (value_at s w m)) (condition (sorted (value_at s w m))) (condition_array (sorted (value_at s w m))) (condition_object (sorted (value_at s w m))) o

made_as : {s : Bytes} {w : List ℕ} {n : ℕ} {c : Condition} → OneMember s w n c → (a : ℕ) → a ≡ start_at w (n + 1) → {o : Option Operator} →
    find (text_at s a) operators ≡ o → MadeOf s w (n + 1 + 1) o ≡ ok c
made_as {s} {w} {n} g a q t = sym (ap (MadeOf s w (n + 1 + 1)) (ap (λ (z : ℕ). find (text_at s z) operators) (sym q) ∙ t)) ∙ g.is_formed

pub given_known : {s : Bytes} {w : List ℕ} {n : ℕ} {c : Condition} → OneMember s w n c → (a : ℕ) → a ≡ start_at w (n + 1) → find (text_at s a) operators ≡ None → ⊥
given_known {c = c} g a q t = never wrong_shape c (made_as g a q t)

module _ {s : Bytes} {w : List ℕ} {n : ℕ} {c : Condition} (g : OneMember s w n c) (a : ℕ) (q : a ≡ start_at w (n + 1)) (r : CodeOperator)
    (t : find (text_at s a) operators ≡ Some (operator_of r)) where
  by : (x : CodeOperator) → r ≡ x → MadeOf s w (n + 1 + 1) (Some (operator_of x)) ≡ ok c
  by x f = made_as g a q (t ∙ ap (λ (y : CodeOperator). Some (operator_of y)) f)

  pub given_negation : r ≡ ops.Negation → (d : Condition) × (c ≡ negation d) × Gives condition s w (n + 1 + 1) d
  unfolding operator_of
  given_negation f =
      let b = bind_inv (condition (sorted (value_at s w (n + 1 + 1)))) (λ x. ok (negation x)) (c, by ops.Negation f) in
      let z : ◌≡◌ {A = Result Condition} (ok (negation b.0)) (ok c) = sym (bind_ok (λ x. ok (negation x)) b.1) ∙ by ops.Negation f in
      let i : c ≡ negation b.0 = cc in
      (b.0, i, record { node = g.inner; is_tidy = g.is_tidy; is = b.1 })

  pub given_exists : r ≡ ops.Exists → c ≡ exists (sorted (value_at s w (n + 1 + 1)))
  unfolding operator_of
  given_exists f = let i : c ≡ exists (sorted (value_at s w (n + 1 + 1))) = cc (by ops.Exists f) in i

  pub given_pair : (m : CodeForm) → r ≡ ops.Pair m → PairHere s w (n + 1 + 1) (form_of m) c
  unfolding operator_of
  given_pair m f = pair_here g.inner (form_of m) c (by (ops.Pair m) f)

  pub given_junction : (m : CodeMode) → r ≡ ops.Junction m →
      (cs : Conditions) × (c ≡ junction (mode_of m) cs) × (kind_at w (n + 1 + 1) ≡ 5) ×
      ConditionsGive s w (n + 1 + 1 + 1) (after_at w (n + 1 + 1)) cs
  unfolding operator_of condition_array sorted tidy
  given_junction m f =
      let b = bind_inv (condition_array (sorted (value_at s w (n + 1 + 1)))) (λ x. ok (junction (mode_of m) x)) (c, by (ops.Junction m) f) in
      let z : ◌≡◌ {A = Result Condition} (ok (junction (mode_of m) b.0)) (ok c) = sym (bind_ok (λ x. ok (junction (mode_of m) x)) b.1) ∙ by (ops.Junction m) f in
      let i : c ≡ junction (mode_of m) b.0 = cc in
      let k = tag_at g.inner ∙ array_values (value_at s w (n + 1 + 1)) condition_array no_conditions b.0 b.1 in
      let x = array_at g.inner k in
      (b.0, i, k, record { nodes = full_nodes x.1; is_tidy = sym (ap (tidy max_number) x.0) ∙ g.is_tidy; is = sym (ap (λ (v : Value). condition_array (sorted v)) x.0) ∙ b.1 })

  pub given_carried : r ≡ ops.NotCarried → ⊥
  unfolding operator_of
  given_carried f = never not_carried c (by ops.NotCarried f)
