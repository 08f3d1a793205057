-- A condition without a fault has none when its members are sorted.
-- Assumes nothing.
use mathlib.Core.Bool.{Bool, false, true}
use Rattle.std.specs.Prelude.{Option, None, Some}
use mathlib.Core.Path.{ap, refl, subst, sym, ◌∙◌, ◌≡◌}
use Prim.Native.Nat.{ℕ}
use native.Mathlib.Omega.{arith}
use lib.Dec.{eqb}
use lib.ListN.{length}
use Rattle.json_text.proofs.Laws.{eqb_true, eqb_no}
use Rattle.json_text.specs.Bytes.{Bytes, ascii, find, order_bytes, same_bytes}
use Rattle.json_text.specs.Json.{Members, Value, Values, array, as_text, bool, cons, empty, entries, member, nil, null, number, object, text}
use Rattle.json_text.specs.Limits.{max_number, tidy, tidy_in, tidy_of}
use Rattle.json_text.specs.Refusal.{Refusal}
use Rattle.json_text.specs.Sorted.{sorted, sorted_in, sorted_of}
use Rattle.members.proofs.Conditions.{
  conditions_first,
  faults_in,
  first_of,
  made,
  made_junction,
  made_negation,
  made_pair,
  made_quantified,
  no_as,
  no_in,
  no_name,
  no_that,
  several,
  the_body,
  quantifier_of,
}
use Rattle.sheet.proofs.SortedMembers.{Unrepeated, and_first, and_second, find_sorted, length_sorted, mapped, unrepeated}
use Rattle.members.specs.Condition.{
  Mode,
  Operator,
  condition,
  condition_array,
  condition_object,
  conditions_in,
  conditions_of,
  every,
  one_member,
  op_exists,
  op_junction,
  op_negation,
  op_not_carried,
  op_pair,
  op_quantified,
  operators,
  quantifier,
}
use Rattle.members.specs.Faults.{pair_fault, quantifier_fault}
use Rattle.members.specs.Verdicts.{fault_of}

never : {A : Type 0} (r : Refusal) → Some r ≡ None → A
never r e = let z : ◌≡◌ {A = ℕ} 0 1 = cc in absurd (omega arith)

pub first_none : (o p : Option Refusal) → first_of o p ≡ None → (o ≡ None) × (p ≡ None)
first_none None p e = (refl, e)
first_none (Some r) p e = never r e

-- what is no text, array or object is as it was
pub text_sorted : (v : Value) → as_text (sorted v) ≡ as_text v
unfolding sorted
text_sorted null = refl
text_sorted (bool b) = refl
text_sorted (number s) = refl
text_sorted (text s) = refl
text_sorted (array vs) = refl
text_sorted (object ms) = refl

pair_sorted : (v : Value) → pair_fault (sorted v) ≡ pair_fault v
unfolding pair_fault sorted sorted_in
pair_sorted null = refl
pair_sorted (bool b) = refl
pair_sorted (number s) = refl
pair_sorted (text s) = refl
pair_sorted (object ms) = refl
pair_sorted (array nil) = refl
pair_sorted (array (cons v nil)) = refl
pair_sorted (array (cons v (cons w nil))) = refl
pair_sorted (array (cons v (cons w (cons x vs)))) = refl

-- a quantifier's parts, once it has no fault
pub record Parts (ms : Members) : Type 0 where
  pub three : length (entries ms) ≡ 3
  pub over : Value
  pub is_in : find (ascii "in") (entries ms) ≡ Some over
  pub bind : Value
  pub is_as : find (ascii "as") (entries ms) ≡ Some bind
  pub body : Value
  pub is_that : find (ascii "that") (entries ms) ≡ Some body
  pub name : Bytes
  pub is_name : as_text bind ≡ Some name
  pub sound : fault_of (condition body) ≡ None

pub parts : (m : Mode) (ms : Members) → fault_of (quantifier m (conditions_of ms)) ≡ None → Parts ms
parts m ms h = count (eqb (length (entries ms)) 3) refl
  where
    wrong : {A : Type 0} (r : Refusal) → fault_of (quantifier m (conditions_of ms)) ≡ Some r → A
    wrong r e = never r (sym e ∙ h)

    five : length (entries ms) ≡ 3 → (o : Value) → find (ascii "in") (entries ms) ≡ Some o → (b : Value) →
        find (ascii "as") (entries ms) ≡ Some b → (c : Value) → find (ascii "that") (entries ms) ≡ Some c → (t : Option Bytes) →
        as_text b ≡ t → Parts ms
    five q o i b j c k None e = wrong _ (no_name m ms q o i b j c k e)
    five q o i b j c k (Some t) e =
        record {
          three = q;
          over = o;
          is_in = i;
          bind = b;
          is_as = j;
          body = c;
          is_that = k;
          name = t;
          is_name = e;
          sound = sym (the_body m ms q o i b j c k t e) ∙ h;
        }

    four : length (entries ms) ≡ 3 → (o : Value) → find (ascii "in") (entries ms) ≡ Some o → (b : Value) →
        find (ascii "as") (entries ms) ≡ Some b → (c : Option Value) → find (ascii "that") (entries ms) ≡ c → Parts ms
    four q o i b j None e = wrong _ (no_that m ms q o i b j e)
    four q o i b j (Some c) e = five q o i b j c e (as_text b) refl

    third : length (entries ms) ≡ 3 → (o : Value) → find (ascii "in") (entries ms) ≡ Some o → (b : Option Value) → find (ascii "as") (entries ms) ≡ b → Parts ms
    third q o i None e = wrong _ (no_as m ms q o i e)
    third q o i (Some b) e = four q o i b e (find (ascii "that") (entries ms)) refl

    second : length (entries ms) ≡ 3 → (o : Option Value) → find (ascii "in") (entries ms) ≡ o → Parts ms
    second q None e = wrong _ (no_in m ms q e)
    second q (Some o) e = third q o e (find (ascii "as") (entries ms)) refl

    count : (b : Bool) → eqb (length (entries ms)) 3 ≡ b → Parts ms
    count true e = second (eqb_true (length (entries ms)) 3 e) (find (ascii "in") (entries ms)) refl
    count false e = wrong _ (several m ms (eqb_no (length (entries ms)) 3 e))

-- ---- sorted, nothing is at fault that was not before
parts_sorted : (ms : Members) → tidy_of max_number ms ≡ true → (p : Parts ms) → fault_of (condition (sorted p.body)) ≡ None → quantifier_fault (object (sorted_of ms)) ≡ None
parts_sorted ms t p s =
    quantifier_of (sorted_of ms) ∙
    the_body every (sorted_of ms) (length_sorted ms t ∙ p.three) (sorted p.over) (at (ascii "in") p.is_in) (sorted p.bind)
    (at (ascii "as") p.is_as) (sorted p.body) (at (ascii "that") p.is_that) p.name (text_sorted p.bind ∙ p.is_name) ∙
    s
  where
    at : (k : Bytes) {v : Value} → find k (entries ms) ≡ Some v → find k (entries (sorted_of ms)) ≡ Some (sorted v)
    at k e = find_sorted k ms t ∙ ap (mapped sorted) e

-- a claim of a value
abbrev SoundSorted : Value → Type 0
SoundSorted v = tidy max_number v ≡ true → fault_of (condition v) ≡ None → fault_of (condition (sorted v)) ≡ None

both : (o p : Option Refusal) → o ≡ None → p ≡ None → first_of o p ≡ None
both o p i j = rw (i, j)

-- one member: by its operator
made_sorted : (v : Value) (o : Option Operator) → tidy max_number v ≡ true → SoundSorted v →
    (tidy max_number v ≡ true → fault_of (condition_array v) ≡ None → fault_of (condition_array (sorted v)) ≡ None) →
    (tidy max_number v ≡ true → quantifier_fault v ≡ None → quantifier_fault (sorted v) ≡ None) → made v o ≡ None → made (sorted v) o ≡ None
made_sorted v None t a b c h = h
made_sorted v (Some (op_junction m)) t a b c h = made_junction (sorted v) m ∙ b t (sym (made_junction v m) ∙ h)
made_sorted v (Some op_negation) t a b c h = made_negation (sorted v) ∙ a t (sym (made_negation v) ∙ h)
made_sorted v (Some op_exists) t a b c h = refl
made_sorted v (Some (op_pair f)) t a b c h = made_pair (sorted v) f ∙ pair_sorted v ∙ sym (made_pair v f) ∙ h
made_sorted v (Some (op_quantified m)) t a b c h = made_quantified (sorted v) m ∙ c t (sym (made_quantified v m) ∙ h)
made_sorted v (Some op_not_carried) t a b c h = h

one : (k : Bytes) (v : Value) → SoundSorted v →
    (tidy max_number v ≡ true → fault_of (condition_array v) ≡ None → fault_of (condition_array (sorted v)) ≡ None) →
    (tidy max_number v ≡ true → quantifier_fault v ≡ None → quantifier_fault (sorted v) ≡ None) → (ms : Members) →
    tidy_of max_number (member k v ms) ≡ true → fault_of (condition (object (member k v ms))) ≡ None →
    fault_of (condition (object (sorted_of (member k v ms)))) ≡ None
unfolding condition one_member sorted_of order_bytes
one k v a b c empty t h = made_sorted v (find k operators) (unrepeated k v empty t).value a b c h
one k v a b c (member l w ms) t h = never _ h

-- the member of a name
of : (l : Bytes) (w : Value) → SoundSorted w → (ms : Members) → (k : Bytes) (v : Value) →
    (tidy_of max_number ms ≡ true → find k (entries ms) ≡ Some v → fault_of (condition v) ≡ None → fault_of (condition (sorted v)) ≡ None) →
    tidy_of max_number (member l w ms) ≡ true → find k (entries (member l w ms)) ≡ Some v → fault_of (condition v) ≡ None →
    fault_of (condition (sorted v)) ≡ None
unfolding find
of l w a ms k v below t e h = go (same_bytes k l) refl
  where
    u : Unrepeated l w ms
    u = unrepeated l w ms t

    go : (b : Bool) → same_bytes k l ≡ b → fault_of (condition (sorted v)) ≡ None
    go true q =
        let i : w ≡
        v = cc (rw (q, find) at e) in subst (λ (x : Value). fault_of (condition (sorted x)) ≡ None) i
        (a u.value (ap (λ (x : Value). fault_of (condition x)) i ∙ h))
    go false q = below u.others (rw (q, find) at e) h

mutual
  unfolding condition condition_array conditions_in find one_member order_bytes sorted sorted_in sorted_of tidy tidy_in tidy_of quantifier_fault condition_object

  pub sound_sorted : (v : Value) → tidy max_number v ≡ true → fault_of (condition v) ≡ None → fault_of (condition (sorted v)) ≡ None
  sound_sorted null t s = s
  sound_sorted (bool b) t s = refl
  sound_sorted (number n) t s = s
  sound_sorted (text n) t s = s
  sound_sorted (array vs) t s = s
  sound_sorted (object ms) t s = one_sorted ms t s

  one_sorted : (ms : Members) → tidy_of max_number ms ≡ true → fault_of (condition (object ms)) ≡ None → fault_of (condition (object (sorted_of ms))) ≡ None
  one_sorted empty t s = s
  one_sorted (member k v ms) t s = one k v (λ a b. sound_sorted v a b) (λ a b. array_sorted v a b) (λ a b. quantified_sorted v a b) ms t s

  array_sorted : (v : Value) → tidy max_number v ≡ true → fault_of (condition_array v) ≡ None → fault_of (condition_array (sorted v)) ≡ None
  array_sorted null t s = s
  array_sorted (bool b) t s = s
  array_sorted (number n) t s = s
  array_sorted (text n) t s = s
  array_sorted (array vs) t s = in_sorted vs t s
  array_sorted (object ms) t s = s

  in_sorted : (vs : Values) → tidy_in max_number vs ≡ true → faults_in vs ≡ None → faults_in (sorted_in vs) ≡ None
  in_sorted nil t s = s
  in_sorted (cons v vs) t s =
      let p = first_none (fault_of (condition v)) (faults_in vs) (sym (conditions_first v vs) ∙ s) in
      conditions_first (sorted v) (sorted_in vs) ∙
      both (fault_of (condition (sorted v))) (faults_in (sorted_in vs))
      (sound_sorted v (and_first (tidy max_number v) (tidy_in max_number vs) t) p.0)
      (in_sorted vs (and_second (tidy max_number v) (tidy_in max_number vs) t) p.1)

  quantified_sorted : (v : Value) → tidy max_number v ≡ true → quantifier_fault v ≡ None → quantifier_fault (sorted v) ≡ None
  quantified_sorted null t s = s
  quantified_sorted (bool b) t s = s
  quantified_sorted (number n) t s = s
  quantified_sorted (text n) t s = s
  quantified_sorted (array vs) t s = s
  quantified_sorted (object ms) t s = let p = parts every ms (sym (quantifier_of ms) ∙ s) in parts_sorted ms t p (each_sorted ms t (ascii "that") p.body p.is_that p.sound)

  each_sorted :
      (ms : Members) → tidy_of max_number ms ≡ true → (k : Bytes) (v : Value) → find k (entries ms) ≡ Some v → fault_of (condition v) ≡ None →
      fault_of (condition (sorted v)) ≡ None
  each_sorted empty t k v e s = let z : ◌≡◌ {A = ℕ} 0 1 = cc in absurd (omega arith)
  each_sorted (member l w ms) t k v e s = of l w (λ a b. sound_sorted w a b) ms k v (λ a b c. each_sorted ms a k v b c) t e s
