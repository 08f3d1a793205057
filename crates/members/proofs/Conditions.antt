-- The fault of a condition by its kind, its one member and what that holds.
-- Assumes nothing.
use mathlib.Core.Bool.{Bool, false, true, ◌||◌}
use Rattle.std.specs.Prelude.{Option, None, Some}
use mathlib.Core.Path.{ap, refl, sym, ◌∙◌, ◌≡◌}
use Prim.Native.Nat.{suc, ℕ}
use native.Mathlib.Omega.{arith}
use lib.Dec.{eqb}
use lib.ListN.{length}
use borrow.Author.Tests.{eq-eqb, ne_eqb}
use Rattle.json_text.specs.Bytes.{Bytes, ascii, find, same_bytes}
use Rattle.json_text.specs.Json.{Members, Value, Values, array, as_text, bool, cons, elements, empty, entries, member, nil, null, number, object, text}
use Rattle.json_text.specs.Refusal.{Refusal, Result, ok, or_else, refused, wrong_shape, ◌>>=◌}
use Rattle.members.proofs.Shapes.{tag}
use Rattle.members.specs.Condition.{
  Condition,
  Form,
  Mode,
  Operator,
  condition,
  condition_array,
  condition_object,
  conditions_in,
  conditions_of,
  every,
  formed,
  one_member,
  op_junction,
  op_negation,
  op_pair,
  op_quantified,
  operators,
  quantified,
  quantifier,
  two_of,
}
use Rattle.members.specs.Faults.{pair_fault, quantifier_fault}
use Rattle.members.specs.Verdicts.{fault_of}

-- what is read last has the fault, if there is one
pub fault_last : {A B : Type 0} (x : Result A) (f : A → B) → fault_of (x >>= (λ a. ok (f a))) ≡ fault_of x
fault_last (ok a) f = refl
fault_last (refused r) f = refl

-- the first fault of two
abbrev pub first_of : Option Refusal → Option Refusal → Option Refusal
first_of None o = o
first_of (Some r) o = Some r

pub fault_bind : {A B : Type 0} (x : Result A) (f : A → Result B) (o : Option Refusal) → ((a : A) → fault_of (f a) ≡ o) → fault_of (x >>= f) ≡ first_of (fault_of x) o
fault_bind (ok a) f o h = h a
fault_bind (refused r) f o h = refl

-- ---- pair forms
pub pair_fault_lem : (f : Form) (v : Value) → fault_of (two_of f v) ≡ pair_fault v
unfolding pair_fault
pair_fault_lem f null = refl
pair_fault_lem f (bool b) = refl
pair_fault_lem f (number s) = refl
pair_fault_lem f (text s) = refl
pair_fault_lem f (object ms) = refl
pair_fault_lem f (array nil) = refl
pair_fault_lem f (array (cons v nil)) = refl
pair_fault_lem f (array (cons v (cons w nil))) = refl
pair_fault_lem f (array (cons v (cons w (cons x vs)))) = refl

pub no_pair : (v : Value) → (tag v ≡ 5 → ⊥) → pair_fault v ≡ Some wrong_shape
unfolding pair_fault
no_pair null h = refl
no_pair (bool b) h = refl
no_pair (number s) h = refl
no_pair (text s) h = refl
no_pair (object ms) h = refl
no_pair (array vs) h = absurd (h refl)

pub two : (vs : Values) → length (elements vs) ≡ 2 → pair_fault (array vs) ≡ None
unfolding pair_fault
two nil h = absurd (omega arith)
two (cons v nil) h = absurd (omega arith)
two (cons v (cons w nil)) h = refl
two (cons v (cons w (cons x vs))) h = absurd (omega arith)

pub not_two : (vs : Values) → (length (elements vs) ≡ 2 → ⊥) → pair_fault (array vs) ≡ Some wrong_shape
unfolding pair_fault
not_two nil h = refl
not_two (cons v nil) h = refl
not_two (cons v (cons w nil)) h = absurd (h refl)
not_two (cons v (cons w (cons x vs))) h = refl

-- ---- conditions in an array
pub no_conditions : (v : Value) → (tag v ≡ 5 → ⊥) → fault_of (condition_array v) ≡ Some wrong_shape
unfolding condition_array
no_conditions null h = refl
no_conditions (bool b) h = refl
no_conditions (number s) h = refl
no_conditions (text s) h = refl
no_conditions (object ms) h = refl
no_conditions (array vs) h = absurd (h refl)

abbrev pub faults_in : Values → Option Refusal
faults_in vs = fault_of (conditions_in vs)

pub conditions_array : (vs : Values) → fault_of (condition_array (array vs)) ≡ faults_in vs
unfolding condition_array
conditions_array vs = refl

pub conditions_none : faults_in nil ≡ None
unfolding conditions_in
conditions_none = refl

pub conditions_first : (v : Value) (vs : Values) → faults_in (cons v vs) ≡ first_of (fault_of (condition v)) (faults_in vs)
unfolding conditions_in
conditions_first v vs = fault_bind (condition v) _ (faults_in vs) (λ c. fault_last (conditions_in vs) _)

-- ---- quantifiers
abbrev pub with_condition : Option Value → Option (Value × Result Condition)
with_condition None = None
with_condition (Some v) = Some (v, condition v)

pub find_conditions : (k : Bytes) (ms : Members) → find k (conditions_of ms) ≡ with_condition (find k (entries ms))
unfolding find conditions_of
find_conditions k empty = refl
find_conditions k (member l v ms) = go (same_bytes k l) refl (find_conditions k ms)
  where
    go : (b : Bool) → same_bytes k l ≡ b → find k (conditions_of ms) ≡ with_condition (find k (entries ms)) →
        find k (conditions_of (member l v ms)) ≡ with_condition (find k (entries (member l v ms)))
    go true e below = rw (e, find)
    go false e below = rw (e, find) below

length_conditions : (ms : Members) → length (conditions_of ms) ≡ length (entries ms)
unfolding conditions_of
length_conditions empty = refl
length_conditions (member l v ms) = ap suc (length_conditions ms)

pub quantifier_of : (ms : Members) → quantifier_fault (object ms) ≡ fault_of (quantifier every (conditions_of ms))
unfolding quantifier_fault condition_object
quantifier_of ms = refl

pub no_quantifier : (v : Value) → (tag v ≡ 6 → ⊥) → quantifier_fault v ≡ Some wrong_shape
unfolding quantifier_fault condition_object
no_quantifier null h = refl
no_quantifier (bool b) h = refl
no_quantifier (number s) h = refl
no_quantifier (text s) h = refl
no_quantifier (array vs) h = refl
no_quantifier (object ms) h = absurd (h refl)

module _ (m : Mode) (ms : Members) where
  pub several : (length (entries ms) ≡ 3 → ⊥) → fault_of (quantifier m (conditions_of ms)) ≡ Some wrong_shape
  unfolding quantifier
  several h = let q : eqb (length (conditions_of ms)) 3 ≡ false = ne_eqb (length (conditions_of ms)) 3 (λ z. h (sym (length_conditions ms) ∙ z)) in rw (q, quantifier)

  module _ (three : length (entries ms) ≡ 3) where
    pub exactly : eqb (length (conditions_of ms)) 3 ≡ true
    exactly = eq-eqb (length (conditions_of ms)) 3 (length_conditions ms ∙ three)

    pub no_in : find (ascii "in") (entries ms) ≡ None → fault_of (quantifier m (conditions_of ms)) ≡ Some wrong_shape
    unfolding quantifier
    no_in e = rw (exactly, quantifier, find_conditions (ascii "in") ms, e)

    module _ (over : Value) (is_in : find (ascii "in") (entries ms) ≡ Some over) where
      pub no_as : find (ascii "as") (entries ms) ≡ None → fault_of (quantifier m (conditions_of ms)) ≡ Some wrong_shape
      unfolding quantifier
      no_as e = rw (exactly, quantifier, find_conditions (ascii "in") ms, is_in, find_conditions (ascii "as") ms, e)

      module _ (bind : Value) (is_as : find (ascii "as") (entries ms) ≡ Some bind) where
        pub no_that : find (ascii "that") (entries ms) ≡ None → fault_of (quantifier m (conditions_of ms)) ≡ Some wrong_shape
        unfolding quantifier
        no_that e = rw (exactly, quantifier, find_conditions (ascii "in") ms, is_in, find_conditions (ascii "as") ms, is_as, find_conditions (ascii "that") ms, e)

        module _ (body : Value) (is_that : find (ascii "that") (entries ms) ≡ Some body) where
          pub no_name : as_text bind ≡ None → fault_of (quantifier m (conditions_of ms)) ≡ Some wrong_shape
          unfolding quantifier
          no_name e = rw (exactly, quantifier, find_conditions (ascii "in") ms, is_in, find_conditions (ascii "as") ms, is_as, find_conditions (ascii "that") ms, is_that, e)

          pub the_body : (t : Bytes) → as_text bind ≡ Some t → fault_of (quantifier m (conditions_of ms)) ≡ fault_of (condition body)
          unfolding quantifier
          the_body t e =
              rw (
                exactly,
                quantifier,
                find_conditions (ascii "in") ms,
                is_in,
                find_conditions (ascii "as") ms,
                is_as,
                find_conditions
                    (ascii "that") ms,
                is_that,
                e,
              ) (fault_last (condition body) _)

-- which quantifier it is makes no difference
quantifier_fault_lem : (m : Mode) (v : Value) → fault_of (condition_object v >>= quantifier m) ≡ quantifier_fault v
unfolding quantifier_fault condition_object quantifier
quantifier_fault_lem m null = refl
quantifier_fault_lem m (bool b) = refl
quantifier_fault_lem m (number s) = refl
quantifier_fault_lem m (text s) = refl
quantifier_fault_lem m (array vs) = refl
quantifier_fault_lem m (object ms) = go (eqb (length (conditions_of ms)) 3)
  where
    last : (body : Result Condition) (x y : Condition → Condition) → fault_of (body >>= (λ c. ok (x c))) ≡ fault_of (body >>= (λ c. ok (y c)))
    last (ok c) x y = refl
    last (refused r) x y = refl

    four : (o b c : Option (Value × Result Condition)) (n : Value → Option Bytes) →
        fault_of
        (or_else o wrong_shape >>=
        (λ over. or_else b wrong_shape >>=
        (λ bind. or_else c wrong_shape >>=
        (λ body. or_else (n bind.0) wrong_shape >>= (λ name. body.1 >>= (λ x. ok (quantified m over.0 name x))))))) ≡
        fault_of
        (or_else o wrong_shape >>=
        (λ over. or_else b wrong_shape >>=
        (λ bind. or_else c wrong_shape >>=
        (λ body. or_else (n bind.0) wrong_shape >>= (λ name. body.1 >>= (λ x. ok (quantified every over.0 name x)))))))
    four None b c n = refl
    four (Some o) None c n = refl
    four (Some o) (Some b) None n = refl
    four (Some o) (Some b) (Some c) n = named (n b.0)
      where
        named : (t : Option Bytes) →
            fault_of (or_else t wrong_shape >>= (λ name. c.1 >>= (λ x. ok (quantified m o.0 name x)))) ≡
            fault_of (or_else t wrong_shape >>= (λ name. c.1 >>= (λ x. ok (quantified every o.0 name x))))
        named None = refl
        named (Some t) = last c.1 (λ x. quantified m o.0 t x) (λ x. quantified every o.0 t x)

    go : (b : Bool) → fault_of {A = Condition}
        (elim b [
          | false ↦ refused wrong_shape
          | true ↦
              (or_else (find (ascii "in") (conditions_of ms)) wrong_shape >>=
              (λ over. or_else (find (ascii "as") (conditions_of ms)) wrong_shape >>=
              (λ bind. or_else (find (ascii "that") (conditions_of ms)) wrong_shape >>=
              (λ body. or_else (as_text bind.0) wrong_shape >>= (λ name. body.1 >>= (λ x. ok (quantified m over.0 name x)))))))
        ]) ≡
        fault_of {A = Condition}
        (elim b [
          | false ↦ refused wrong_shape
          | true ↦
              (or_else (find (ascii "in") (conditions_of ms)) wrong_shape >>=
              (λ over. or_else (find (ascii "as") (conditions_of ms)) wrong_shape >>=
              (λ bind. or_else (find (ascii "that") (conditions_of ms)) wrong_shape >>=
              (λ body. or_else (as_text bind.0) wrong_shape >>=
              (λ name. body.1 >>= (λ x. ok (quantified every over.0 name x)))))))
        ])
    go false = refl
    go true = four (find (ascii "in") (conditions_of ms)) (find (ascii "as") (conditions_of ms)) (find (ascii "that") (conditions_of ms)) as_text

-- ---- a condition by its kind and its one member
pub a_boolean : (v : Value) → (eqb (tag v) 1 || eqb (tag v) 2) ≡ true → fault_of (condition v) ≡ None
unfolding condition
a_boolean null h = let z : ◌≡◌ {A = ℕ} 0 1 = cc in absurd (omega arith)
a_boolean (bool true) h = refl
a_boolean (bool false) h = refl
a_boolean (number s) h = let z : ◌≡◌ {A = ℕ} 0 1 = cc in absurd (omega arith)
a_boolean (text s) h = let z : ◌≡◌ {A = ℕ} 0 1 = cc in absurd (omega arith)
a_boolean (array vs) h = let z : ◌≡◌ {A = ℕ} 0 1 = cc in absurd (omega arith)
a_boolean (object ms) h = let z : ◌≡◌ {A = ℕ} 0 1 = cc in absurd (omega arith)

pub no_condition : (v : Value) → (eqb (tag v) 1 || eqb (tag v) 2) ≡ false → (tag v ≡ 6 → ⊥) → fault_of (condition v) ≡ Some wrong_shape
unfolding condition
no_condition null h f = refl
no_condition (bool true) h f = let z : ◌≡◌ {A = ℕ} 0 1 = cc in absurd (omega arith)
no_condition (bool false) h f = let z : ◌≡◌ {A = ℕ} 0 1 = cc in absurd (omega arith)
no_condition (number s) h f = refl
no_condition (text s) h f = refl
no_condition (array vs) h f = refl
no_condition (object ms) h f = absurd (f refl)

pub not_one : (ms : Members) → (length (entries ms) ≡ 1 → ⊥) → fault_of (condition (object ms)) ≡ Some wrong_shape
unfolding condition one_member
not_one empty h = refl
not_one (member k v empty) h = absurd (h refl)
not_one (member k v (member l w ms)) h = refl

-- what the operator makes of the value
abbrev pub made : Value → Option Operator → Option Refusal
made v o = fault_of (formed v (condition v) (condition_array v) (condition_object v) o)

pub by_operator : (k : Bytes) (v : Value) {o : Option Operator} → find k operators ≡ o → fault_of (condition (object (member k v empty))) ≡ made v o
unfolding condition one_member
by_operator k v e = ap (made v) e

pub made_junction : (v : Value) (m : Mode) → made v (Some (op_junction m)) ≡ fault_of (condition_array v)
made_junction v m = fault_last (condition_array v) _

pub made_negation : (v : Value) → made v (Some op_negation) ≡ fault_of (condition v)
made_negation v = fault_last (condition v) _

pub made_pair : (v : Value) (f : Form) → made v (Some (op_pair f)) ≡ pair_fault v
made_pair v f = pair_fault_lem f v

pub made_quantified : (v : Value) (m : Mode) → made v (Some (op_quantified m)) ≡ quantifier_fault v
made_quantified v m = quantifier_fault_lem m v
