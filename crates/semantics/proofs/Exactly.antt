-- On a sheet that is read, conditions order numbers by their exact values, and so find them equal: every number that evaluation compares is a
-- number of the grammar, and there the comparison that the code runs is the order of exact values.
-- Assumes nothing.
use mathlib.Core.Bool.{Bool, false, not, true, ◌&&◌, ◌||◌}
use mathlib.Core.List.{List, [], ◌∷◌}
use Rattle.std.specs.Prelude.{Option, None, Some}
use mathlib.Core.Path.{ap, ap₂, refl, subst, ◌≡◌}
use Prim.Native.Nat.{Ordering}
use Rattle.number.proofs.Digits.{numbers_exact}
use Rattle.number.specs.Compare.{number_order}
use Rattle.number.specs.Decimal.{decimal, exact_order}
use Rattle.json_text.specs.Bytes.{Bytes, find, same_bytes}
use Rattle.json_text.specs.Json.{Members, Value, Values, array, as_array, as_number, as_object, bool, cons, elements, empty, entries, is_null, member, nil, null, number, object, text}
use Rattle.json_text.specs.Refusal.{Refusal, Result, ok, refused, unknown_expression, ◌>>=◌}
use Rattle.semantics.proofs.Parts.{All, Entries, Operands, OperandsIn, SheetHas, find_entry, none_some}
use Rattle.semantics.proofs.Spelled.{numbers_in, numbers_of, read_numbers}
use Rattle.semantics.specs.Equality.{equal_by, equal_in, equal_of}
use Rattle.semantics.specs.Evaluate.{Answer, certain, collection, compared, each, evaluate, evaluate_all, is_present, joined, over, unknown, values_of}
use Rattle.semantics.specs.Expression.{Env, bases, below, gives, gives_parts, id_of, if_any, parts, roots, unbound, walk}
use Rattle.semantics.specs.Forms.{contained, holds, is_element, is_greater, is_less, numbers}
use Rattle.semantics.specs.Names.{Names}
use Rattle.semantics.specs.Operand.{Resolved, Written, both, escaped, expression, missing, observed, plain, present, read_text, resolve, resolve_in, resolve_of, resolve_text, same}
use Rattle.semantics.specs.Semantics.{exact_kernel, is_same, kernel, member_step}
use Rattle.semantics.specs.Spelled.{AllNumbers, AllNumbersIn, AllNumbersOf, ConditionOf, IsNumber}
use Rattle.semantics.specs.Truth.{settles}
use Rattle.members.specs.Condition.{
  Condition,
  Conditions,
  Form,
  Mode,
  also,
  contains,
  ends_with,
  eq,
  exists,
  gt,
  gte,
  is_in,
  junction,
  literal,
  lt,
  lte,
  ne,
  negation,
  no_more,
  pair,
  quantified,
  starts_with,
}
use Rattle.members.specs.Sheet.{Sheet, read_sheet}

-- ---- two numbers, and the values of each kind
pub order_exactly : (x y : Bytes) → IsNumber x → IsNumber y → number_order x y ≡ exact_order (decimal x) (decimal y)
order_exactly x y h k = numbers_exact h.2 k.2

as_number_lem : (v : Value) (s : Bytes) → AllNumbers v → as_number v ≡ Some s → IsNumber s
unfolding AllNumbers
as_number_lem null s h e = none_some s e
as_number_lem (bool b) s h e = none_some s e
as_number_lem (number t) s h e = let z : t ≡ s = cc in subst IsNumber z h
as_number_lem (text t) s h e = none_some s e
as_number_lem (array vs) s h e = none_some s e
as_number_lem (object ms) s h e = none_some s e

as_array_lem : (v : Value) (vs : Values) → AllNumbers v → as_array v ≡ Some vs → AllNumbersIn vs
unfolding AllNumbers
as_array_lem null vs h e = none_some vs e
as_array_lem (bool b) vs h e = none_some vs e
as_array_lem (number t) vs h e = none_some vs e
as_array_lem (text t) vs h e = none_some vs e
as_array_lem (array ws) vs h e = let z : ws ≡ vs = cc in subst AllNumbersIn z h
as_array_lem (object ms) vs h e = none_some vs e

as_object_lem : (v : Value) (ms : Members) → AllNumbers v → as_object v ≡ Some ms → AllNumbersOf ms
unfolding AllNumbers
as_object_lem null ms h e = none_some ms e
as_object_lem (bool b) ms h e = none_some ms e
as_object_lem (number t) ms h e = none_some ms e
as_object_lem (text t) ms h e = none_some ms e
as_object_lem (array vs) ms h e = none_some ms e
as_object_lem (object ns) ms h e = let z : ns ≡ ms = cc in subst AllNumbersOf z h

-- where there is none, false; else by what is there
if_some : {A : Type 0} (x : Option A) {f g : A → Bool} → ((a : A) → x ≡ Some a → f a ≡ g a) → ◌≡◌ {A = Bool}
    (elim x [ None ↦ false | Some a ↦ f a ]) (elim x [ None ↦ false | Some a ↦ g a ])
if_some None h = refl
if_some (Some a) h = h a refl

-- ---- equality and the pair forms
mutual
  unfolding AllNumbers equal_by

  pub equal_exactly : (v w : Value) → AllNumbers v → AllNumbers w → equal_by kernel.same_number v w ≡ equal_by exact_kernel.same_number v w
  equal_exactly null w h k = refl
  equal_exactly (bool b) w h k = refl
  equal_exactly (number s) w h k = if_some (as_number w) (λ t e. ap is_same (order_exactly s t h (as_number_lem w t k e)))
  equal_exactly (text s) w h k = refl
  equal_exactly (array vs) w h k = if_some (as_array w) (λ ws e. equal_in_exactly vs ws h (as_array_lem w ws k e))
  equal_exactly (object ms) w h k = if_some (as_object w) (λ ns e. equal_of_exactly ms ns h (as_object_lem w ns k e))

  equal_in_exactly : (vs ws : Values) → AllNumbersIn vs → AllNumbersIn ws → equal_in kernel.same_number vs ws ≡ equal_in exact_kernel.same_number vs ws
  equal_in_exactly nil nil h k = refl
  equal_in_exactly nil (cons w ws) h k = refl
  equal_in_exactly (cons v vs) nil h k = refl
  equal_in_exactly (cons v vs) (cons w ws) h k = ap₂ ◌&&◌ (equal_exactly v w h.0 k.0) (equal_in_exactly vs ws h.1 k.1)

  equal_of_exactly : (ms ns : Members) → AllNumbersOf ms → AllNumbersOf ns → equal_of kernel.same_number ms ns ≡ equal_of exact_kernel.same_number ms ns
  equal_of_exactly empty empty h k = refl
  equal_of_exactly empty (member l w ns) h k = refl
  equal_of_exactly (member j v ms) empty h k = refl
  equal_of_exactly (member j v ms) (member l w ns) h k = ap (λ (b : Bool). same_bytes j l && b) (ap₂ ◌&&◌ (equal_exactly v w h.0 k.0) (equal_of_exactly ms ns h.1 k.1))

numbers_exactly : (p : Ordering → Bool) (v w : Value) → AllNumbers v → AllNumbers w → numbers kernel p v w ≡ numbers exact_kernel p v w
numbers_exactly p v w h k = if_some (as_number v) (λ s e. if_some (as_number w) (λ t f. ap p (order_exactly s t (as_number_lem v s h e) (as_number_lem w t k f))))

element_exactly : (v : Value) (ws : Values) → AllNumbers v → AllNumbersIn ws → is_element kernel v ws ≡ is_element exact_kernel v ws
unfolding AllNumbers is_element
element_exactly v nil h k = refl
element_exactly v (cons w ws) h k = ap₂ (λ (b c : Bool). elim b as (λ _. Bool) [ true ↦ true | false ↦ c ]) (equal_exactly w v k.0 h) (element_exactly v ws h k.1)

contained_exactly : (v w : Value) → AllNumbers v → AllNumbers w → contained kernel v w ≡ contained exact_kernel v w
unfolding AllNumbers
contained_exactly null w h k = refl
contained_exactly (bool b) w h k = refl
contained_exactly (number s) w h k = refl
contained_exactly (text s) w h k = refl
contained_exactly (array vs) w h k = element_exactly w vs k h
contained_exactly (object ms) w h k = refl

pub holds_exactly : (f : Form) (v w : Value) → AllNumbers v → AllNumbers w → holds kernel f v w ≡ holds exact_kernel f v w
unfolding holds
holds_exactly eq v w h k = equal_exactly v w h k
holds_exactly ne v w h k = ap not (equal_exactly v w h k)
holds_exactly gt v w h k = numbers_exactly is_greater v w h k
holds_exactly gte v w h k = numbers_exactly (λ o. is_greater o || is_same o) v w h k
holds_exactly lt v w h k = numbers_exactly is_less v w h k
holds_exactly lte v w h k = numbers_exactly (λ o. is_less o || is_same o) v w h k
holds_exactly is_in v w h k = if_some (as_array w) (λ ws e. element_exactly v ws h (as_array_lem w ws k e))
holds_exactly contains v w h k = contained_exactly v w h k
holds_exactly starts_with v w h k = refl
holds_exactly ends_with v w h k = refl

-- ---- expressions and operands: both give the same, and what they give has numbers only
pub data Found : Result (Option Value) → Result (Option Value) → Type 0 where
  value : {v : Value} → AllNumbers v → Found (ok (Some v)) (ok (Some v))
  nothing : Found (ok None) (ok None)
  refusal : {r : Refusal} → Found (refused r) (refused r)

pub data Agree {A : Type 0} (P : A → Type 0) : Result (Resolved A) → Result (Resolved A) → Type 0 where
  there : {a : A} → P a → Agree P (ok (present a)) (ok (present a))
  names : {ns : Names} → Agree P (ok (missing ns)) (ok (missing ns))
  neither : {r : Refusal} → Agree P (refused r) (refused r)

step_numbers : (k : Bytes) (v : Value) {w : Value} → AllNumbers v → member_step k v ≡ Some w → AllNumbers w
unfolding AllNumbers
step_numbers k null {w} h e = none_some w e
step_numbers k (bool b) {w} h e = none_some w e
step_numbers k (number s) {w} h e = none_some w e
step_numbers k (text s) {w} h e = none_some w e
step_numbers k (array vs) {w} h e = none_some w e
step_numbers k (object ms) h e = find_entry AllNumbers k (entries ms) (numbers_of ms h) e

walk_agrees : (ks : List Bytes) (v : Value) → AllNumbers v → Found (ok (walk kernel ks v)) (ok (walk exact_kernel ks v))
unfolding walk
walk_agrees [] v h = value h
walk_agrees (k ∷ ks) v h = go (λ w j. walk_agrees ks w j) (member_step k v) refl
  where
    go :
        ((w : Value) → AllNumbers w → Found (ok (walk kernel ks w)) (ok (walk exact_kernel ks w))) → (x : Option Value) → member_step k v ≡ x →
        Found (ok (elim x [ None ↦ None | Some w ↦ walk kernel ks w ])) (ok (elim x [ None ↦ None | Some w ↦ walk exact_kernel ks w ]))
    go rest None q = nothing
    go rest (Some w) q = rest w (step_numbers k v h q)

-- parts put together
same_agrees :
    {A B : Type 0} {P : A → Type 0} {Q : B → Type 0} (f : A → B) → ((a : A) → P a → Q (f a)) → {x y : Result (Resolved A)} → Agree P x y →
    Agree Q (x >>= λ r. ok (same f r)) (y >>= λ r. ok (same f r))
same_agrees f h (there p) = there (h _ p)
same_agrees f h names = names
same_agrees f h neither = neither

both_agrees :
    {A B D : Type 0} {P : A → Type 0} {Q : B → Type 0} {R : D → Type 0} (f : A → B → D) → ((a : A) (b : B) → P a → Q b → R (f a b)) →
    {x y : Result (Resolved A)} {z u : Result (Resolved B)} → Agree P x y → Agree Q z u →
    Agree R (x >>= λ r. z >>= λ s. ok (both f r s)) (y >>= λ r. u >>= λ s. ok (both f r s))
both_agrees f h (there p) (there q) = there (h _ _ p q)
both_agrees f h (there p) names = names
both_agrees f h (there p) neither = neither
both_agrees f h names (there q) = names
both_agrees f h names names = names
both_agrees f h names neither = neither
both_agrees f h neither q = neither

observed_agrees : (e : Bytes) {x y : Result (Option Value)} → Found x y → Agree AllNumbers (x >>= λ g. ok (observed e g)) (y >>= λ g. ok (observed e g))
observed_agrees e (value {v = v} h) = go (is_null v)
  where
    go : (b : Bool) →
        Agree AllNumbers (ok (elim b [ true ↦ missing ((36 ∷ e) ∷ []) | false ↦ present v ]))
        (ok (elim b [ true ↦ missing ((36 ∷ e) ∷ []) | false ↦ present v ]))
    go true = names
    go false = there h
observed_agrees e nothing = names
observed_agrees e refusal = neither

module _ (sheet : Sheet Condition) (has : SheetHas AllNumbers sheet) where
  roots_agree : Entries (λ r. Found r r) (roots sheet)
  unfolding AllNumbers
  roots_agree = (
    id_agrees sheet.id,
    (
      value tt,
      (
        value has.version,
        (
          any_agrees sheet.from_state,
          (value tt, (value tt, (value has.args, (value has.fields, (value has.old_fields, tt))))),
        ),
      ),
    ),
  )
    where
      id_agrees : (s : Option Bytes) → Found (id_of s) (id_of s)
      id_agrees None = refusal
      id_agrees (Some s) = value tt

      any_agrees : (s : Option Bytes) → Found (ok (if_any s)) (ok (if_any s))
      any_agrees None = nothing
      any_agrees (Some s) = value tt

  bases_agree : Entries AllNumbersOf (bases sheet)
  unfolding AllNumbers
  bases_agree = (has.args, (has.fields, (has.old_fields, tt)))

  unbound_agrees : (e name : Bytes) (path : List Bytes) → Found (unbound kernel sheet e name path) (unbound exact_kernel sheet e name path)
  unfolding unbound AllNumbers
  unbound_agrees e name [] = go (find name (roots sheet)) refl
    where
      go : (x : Option (Result (Option Value))) → find name (roots sheet) ≡ x →
          Found (elim x [ None ↦ refused (unknown_expression (36 ∷ e)) | Some r ↦ r ])
          (elim x [ None ↦ refused (unknown_expression (36 ∷ e)) | Some r ↦ r ])
      go None q = refusal
      go (Some r) q = find_entry (λ x. Found x x) name (roots sheet) roots_agree q
  unbound_agrees e name (p ∷ ps) = go (find name (bases sheet)) refl
    where
      inside : (q : Bytes) (ms : Members) → AllNumbersOf ms → Found (ok (below kernel sheet q ps ms)) (ok (below exact_kernel sheet q ps ms))
      inside [] ms h = nothing
      inside (c ∷ q) ms h = walk_agrees ((c ∷ q) ∷ ps) (object ms) h

      go : (x : Option Members) → find name (bases sheet) ≡ x →
          Found (elim x [ None ↦ refused (unknown_expression (36 ∷ e)) | Some ms ↦ ok (below kernel sheet p ps ms) ])
          (elim x [ None ↦ refused (unknown_expression (36 ∷ e)) | Some ms ↦ ok (below exact_kernel sheet p ps ms) ])
      go None q = refusal
      go (Some ms) q = inside p ms (find_entry AllNumbersOf name (bases sheet) bases_agree q)

  pub gives_agrees : (env : Env) (e : Bytes) → Entries AllNumbers env → Found (gives kernel sheet env e) (gives exact_kernel sheet env e)
  unfolding gives gives_parts
  gives_agrees env e h = go (parts e)
    where
      go : (ps : List Bytes) → Found (gives_parts kernel sheet env e ps) (gives_parts exact_kernel sheet env e ps)
      go [] = refusal
      go (name ∷ path) = decide (find name env) refl
        where
          decide : (x : Option Value) → find name env ≡ x →
              Found (elim x [ Some v ↦ ok (walk kernel path v) | None ↦ unbound kernel sheet e name path ])
              (elim x [ Some v ↦ ok (walk exact_kernel path v) | None ↦ unbound exact_kernel sheet e name path ])
          decide None q = unbound_agrees e name path
          decide (Some v) q = walk_agrees path v (find_entry AllNumbers name env h q)

  text_agrees : (env : Env) (s : Bytes) → Entries AllNumbers env → Agree AllNumbers (resolve_text kernel sheet env s) (resolve_text exact_kernel sheet env s)
  unfolding resolve_text AllNumbers
  text_agrees env s h = go (read_text s)
    where
      go : (w : Written) →
          Agree AllNumbers
          (elim w [
            | plain ↦ ok (present (text s))
            | escaped t ↦ ok (present (text t))
            | expression e ↦
                (gives kernel sheet env e >>= λ g. ok (observed e g))
          ])
          (elim w [
            | plain ↦ ok (present (text s))
            | escaped t ↦ ok (present (text t))
            | expression e ↦
                (gives exact_kernel sheet env e >>= λ g. ok (observed e g))
          ])
      go plain = there tt
      go (escaped t) = there tt
      go (expression e) = observed_agrees e (gives_agrees env e h)

  mutual
    unfolding resolve AllNumbers

    pub resolve_agrees : (env : Env) (v : Value) → Entries AllNumbers env → AllNumbers v → Agree AllNumbers (resolve kernel sheet env v) (resolve exact_kernel sheet env v)
    resolve_agrees env null h k = there tt
    resolve_agrees env (bool b) h k = there tt
    resolve_agrees env (number s) h k = there k
    resolve_agrees env (text s) h k = text_agrees env s h
    resolve_agrees env (array vs) h k = same_agrees array (λ ws j. j) (resolve_in_agrees env vs h k)
    resolve_agrees env (object ms) h k = same_agrees object (λ ns j. j) (resolve_of_agrees env ms h k)

    resolve_in_agrees : (env : Env) (vs : Values) → Entries AllNumbers env → AllNumbersIn vs → Agree AllNumbersIn (resolve_in kernel sheet env vs) (resolve_in exact_kernel sheet env vs)
    resolve_in_agrees env nil h k = there tt
    resolve_in_agrees env (cons v vs) h k = both_agrees cons (λ w ws i j. (i, j)) (resolve_agrees env v h k.0) (resolve_in_agrees env vs h k.1)

    resolve_of_agrees : (env : Env) (ms : Members) → Entries AllNumbers env → AllNumbersOf ms → Agree AllNumbersOf (resolve_of kernel sheet env ms) (resolve_of exact_kernel sheet env ms)
    resolve_of_agrees env empty h k = there tt
    resolve_of_agrees env (member n v ms) h k = both_agrees (member n) (λ w ns i j. (i, j)) (resolve_agrees env v h k.0) (resolve_of_agrees env ms h k.1)

-- ---- conditions
exists_same : {x y : Result (Resolved Value)} → Agree AllNumbers x y → (x >>= λ r. ok (certain (is_present r))) ≡ (y >>= λ r. ok (certain (is_present r)))
exists_same (there h) = refl
exists_same names = refl
exists_same neither = refl

pair_same : (f : Form) {x y z u : Result (Resolved Value)} → Agree AllNumbers x y → Agree AllNumbers z u →
    (x >>= λ r. z >>= λ q. ok (compared kernel f r q)) ≡ (y >>= λ r. u >>= λ q. ok (compared exact_kernel f r q))
pair_same f (there {a = v} h) (there {a = w} k) = ap {B = Result Answer} (λ b. ok (certain b)) (holds_exactly f v w h k)
pair_same f (there h) names = refl
pair_same f (there h) neither = refl
pair_same f names (there k) = refl
pair_same f names names = refl
pair_same f names neither = refl
pair_same f neither k = refl

-- the elements that a quantifier binds have numbers only
collected : (v : Value) (vs : List Value) → AllNumbers v → collection v ≡ Some vs → All AllNumbers vs
unfolding AllNumbers
collected null vs h e = none_some vs e
collected (bool b) vs h e = none_some vs e
collected (number s) vs h e = none_some vs e
collected (text s) vs h e = none_some vs e
collected (array ws) vs h e = let z : elements ws ≡ vs = cc in subst (All AllNumbers) z (numbers_in ws h)
collected (object ms) vs h e = let z : values_of ms ≡ vs = cc in subst (All AllNumbers) z (go ms (numbers_of ms h))
  where
    go : (ns : Members) → Entries AllNumbers (entries ns) → All AllNumbers (values_of ns)
    go empty k = tt
    go (member l w ns) k = (k.0, go ns k.1)

module _ (m : Mode) (f g : Value → Result Answer) (agree : (v : Value) → AllNumbers v → f v ≡ g v) where
  each_same : (vs : List Value) → All AllNumbers vs → each m f vs ≡ each m g vs
  unfolding each
  each_same [] h = refl
  each_same (v ∷ vs) h =
      ap₂ {C = Result Answer}
      (λ (x y : Result Answer). x >>= λ a. elim (settles m a.truth) as (λ _. Result Answer)
      [ true ↦ ok a | false ↦ (y >>= λ b. ok (joined m a b)) ]) (agree v h.0) (each_same vs h.1)

  over_same : {x y : Result (Resolved Value)} → Agree AllNumbers x y → (x >>= λ r. over m f r) ≡ (y >>= λ r. over m g r)
  over_same (there {a = v} h) = go (collection v) refl
    where
      go : (x : Option (List Value)) → collection v ≡
          x → ◌≡◌ {A = Result Answer} (elim x [ None ↦ ok (unknown []) | Some vs ↦ each m f vs ])
          (elim x [ None ↦ ok (unknown []) | Some vs ↦ each m g vs ])
      go None q = refl
      go (Some vs) q = each_same vs (collected v vs h q)
  over_same names = refl
  over_same neither = refl

module _ (sheet : Sheet Condition) (has : SheetHas AllNumbers sheet) where
  mutual
    unfolding evaluate Operands

    pub evaluate_exactly : (c : Condition) (env : Env) → Entries AllNumbers env → Operands AllNumbers c → evaluate kernel sheet env c ≡ evaluate exact_kernel sheet env c
    evaluate_exactly (literal b) env h k = refl
    evaluate_exactly (junction m cs) env h k = evaluate_all_exactly cs env m h k
    evaluate_exactly (negation c) env h k = rw (evaluate_exactly c env h k) refl
    evaluate_exactly (exists v) env h k = exists_same (resolve_agrees sheet has env v h k)
    evaluate_exactly (pair f v w) env h k = pair_same f (resolve_agrees sheet has env v h k.0) (resolve_agrees sheet has env w h k.1)
    evaluate_exactly (quantified m v x c) env h k =
        over_same m (λ w. evaluate kernel sheet ((x, w) ∷ env) c) (λ w. evaluate exact_kernel sheet ((x, w) ∷ env) c)
        (λ w j. evaluate_exactly c ((x, w) ∷ env) (j, h) k.1) (resolve_agrees sheet has env v h k.0)

    evaluate_all_exactly : (cs : Conditions) (env : Env) (m : Mode) → Entries AllNumbers env → OperandsIn AllNumbers cs →
        evaluate_all kernel sheet env m cs ≡ evaluate_all exact_kernel sheet env m cs
    evaluate_all_exactly no_more env m h k = refl
    evaluate_all_exactly (also c cs) env m h k = rw (evaluate_exactly c env h k.0, evaluate_all_exactly cs env m h k.1) refl

-- Every condition of a sheet that is read is evaluated as by exact values: order, equality, `in` and `contains` alike.
pub ordered_exactly : (s : Bytes) (sheet : Sheet Condition) → read_sheet s ≡ ok sheet → {c : Condition} → ConditionOf sheet c →
    evaluate kernel sheet [] c ≡ evaluate exact_kernel sheet [] c
ordered_exactly s sheet e {c} o = let has = read_numbers s sheet e in evaluate_exactly sheet has c [] tt (has.conditions o)
