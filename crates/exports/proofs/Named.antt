-- What evaluation names, and what it refuses an expression with, are texts that stand in the condition. So the names, each once, are no longer than the
-- texts of the sheet.
-- Assumes nothing.
use mathlib.Core.Bool.{Bool, false, true}
use mathlib.Core.List.Memᴰ
use mathlib.Core.List.{List, [], ◌++◌, ◌∷◌}
use mathlib.Core.Logic.{inl, inr, ⊎_elim, ◌⊎◌}
use Rattle.std.specs.Prelude.{Option, None, Some}
use mathlib.Core.Path.{ap, refl, subst, sym, ◌≡◌}
use Prim.Native.Nat.{Ordering, ℕ, ◌+◌, ◌≤◌}
use native.Mathlib.Omega.{arith}
use lib.Dec.{eqb}
use lib.ListN.{length}
use Rattle.answers.specs.Line.{decimal_digits, quoted, refusal_form}
use Rattle.answers.specs.Reply.{or_empty}
use Rattle.json_text.proofs.Laws.{eqb_true}
use Rattle.line.proofs.Lengths.{digits_short, form_short}
use Rattle.json_text.specs.Bytes.{Bytes, ascii, find, order_bytes}
use Rattle.json_text.specs.Json.{Members, Value, Values, array, bool, cons, empty, is_null, member, nil, null, number, object, text}
use Rattle.json_text.specs.Refusal.{Refusal, Result, no_id, ok, refused, unknown_expression, ◌>>=◌}
use Rattle.members.specs.Condition.{Condition, Conditions, Form, Mode, also, exists, junction, literal, negation, no_more, pair, quantified}
use Rattle.members.specs.Sheet.{Sheet}
use Rattle.semantics.proofs.Names.{ascending_set}
use Rattle.semantics.proofs.Parts.{Operands, OperandsIn, find_entry}
use Rattle.semantics.specs.Evaluate.{Answer, collection, compared, each, evaluate, evaluate_all, joined, over, unknown}
use Rattle.semantics.specs.Expression.{Env, gives, gives_parts, id_of, parts, bases, below, roots, unbound, walk}
use Rattle.semantics.specs.Names.{Named, Names, ascending, insert_name, no_names, one_name}
use Rattle.semantics.specs.Operand.{Resolved, Written, after_dollar, escaped, expression, both, missing, observed, plain, present, read_text, resolve, resolve_in, resolve_of, resolve_text, same}
use Rattle.semantics.specs.Semantics.{Semantics}
use Rattle.semantics.specs.Truth.{settles}
use Rattle.exports.proofs.Texts.{texts, texts_in, texts_of, weight}

-- membership
pub in_left : {x : Bytes} (ms ns : Names) → Named x ms → Named x (ms ++ ns)
in_left [] ns h = elim h [ ]
in_left {x} (m ∷ ms) ns h = ⊎_elim (λ e. Memᴰ.head e) (λ d. Memᴰ.tail (in_left ms ns d)) (Memᴰ.cases_cons h)

pub in_right : {x : Bytes} (ms ns : Names) → Named x ns → Named x (ms ++ ns)
in_right [] ns h = h
in_right (m ∷ ms) ns h = Memᴰ.tail (in_right ms ns h)

pub in_either : {x : Bytes} (ms ns : Names) → Named x (ms ++ ns) → Named x ms ⊎ Named x ns
in_either [] ns h = inr h
in_either (m ∷ ms) ns h = ⊎_elim (λ e. inl (Memᴰ.head e)) (λ d. ⊎_elim (λ k. inl (Memᴰ.tail k)) (λ k. inr k) (in_either ms ns d)) (Memᴰ.cases_cons h)

-- names in order: no lighter with one name more, no heavier than the names met
insert_heavier : (n : Bytes) (ms : Names) → weight ms ≤ weight (insert_name n ms)
unfolding insert_name weight
insert_heavier n [] = omega arith
insert_heavier n (m ∷ ms) = go (order_bytes n m) (insert_heavier n ms)
  where
    go : (o : Ordering) → weight ms ≤ weight (insert_name n ms) →
        weight (m ∷ ms) ≤ weight (elim o [ Ordering.lt ↦ n ∷ m ∷ ms | Ordering.eq ↦ m ∷ ms | Ordering.gt ↦ m ∷ insert_name n ms ])
    go Ordering.lt h = omega arith
    go Ordering.eq h = omega arith
    go Ordering.gt h = omega arith

insert_lighter : (n : Bytes) (ms : Names) → weight (insert_name n ms) ≤ weight (n ∷ ms)
unfolding insert_name weight
insert_lighter n [] = omega arith
insert_lighter n (m ∷ ms) = go (order_bytes n m) (insert_lighter n ms)
  where
    go : (o : Ordering) → weight (insert_name n ms) ≤ weight (n ∷ ms) →
        weight (elim o [ Ordering.lt ↦ n ∷ m ∷ ms | Ordering.eq ↦ m ∷ ms | Ordering.gt ↦ m ∷ insert_name n ms ]) ≤ weight (n ∷ m ∷ ms)
    go Ordering.lt h = omega arith
    go Ordering.eq h = omega arith
    go Ordering.gt h = omega arith

ascending_lighter : (ns : Names) → weight (ascending ns) ≤ weight ns
unfolding ascending weight
ascending_lighter [] = omega arith
ascending_lighter (n ∷ ns) = omega (arith, insert_lighter n (ascending ns), ascending_lighter ns)

appended_heavier : (ms ns : Names) → weight (ascending ns) ≤ weight (ascending (ms ++ ns))
unfolding ascending
appended_heavier [] ns = omega arith
appended_heavier (m ∷ ms) ns = omega (arith, appended_heavier ms ns, insert_heavier m (ascending (ms ++ ns)))

-- names among some texts, and what may be refused or answered where these are light
module _ (ts : List Bytes) where
  abbrev pub Among : Names → Type 0
  Among ns = (x : Bytes) → Named x ns → Named x ts

  -- names among them, each once, are no heavier than they are
  pub among_light : (ns : Names) → Among ns → weight (ascending ns) ≤ weight ts
  among_light ns h =
      let e : ascending (ts ++ ns) ≡ ascending ts = ascending_set (ts ++ ns) ts (λ x. (λ k. ⊎_elim (λ d. d) (λ d. h x d) (in_either ts ns k), λ k. in_left ts ns k)) in
      omega (arith, appended_heavier ts ns, ap weight e, ascending_lighter ts)

pub one_light : {x : Bytes} (ts : List Bytes) → Named x ts → length (quoted x) + 1 ≤ weight ts
unfolding weight
one_light [] h = elim h [ ]
one_light {x} (t ∷ ts) h = go (λ d. one_light ts d) (Memᴰ.cases_cons h)
  where
    go : (Named x ts → length (quoted x) + 1 ≤ weight ts) → (x ≡ t) ⊎ Named x ts → length (quoted x) + 1 ≤ weight (t ∷ ts)
    go rest (inl e) = rw e (omega arith)
    go rest (inr d) = omega (arith, rest d)

-- a refusal whose form is short, and what may be refused only so
abbrev pub Shown : Refusal → Type 0
Shown r = length (or_empty (refusal_form r)) ≤ 294975

pub data Fine {A : Type 0} (P : A → Type 0) : Result A → Type 0 where
  fine : {a : A} → P a → Fine P (ok a)
  shown : {r : Refusal} → Shown r → Fine P (refused r)

pub fine_then : {A B : Type 0} {P : A → Type 0} {Q : B → Type 0} {x : Result A} (f : A → Result B) → Fine P x → ((a : A) → P a → Fine Q (f a)) → Fine Q (x >>= f)
fine_then f (fine {a} h) k = k a h
fine_then f (shown h) k = shown h

-- an expression is its text less the `$`
abbrev tag : Written → ℕ
tag plain = 0
tag (escaped t) = 1
tag (expression t) = 2

abbrev inside : Written → Bytes
inside plain = []
inside (escaped t) = t
inside (expression t) = t

dollar_text : (s e : Bytes) → after_dollar s ≡ expression e → s ≡ e
dollar_text [] e q = ap inside q
dollar_text (c ∷ s) e q = go (eqb c 36) q
  where
    go : (b : Bool) → elim b [ true ↦ escaped (c ∷ s) | false ↦ expression (c ∷ s) ] ≡ expression e → c ∷ s ≡ e
    go true z = ap inside z
    go false z = ap inside z

expression_text : (s e : Bytes) → read_text s ≡ expression e → s ≡ 36 ∷ e
expression_text [] e q = absurd (omega (arith, ap tag q))
expression_text (c ∷ s) e q = go (eqb c 36) refl q
  where
    go : (b : Bool) → eqb c 36 ≡ b → elim b [ true ↦ after_dollar s | false ↦ plain ] ≡ expression e → c ∷ s ≡ 36 ∷ e
    go true h z = cc (eqb_true c 36 h, dollar_text s e z)
    go false h z = absurd (omega (arith, ap tag z))

-- ---- evaluation over texts that are light
module _ (ts : List Bytes) (light : weight ts ≤ 98304) where
  among_nothing : Among ts []
  among_nothing x h = elim h [ ]

  among_one : {n : Bytes} → Named n ts → Among ts (n ∷ [])
  among_one h x m = ⊎_elim (λ q. subst (λ y. Named y ts) (sym q) h) (λ d. elim d [ ]) (Memᴰ.cases_cons m)

  among_both : {ms ns : Names} → Among ts ms → Among ts ns → Among ts (ms ++ ns)
  among_both {ms} {ns} h k x m = ⊎_elim (λ d. h x d) (λ d. k x d) (in_either ms ns m)

  among_left : (ms ns : Names) → Among ts (ms ++ ns) → Among ts ms
  among_left ms ns h x m = h x (in_left ms ns m)

  among_right : (ms ns : Names) → Among ts (ms ++ ns) → Among ts ns
  among_right ms ns h x m = h x (in_right ms ns m)

  -- a value all of whose texts are among them, and which is light
  pub record Light (v : Value) : Type 0 where
    pub few : weight (texts v) ≤ 98304
    pub among : Among ts (texts v)

  one_shown : (e : Bytes) → Named e ts → Shown (unknown_expression e)
  unfolding refusal_form
  one_shown e h = omega (arith, one_light ts h, form_short (ascii "refused" ∷ decimal_digits 13 ∷ quoted e ∷ []), digits_short 20 13 [])

  module _ (sem : Semantics) {C : Type 0} (sheet : Sheet C) where
    abbrev Any : Option Value → Type 0
    Any g = Unit {0}

    id_fine : (x : Option Bytes) → Fine Any (id_of x)
    unfolding refusal_form
    id_fine None = shown {r = no_id} (omega arith)
    id_fine (Some s) = fine tt

    unbound_fine : (e name : Bytes) (ps : List Bytes) → Named (36 ∷ e) ts → Fine Any (unbound sem sheet e name ps)
    unfolding unbound
    unbound_fine e name [] h = go (find name (roots sheet)) refl
      where
        go : (x : Option (Result (Option Value))) → find name (roots sheet) ≡ x → Fine Any (elim x [ None ↦ refused (unknown_expression (36 ∷ e)) | Some r ↦ r ])
        go None q = shown (one_shown (36 ∷ e) h)
        go (Some r) q = find_entry (Fine Any) name (roots sheet) (id_fine sheet.id, (fine tt, (fine tt, (fine tt, (fine tt, (fine tt, (fine tt, (fine tt, (fine tt, tt))))))))) q
    unbound_fine e name (p ∷ ps) h = go (find name (bases sheet))
      where
        go : (x : Option Members) → Fine Any (elim x [ None ↦ refused (unknown_expression (36 ∷ e)) | Some ms ↦ ok (below sem sheet p ps ms) ])
        go None = shown (one_shown (36 ∷ e) h)
        go (Some ms) = fine tt

    gives_fine : (env : Env) (e : Bytes) → Named (36 ∷ e) ts → Fine Any (gives sem sheet env e)
    unfolding gives gives_parts
    gives_fine env e h = go (parts e)
      where
        go : (ps : List Bytes) → Fine Any (gives_parts sem sheet env e ps)
        go [] = shown (one_shown (36 ∷ e) h)
        go (name ∷ path) = by (find name env)
          where
            by : (x : Option Value) → Fine Any (elim x [ Some v ↦ ok (walk sem path v) | None ↦ unbound sem sheet e name path ])
            by None = unbound_fine e name path h
            by (Some v) = fine tt

    -- an operand: the names of what is missing
    abbrev Missed : {A : Type 0} → Resolved A → Type 0
    Missed (present a) = Unit {0}
    Missed (missing ns) = Among ts ns

    observed_missed : (e : Bytes) (g : Option Value) → Named (36 ∷ e) ts → Missed (observed e g)
    observed_missed e None h = among_one h
    observed_missed e (Some v) h = go (is_null v)
      where
        go : (b : Bool) → Missed {A = Value} (elim b [ true ↦ missing (one_name (36 ∷ e)) | false ↦ present v ])
        go true = among_one h
        go false = tt

    text_fine : (env : Env) (s : Bytes) → Named s ts → Fine Missed (resolve_text sem sheet env s)
    unfolding resolve_text
    text_fine env s h = go (read_text s) refl
      where
        go : (w : Written) → read_text s ≡ w →
            Fine (Missed {A = Value})
            (elim w [
              | plain ↦ ok (present (text s))
              | escaped t ↦ ok (present (text t))
              | expression e ↦
                  (gives sem sheet env e >>= λ g. ok (observed e g))
            ])
        go plain q = fine tt
        go (escaped t) q = fine tt
        go (expression e) q =
            let n : Named (36 ∷ e) ts = subst (λ y. Named y ts) (expression_text s e q) h in
            fine_then (λ g. ok (observed e g)) (gives_fine env e n) (λ g _. fine (observed_missed e g n))

    both_missed : {A B D : Type 0} (f : A → B → D) (x : Resolved A) (y : Resolved B) → Missed x → Missed y → Missed (both f x y)
    both_missed f (present a) (present b) h k = tt
    both_missed f (present a) (missing ns) h k = k
    both_missed f (missing ms) (present b) h k = h
    both_missed f (missing ms) (missing ns) h k = among_both {ms = ms} {ns = ns} h k

    same_missed : {A B : Type 0} (f : A → B) (x : Resolved A) → Missed x → Missed (same f x)
    same_missed f (present a) h = tt
    same_missed f (missing ns) h = h

    mutual
      unfolding resolve texts

      operand_fine : (env : Env) (v : Value) → Among ts (texts v) → Fine Missed (resolve sem sheet env v)
      operand_fine env null h = fine tt
      operand_fine env (bool b) h = fine tt
      operand_fine env (number s) h = fine tt
      operand_fine env (text s) h = text_fine env s (h s (Memᴰ.head refl))
      operand_fine env (array vs) h = fine_then _ (operands_fine env vs h) (λ r m. fine (same_missed array r m))
      operand_fine env (object ms) h = fine_then _ (members_fine env ms h) (λ r m. fine (same_missed object r m))

      operands_fine : (env : Env) (vs : Values) → Among ts (texts_in vs) → Fine Missed (resolve_in sem sheet env vs)
      operands_fine env nil h = fine tt
      operands_fine env (cons v vs) h =
          fine_then _ (operand_fine env v (among_left (texts v) (texts_in vs) h)) λ r m.
          fine_then _ (operands_fine env vs (among_right (texts v) (texts_in vs) h)) λ rs n.
          fine (both_missed cons r rs m n)

      members_fine : (env : Env) (ms : Members) → Among ts (texts_of ms) → Fine Missed (resolve_of sem sheet env ms)
      members_fine env empty h = fine tt
      members_fine env (member k v ms) h =
          fine_then _ (operand_fine env v (among_left (texts v) (texts_of ms) h)) λ r m.
          fine_then _ (members_fine env ms (among_right (texts v) (texts_of ms) h)) λ rs n.
          fine (both_missed (member k) r rs m n)

    -- conditions: the names met
    abbrev NamesAmong : Answer → Type 0
    NamesAmong a = Among ts a.names

    compared_among : (f : Form) (r q : Resolved Value) → Missed r → Missed q → NamesAmong (compared sem f r q)
    compared_among f (present v) (present w) h k = among_nothing
    compared_among f (present v) (missing ns) h k = k
    compared_among f (missing ms) (present w) h k = h
    compared_among f (missing ms) (missing ns) h k = among_both {ms = ms} {ns = ns} h k

    each_fine : (m : Mode) (body : Value → Result Answer) (vs : List Value) → ((v : Value) → Fine NamesAmong (body v)) → Fine NamesAmong (each m body vs)
    unfolding each
    each_fine m body [] h = fine among_nothing
    each_fine m body (v ∷ vs) h = fine_then _ (h v) λ a k. go a k (each_fine m body vs h) (settles m a.truth)
      where
        go : (a : Answer) → NamesAmong a → Fine NamesAmong (each m body vs) → (b : Bool) →
            Fine NamesAmong (elim b [ true ↦ ok a | false ↦ (each m body vs >>= λ b. ok (joined m a b)) ])
        go a k rest true = fine k
        go a k rest false = fine_then _ rest λ b l. fine (among_both {ms = a.names} {ns = b.names} k l)

    over_fine : (m : Mode) (body : Value → Result Answer) (r : Resolved Value) → Missed r → ((v : Value) → Fine NamesAmong (body v)) → Fine NamesAmong (over m body r)
    over_fine m body (missing ns) h k = fine h
    over_fine m body (present v) h k = go (collection v)
      where
        go : (x : Option (List Value)) → Fine NamesAmong (elim x [ None ↦ ok (unknown no_names) | Some vs ↦ each m body vs ])
        go None = fine among_nothing
        go (Some vs) = each_fine m body vs k

    mutual
      unfolding evaluate Operands

      pub evaluate_fine : (env : Env) (c : Condition) → Operands Light c → Fine NamesAmong (evaluate sem sheet env c)
      evaluate_fine env (literal b) h = fine among_nothing
      evaluate_fine env (junction m cs) h = all_fine env m cs h
      evaluate_fine env (negation c) h = fine_then _ (evaluate_fine env c h) λ a k. fine k
      evaluate_fine env (exists v) h = fine_then _ (operand_fine env v h.among) λ r k. fine among_nothing
      evaluate_fine env (pair f v w) h =
          fine_then _ (operand_fine env v h.0.among) λ r k.
          fine_then _ (operand_fine env w h.1.among) λ q l.
          fine (compared_among f r q k l)
      evaluate_fine env (quantified m v x c) h =
          fine_then _ (operand_fine env v h.0.among) λ r k.
          over_fine m (λ w. evaluate sem sheet ((x, w) ∷ env) c) r k (λ w. evaluate_fine ((x, w) ∷ env) c h.1)

      all_fine : (env : Env) (m : Mode) (cs : Conditions) → OperandsIn Light cs → Fine NamesAmong (evaluate_all sem sheet env m cs)
      all_fine env m no_more h = fine among_nothing
      all_fine env m (also c cs) h =
          fine_then _ (evaluate_fine env c h.0) λ a k.
          fine_then _ (all_fine env m cs h.1) λ b l.
          fine (among_both {ms = a.names} {ns = b.names} k l)
