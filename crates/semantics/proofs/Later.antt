-- Evaluation on a sheet and again on one where readings give what they gave or nothing: the truth is the old one, or Unknown, and then a lost reading is among the names.
-- Assumes nothing.
use mathlib.Core.Bool.{Bool, false, false≢true, true}
use mathlib.Core.List.Memᴰ
use mathlib.Core.List.{
  List,
  Memᴰ,
  [],
  ◌++◌,
  ◌∷◌,
}
use mathlib.Core.Logic.{inl, inr, ⊎_elim, ◌⊎◌}
use Rattle.std.specs.Prelude.{Option, None, Some}
use mathlib.Core.Path.{ap, fun_ext, refl, sym, ◌∙◌, ◌≡◌}
use Rattle.semantics.proofs.Kleene.{settles_join}
use Rattle.semantics.specs.Evaluate.{Answer, certain, collection, compared, each, evaluate, evaluate_all, is_present, joined, over, unknown}
use Rattle.semantics.specs.Expression.{Env, gives, gives_parts, parts, walk}
use Rattle.semantics.specs.Names.{Names}
use Rattle.semantics.specs.Operand.{Resolved, Written, both, escaped, expression, missing, observed, plain, present, read_text, resolve, resolve_in, resolve_of, resolve_text, same}
use Rattle.semantics.specs.Semantics.{Semantics}
use Rattle.semantics.specs.Readings.{Reading, all_known, all_readings, is_answer, is_taken_by, operand_readings, readings, readings_in, readings_of, text_readings}
use Rattle.semantics.specs.Truth.{False, True, Truth, Unknown, join, negate, settles}
use Rattle.json_text.proofs.Laws.{bind_ok, both_true, find_none, find_some, names_of}
use Rattle.json_text.specs.Bytes.{Bytes, find}
use Rattle.json_text.specs.Json.{Members, Value, Values, array, bool, cons, empty, is_null, member, nil, null, number, object, text}
use Rattle.json_text.specs.Refusal.{Result, ok, refused, ◌>>=◌}
use Rattle.members.specs.Condition.{Condition, Conditions, Form, Mode, also, every, exists, junction, literal, negation, no_more, pair, quantified}
use Rattle.members.specs.Sheet.{Sheet}

-- a statement about each member of a list
abbrev pub Every : {A : Type 0} → (A → Type 0) → List A → Type 0
Every P xs = (x : _) → Memᴰ x xs → P x

abbrev pub every_left : {A : Type 0} {P : A → Type 0} (xs ys : List A) → Every P (xs ++ ys) → Every P xs
every_left xs ys h = λ x m. h x (Memᴰ.append_left ys m)

abbrev pub every_right : {A : Type 0} {P : A → Type 0} (xs ys : List A) → Every P (xs ++ ys) → Every P ys
every_right xs ys h = λ x m. h x (Memᴰ.append_right xs m)

-- what an expression gives under binders: the binder's, or what it gives with none
pub gives_free : (sem : Semantics) (sheet : Sheet Condition) (env : Env) (e : Bytes) → is_taken_by (names_of env) (parts e) ≡ false → gives sem sheet env e ≡ gives sem sheet [] e
unfolding gives gives_parts find
gives_free sem sheet env e h = go (parts e) h
  where
    go : (ps : List Bytes) → is_taken_by (names_of env) ps ≡ false → gives_parts sem sheet env e ps ≡ gives_parts sem sheet [] e ps
    go [] h' = refl
    go (name ∷ path) h' = rw (find_none name env h', gives_parts) refl

pub gives_bound : (sem : Semantics) (old new : Sheet Condition) (env : Env) (e : Bytes) → is_taken_by (names_of env) (parts e) ≡ true →
    (g : Option Value) × (gives sem old env e ≡ ok g) × (gives sem new env e ≡ ok g)
unfolding gives gives_parts
gives_bound sem old new env e h = go (parts e) h
  where
    go : (ps : List Bytes) → is_taken_by (names_of env) ps ≡ true → (g : Option Value) × (gives_parts sem old env e ps ≡ ok g) × (gives_parts sem new env e ps ≡ ok g)
    go [] h' = absurd (false≢true h')
    go (name ∷ path) h' = let f = find_some name env h' in (walk sem path f.0, rw (f.1, gives_parts) refl, rw (f.1, gives_parts) refl)

-- two computations that were not refused, and how their results compare
pub record Both {A : Type 0} (R : A → A → Type 0) (x y : Result A) : Type 0 where
  pub was : A
  pub now : A
  pub is_was : x ≡ ok was
  pub is_now : y ≡ ok now
  pub rel : R was now

-- the claims below hold of whatever predicate `Erased` a lost reading's text has
module _ (Erased : Bytes → Type 0) where
  abbrev pub Lost : Names → Type 0
  Lost ns = (e : Bytes) × Erased e × Memᴰ (36 ∷ e) ns

  pub data LaterR {A : Type 0} : Resolved A → Resolved A → Type 0 where
    kept : {r : Resolved A} → LaterR r r
    still : {ms ns : Names} → LaterR (missing ms) (missing ns)
    gone : {a : A} {ns : Names} → Lost ns → LaterR (present a) (missing ns)

  pub data Later (a b : Answer) : Type 0 where
    truth_kept : b.truth ≡ a.truth → Later a b
    truth_gone : b.truth ≡ Unknown → Lost b.names → Later a b

  lost_left : (ms ns : Names) → Lost ms → Lost (ms ++ ns)
  lost_left ms ns l = (l.0, l.1, Memᴰ.append_left ns l.2)

  lost_right : (ms ns : Names) → Lost ns → Lost (ms ++ ns)
  lost_right ms ns l = (l.0, l.1, Memᴰ.append_right ms l.2)

  later_same : {A B : Type 0} (f : A → B) {r q : Resolved A} → LaterR r q → LaterR (same f r) (same f q)
  later_same f kept = kept
  later_same f still = still
  later_same f (gone l) = gone l

  later_both : {A B D : Type 0} (f : A → B → D) (r q : Resolved A) (s t : Resolved B) → LaterR r q → LaterR s t → LaterR (both f r s) (both f q t)
  later_both f r q s t kept kept = kept
  later_both f (present a) q s t kept still = still
  later_both f (missing ms) q s t kept still = still
  later_both f (present a) q s t kept (gone l) = gone l
  later_both f (missing ms) q s t kept (gone l) = still
  later_both f r q (present b) t still kept = still
  later_both f r q (missing ns) t still kept = still
  later_both f r q s t still still = still
  later_both f r q s t still (gone l) = still
  later_both f r q (present b) t (gone l) kept = gone l
  later_both f r q (missing ns) t (gone l) kept = still
  later_both f r q s t (gone l) still = still
  later_both f r q s t (gone l) (gone k) = gone (lost_left _ _ l)

  -- joining with an Unknown gives Unknown, or what the other side settles
  join_unknown_right : (m : Mode) (t : Truth) → (join m t Unknown ≡ Unknown) ⊎ ((u : Truth) → join m t Unknown ≡ join m t u)
  join_unknown_right every True = inl refl
  join_unknown_right every False = inr (λ u. refl)
  join_unknown_right every Unknown = inl refl
  join_unknown_right Mode.any True = inr (λ u. refl)
  join_unknown_right Mode.any False = inl refl
  join_unknown_right Mode.any Unknown = inl refl

  join_unknown_left : (m : Mode) (u : Truth) → (join m Unknown u ≡ Unknown) ⊎ ((t : Truth) → join m Unknown u ≡ join m t u)
  join_unknown_left every True = inl refl
  join_unknown_left every False = inr f
    where
      f : (t : Truth) → join every Unknown False ≡ join every t False
      f True = refl
      f False = refl
      f Unknown = refl
  join_unknown_left every Unknown = inl refl
  join_unknown_left Mode.any True = inr f
    where
      f : (t : Truth) → join Mode.any Unknown True ≡ join Mode.any t True
      f True = refl
      f False = refl
      f Unknown = refl
  join_unknown_left Mode.any False = inl refl
  join_unknown_left Mode.any Unknown = inl refl

  later_joined : (m : Mode) (a b c d : Answer) → Later a b → Later c d → Later (joined m a c) (joined m b d)
  later_joined m a b c d (truth_kept e) (truth_kept f) = truth_kept (cc)
  later_joined m a b c d (truth_kept e) (truth_gone u l) = go (join_unknown_right m a.truth)
    where
      go : (join m a.truth Unknown ≡ Unknown) ⊎ ((t : Truth) → join m a.truth Unknown ≡ join m a.truth t) → Later (joined m a c) (joined m b d)
      go (inl q) = truth_gone (cc) (lost_right b.names d.names l)
      go (inr q) = truth_kept (cc (q c.truth))
  later_joined m a b c d (truth_gone u l) (truth_kept f) = go (join_unknown_left m d.truth)
    where
      go : (join m Unknown d.truth ≡ Unknown) ⊎ ((t : Truth) → join m Unknown d.truth ≡ join m t d.truth) → Later (joined m a c) (joined m b d)
      go (inl q) = truth_gone (cc) (lost_left b.names d.names l)
      go (inr q) = truth_kept (cc (q a.truth))
  later_joined m a b c d (truth_gone u l) (truth_gone v k) = truth_gone (unknowns m u v) (lost_left b.names d.names l)
    where
      unknowns : (m' : Mode) → b.truth ≡ Unknown → d.truth ≡ Unknown → join m' b.truth d.truth ≡ Unknown
      unknowns every p q = cc
      unknowns Mode.any p q = cc

  settles_unknown : (m : Mode) → settles m Unknown ≡ false
  settles_unknown every = refl
  settles_unknown Mode.any = refl

  -- one element's answer before those of the rest
  turn : Mode → Answer → Answer → Answer
  turn m a c = elim (settles m a.truth) [ true ↦ a | false ↦ joined m a c ]

  turn_settled : (m : Mode) (a c : Answer) → settles m a.truth ≡ true → turn m a c ≡ a
  unfolding turn
  turn_settled m a c e = rw (e, turn) refl

  turn_open : (m : Mode) (a c : Answer) → settles m a.truth ≡ false → turn m a c ≡ joined m a c
  unfolding turn
  turn_open m a c e = rw (e, turn) refl

  each_turn : (m : Mode) (f : Value → Result Answer) (v : Value) (vs : List Value) (a c : Answer) → f v ≡ ok a → each m f vs ≡ ok c → each m f (v ∷ vs) ≡ ok (turn m a c)
  unfolding each turn
  each_turn m f v vs a c p q = bind_ok _ p ∙ go (settles m a.truth) refl
    where
      rest : Bool → Result Answer
      rest b = elim b [ true ↦ ok a | false ↦ (each m f vs >>= λ d. ok (joined m a d)) ]

      go : (b : Bool) → settles m a.truth ≡ b → rest (settles m a.truth) ≡ ok (turn m a c)
      go true e = rw (e, turn) refl
      go false e = rw (e, turn) (bind_ok _ q)

  later_turn : (m : Mode) (a b c d : Answer) → Later a b → Later c d → Later (turn m a c) (turn m b d)
  later_turn m a b c d (truth_kept e) k = go (settles m a.truth) refl
    where
      go : (x : Bool) → settles m a.truth ≡ x → Later (turn m a c) (turn m b d)
      go true s = rw (turn_settled m a c s, turn_settled m b d (ap (settles m) e ∙ s)) (truth_kept e)
      go false s = rw (turn_open m a c s, turn_open m b d (ap (settles m) e ∙ s)) (later_joined m a b c d (truth_kept e) k)
  later_turn m a b c d (truth_gone u l) k = go (settles m a.truth) refl
    where
      open_now : settles m b.truth ≡ false
      open_now = ap (settles m) u ∙ settles_unknown m

      joined_now : settles m a.truth ≡ true → (join m Unknown d.truth ≡ Unknown) ⊎ ((t : Truth) → join m Unknown d.truth ≡ join m t d.truth) → Later a (joined m b d)
      joined_now s (inl q) = truth_gone (cc) (lost_left b.names d.names l)
      joined_now s (inr q) = truth_kept (cc (q a.truth, settles_join m a.truth d.truth s))

      go : (x : Bool) → settles m a.truth ≡ x → Later (turn m a c) (turn m b d)
      go true s = rw (turn_settled m a c s, turn_open m b d open_now) (joined_now s (join_unknown_left m d.truth))
      go false s = rw (turn_open m a c s, turn_open m b d open_now) (later_joined m a b c d (truth_gone u l) k)

  later_each : (m : Mode) (f g : Value → Result Answer) → ((v : Value) → Both Later (f v) (g v)) → (vs : List Value) → Both Later (each m f vs) (each m g vs)
  unfolding each
  later_each m f g h [] = record { was = _; now = _; is_was = refl; is_now = refl; rel = truth_kept refl }
  later_each m f g h (v ∷ vs) =
      let x = h v in
      let y = later_each m f g h vs in
      record {
        was = turn m x.was y.was;
        now = turn m x.now y.now;
        is_was = each_turn m f v vs x.was y.was x.is_was y.is_was;
        is_now = each_turn m g v vs x.now y.now x.is_now y.is_now;
        rel = later_turn m x.was x.now y.was y.now x.rel y.rel;
      }

-- an expression that no binder takes is a reading
reading_here : (ex : Bool) (binders : List Bytes) (s e : Bytes) → read_text s ≡ expression e → is_taken_by binders (parts e) ≡ false →
    Memᴰ (record { text = e; exact = ex }) (text_readings ex binders s)
unfolding text_readings
reading_here ex binders s e p q = rw (p, text_readings, q) (Memᴰ.head refl)

-- what is known of a reading on the two sheets
module _ (sem : Semantics) (Erased : Bytes → Type 0) (old new : Sheet Condition) where
  pub record Fact (r : Reading) : Type 0 where
    pub was : Option Value
    pub now : Option Value
    pub is_was : gives sem old [] r.text ≡ ok was
    pub is_now : gives sem new [] r.text ≡ ok now
    pub change : (now ≡ was) ⊎ (now ≡ None)
    pub exact : r.exact ≡ true → now ≡ was
    pub erased : (v : Value) → was ≡ Some v → is_null v ≡ false → now ≡ None → Erased r.text

  later_observed : (e : Bytes) (was now : Option Value) → (now ≡ was) ⊎ (now ≡ None) →
      ((v : Value) → was ≡ Some v → is_null v ≡ false → now ≡ None → Erased e) → LaterR Erased (observed e was) (observed e now)
  later_observed e was now (inl p) f = rw p kept
  later_observed e None now (inr p) f = rw p still
  later_observed e (Some v) now (inr p) f = go (is_null v) refl
    where
      go : (b : Bool) → is_null v ≡ b → LaterR Erased (observed e (Some v)) (observed e now)
      go true q = rw (p, q, observed) still
      go false q = rw (p, q, observed) (gone (e, f v refl q p, Memᴰ.head refl))

  later_text : (ex : Bool) (env : Env) (s : Bytes) → Every Fact (text_readings ex (names_of env) s) → Both (LaterR Erased) (resolve_text sem old env s) (resolve_text sem new env s)
  unfolding resolve_text
  later_text ex env s h = go (read_text s) refl
    where
      unbound_one : (e : Bytes) → read_text s ≡ expression e → is_taken_by (names_of env) (parts e) ≡ false →
          Both (LaterR Erased) (resolve_text sem old env s) (resolve_text sem new env s)
      unbound_one e p q =
          let k = h (record { text = e; exact = ex }) (reading_here ex (names_of env) s e p q) in
          record {
            was = observed e k.was;
            now = observed e k.now;
            is_was = rw (p, resolve_text) (bind_ok _ (gives_free sem old env e q ∙ k.is_was));
            is_now = rw (p, resolve_text) (bind_ok _ (gives_free sem new env e q ∙ k.is_now));
            rel = later_observed e k.was k.now k.change k.erased;
          }

      bound_one : (e : Bytes) → read_text s ≡ expression e → is_taken_by (names_of env) (parts e) ≡ true → Both (LaterR Erased) (resolve_text sem old env s) (resolve_text sem new env s)
      bound_one e p q =
          let k = gives_bound sem old new env e q in
          record {
            was = observed e k.0;
            now = observed e k.0;
            is_was = rw (p, resolve_text) (bind_ok _ k.1);
            is_now = rw (p, resolve_text) (bind_ok _ k.2);
            rel = kept;
          }

      decided : (e : Bytes) → read_text s ≡ expression e → (b : Bool) → is_taken_by (names_of env) (parts e) ≡ b →
          Both (LaterR Erased) (resolve_text sem old env s) (resolve_text sem new env s)
      decided e p true q = bound_one e p q
      decided e p false q = unbound_one e p q

      go : (w : Written) → read_text s ≡ w → Both (LaterR Erased) (resolve_text sem old env s) (resolve_text sem new env s)
      go plain p = record { was = present (text s); now = present (text s); is_was = rw (p, resolve_text) refl; is_now = rw (p, resolve_text) refl; rel = kept }
      go (escaped t) p = record { was = present (text t); now = present (text t); is_was = rw (p, resolve_text) refl; is_now = rw (p, resolve_text) refl; rel = kept }
      go (expression e) p = decided e p (is_taken_by (names_of env) (parts e)) refl

  mutual
    unfolding resolve operand_readings

    later_resolve : (ex : Bool) (env : Env) (v : Value) → Every Fact (operand_readings ex (names_of env) v) → Both (LaterR Erased) (resolve sem old env v) (resolve sem new env v)
    later_resolve ex env null h = record { was = _; now = _; is_was = refl; is_now = refl; rel = kept }
    later_resolve ex env (bool b) h = record { was = _; now = _; is_was = refl; is_now = refl; rel = kept }
    later_resolve ex env (number s) h = record { was = _; now = _; is_was = refl; is_now = refl; rel = kept }
    later_resolve ex env (text s) h = later_text ex env s h
    later_resolve ex env (array vs) h =
        let k = later_resolve_in ex env vs h in
        record {
          was = same array k.was;
          now = same array k.now;
          is_was = bind_ok _ k.is_was;
          is_now = bind_ok _ k.is_now;
          rel = later_same Erased array k.rel;
        }
    later_resolve ex env (object ms) h =
        let k = later_resolve_of ex env ms h in
        record {
          was = same object k.was;
          now = same object k.now;
          is_was = bind_ok _ k.is_was;
          is_now = bind_ok _ k.is_now;
          rel = later_same Erased object k.rel;
        }

    later_resolve_in : (ex : Bool) (env : Env) (vs : Values) → Every Fact (readings_in ex (names_of env) vs) → Both (LaterR Erased) (resolve_in sem old env vs) (resolve_in sem new env vs)
    later_resolve_in ex env nil h = record { was = _; now = _; is_was = refl; is_now = refl; rel = kept }
    later_resolve_in ex env (cons v vs) h =
        let j = later_resolve ex env v (every_left (operand_readings ex (names_of env) v) (readings_in ex (names_of env) vs) h) in
        let k = later_resolve_in ex env vs (every_right (operand_readings ex (names_of env) v) (readings_in ex (names_of env) vs) h) in
        record {
          was = both cons j.was k.was;
          now = both cons j.now k.now;
          is_was = bind_ok _ j.is_was ∙ bind_ok _ k.is_was;
          is_now = bind_ok _ j.is_now ∙ bind_ok _ k.is_now;
          rel = later_both Erased cons j.was j.now k.was k.now j.rel k.rel;
        }

    later_resolve_of : (ex : Bool) (env : Env) (ms : Members) → Every Fact (readings_of ex (names_of env) ms) → Both (LaterR Erased) (resolve_of sem old env ms) (resolve_of sem new env ms)
    later_resolve_of ex env empty h = record { was = _; now = _; is_was = refl; is_now = refl; rel = kept }
    later_resolve_of ex env (member n v ms) h =
        let j = later_resolve ex env v (every_left (operand_readings ex (names_of env) v) (readings_of ex (names_of env) ms) h) in
        let k = later_resolve_of ex env ms (every_right (operand_readings ex (names_of env) v) (readings_of ex (names_of env) ms) h) in
        record {
          was = both (member n) j.was k.was;
          now = both (member n) j.now k.now;
          is_was = bind_ok _ j.is_was ∙ bind_ok _ k.is_was;
          is_now = bind_ok _ j.is_now ∙ bind_ok _ k.is_now;
          rel = later_both Erased (member n) j.was j.now k.was k.now j.rel k.rel;
        }

-- where every reading gives what it gave, evaluation does too
module _ (sem : Semantics) (old new : Sheet Condition) where
  abbrev pub Alike : Reading → Type 0
  Alike r = gives sem new [] r.text ≡ gives sem old [] r.text

  gives_bound_alike : (env : Env) (e : Bytes) → is_taken_by (names_of env) (parts e) ≡ true → gives sem new env e ≡ gives sem old env e
  gives_bound_alike env e q = let k = gives_bound sem old new env e q in k.2 ∙ sym k.1

  alike_text : (ex : Bool) (env : Env) (s : Bytes) → Every Alike (text_readings ex (names_of env) s) → resolve_text sem new env s ≡ resolve_text sem old env s
  unfolding resolve_text
  alike_text ex env s h = go (read_text s) refl
    where
      found : (e : Bytes) → read_text s ≡ expression e → (b : Bool) → is_taken_by (names_of env) (parts e) ≡ b → gives sem new env e ≡ gives sem old env e
      found e p true q = gives_bound_alike env e q
      found e p false q = gives_free sem new env e q ∙ h (record { text = e; exact = ex }) (reading_here ex (names_of env) s e p q) ∙ sym (gives_free sem old env e q)

      go : (w : Written) → read_text s ≡ w → resolve_text sem new env s ≡ resolve_text sem old env s
      go plain p = rw (p, resolve_text) refl
      go (escaped t) p = rw (p, resolve_text) refl
      go (expression e) p = rw (p, resolve_text) (ap (λ (x : Result (Option Value)). x >>= λ g. ok (observed e g)) (found e p (is_taken_by (names_of env) (parts e)) refl))

  mutual
    unfolding resolve operand_readings

    alike_resolve : (ex : Bool) (env : Env) (v : Value) → Every Alike (operand_readings ex (names_of env) v) → resolve sem new env v ≡ resolve sem old env v
    alike_resolve ex env null h = refl
    alike_resolve ex env (bool b) h = refl
    alike_resolve ex env (number s) h = refl
    alike_resolve ex env (text s) h = alike_text ex env s h
    alike_resolve ex env (array vs) h = rw (alike_resolve_in ex env vs h) refl
    alike_resolve ex env (object ms) h = rw (alike_resolve_of ex env ms h) refl

    alike_resolve_in : (ex : Bool) (env : Env) (vs : Values) → Every Alike (readings_in ex (names_of env) vs) → resolve_in sem new env vs ≡ resolve_in sem old env vs
    alike_resolve_in ex env nil h = refl
    alike_resolve_in ex env (cons v vs) h =
        rw (
          alike_resolve ex env v (every_left (operand_readings ex (names_of env) v) (readings_in ex (names_of env) vs) h),
          alike_resolve_in
              ex env vs (every_right (operand_readings ex (names_of env) v) (readings_in ex (names_of env) vs) h),
        )
        refl

    alike_resolve_of : (ex : Bool) (env : Env) (ms : Members) → Every Alike (readings_of ex (names_of env) ms) → resolve_of sem new env ms ≡ resolve_of sem old env ms
    alike_resolve_of ex env empty h = refl
    alike_resolve_of ex env (member n v ms) h =
        rw (
          alike_resolve ex env v (every_left (operand_readings ex (names_of env) v) (readings_of ex (names_of env) ms) h),
          alike_resolve_of
              ex env ms (every_right (operand_readings ex (names_of env) v) (readings_of ex (names_of env) ms) h),
        )
        refl

  mutual
    unfolding evaluate readings

    pub alike_evaluate : (env : Env) (c : Condition) → Every Alike (readings (names_of env) c) → evaluate sem new env c ≡ evaluate sem old env c
    alike_evaluate env (literal b) h = refl
    alike_evaluate env (junction m cs) h = alike_evaluate_all env m cs h
    alike_evaluate env (negation c) h = rw (alike_evaluate env c h) refl
    alike_evaluate env (exists v) h = rw (alike_resolve true env v h) refl
    alike_evaluate env (pair f v w) h =
        rw (
          alike_resolve false env v (every_left (operand_readings false (names_of env) v) (operand_readings false (names_of env) w) h),
          alike_resolve false env w (every_right (operand_readings false (names_of env) v) (operand_readings false (names_of env) w) h),
        )
        refl
    alike_evaluate env (quantified m v x c) h =
        let body : ◌≡◌ {A = Value → Result Answer} (λ w. evaluate sem new ((x, w) ∷ env) c) (λ w. evaluate sem old ((x, w) ∷ env) c) =
        fun_ext
        (λ w. alike_evaluate ((x, w) ∷ env) c (every_right (operand_readings false (names_of env) v) (readings (x ∷ names_of env) c) h)) in
        ap (λ (r : Result (Resolved Value)). r >>= over m (λ w. evaluate sem new ((x, w) ∷ env) c))
        (alike_resolve false env v (every_left (operand_readings false (names_of env) v) (readings (x ∷ names_of env) c) h)) ∙
        ap (λ (f : Value → Result Answer). resolve sem old env v >>= over m f) body

    alike_evaluate_all : (env : Env) (m : Mode) (cs : Conditions) → Every Alike (all_readings (names_of env) cs) → evaluate_all sem new env m cs ≡ evaluate_all sem old env m cs
    alike_evaluate_all env m no_more h = refl
    alike_evaluate_all env m (also c cs) h =
        rw (
          alike_evaluate env c (every_left (readings (names_of env) c) (all_readings (names_of env) cs) h),
          alike_evaluate_all env m cs
              (every_right (readings (names_of env) c) (all_readings (names_of env) cs) h),
        )
        refl

-- the readings of an operand stand under `exists` where it does
under_text : (ex : Bool) (binders : List Bytes) (s : Bytes) (r : Reading) → Memᴰ r (text_readings ex binders s) → r.exact ≡ ex
unfolding text_readings
under_text ex binders s r h = go (read_text s) refl
  where
    taken : (e : Bytes) → read_text s ≡ expression e → (b : Bool) → is_taken_by binders (parts e) ≡ b → r.exact ≡ ex
    taken e p true q = absurd (Memᴰ.not-nil (rw (p, text_readings, q) at h))
    taken e p false q = ap (λ (x : Reading). x.exact) (Memᴰ.eq_of_singleton (rw (p, text_readings, q) at h))

    go : (w : Written) → read_text s ≡ w → r.exact ≡ ex
    go plain p = absurd (Memᴰ.not-nil (rw (p, text_readings) at h))
    go (escaped t) p = absurd (Memᴰ.not-nil (rw (p, text_readings) at h))
    go (expression e) p = taken e p (is_taken_by binders (parts e)) refl

mutual
  unfolding operand_readings

  under_operand : (ex : Bool) (binders : List Bytes) (v : Value) (r : Reading) → Memᴰ r (operand_readings ex binders v) → r.exact ≡ ex
  under_operand ex binders null r h = elim h [ ]
  under_operand ex binders (bool b) r h = elim h [ ]
  under_operand ex binders (number s) r h = elim h [ ]
  under_operand ex binders (text s) r h = under_text ex binders s r h
  under_operand ex binders (array vs) r h = under_in ex binders vs r h
  under_operand ex binders (object ms) r h = under_of ex binders ms r h

  under_in : (ex : Bool) (binders : List Bytes) (vs : Values) (r : Reading) → Memᴰ r (readings_in ex binders vs) → r.exact ≡ ex
  under_in ex binders nil r h = elim h [ ]
  under_in ex binders (cons v vs) r h = ⊎_elim (λ m. under_operand ex binders v r m) (λ m. under_in ex binders vs r m) (Memᴰ.append_cases (operand_readings ex binders v) h)

  under_of : (ex : Bool) (binders : List Bytes) (ms : Members) (r : Reading) → Memᴰ r (readings_of ex binders ms) → r.exact ≡ ex
  under_of ex binders empty r h = elim h [ ]
  under_of ex binders (member n v ms) r h = ⊎_elim (λ m. under_operand ex binders v r m) (λ m. under_of ex binders ms r m) (Memᴰ.append_cases (operand_readings ex binders v) h)

-- the same where readings may be lost
module _ (sem : Semantics) (Erased : Bytes → Type 0) (old new : Sheet Condition) where
  later_compared : (f : Form) (r q s t : Resolved Value) → LaterR Erased r q → LaterR Erased s t → Later Erased (compared sem f r s) (compared sem f q t)
  later_compared f r q s t kept kept = truth_kept refl
  later_compared f (present a) q s t kept still = truth_kept refl
  later_compared f (missing ms) q s t kept still = truth_kept refl
  later_compared f (present a) q s t kept (gone l) = truth_gone refl l
  later_compared f (missing ms) q s t kept (gone l) = truth_kept refl
  later_compared f r q (present b) t still kept = truth_kept refl
  later_compared f r q (missing ns) t still kept = truth_kept refl
  later_compared f r q s t still still = truth_kept refl
  later_compared f r q s t still (gone l) = truth_kept refl
  later_compared f r q (present b) t (gone l) kept = truth_gone refl l
  later_compared f r q (missing ns) t (gone l) kept = truth_kept refl
  later_compared f r q s t (gone l) still = truth_kept refl
  later_compared f r q s t (gone l) (gone k) = truth_gone refl (lost_left Erased _ _ l)

  later_over :
      (m : Mode) (f g : Value → Result Answer) (r q : Resolved Value) → ((v : Value) → Both (Later Erased) (f v) (g v)) → LaterR Erased r q →
      Both (Later Erased) (over m f r) (over m g q)
  later_over m f g r q h still = record { was = _; now = _; is_was = refl; is_now = refl; rel = truth_kept refl }
  later_over m f g (missing ns) q h kept = record { was = _; now = _; is_was = refl; is_now = refl; rel = truth_kept refl }
  later_over m f g (present v) q h kept = go (collection v) refl
    where
      go : (o : Option (List Value)) → collection v ≡ o → Both (Later Erased) (over m f (present v)) (over m g (present v))
      go None e = record { was = unknown []; now = unknown []; is_was = rw (e, over) refl; is_now = rw (e, over) refl; rel = truth_kept refl }
      go (Some vs) e = rw (e, over) (later_each Erased m f g h vs)
  later_over m f g r q h (gone {a} {ns} l) = go (collection a) refl
    where
      go : (o : Option (List Value)) → collection a ≡ o → Both (Later Erased) (over m f (present a)) (over m g (missing ns))
      go None e = record { was = unknown []; now = _; is_was = rw (e, over) refl; is_now = refl; rel = truth_kept refl }
      go (Some vs) e =
          let k = later_each Erased m f g h vs in
          record { was = k.was; now = _; is_was = rw (e, over) k.is_was; is_now = refl; rel = truth_gone refl l }

  later_negated : (a b : Answer) → Later Erased a b → Later Erased (record { truth = negate a.truth; names = a.names }) (record { truth = negate b.truth; names = b.names })
  later_negated a b (truth_kept e) = truth_kept (ap negate e)
  later_negated a b (truth_gone u l) = truth_gone (ap negate u) l

  exactly : (r : Reading) → Fact sem Erased old new r → r.exact ≡ true → gives sem new [] r.text ≡ gives sem old [] r.text
  exactly r k e = k.is_now ∙ ap {B = Result (Option Value)} ok (k.exact e) ∙ sym k.is_was

  mutual
    unfolding evaluate readings

    pub later_evaluate : (env : Env) (c : Condition) → Every (Fact sem Erased old new) (readings (names_of env) c) → Both (Later Erased) (evaluate sem old env c) (evaluate sem new env c)
    later_evaluate env (literal b) h = record { was = _; now = _; is_was = refl; is_now = refl; rel = truth_kept refl }
    later_evaluate env (junction m cs) h = later_evaluate_all env m cs h
    later_evaluate env (negation c) h =
        let k = later_evaluate env c h in
        record {
          was = record { truth = negate k.was.truth; names = k.was.names };
          now = record { truth = negate k.now.truth; names = k.now.names };
          is_was = bind_ok _ k.is_was;
          is_now = bind_ok _ k.is_now;
          rel = later_negated k.was k.now k.rel;
        }
    later_evaluate env (exists v) h =
        let k = later_resolve sem Erased old new true env v h in
        record {
          was = certain (is_present k.was);
          now = certain (is_present k.was);
          is_was = bind_ok _ k.is_was;
          is_now = bind_ok _ (alike_resolve sem old new true env v (λ r m. exactly r (h r m) (under_operand true (names_of env) v r m)) ∙ k.is_was);
          rel = truth_kept refl;
        }
    later_evaluate env (pair f v w) h =
        let j = later_resolve sem Erased old new false env v (every_left (operand_readings false (names_of env) v) (operand_readings false (names_of env) w) h) in
        let k = later_resolve sem Erased old new false env w (every_right (operand_readings false (names_of env) v) (operand_readings false (names_of env) w) h) in
        record {
          was = compared sem f j.was k.was;
          now = compared sem f j.now k.now;
          is_was = bind_ok _ j.is_was ∙ bind_ok _ k.is_was;
          is_now = bind_ok _ j.is_now ∙ bind_ok _ k.is_now;
          rel = later_compared f j.was j.now k.was k.now j.rel k.rel;
        }
    later_evaluate env (quantified m v x c) h =
        let j = later_resolve sem Erased old new false env v (every_left (operand_readings false (names_of env) v) (readings (x ∷ names_of env) c) h) in
        let k = later_over m (λ w. evaluate sem old ((x, w) ∷ env) c) (λ w. evaluate sem new ((x, w) ∷ env) c) j.was j.now
        (λ w. later_evaluate ((x, w) ∷ env) c (every_right (operand_readings false (names_of env) v) (readings (x ∷ names_of env) c) h))
        j.rel in
        record {
          was = k.was;
          now = k.now;
          is_was = bind_ok _ j.is_was ∙ k.is_was;
          is_now = bind_ok _ j.is_now ∙ k.is_now;
          rel = k.rel;
        }

    later_evaluate_all : (env : Env) (m : Mode) (cs : Conditions) → Every (Fact sem Erased old new) (all_readings (names_of env) cs) →
        Both (Later Erased) (evaluate_all sem old env m cs) (evaluate_all sem new env m cs)
    later_evaluate_all env m no_more h = record { was = _; now = _; is_was = refl; is_now = refl; rel = truth_kept refl }
    later_evaluate_all env m (also c cs) h =
        let j = later_evaluate env c (every_left (readings (names_of env) c) (all_readings (names_of env) cs) h) in
        let k = later_evaluate_all env m cs (every_right (readings (names_of env) c) (all_readings (names_of env) cs) h) in
        record {
          was = joined m j.was k.was;
          now = joined m j.now k.now;
          is_was = bind_ok _ j.is_was ∙ bind_ok _ k.is_was;
          is_now = bind_ok _ j.is_now ∙ bind_ok _ k.is_now;
          rel = later_joined Erased m j.was j.now k.was k.now j.rel k.rel;
        }

-- clean readings give a value or nothing
pub known_gives : (sem : Semantics) (s : Sheet Condition) (rs : List Reading) → all_known sem s rs ≡ true → Every (λ r. (g : Option Value) × (gives sem s [] r.text ≡ ok g)) rs
unfolding all_known
known_gives sem s [] e = λ r m. elim m [ ]
known_gives sem s (x ∷ rs) e =
    λ r m. ⊎_elim (λ q. rw q here)
    (λ n. known_gives sem s rs (both_true (is_answer (gives sem s [] x.text)) (all_known sem s rs) e).1 r n) (Memᴰ.cases_cons m)
  where
    answer : (x : Result (Option Value)) → is_answer x ≡ true → (g : Option Value) × (x ≡ ok g)
    answer (ok g) h = (g, refl)
    answer (refused r) h = absurd (false≢true h)

    here : (g : Option Value) × (gives sem s [] x.text ≡ ok g)
    here = answer (gives sem s [] x.text) (both_true (is_answer (gives sem s [] x.text)) (all_known sem s rs) e).0
