-- What operands and frames stand for, and that lookup, paths, touching and resolving agree with the definitions.
-- Assumes nothing.
use mathlib.Core.Path.{◌≡◌, refl, sym, ap, subst}
use mathlib.Core.List.{List, [], ◌∷◌}
use Rattle.std.specs.Prelude.{Option, None, Some}
use mathlib.Core.Bool.{Bool, true, false}
use Prim.Native.Nat.{ℕ, zero, suc, ◌≤◌, ◌<◌}
use native.Mathlib.Omega.{arith}
use lib.Dec.{leb}
use lib.ListN.{length}
use borrow.Author.Tests.{leb-true, leb-false}
use Rattle.paths.specs.Lazy.{
  Frames,
  Operand,
  given,
  listed,
  look,
  look_parts,
  lookup,
  map_some,
  named,
  observe,
  operand,
  operand_in,
  operand_of,
  operand_text,
  or_null,
  outer,
  read_part,
  step_from,
  touch,
  walk_from,
}
use Rattle.semantics.specs.Expression.{Env, gives, gives_parts, parts, unbound, walk}
use Rattle.semantics.specs.Names.{Names}
use Rattle.semantics.specs.Operand.{Resolved, Written, both, escaped, expression, missing, observed, plain, present, read_text, resolve, resolve_in, resolve_of, resolve_text, same}
use Rattle.semantics.specs.Semantics.{kernel, member_step}
use Rattle.json_text.specs.Bytes.{Bytes, find, same_bytes}
use Rattle.json_text.specs.Json.{Members, Value, Values, array, bool, cons, empty, entries, is_null, member, nil, null, number, object, text}
use Rattle.json_text.specs.Refusal.{Refusal, Result, ◌>>=◌, ok, refused}
use Rattle.members.specs.Sheet.{Sheet}

pub impossible : ◌≡◌ {A = ℕ} 0 1 → ⊥
impossible e = omega arith

-- the outermost frames
pub outer_all : {A : Type 0} (d : ℕ) (xs : List A) → length xs ≤ d → outer d xs ≡ xs
unfolding outer
outer_all d [] h = refl
outer_all {A} d (x ∷ xs) h = go (leb (suc (length xs)) d) refl
  where
    go : (b : Bool) → leb (suc (length xs)) d ≡ b → outer d (x ∷ xs) ≡ x ∷ xs
    go true e = rw (e, outer) refl
    go false e = absurd (omega (arith, leb-false (suc (length xs)) d e))

pub outer_cons : {A : Type 0} (d : ℕ) (x : A) (xs : List A) → d ≤ length xs → outer d (x ∷ xs) ≡ outer d xs
unfolding outer
outer_cons {A} d x xs h = go (leb (suc (length xs)) d) refl
  where
    go : (b : Bool) → leb (suc (length xs)) d ≡ b → outer d (x ∷ xs) ≡ outer d xs
    go true e = absurd (omega (arith, leb-true (suc (length xs)) d e))
    go false e = rw (e, outer) refl

pub outer_length : {A : Type 0} (d : ℕ) (xs : List A) → d ≤ length xs → length (outer d xs) ≡ d
outer_length {A} d [] h = omega (arith, ap (length {A = A}) (outer_all d [] (omega arith)))
outer_length {A} d (x ∷ xs) h = go (outer_length d xs) (leb (suc (length xs)) d) refl
  where
    go : (d ≤ length xs → length (outer d xs) ≡ d) → (b : Bool) → leb (suc (length xs)) d ≡ b → length (outer d (x ∷ xs)) ≡ d
    go below true e = let k = leb-true (suc (length xs)) d e in rw (outer_all d (x ∷ xs) k) (omega arith)
    go below false e = let k = leb-false (suc (length xs)) d e in rw (outer_cons d x xs (omega arith)) (below (omega arith))

pub outer_outer : {A : Type 0} (d e : ℕ) (xs : List A) → d ≤ e → outer d (outer e xs) ≡ outer d xs
unfolding outer
outer_outer d e [] h = refl
outer_outer {A} d e (x ∷ xs) h = go (outer_outer d e xs h) (leb (suc (length xs)) e) refl
  where
    go : outer d (outer e xs) ≡ outer d xs → (b : Bool) → leb (suc (length xs)) e ≡ b → outer d (outer e (x ∷ xs)) ≡ outer d (x ∷ xs)
    go below true q = ap (outer d) (outer_all e (x ∷ xs) (leb-true (suc (length xs)) e q))
    go below false q = let k = leb-false (suc (length xs)) e q in rw (outer_cons e x xs (omega arith), outer_cons d x xs (omega arith)) below

-- what a present whole says of its parts
pub both_inv : {A B D : Type 0} (f : A → B → D) {d : D} (x : Result (Resolved A)) (y : Result (Resolved B)) →
    (x >>= λ r. y >>= λ q. ok (both f r q)) ≡ ok (present d) → (a : A) × (b : B) × (x ≡ ok (present a)) × (y ≡ ok (present b)) × (f a b ≡ d)
both_inv f (ok (present a)) (ok (present b)) e = (a, b, refl, refl, cc)
both_inv f (ok (present a)) (ok (missing ns)) e = absurd (impossible (cc))
both_inv f (ok (present a)) (refused r) e = absurd (impossible (cc))
both_inv f (ok (missing ms)) (ok (present b)) e = absurd (impossible (cc))
both_inv f (ok (missing ms)) (ok (missing ns)) e = absurd (impossible (cc))
both_inv f (ok (missing ms)) (refused r) e = absurd (impossible (cc))
both_inv f (refused r) y e = absurd (impossible (cc))

pub same_inv : {A B : Type 0} (f : A → B) {b : B} (x : Result (Resolved A)) → (x >>= λ r. ok (same f r)) ≡ ok (present b) → (a : A) × (x ≡ ok (present a)) × (f a ≡ b)
same_inv f (ok (present a)) e = (a, refl, cc)
same_inv f (ok (missing ns)) e = absurd (impossible (cc))
same_inv f (refused r) e = absurd (impossible (cc))

pub observed_inv : (e : Bytes) {w : Value} (x : Result (Option Value)) → (x >>= λ g. ok (observed e g)) ≡ ok (present w) → x ≡ ok (Some w)
observed_inv e (refused r) h = absurd (impossible (cc))
observed_inv e (ok None) h = absurd (impossible (cc))
observed_inv e {w} (ok (Some v)) h = go (is_null v) refl
  where
    go : (b : Bool) → is_null v ≡ b → ok (Some v) ≡ ok (Some w)
    go true q = let z = rw (q, observed) at h in absurd (impossible (cc))
    go false q = let z = rw (q, observed) at h in cc

-- Two answers that agree: neither or each there, and what is there related.
pub data Maybe {A B : Type 0} (R : A → B → Type 0) : Option A → Option B → Type 0 where
  neither : Maybe R None None
  each : {a : A} {b : B} → R a b → Maybe R (Some a) (Some b)

pub data Found {A B : Type 0} (R : A → B → Type 0) : Result (Option A) → Result (Option B) → Type 0 where
  not_found : {r : Refusal} → Found R (refused r) (refused r)
  finding : {a : Option A} {b : Option B} → Maybe R a b → Found R (ok a) (ok b)

pub data Agree {A B : Type 0} (R : A → B → Type 0) : Result (Resolved A) → Result (Resolved B) → Type 0 where
  refusing : {r : Refusal} → Agree R (refused r) (refused r)
  lacking : {ns : Names} → Agree R (ok (missing ns)) (ok (missing ns))
  standing : {a : A} {b : B} → R a b → Agree R (ok (present a)) (ok (present b))

module _ {C : Type 0} (sheet : Sheet C) where
  -- each part resolves to its counterpart
  pub data EachIn (env : Env) : Values → Values → Type 0 where
    no_part : EachIn env nil nil
    one_part : {v w : Value} {vs ws : Values} → resolve kernel sheet env v ≡ ok (present w) → EachIn env vs ws → EachIn env (cons v vs) (cons w ws)

  pub data EachOf (env : Env) : Members → Members → Type 0 where
    no_member : EachOf env empty empty
    one_member : {k : Bytes} {v w : Value} {ms ns : Members} → resolve kernel sheet env v ≡ ok (present w) → EachOf env ms ns → EachOf env (member k v ms) (member k w ns)

  -- An operand stands for a value, where the frames stand for env and it is read under at most b of them: all its parts are present.
  pub data Stands (env : Env) (b : ℕ) : Operand → Value → Type 0 where
    itself : {v : Value} → Stands env b (given v) v
    in_array : {d : ℕ} {vs ws : Values} → d ≤ b → EachIn (outer d env) vs ws → Stands env b (listed d vs) (array ws)
    in_object : {d : ℕ} {ms ns : Members} → d ≤ b → EachOf (outer d env) ms ns → Stands env b (named d ms) (object ns)

  pub data Standing : Frames → Env → Type 0 where
    no_frame : Standing [] []
    frame : {x : Bytes} {o : Operand} {v : Value} {fs : Frames} {env : Env} → Stands env (length env) o v → Standing fs env → Standing ((x, o) ∷ fs) ((x, v) ∷ env)

  pub standing_length : {fs : Frames} {env : Env} → Standing fs env → length fs ≡ length env
  standing_length no_frame = refl
  standing_length (frame h s) = ap suc (standing_length s)

  stands_mono : {env : Env} {b c : ℕ} {o : Operand} {v : Value} → b ≤ c → Stands env b o v → Stands env c o v
  stands_mono h itself = itself
  stands_mono h (in_array {d = d} k e) = in_array {d = d} (omega arith) e
  stands_mono h (in_object {d = d} k e) = in_object {d = d} (omega arith) e

  stands_under : {env : Env} {b : ℕ} {x : Bytes × Value} {o : Operand} {v : Value} → b ≤ length env → Stands env b o v → Stands (x ∷ env) b o v
  stands_under h itself = itself
  stands_under {env} {x = x} h (in_array {d = d} {vs = vs} {ws = ws} k e) = in_array k (subst (λ (l : Env). EachIn l vs ws) (sym (outer_cons d x env (omega arith))) e)
  stands_under {env} {x = x} h (in_object {d = d} {ms = ms} {ns = ns} k e) = in_object k (subst (λ (l : Env). EachOf l ms ns) (sym (outer_cons d x env (omega arith))) e)

  stands_outer : {env : Env} (d : ℕ) {o : Operand} {v : Value} → Stands (outer d env) d o v → Stands env d o v
  stands_outer d itself = itself
  stands_outer {env} d (in_array {d = c} {vs = vs} {ws = ws} k e) = in_array k (subst (λ (l : Env). EachIn l vs ws) (outer_outer c d env k) e)
  stands_outer {env} d (in_object {d = c} {ms = ms} {ns = ns} k e) = in_object k (subst (λ (l : Env). EachOf l ms ns) (outer_outer c d env k) e)

  standing_outer : {fs : Frames} {env : Env} (d : ℕ) → Standing fs env → Standing (outer d fs) (outer d env)
  unfolding outer
  standing_outer d no_frame = no_frame
  standing_outer d (frame {x = x} {o = o} {v = v} {fs = fs} {env = env} h s) = go (standing_outer d s) (leb (suc (length fs)) d) refl
    where
      go : Standing (outer d fs) (outer d env) → (b : Bool) → leb (suc (length fs)) d ≡ b → Standing (outer d ((x, o) ∷ fs)) (outer d ((x, v) ∷ env))
      go below true e =
          let k = leb-true (suc (length fs)) d e in
          let l = standing_length s in
          rw (outer_all d ((x, o) ∷ fs) k, outer_all d ((x, v) ∷ env) (omega arith)) (frame h s)
      go below false e =
          let k = leb-false (suc (length fs)) d e in
          let l = standing_length s in
          rw (outer_cons d (x, o) fs (omega arith), outer_cons d (x, v) env (omega arith)) below

  -- a binder's operand is read under fewer frames than are in force
  pub record Bound (env : Env) (o : Operand) (v : Value) : Type 0 where
    pub under : ℕ
    pub fewer : under < length env
    pub stands : Stands env under o v

  bound_under : {env : Env} {x : Bytes × Value} {o : Operand} {v : Value} → Bound env o v → Bound (x ∷ env) o v
  bound_under h = record { under = h.under; fewer = omega arith; stands = stands_under (omega arith) h.stands }

  binder_found : {fs : Frames} {env : Env} (name : Bytes) → Standing fs env → Maybe (Bound env) (find name fs) (find name env)
  unfolding find
  binder_found name no_frame = neither
  binder_found name (frame {x = x} {o = o} {v = v} {fs = fs} {env = env} h s) = go (binder_found name s) (same_bytes name x) refl
    where
      go : Maybe (Bound env) (find name fs) (find name env) → (b : Bool) → same_bytes name x ≡ b →
          Maybe (Bound ((x, v) ∷ env)) (find name ((x, o) ∷ fs)) (find name ((x, v) ∷ env))
      go below true e = rw (e, find) (each (record { under = length env; fewer = omega arith; stands = stands_under (omega arith) h }))
      go below false e = rw (e, find) (lift below)
        where
          lift : {p : Option Operand} {q : Option Value} → Maybe (Bound env) p q → Maybe (Bound ((x, v) ∷ env)) p q
          lift neither = neither
          lift (each k) = each (bound_under k)

  -- a member that resolves keeps its name
  member_found : {env : Env} {ms ns : Members} (k : Bytes) → EachOf env ms ns → Maybe (λ v w. resolve kernel sheet env v ≡ ok (present w)) (find k (entries ms)) (find k (entries ns))
  unfolding find
  member_found k no_member = neither
  member_found {env} k (one_member {k = l} {v = v} {w = w} {ms = ms} {ns = ns} h s) = go (member_found k s) (same_bytes k l) refl
    where
      go : Maybe (λ v w. resolve kernel sheet env v ≡ ok (present w)) (find k (entries ms)) (find k (entries ns)) → (b : Bool) →
          same_bytes k l ≡ b →
          Maybe (λ v w. resolve kernel sheet env v ≡ ok (present w)) (find k (entries (member l v ms))) (find k (entries (member l w ns)))
      go below true e = rw (e, find) (each h)
      go below false e = rw (e, find) below

  -- parts are touched rightly, where the number exceeds the frames
  abbrev pub Touches : ℕ → Type 0
  Touches n =
      (fs : Frames) (env : Env) (v w : Value) → Standing fs env → length env < n → resolve kernel sheet env v ≡
      ok (present w) → Stands env (length env) (touch sheet n fs v) w

  module _ (n : ℕ) (touches : Touches n) where
    pub touched_outer : {fs : Frames} {env : Env} {b d : ℕ} (v : Value) {w : Value} → Standing fs env → b ≤ length env → d ≤ b → d < n →
        resolve kernel sheet (outer d env) v ≡ ok (present w) → Stands env b (touch sheet n (outer d fs) v) w
    touched_outer {fs} {env} {b} {d} v {w} s h k l e =
        let len : length (outer d env) ≡ d = outer_length d env (omega arith) in
        stands_mono k
        (stands_outer d
        (subst (λ (m : ℕ). Stands (outer d env) m (touch sheet n (outer d fs) v) w) len
        (touches (outer d fs) (outer d env) v w (standing_outer d s) (omega arith) e)))

    step_stands : {fs : Frames} {env : Env} {b : ℕ} {o : Operand} {v : Value} (k : Bytes) → Standing fs env → b ≤ length env → b < n →
        Stands env b o v → Maybe (Stands env b) (step_from sheet (touch sheet n) fs k o) (member_step k v)
    unfolding step_from map_some
    step_stands {env = env} {b = b} {v = v} k s h l itself = go (member_step k v)
      where
        go : (x : Option Value) → Maybe (Stands env b) (map_some given x) x
        go None = neither
        go (Some w) = each itself
    step_stands k s h l (in_array c e) = neither
    step_stands {fs} {env} {b} k s h l (in_object {d = d} {ms = ms} {ns = ns} c e) = go (member_found k e)
      where
        go : {p q : Option Value} → Maybe (λ v w. resolve kernel sheet (outer d env) v ≡ ok (present w)) p q → Maybe (Stands env b) (map_some (touch sheet n (outer d fs)) p) q
        go neither = neither
        go (each r) = each (touched_outer _ s h c (omega arith) r)

    walk_stands : {fs : Frames} {env : Env} {b : ℕ} {o : Operand} {v : Value} (ks : List Bytes) → Standing fs env → b ≤ length env → b < n →
        Stands env b o v → Maybe (Stands env b) (walk_from sheet (touch sheet n) fs ks o) (walk kernel ks v)
    unfolding walk_from walk
    walk_stands [] s h l st = each st
    walk_stands {fs} {env} {b} {o} {v} (k ∷ ks) s h l st = go (λ p w q. walk_stands ks s h l q) (step_stands k s h l st)
      where
        go : ((p : Operand) (w : Value) → Stands env b p w → Maybe (Stands env b) (walk_from sheet (touch sheet n) fs ks p)
            (walk kernel ks w)) → {x : Option Operand} {y : Option Value} → Maybe (Stands env b) x y →
            Maybe (Stands env b) (elim x [ None ↦ None | Some p ↦ walk_from sheet (touch sheet n) fs ks p ])
            (elim y [ None ↦ None | Some w ↦ walk kernel ks w ])
        go below neither = neither
        go below (each q) = below _ _ q

    look_stands : {fs : Frames} {env : Env} (e : Bytes) → Standing fs env → length env ≤ n →
        Found (Stands env (length env)) (look sheet (touch sheet n) fs e) (gives kernel sheet env e)
    unfolding look look_parts gives gives_parts map_some
    look_stands {fs} {env} e s h = go (parts e)
      where
        free : (x : Result (Option Value)) → Found (Stands env (length env)) (x >>= λ g. ok (map_some given g)) x
        free (refused r) = not_found
        free (ok None) = finding neither
        free (ok (Some v)) = finding (each itself)

        bound : {o : Operand} {v : Value} (path : List Bytes) → Bound env o v → Found (Stands env (length env)) (ok (walk_from sheet (touch sheet n) fs path o)) (ok (walk kernel path v))
        bound path k = finding (raise (walk_stands path s (omega arith) (omega arith) k.stands))
          where
            raise : {p : Option Operand} {q : Option Value} → Maybe (Stands env k.under) p q → Maybe (Stands env (length env)) p q
            raise neither = neither
            raise (each st) = each (stands_mono (omega arith) st)

        go : (ps : List Bytes) → Found (Stands env (length env)) (look_parts sheet (touch sheet n) fs e ps) (gives_parts kernel sheet env e ps)
        go [] = not_found
        go (name ∷ path) = decide (binder_found name s)
          where
            decide : {p : Option Operand} {q : Option Value} → Maybe (Bound env) p q →
                Found (Stands env (length env))
                (elim p [
                  | Some o ↦ ok (walk_from sheet (touch sheet n) fs path o)
                  | None ↦
                      (unbound kernel sheet e name path >>= λ g. ok (map_some given g))
                ])
                (elim q [ Some v ↦ ok (walk kernel path v) | None ↦ unbound kernel sheet e name path ])
            decide neither = free (unbound kernel sheet e name path)
            decide (each k) = bound path k

  in_parts : {env : Env} (vs : Values) {ws : Values} → resolve_in kernel sheet env vs ≡ ok (present ws) → EachIn env vs ws
  unfolding resolve_in
  in_parts {env} nil {ws} e = let z : nil ≡ ws = cc in subst (λ (l : Values). EachIn env nil l) z no_part
  in_parts {env} (cons v vs) e =
      let k = both_inv cons (resolve kernel sheet env v) (resolve_in kernel sheet env vs) e in
      subst (λ (l : Values). EachIn env (cons v vs) l) k.4 (one_part k.2 (in_parts vs k.3))

  of_parts : {env : Env} (ms : Members) {ns : Members} → resolve_of kernel sheet env ms ≡ ok (present ns) → EachOf env ms ns
  unfolding resolve_of
  of_parts {env} empty {ns} e = let z : empty ≡ ns = cc in subst (λ (l : Members). EachOf env empty l) z no_member
  of_parts {env} (member n v ms) e =
      let k = both_inv (member n) (resolve kernel sheet env v) (resolve_of kernel sheet env ms) e in
      subst (λ (l : Members). EachOf env (member n v ms) l) k.4 (one_member k.2 (of_parts ms k.3))

  under_all : {fs : Frames} {env : Env} → Standing fs env → outer (length fs) env ≡ env
  under_all {fs} {env} s = let l = standing_length s in outer_all (length fs) env (omega arith)

  stands_in : {fs : Frames} {env : Env} {vs ws : Values} → Standing fs env → EachIn env vs ws → Stands env (length env) (listed (length fs) vs) (array ws)
  stands_in {fs} {env} {vs} {ws} s h = let l = standing_length s in in_array {d = length fs} (omega arith) (subst (λ (e : Env). EachIn e vs ws) (sym (under_all s)) h)

  stands_of : {fs : Frames} {env : Env} {ms ns : Members} → Standing fs env → EachOf env ms ns → Stands env (length env) (named (length fs) ms) (object ns)
  stands_of {fs} {env} {ms} {ns} s h = let l = standing_length s in in_object {d = length fs} (omega arith) (subst (λ (e : Env). EachOf e ms ns) (sym (under_all s)) h)

  stands_given : {env : Env} {b : ℕ} {v w : Value} → ok (present v) ≡ ok (present w) → Stands env b (given v) w
  stands_given {env} {b} {v} {w} e = let z : v ≡ w = cc in subst (λ (x : Value). Stands env b (given v) x) z itself

  touch_text : (n : ℕ) → Touches n → {fs : Frames} {env : Env} (t : Bytes) {w : Value} → Standing fs env → length env ≤ n →
      resolve_text kernel sheet env t ≡ ok (present w) → Stands env (length env) (read_part sheet (touch sheet n) fs (text t)) w
  unfolding read_part resolve_text or_null
  touch_text n touches {fs} {env} t {w} s h e = go (read_text t) refl
    where
      found : {p : Result (Option Operand)} {q : Result (Option Value)} → Found (Stands env (length env)) p q → q ≡ ok (Some w) → Stands env (length env) (or_null p) w
      found not_found z = absurd (impossible (cc))
      found (finding neither) z = absurd (impossible (cc))
      found (finding (each {a = a} {b = b} st)) z = let y : b ≡ w = cc in subst (λ (r : Value). Stands env (length env) a r) y st

      go : (r : Written) → read_text t ≡ r → Stands env (length env) (read_part sheet (touch sheet n) fs (text t)) w
      go plain q = rw (q, read_part) (stands_given (rw (q, resolve_text) at e))
      go (escaped u) q = rw (q, read_part) (stands_given (rw (q, resolve_text) at e))
      go (expression x) q = rw (q, read_part) (found (look_stands n touches x s h) (observed_inv x (gives kernel sheet env x) (rw (q, resolve_text) at e)))

  pub touch_stands : (n : ℕ) → Touches n
  unfolding touch read_part resolve
  touch_stands zero fs env v w s h e = absurd (omega arith)
  touch_stands (suc n) fs env null w s h e = stands_given e
  touch_stands (suc n) fs env (bool b) w s h e = stands_given e
  touch_stands (suc n) fs env (number t) w s h e = stands_given e
  touch_stands (suc n) fs env (text t) w s h e = touch_text n (touch_stands n) t s (omega arith) e
  touch_stands (suc n) fs env (array vs) w s h e =
      let k = same_inv array (resolve_in kernel sheet env vs) e in
      subst (λ (x : Value). Stands env (length env) (listed (length fs) vs) x) k.2 (stands_in s (in_parts vs k.1))
  touch_stands (suc n) fs env (object ms) w s h e =
      let k = same_inv object (resolve_of kernel sheet env ms) e in
      subst (λ (x : Value). Stands env (length env) (named (length fs) ms) x) k.2 (stands_of s (of_parts ms k.1))

  pub lookup_stands : {fs : Frames} {env : Env} (e : Bytes) → Standing fs env → Found (Stands env (length env)) (lookup sheet fs e) (gives kernel sheet env e)
  lookup_stands {fs} e s = let l = standing_length s in look_stands (length fs) (touch_stands (length fs)) e s (omega arith)

  -- Resolving agrees: present, missing with the same names in the same order, or the same refusal.
  agree_both :
      {A B D E F : Type 0} {R : A → B → Type 0} {S : D → E → Type 0} {T : Unit {0} → F → Type 0} (f : B → E → F) {x : Result (Resolved A)}
      {y : Result (Resolved B)} {p : Result (Resolved D)} {q : Result (Resolved E)} →
      ((b : B) (d : D) (e : E) → y ≡ ok (present b) → S d e → T tt (f b e)) → Agree R x y → Agree S p q →
      Agree T (x >>= λ r. p >>= λ rs. ok (both (λ _ _. tt) r rs)) (y >>= λ r. q >>= λ rs. ok (both f r rs))
  agree_both f h refusing k = refusing
  agree_both f h lacking refusing = refusing
  agree_both f h lacking lacking = lacking
  agree_both f h lacking (standing k) = lacking
  agree_both f h (standing j) refusing = refusing
  agree_both f h (standing j) lacking = lacking
  agree_both f h (standing j) (standing k) = standing (h _ _ _ refl k)

  agree_text : {fs : Frames} {env : Env} (t : Bytes) → Standing fs env → Agree (Stands env (length env)) (operand_text sheet fs t) (resolve_text kernel sheet env t)
  unfolding operand_text resolve_text observe
  agree_text {fs} {env} t s = go (read_text t) refl
    where
      null_missing : (x : Bytes) (v : Value) (b : Bool) → is_null v ≡ b → Agree (Stands env (length env)) (ok (observe x (Some (given v)))) (ok (observed x (Some v)))
      null_missing x v true e = rw (e, observe, observed) lacking
      null_missing x v false e = rw (e, observe, observed) (standing itself)

      found : (x : Bytes) {p : Result (Option Operand)} {q : Result (Option Value)} → Found (Stands env (length env)) p q →
          Agree (Stands env (length env)) (p >>= λ g. ok (observe x g)) (q >>= λ g. ok (observed x g))
      found x not_found = refusing
      found x (finding neither) = lacking
      found x (finding (each (itself {v = v}))) = null_missing x v (is_null v) refl
      found x (finding (each (in_array d e))) = standing (in_array d e)
      found x (finding (each (in_object d e))) = standing (in_object d e)

      go : (r : Written) → read_text t ≡ r → Agree (Stands env (length env)) (operand_text sheet fs t) (resolve_text kernel sheet env t)
      go plain q = rw (q, operand_text, resolve_text) (standing itself)
      go (escaped u) q = rw (q, operand_text, resolve_text) (standing itself)
      go (expression x) q = rw (q, operand_text, resolve_text) (found x (lookup_stands x s))

  mutual
    unfolding operand resolve

    pub operand_agrees : {fs : Frames} {env : Env} (v : Value) → Standing fs env → Agree (Stands env (length env)) (operand sheet fs v) (resolve kernel sheet env v)
    operand_agrees null s = standing itself
    operand_agrees (bool b) s = standing itself
    operand_agrees (number t) s = standing itself
    operand_agrees (text t) s = agree_text t s
    operand_agrees {fs} {env} (array vs) s = whole (operand_in_agrees vs s)
      where
        whole : {x : Result (Resolved (Unit {0}))} {y : Result (Resolved Values)} → Agree (λ _ ws. EachIn env vs ws) x y →
            Agree (Stands env (length env)) (x >>= λ r. ok (same (λ _. listed (length fs) vs) r)) (y >>= λ r. ok (same array r))
        whole refusing = refusing
        whole lacking = lacking
        whole (standing h) = standing (stands_in s h)
    operand_agrees {fs} {env} (object ms) s = whole (operand_of_agrees ms s)
      where
        whole : {x : Result (Resolved (Unit {0}))} {y : Result (Resolved Members)} → Agree (λ _ ns. EachOf env ms ns) x y →
            Agree (Stands env (length env)) (x >>= λ r. ok (same (λ _. named (length fs) ms) r)) (y >>= λ r. ok (same object r))
        whole refusing = refusing
        whole lacking = lacking
        whole (standing h) = standing (stands_of s h)

    operand_in_agrees : {fs : Frames} {env : Env} (vs : Values) → Standing fs env → Agree (λ _ ws. EachIn env vs ws) (operand_in sheet fs vs) (resolve_in kernel sheet env vs)
    operand_in_agrees nil s = standing no_part
    operand_in_agrees (cons v vs) s = agree_both cons (λ b d e j k. one_part j k) (operand_agrees v s) (operand_in_agrees vs s)

    operand_of_agrees : {fs : Frames} {env : Env} (ms : Members) → Standing fs env → Agree (λ _ ns. EachOf env ms ns) (operand_of sheet fs ms) (resolve_of kernel sheet env ms)
    operand_of_agrees empty s = standing no_member
    operand_of_agrees (member k v ms) s = agree_both (member k) (λ b d e j k. one_member j k) (operand_agrees v s) (operand_of_agrees ms s)
