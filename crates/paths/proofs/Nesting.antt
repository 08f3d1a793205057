-- How deep resolved values nest: at most 64 brackets for each frame and 128 more.
-- Assumes nothing.
use mathlib.Core.Path.{◌≡◌, refl, subst}
use mathlib.Core.List.{List, [], ◌∷◌}
use Rattle.std.specs.Prelude.{Option, None, Some}
use mathlib.Core.Bool.{Bool, true, false}
use Prim.Native.Nat.{ℕ, suc, ◌+◌, ◌*◌, ◌≤◌, max}
use native.Mathlib.Omega.{arith}
use lib.ListN.{length}
use Rattle.paths.proofs.Stands.{impossible, both_inv, same_inv, observed_inv}
use Rattle.semantics.proofs.Parts.{Entries, Operands, OperandsIn, find_entry}
use Rattle.semantics.specs.Expression.{Env, bases, below, gives, gives_parts, id_of, if_any, parts, roots, unbound, walk}
use Rattle.semantics.specs.Operand.{Written, escaped, expression, plain, present, read_text, resolve, resolve_in, resolve_of, resolve_text}
use Rattle.semantics.specs.Semantics.{kernel, member_step}
use Rattle.json_text.specs.Bytes.{Bytes, find, same_bytes}
use Rattle.json_text.specs.Json.{Members, Value, Values, array, bool, cons, empty, entries, member, nil, null, number, object, text}
use Rattle.json_text.specs.Limits.{depth, depth_in, depth_of}
use Rattle.json_text.specs.Refusal.{Result, ok, refused, unknown_expression}
use Rattle.members.specs.Condition.{Condition, Conditions}
use Rattle.members.specs.Sheet.{Sheet}

-- the sheet's values, the written operands, and the binders' values
pub record LowSheet {C : Type 0} (sheet : Sheet C) : Type 0 where
  pub args : depth (object sheet.args) ≤ 64
  pub fields : depth (object sheet.fields) ≤ 64
  pub old_fields : depth (object sheet.old_fields) ≤ 64

abbrev pub Shallow : Value → Type 0
Shallow v = depth v ≤ 64

abbrev pub Low : Condition → Type 0
Low c = Operands Shallow c

abbrev pub LowAll : Conditions → Type 0
LowAll cs = OperandsIn Shallow cs

unfoldable pub LowEnv : Env → Type 0
unfolding depth
LowEnv [] = Unit {0}
LowEnv (x ∷ env) = (depth x.1 ≤ 64 * (length env + 2)) × LowEnv env

pub members_low : (n : ℕ) (ms : Members) → depth_of ms ≤ n → Entries (λ v. depth v ≤ n) (entries ms)
unfolding depth_of
members_low n empty h = tt
members_low n (member k v ms) h = (omega arith, members_low n ms (omega arith))

step_low : (k : Bytes) (v : Value) {w : Value} → member_step k v ≡ Some w → depth w ≤ depth v
unfolding depth
step_low k null e = absurd (impossible (cc))
step_low k (bool b) e = absurd (impossible (cc))
step_low k (number s) e = absurd (impossible (cc))
step_low k (text s) e = absurd (impossible (cc))
step_low k (array vs) e = absurd (impossible (cc))
step_low k (object ms) e = let h = find_entry (λ v. depth v ≤ depth_of ms) k (entries ms) (members_low (depth_of ms) ms (omega arith)) e in omega arith

walk_low : (ks : List Bytes) (v : Value) {w : Value} → walk kernel ks v ≡ Some w → depth w ≤ depth v
unfolding walk
walk_low [] v {w} e = let z : v ≡ w = cc in rw z (omega arith)
walk_low (k ∷ ks) v {w} e = go (λ u. walk_low ks u) (member_step k v) refl e
  where
    go : ((u : Value) → walk kernel ks u ≡ Some w → depth w ≤ depth u) → (x : Option Value) → member_step k v ≡ x →
        elim x as (λ _. Option Value) [ None ↦ None | Some u ↦ walk kernel ks u ] ≡ Some w → depth w ≤ depth v
    go rest None q z = absurd (impossible (cc))
    go rest (Some u) q z = let a = step_low k v q in let b = rest u z in omega arith

module _ {C : Type 0} (sheet : Sheet C) (low : LowSheet sheet) where
  -- an answer, if there is one, has at most 64 brackets
  LowAnswer : Result (Option Value) → Type 0
  LowAnswer r = (v : Value) → r ≡ ok (Some v) → depth v ≤ 64

  text_low : (s : Bytes) → LowAnswer (ok (Some (text s)))
  unfolding LowAnswer depth
  text_low s v e = let z : text s ≡ v = cc in subst (λ (x : Value). depth x ≤ 64) z (omega arith)

  number_low : (s : Bytes) → LowAnswer (ok (Some (number s)))
  unfolding LowAnswer depth
  number_low s v e = let z : number s ≡ v = cc in subst (λ (x : Value). depth x ≤ 64) z (omega arith)

  object_low : (ms : Members) → depth (object ms) ≤ 64 → LowAnswer (ok (Some (object ms)))
  unfolding LowAnswer
  object_low ms h v e = let z : object ms ≡ v = cc in subst (λ (x : Value). depth x ≤ 64) z h

  id_low : (s : Option Bytes) → LowAnswer (id_of s)
  unfolding LowAnswer
  id_low None v e = absurd (impossible (cc))
  id_low (Some s) v e = unfold LowAnswer in text_low s v e

  any_low : (s : Option Bytes) → LowAnswer (ok (if_any s))
  unfolding LowAnswer
  any_low None v e = absurd (impossible (cc))
  any_low (Some s) v e = unfold LowAnswer in text_low s v e

  roots_low : Entries LowAnswer (roots sheet)
  roots_low = (
    id_low sheet.id,
    (
      text_low sheet.entity,
      (
        number_low sheet.version,
        (
          any_low sheet.from_state,
          (
            text_low sheet.to_state,
            (
              text_low sheet.to_state,
              (
                object_low sheet.args low.args,
                (
                  object_low sheet.fields low.fields,
                  (object_low sheet.old_fields low.old_fields, tt),
                ),
              ),
            ),
          ),
        ),
      ),
    ),
  )

  bases_low : Entries (λ ms. depth (object ms) ≤ 64) (bases sheet)
  bases_low = (low.args, (low.fields, (low.old_fields, tt)))

  unbound_low : (e name : Bytes) (path : List Bytes) → LowAnswer (unbound kernel sheet e name path)
  unfolding LowAnswer unbound
  unbound_low e name [] v h = go (find name (roots sheet)) refl h
    where
      go : (x : Option (Result (Option Value))) → find name (roots sheet) ≡ x →
          elim x as (λ _. Result (Option Value)) [ None ↦ refused (unknown_expression (36 ∷ e)) | Some r ↦ r ] ≡ ok (Some v) → depth v ≤ 64
      go None q z = absurd (impossible (cc))
      go (Some r) q z = find_entry LowAnswer name (roots sheet) roots_low q v z
  unbound_low e name (p ∷ ps) v h = go (find name (bases sheet)) refl h
    where
      inside : (q : Bytes) (ms : Members) → depth (object ms) ≤ 64 → ok (below kernel sheet q ps ms) ≡ ok (Some v) → depth v ≤ 64
      inside [] ms k z = absurd (impossible (cc))
      inside (c ∷ q) ms k z = let y : walk kernel ((c ∷ q) ∷ ps) (object ms) ≡ Some v = cc in let d = walk_low ((c ∷ q) ∷ ps) (object ms) y in omega arith

      go : (x : Option Members) → find name (bases sheet) ≡ x →
          elim x as (λ _. Result (Option Value))
          [ None ↦ refused (unknown_expression (36 ∷ e)) | Some ms ↦ ok (below kernel sheet p ps ms) ] ≡ ok (Some v) → depth v ≤ 64
      go None q z = absurd (impossible (cc))
      go (Some ms) q z = inside p ms (find_entry (λ ms. depth (object ms) ≤ 64) name (bases sheet) bases_low q) z

  env_low : (name : Bytes) (env : Env) {v : Value} → LowEnv env → find name env ≡ Some v → depth v ≤ 64 * (length env + 1)
  unfolding LowEnv find
  env_low name [] h e = absurd (impossible (cc))
  env_low name (x ∷ env) {v} h e = go (env_low name env h.1) (same_bytes name x.0) refl
    where
      go : (find name env ≡ Some v → depth v ≤ 64 * (length env + 1)) → (b : Bool) → same_bytes name x.0 ≡ b → depth v ≤ 64 * (suc (length env) + 1)
      go rest true q = let z : x.1 ≡ v = (let y = rw (q, find) at e in cc) in let k = subst (λ (u : Value). depth u ≤ 64 * (length env + 2)) z h.0 in omega arith
      go rest false q = let k = rest (rw (q, find) at e) in omega arith

  gives_low : (env : Env) (e : Bytes) {v : Value} → LowEnv env → gives kernel sheet env e ≡ ok (Some v) → depth v ≤ 64 * (length env + 1)
  unfolding gives gives_parts LowAnswer
  gives_low env e {v} h g = go (parts e) g
    where
      go : (ps : List Bytes) → gives_parts kernel sheet env e ps ≡ ok (Some v) → depth v ≤ 64 * (length env + 1)
      go [] z = absurd (impossible (cc))
      go (name ∷ path) z = decide (find name env) refl z
        where
          decide : (x : Option Value) → find name env ≡ x →
              elim x as (λ _. Result (Option Value)) [ Some u ↦ ok (walk kernel path u) | None ↦ unbound kernel sheet e name path ] ≡
              ok (Some v) → depth v ≤ 64 * (length env + 1)
          decide None q y = let k = unbound_low e name path v y in omega arith
          decide (Some u) q y = let k = env_low name env h q in let w : walk kernel path u ≡ Some v = cc in let l = walk_low path u w in omega arith

  text_resolved_low : (env : Env) (s : Bytes) {w : Value} → LowEnv env → resolve_text kernel sheet env s ≡ ok (present w) → depth w ≤ 64 * (length env + 1)
  unfolding resolve_text depth
  text_resolved_low env s {w} h e = go (read_text s) refl
    where
      plainly : (t : Bytes) → ok (present (text t)) ≡ ok (present w) → depth w ≤ 64 * (length env + 1)
      plainly t z = let y : text t ≡ w = cc in subst (λ (u : Value). depth u ≤ 64 * (length env + 1)) y (omega arith)

      go : (r : Written) → read_text s ≡ r → depth w ≤ 64 * (length env + 1)
      go plain q = plainly s (rw (q, resolve_text) at e)
      go (escaped t) q = plainly t (rw (q, resolve_text) at e)
      go (expression x) q = gives_low env x h (observed_inv x (gives kernel sheet env x) (rw (q, resolve_text) at e))

  mutual
    unfolding resolve depth

    -- A resolved value has no more brackets than are written, and 64 for each frame and 64 more.
    pub resolve_low : (env : Env) (v : Value) {w : Value} → LowEnv env → resolve kernel sheet env v ≡ ok (present w) → depth w ≤ depth v + 64 * (length env + 1)
    resolve_low env null {w} h e = let y : null ≡ w = cc in subst (λ (u : Value). depth u ≤ 0 + 64 * (length env + 1)) y (omega arith)
    resolve_low env (bool b) {w} h e = let y : bool b ≡ w = cc in subst (λ (u : Value). depth u ≤ 0 + 64 * (length env + 1)) y (omega arith)
    resolve_low env (number s) {w} h e = let y : number s ≡ w = cc in subst (λ (u : Value). depth u ≤ 0 + 64 * (length env + 1)) y (omega arith)
    resolve_low env (text s) h e = let k = text_resolved_low env s h e in omega arith
    resolve_low env (array vs) h e =
        let k = same_inv array (resolve_in kernel sheet env vs) e in
        let l = resolve_in_low env vs h k.1 in
        subst (λ (u : Value). depth u ≤ 1 + depth_in vs + 64 * (length env + 1)) k.2 (omega arith)
    resolve_low env (object ms) h e =
        let k = same_inv object (resolve_of kernel sheet env ms) e in
        let l = resolve_of_low env ms h k.1 in
        subst (λ (u : Value). depth u ≤ 1 + depth_of ms + 64 * (length env + 1)) k.2 (omega arith)

    resolve_in_low : (env : Env) (vs : Values) {ws : Values} → LowEnv env → resolve_in kernel sheet env vs ≡ ok (present ws) → depth_in ws ≤ depth_in vs + 64 * (length env + 1)
    resolve_in_low env nil {ws} h e = let y : nil ≡ ws = cc in subst (λ (u : Values). depth_in u ≤ 0 + 64 * (length env + 1)) y (omega arith)
    resolve_in_low env (cons v vs) h e =
        let k = both_inv cons (resolve kernel sheet env v) (resolve_in kernel sheet env vs) e in
        let j = resolve_low env v h k.2 in
        let l = resolve_in_low env vs h k.3 in
        subst (λ (u : Values). depth_in u ≤ max (depth v) (depth_in vs) + 64 * (length env + 1)) k.4 (omega arith)

    resolve_of_low : (env : Env) (ms : Members) {ns : Members} → LowEnv env → resolve_of kernel sheet env ms ≡ ok (present ns) → depth_of ns ≤ depth_of ms + 64 * (length env + 1)
    resolve_of_low env empty {ns} h e = let y : empty ≡ ns = cc in subst (λ (u : Members). depth_of u ≤ 0 + 64 * (length env + 1)) y (omega arith)
    resolve_of_low env (member n v ms) h e =
        let k = both_inv (member n) (resolve kernel sheet env v) (resolve_of kernel sheet env ms) e in
        let j = resolve_low env v h k.2 in
        let l = resolve_of_low env ms h k.3 in
        subst (λ (u : Members). depth_of u ≤ max (depth v) (depth_of ms) + 64 * (length env + 1)) k.4 (omega arith)
