-- Readings put together give a value where each part does.
-- Assumes nothing.
use mathlib.Core.Bool.{Bool, ◌&&◌}
use mathlib.Core.List.{◌∷◌}
use Rattle.std.specs.Prelude.{Result as Fallible}
use Rattle.std.specs.Prelude.{Option, None, Some, Ok, Err}
use Rattle.std.specs.Result.{IsErrAnd}
use mathlib.Core.Path.{ap, refl, ◌∙◌, ◌≡◌}
use Prim.Native.Nat.{ℕ}
use native.Mathlib.Omega.{arith}
use Rattle.json_text.specs.Bytes.{Bytes, find}
use Rattle.json_text.specs.Json.{Members, Value, Values, array, cons, elements, entries, nil}
use Rattle.json_text.specs.Refusal.{Refusal, Result, ok, or_else, refused, wrong_sheet, ◌>>=◌}
use Rattle.members.specs.Kinds.{an_array_of, each_of, optional, required}
use Rattle.members.specs.Verdicts.{all_of, is_ok}
use Rattle.members.specs.Wants.{allowed, needed}

-- what is refused gives no value
pub never : {A B : Type 0} (r : Refusal) (a : A) → ◌≡◌ {A = Result A} (refused r) (ok a) → B
never r a e = let z : ◌≡◌ {A = ℕ} 0 1 = cc in absurd (omega arith)

-- what follows gives a value or not whatever was read
pub ok_bind : {A B : Type 0} (x : Result A) (f : A → Result B) (b : Bool) → ((a : A) → is_ok (f a) ≡ b) → is_ok (x >>= f) ≡ (is_ok x && b)
ok_bind (ok a) f b h = h a
ok_bind (refused r) f b h = refl

pub ok_last : {A B : Type 0} (x : Result A) (f : A → B) → is_ok (x >>= (λ a. ok (f a))) ≡ is_ok x
ok_last (ok a) f = refl
ok_last (refused r) f = refl

-- each element by itself
pub each_ok : {A : Type 0} (kind : Value → Result A) (vs : Values) → is_ok (each_of kind (elements vs)) ≡ all_of (λ v. is_ok (kind v)) vs
unfolding each_of
each_ok kind nil = refl
each_ok kind (cons v vs) = ok_bind (kind v) _ _ (λ a. ok_last (each_of kind (elements vs)) (λ as'. a ∷ as') ∙ each_ok kind vs)

pub array_ok_lem : {A : Type 0} (kind : Value → Result A) (vs : Values) → is_ok (an_array_of kind (array vs)) ≡ all_of (λ v. is_ok (kind v)) vs
array_ok_lem kind vs = each_ok kind vs

-- a member that must be there, and one that may be missing
module _ {A : Type 0} (kind : Value → Result A) (k : Bytes) (ms : Members) where
  pub required_ok : is_ok (required kind k ms) ≡ needed (λ v. is_ok (kind v)) (find k (entries ms))
  required_ok = go (find k (entries ms))
    where
      go : (o : Option Value) → is_ok (or_else o wrong_sheet >>= kind) ≡ needed (λ v. is_ok (kind v)) o
      go None = refl
      go (Some v) = refl

  pub optional_ok : is_ok (optional kind k ms) ≡ allowed (λ v. is_ok (kind v)) (find k (entries ms))
  optional_ok = go (find k (entries ms))
    where
      go : (o : Option Value) → is_ok {A = Option A} (elim o [ None ↦ ok None | Some v ↦ (kind v >>= (λ a. ok (Some a))) ]) ≡ allowed (λ v. is_ok (kind v)) o
      go None = refl
      go (Some v) = ok_last (kind v) (λ a. Some a)

-- what `?` hands on is the fault itself
pub handed_on : {A E : Type 0} (r : Fallible A E) {e : E} → IsErrAnd r (λ y. y ≡ e) → r ≡ Err e
handed_on (Ok a) h = absurd h
handed_on (Err y) h = ap Err h
