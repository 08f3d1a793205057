-- A refusal told whatever were to follow: from a refusal, from an equal result, through a further step; and what `?` returns.
-- Assumes nothing.
use Rattle.std.specs.Prelude.{IsErrAnd, Result as Fallible}
use Rattle.std.specs.Prelude.{Err}
use Rattle.std.proofs.lemmas.Result.{err_from_is_err_and}
use mathlib.Core.List.{List}
use mathlib.Core.Path.{ap, refl, subst, sym, ◌∙◌, ◌≡◌}
use Prim.Native.Nat.{ℕ}
use Rattle.answers.specs.Verdict.{Verdict}
use Rattle.json_text.specs.Bytes.{Bytes}
use Rattle.json_text.specs.Refusal.{Refusal, Result, ok, refused, ◌>>=◌}
use Rattle.rules.specs.Told.{Stops, Told}
use Rattle.writer.specs.declared.answer.Answer.{Answer}

bind_assoc : {A B C : Type 0} (x : Result A) (f : A → Result B) (g : B → Result C) → ((x >>= f) >>= g) ≡ (x >>= (λ (a : A). f a >>= g))
bind_assoc (ok a) f g = refl
bind_assoc (refused r) f g = refl

pub stops_through : {A B : Type 0} {s : Bytes} {w : List ℕ} (x : Result A) (g : A → Result B) {a : Answer} → Stops s w x a → Stops s w (x >>= g) a
stops_through {A} {B} {s} {w} x g {a} h f = subst (λ (y : Result Verdict). Told s w y a) (sym (bind_assoc x g f)) (h (λ (b : A). g b >>= f))

pub stops_as : {A : Type 0} {s : Bytes} {w : List ℕ} {x y : Result A} {a : Answer} → y ≡ x → Stops s w x a → Stops s w y a
stops_as {A} {s} {w} {x} {y} {a} q h = subst (λ (z : Result A). Stops s w z a) (sym q) h

pub stops_refused : {A : Type 0} {s : Bytes} {w : List ℕ} {x : Result A} (r : Refusal) {a : Answer} → x ≡ refused r → Told s w (refused r) a → Stops s w x a
stops_refused {A} {s} {w} {x} r {a} q t = stops_as q (λ f. t)

-- what is told of a verdict that stops
pub stops_told : {s : Bytes} {w : List ℕ} (x : Result Verdict) {a : Answer} → Stops s w x a → Told s w x a
stops_told {s} {w} x {a} h = subst (λ (y : Result Verdict). Told s w y a) (alike x) (h (λ v. ok v))
  where
    alike : (y : Result Verdict) → (y >>= (λ v. ok v)) ≡ y
    alike (ok v) = refl
    alike (refused r) = refl

pub returned : {T E : Type 0} (r : Fallible T E) {e : E} → IsErrAnd r (λ y. y ≡ e) → Err e ≡ r
returned r h = let x = err_from_is_err_and r h in sym (x.1 ∙ ap Err x.2)
