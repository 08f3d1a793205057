-- The slips that the paper warns of, each ruled out for every sheet: `all` that stops at False, `gt` of texts Unknown, `$state` read as
-- `from_state`, a written null counted as missing. (Exponents as machine integers: `numbers_exact` of the crate number.)
-- Assumes nothing.
use mathlib.Core.Bool.{Bool, false, ◌||◌}
use mathlib.Core.Logic.{inl, inr, ◌⊎◌}
use Rattle.std.specs.Prelude.{Option, None, Some}
use mathlib.Core.Path.{refl, ◌∙◌, ◌≡◌}
use Prim.Native.Nat.{Ordering}
use Rattle.semantics.specs.Evaluate.{Answer, evaluate, evaluate_all}
use Rattle.semantics.specs.Expression.{Env, gives, gives_parts}
use Rattle.semantics.specs.Forms.{holds, is_greater, is_less, numbers}
use Rattle.semantics.specs.Operand.{present, resolve}
use Rattle.semantics.specs.Semantics.{Semantics, is_same}
use Rattle.json_text.proofs.Laws.{bind_ok}
use Rattle.json_text.specs.Bytes.{Bytes, ascii, find}
use Rattle.json_text.specs.Json.{Value, as_number, null, text}
use Rattle.json_text.specs.Refusal.{Refusal, ok, refused, ◌>>=◌}
use Rattle.members.specs.Condition.{Condition, Conditions, Form, Mode, also, gt, gte, lt, lte}
use Rattle.members.specs.Sheet.{Sheet}

module _ (sem : Semantics) {C : Type 0} (sheet : Sheet C) where
  -- whatever the first child's truth, a refusal of a later one is not lost
  pub later_refusal : (env : Env) (m : Mode) (c : Condition) (cs : Conditions) (a : Answer) (r : Refusal) → evaluate sem sheet env c ≡ ok a →
      evaluate_all sem sheet env m cs ≡ refused r → evaluate_all sem sheet env m (also c cs) ≡ refused r
  unfolding evaluate
  later_refusal env m c cs a r e f = bind_ok _ e ∙ rw (f, ◌>>=◌) refl

  pub state_is_to_state : (env : Env) → find (ascii "state") env ≡ None → gives sem sheet env (ascii "state") ≡ ok (Some (text sheet.to_state))
  unfolding gives
  state_is_to_state env e = rw (e, gives_parts) refl

  pub null_is_present : (env : Env) → resolve sem sheet env null ≡ ok (present null)
  unfolding resolve
  null_is_present env = refl

-- an order of anything but two numbers is False, not Unknown
unordered : (sem : Semantics) (p : Ordering → Bool) (v w : Value) → (as_number v ≡ None) ⊎ (as_number w ≡ None) → numbers sem p v w ≡ false
unordered sem p v w (inl e) = rw (e, numbers) refl
unordered sem p v w (inr e) = go (as_number v) refl
  where
    go : (o : Option Bytes) → as_number v ≡ o → numbers sem p v w ≡ false
    go None q = rw (q, numbers) refl
    go (Some s) q = rw (q, numbers, e) refl

pub data IsOrder : Form → Type 0 where
  is_gt : IsOrder gt
  is_gte : IsOrder gte
  is_lt : IsOrder lt
  is_lte : IsOrder lte

-- whatever is no number
pub not_ordered : (sem : Semantics) {f : Form} → IsOrder f → (v w : Value) → (as_number v ≡ None) ⊎ (as_number w ≡ None) → holds sem f v w ≡ false
unfolding holds
not_ordered sem is_gt v w h = unordered sem is_greater v w h
not_ordered sem is_gte v w h = unordered sem (λ o. is_greater o || is_same o) v w h
not_ordered sem is_lt v w h = unordered sem is_less v w h
not_ordered sem is_lte v w h = unordered sem (λ o. is_less o || is_same o) v w h
