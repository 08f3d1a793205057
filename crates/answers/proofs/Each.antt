-- A statement about each element of a list, proved element by element.
-- Assumes nothing.
use mathlib.Core.Bool.{Bool, false, true}
use mathlib.Core.List.Memᴰ
use mathlib.Core.List.{List, Memᴰ, [], ◌∷◌}
use mathlib.Core.Logic.{inl, inr, ◌⊎◌}
use Rattle.std.specs.Prelude.{Some}
use mathlib.Core.Path.{ap₂, refl, subst, sym, ◌≡◌}
use Prim.Native.Nat.{ℕ}
use native.Mathlib.Omega.{arith}
use Rattle.json_text.proofs.Laws.{same_bytes_true}
use Rattle.json_text.specs.Bytes.{Bytes, find, same_bytes}

pub data Each {A : Type 0} (P : A → Type 0) : List A → Type 0 where
  done : Each P []
  one : {x : A} {xs : List A} → P x → Each P xs → Each P (x ∷ xs)

-- of a member
pub each_is : {A : Type 0} {P : A → Type 0} {xs : List A} → Each P xs → (x : A) → Memᴰ x xs → P x
each_is done x m = absurd (Memᴰ.not-nil m)
each_is {A} {P} (one {x = y} {xs = ys} p ps) x m = by (λ n. each_is ps x n) (Memᴰ.cases_cons m)
  where
    by : (Memᴰ x ys → P x) → (x ≡ y) ⊎ Memᴰ x ys → P x
    by below (inl e) = rw e p
    by below (inr n) = below n

-- of what is found by its name
pub each_found : {A : Type 0} {P : Bytes × A → Type 0} {xs : List (Bytes × A)} → Each P xs → (k : Bytes) (a : A) → find k xs ≡ Some a → P (k, a)
unfolding find
each_found done k a e = let z : ◌≡◌ {A = ℕ} 0 1 = cc in absurd (omega arith)
each_found {A} {P} (one {x} {xs} p ps) k a e = by (λ h. each_found ps k a h) (same_bytes k x.0) refl
  where
    by : (find k xs ≡ Some a → P (k, a)) → (b : Bool) → same_bytes k x.0 ≡ b → P (k, a)
    by below true q =
        let i : k ≡ x.0 = same_bytes_true k x.0 q in
        let j : x.1 ≡ a = cc (rw (q, find) at e) in
        subst P (ap₂ (λ (u : Bytes) (v : A). (u, v)) (sym i) j) p
    by below false q = below (rw (q, find) at e)
