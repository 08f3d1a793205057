-- Std's comparisons of lists and of iterators over bytes, as the definitions compare.
-- Assumes nothing.
use mathlib.Core.Bool.{Bool, true, false, true≢false}
use mathlib.Core.List.{[], ◌∷◌}
use mathlib.Core.Path.{◌≡◌, refl, sym, subst, ◌∙◌}
use Prim.Native.Nat.{ℕ, ◌<◌}
use native.Mathlib.Omega.{arith}
use lib.Dec.{eqb, ltb}
use borrow.Author.Tests.{eq-eqb, eqb-true, eqb-false, ltb-false, ltb-true}
use Rattle.std.specs.Prelude.{IfSome, MatchOption, None, Option, Some, nat_eq}
use Rattle.std.specs.Cmp.{nat_cmp_is}
use Rattle.std.specs.Cmp.Lexicographic.{slice_cmp}
use Rattle.std.specs.Iterator.{AlwaysYields, ComparesItemsByEq, YieldsThen}
use Rattle.std.specs.List.{AllZip}
use Rattle.std.specs.Ordering.{nat_cmp}
use Rattle.std.specs.declared.cmp.Ordering.TheVariants.{Less, Equal, Greater}
use Rattle.std.proofs.lemmas.Iterator.{YieldsList}
use Rattle.json_text.proofs.Cursor.{order_less, order_long, order_more, order_none, order_on, order_short, same_apart, same_long, same_none, same_on, same_short}
use Rattle.json_text.specs.Bytes.{Bytes, order_bytes, same_bytes}
use Rattle.json_text.specs.Orders.{order_of}

-- ---- `cmp`
pub order_list : (s t : Bytes) → order_of (slice_cmp nat_cmp s t) ≡ order_bytes s t
order_list [] [] = sym (order_none refl refl)
order_list [] (d ∷ t) = sym (order_short refl refl)
order_list (c ∷ s) [] = sym (order_long refl refl)
order_list (c ∷ s) (d ∷ t) = go (ltb c d) (eqb c d) refl refl (order_list s t)
  where
    go : (a b : Bool) → ltb c d ≡ a → eqb c d ≡ b → order_of (slice_cmp nat_cmp s t) ≡ order_bytes s t → order_of (slice_cmp nat_cmp (c ∷ s) (d ∷ t)) ≡ order_bytes (c ∷ s) (d ∷ t)
    go true b e f rest = let h = ltb-true c d e in rw (sym (nat_cmp_is c d Less h)) (sym (order_less refl refl h))
    go false true e f rest = let h = eqb-true c d f in rw (sym (nat_cmp_is c d Equal h)) (rest ∙ sym (order_on refl refl h))
    go false false e f rest =
        let n = eqb-false c d f in
        let h : d < c = omega (arith, ltb-false c d e, n) in
        rw (sym (nat_cmp_is c d Greater h)) (sym (order_more refl refl h))

-- ---- `eq`: the answer r from what both iterators give
module _ {S T : Type 0} (steps : S → Option ℕ → S → Type 0) (others : T → Option ℕ → T → Type 0) (r : Bool) where
  abbrev Last : Option ℕ → Option ℕ → Type 0
  Last o p = MatchOption o (MatchOption p (r ≡ true) (λ _. r ≡ false)) (λ x. (r ≡ false) × IfSome p (λ y. nat_eq x y ≡ false))

  differ : (x y : ℕ) → nat_eq x y ≡ false → x ≡ y → ⊥
  differ x y f e = true≢false (sym (eq-eqb x y e) ∙ f)

  ends : (o p : Option ℕ) (xs ys : Bytes) (s u : S) (t w : T) → AlwaysYields steps (λ x. x) s xs → AlwaysYields others (λ x. x) t ys → steps s o u → others t p w →
      Last o p → r ≡ same_bytes xs ys
  ends None None (x ∷ xs) ys s u t w e f a b h = absurd (e.0 u a)
  ends None (Some y) (x ∷ xs) ys s u t w e f a b h = absurd (e.0 u a)
  ends (Some x) None [] ys s u t w e f a b h = absurd (e x u a)
  ends (Some x) (Some y) [] ys s u t w e f a b h = absurd (e x u a)
  ends None None [] (y ∷ ys) s u t w e f a b h = absurd (f.0 w b)
  ends None (Some y) [] [] s u t w e f a b h = absurd (f y w b)
  ends (Some x) None (z ∷ xs) (y ∷ ys) s u t w e f a b h = absurd (f.0 w b)
  ends (Some x) (Some y) (z ∷ xs) [] s u t w e f a b h = absurd (f y w b)
  ends None None [] [] s u t w e f a b h = h ∙ sym (same_none refl refl)
  ends None (Some y) [] (z ∷ ys) s u t w e f a b h = h ∙ sym (same_short refl refl)
  ends (Some x) None (z ∷ xs) [] s u t w e f a b h = h.0 ∙ sym (same_long refl refl)
  ends (Some x) (Some y) (x' ∷ xs) (y' ∷ ys) s u t w e f a b h =
      h.0 ∙ sym (same_apart refl refl (λ q. differ x y h.1 ((e.1 x u a).0 ∙ q ∙ sym (f.1 y w b).0)))

  along : (cs bs : Bytes) (o p : Option ℕ) (xs ys : Bytes) (s u : S) (t w : T) → AlwaysYields steps (λ x. x) s xs → AlwaysYields others (λ x. x) t ys →
      YieldsThen steps s cs o u → YieldsThen others t bs p w → AllZip (λ x y. nat_eq x y ≡ true) cs bs → Last o p → r ≡ same_bytes xs ys
  along [] [] o p xs ys s u t w e f a b z h =
      ends o p xs ys s u t w e f (subst (λ j. steps j o u) (sym a.1) a.2) (subst (λ j. others j p w) (sym b.1) b.2) h
  along [] (y ∷ bs) o p xs ys s u t w e f a b z h = absurd z
  along (x ∷ cs) [] o p xs ys s u t w e f a b z h = absurd z
  along (x ∷ cs) (y ∷ bs) o p [] ys s u t w e f a b z h = absurd (e x a.1.0 a.1.1)
  along (x ∷ cs) (y ∷ bs) o p (x' ∷ xs) [] s u t w e f a b z h = absurd (f y b.1.0 b.1.1)
  along (x ∷ cs) (y ∷ bs) o p (x' ∷ xs) (y' ∷ ys) s u t w e f a b z h =
      let m = e.1 x a.1.0 a.1.1 in
      let n = f.1 y b.1.0 b.1.1 in
      along cs bs o p xs ys a.1.0 u b.1.0 w m.1 n.1 (a.0, a.1.2, a.2) (b.0, b.1.2, b.2) z.1 h ∙
      sym (same_on refl refl (sym m.0 ∙ eqb-true x y z.0 ∙ n.0))

pub same_from_eq : {S T U : Type 0} {steps : S → Option ℕ → S → Type 0} {others : T → Option ℕ → T → Type 0} {s : S} {xs ys : Bytes}
    (becomes : U → T → Type 0) (other : U) (r : Bool) → ComparesItemsByEq steps becomes others s other nat_eq r →
    YieldsList steps (λ x. x) s xs → ((it : T) → becomes other it → YieldsList others (λ x. x) it ys) → r ≡ same_bytes xs ys
same_from_eq {steps = steps} {others = others} {s = s} {xs = xs} {ys = ys} becomes other r d e f =
    along steps others r d.1 d.2 d.3 d.4 xs ys s d.5 d.0 d.6 e.runs (f d.0 d.7).runs d.8 d.9 d.10 d.11
