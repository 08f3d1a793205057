-- A number, byte by byte: what is left of the number decides the whole.
-- Assumes nothing.
use mathlib.Core.Bool.{Bool, cond, false, true}
use mathlib.Core.List.{[], ◌∷◌}
use mathlib.Core.Logic.{inl, inr, ◌⊎◌}
use mathlib.Core.Path.{ap, refl, subst, ◌∙◌, ◌≡◌}
use Prim.Native.Nat.{suc, zero, ℕ, ◌+◌, ◌-◌, ◌<◌, ◌≤◌}
use native.Mathlib.Numerals.{add-one}
use native.Mathlib.Omega.{arith}
use lib.Dec.{eqb}
use lib.ListN.{drop, drop_of_length-le, get_or, length, length-drop, length-take, take}
use lib.Seq.{drop-cons}
use borrow.Author.Tests.{ne_eqb}
use Rattle.json_text.proofs.Laws.{eqb_no}
use Rattle.json_text.proofs.Sound.{between_of, between_out}
use Rattle.json_text.specs.Bytes.{Bytes, choose}
use Rattle.json_text.specs.Numerals.{Digit, Place, complete, digit, digits, first, is_nonzero, is_stop, is_zero, onward, stop}
use Rattle.json_text.specs.Placing.{digits_at, place_of}
use Rattle.json_text.specs.Refusal.{Result, not_json, number_too_long, ok, refused, ◌>>=◌}
use Rattle.json_text.specs.Scan.{Read}
use Rattle.tokens.specs.Numbering.{Digits, IsDigit, StaysOnDigits, place_in}
use Rattle.std.specs.Prelude.{MatchOption, None, Option, Some, unwrap_or}
use Rattle.std.specs.List.{AllWithin, HoldsAt}
use Rattle.std.proofs.lemmas.List.{get_or-drop, get_or-take}
use Rattle.tokens.specs.declared.numeral.Place.{Place as Standing}
use Rattle.tokens.specs.declared.numeral.Place.TheVariants as places

-- no number begins with such a byte
pub first_none : (c : ℕ) → (c ≡ 45 → ⊥) → (c ≡ 48 → ⊥) → (49 ≤ c → c ≤ 57 → ⊥) → first c ≡ stop
first_none c p q r = rw (ne_eqb c 45 p, ne_eqb c 48 q, between_out 49 57 c r, choose)

goes_on : (p : Standing) → is_stop (place_in p) ≡ false
goes_on places.Sign = refl
goes_on places.Zero = refl
goes_on places.Whole = refl
goes_on places.Point = refl
goes_on places.Fraction = refl
goes_on places.Exponent = refl
goes_on places.ExponentSign = refl
goes_on places.ExponentDigits = refl

-- digits do not lead away from whole and fraction
digit_of : (c : ℕ) → 48 ≤ c → c ≤ 57 → (digit c ≡ is_zero) ⊎ (digit c ≡ is_nonzero)
digit_of c h k = go (eqb c 48) refl
  where
    go : (b : Bool) → eqb c 48 ≡ b → (digit c ≡ is_zero) ⊎ (digit c ≡ is_nonzero)
    go true e = inl (rw (e, choose))
    go false e = let n = eqb_no c 48 e in inr (rw (e, between_of 49 57 c (omega arith) k, choose))

stays : (p : Standing) {d : Digit} → StaysOnDigits p → (d ≡ is_zero) ⊎ (d ≡ is_nonzero) → onward (place_in p) d ≡ place_in p
stays p s (inl f) = rw f s.0
stays p s (inr f) = rw f s.1

-- the place behind what was read
abbrev behind : Bytes → Result (Read Bytes) → Result ℕ
behind s x = x >>= λ r. ok (place_of s r.rest)

behind_more : (s : Bytes) (c : ℕ) (x : Result (Read Bytes)) → behind s (x >>= λ r. ok (record { got = c ∷ r.got; rest = r.rest })) ≡ behind s x
behind_more s c (ok r) = refl
behind_more s c (refused r) = refl

-- the number at `at`, read up to `here`; its 255 bytes leave so many that may still come
pub record Numbering (s : Bytes) (at : ℕ) (place : Standing) (here : ℕ) : Type 0 where
  pub upto : here ≤ length s
  pub few : here ≤ at + 255
  pub rest : digits_at s at ≡ behind s (digits (place_in place) (at + 255 - here) (drop here s))

pub numbering : (s : Bytes) (at : ℕ) (place : Standing) → at < length s → first (get_or s at 0) ≡ place_in place → Numbering s at place (at + 1)
unfolding digits_at
numbering s at place h e = let q : at + 255 - (at + 1) ≡ 254 = omega arith in record { upto = omega arith; few = omega arith; rest = rw (e, q) }

stopped : (s t : Bytes) → behind s (digits stop 254 t) ≡ refused not_json
unfolding digits
stopped s [] = refl
stopped s (c ∷ t) = refl

pub no_number : (s : Bytes) (at : ℕ) → first (get_or s at 0) ≡ stop → digits_at s at ≡ refused not_json
unfolding digits_at
no_number s at e = rw e (stopped s (drop (at + 1) s))

module _ {s : Bytes} {at : ℕ} {place : Standing} {here : ℕ} (l : Numbering s at place here) where
  pub at_end : length s ≤ here → digits_at s at ≡ cond (complete (place_in place)) (ok here) (refused not_json)
  unfolding digits place_of
  at_end h = l.rest ∙ rw (drop_of_length-le s h) (go (complete (place_in place)))
    where
      q : length s - 0 ≡ here
      q = omega (arith, l.upto)

      go : (b : Bool) → behind s (elim b [ true ↦ ok (record { got = []; rest = [] }) | false ↦ refused not_json ]) ≡ cond b (ok here) (refused not_json)
      go true = ap {B = Result ℕ} (λ (n : ℕ). ok n) q
      go false = refl

  module _ (h : here < length s) where
    opened : drop here s ≡ get_or s here 0 ∷ drop (here + 1) s
    opened = rw add-one (drop-cons s here 0 h)

    pub at_stop : onward (place_in place) (digit (get_or s here 0)) ≡ stop → digits_at s at ≡ cond (complete (place_in place)) (ok here) (refused not_json)
    unfolding digits place_of
    at_stop e = l.rest ∙ rw (opened, ap is_stop e, digits) (go (complete (place_in place)))
      where
        q : length s - suc (length (drop (here + 1) s)) ≡ here
        q = omega (arith, length-drop (here + 1) s)

        go : (b : Bool) → behind s
            (elim b [ true ↦ ok (record { got = []; rest = get_or s here 0 ∷ drop (here + 1) s }) | false ↦ refused not_json ]) ≡
            cond b (ok here) (refused not_json)
        go true = ap {B = Result ℕ} (λ (n : ℕ). ok n) q
        go false = refl

    module _ (next : Standing) (e : onward (place_in place) (digit (get_or s here 0)) ≡ place_in next) where
      pub too_long : at + 255 ≤ here → digits_at s at ≡ refused number_too_long
      unfolding digits
      too_long z = let q : at + 255 - here ≡ 0 = omega arith in l.rest ∙ rw (opened, ap is_stop e ∙ goes_on next, digits, q)

      pub on : here < at + 255 → Numbering s at next (here + 1)
      unfolding digits
      on g =
          let q : at + 255 - here - 1 ≡ at + 255 - (here + 1) = omega arith in
          record {
            upto = omega arith;
            few = omega arith;
            rest = l.rest ∙
                rw (opened, ap is_stop e ∙ goes_on next, digits, ne_eqb (at + 255 - here) 0 (λ z. omega arith))
                (behind_more s (get_or s here 0) (digits (onward (place_in place) (digit (get_or s here 0))) (at + 255 - here - 1) (drop (here + 1) s))) ∙
                ap (λ (p : Place). behind s (digits p (at + 255 - here - 1) (drop (here + 1) s))) e ∙ ap (λ (n : ℕ). behind s (digits (place_in next) n (drop (here + 1) s))) q;
          }

-- over the digits that come next
pub over_digits : {s : Bytes} {at : ℕ} {place : Standing} {here n : ℕ} (end : ℕ) → Numbering s at place here → StaysOnDigits place → Digits (take (end - here) (drop here s)) n →
    here ≤ end → end ≤ length s → end ≤ at + 255 → Numbering s at place (here + n)
over_digits {s} {at} {place} {here} {n} end l p d w i j = far n (omega arith)
  where
    room : n ≤ end - here
    room = omega (arith, d.within, length-take (end - here) (drop here s), length-drop here s)

    far : (k : ℕ) → k ≤ n → Numbering s at place (here + k)
    far zero h = let q : here ≡ here + 0 = omega arith in subst (Numbering s at place) q l
    far (suc k) h =
        let b = d.all k 0 (omega arith) (omega arith) in
        let r : k < end - here = omega (arith, room) in
        let e = get_or-take (end - here) (drop here s) k 0 r ∙ get_or-drop here s k 0 in
        let q : here + k + 1 ≡ here + suc k = omega arith in
        subst (Numbering s at place) q
        (on (far k (omega arith)) (omega arith) place (stays place p (digit_of (get_or s (here + k) 0) (rw e at b.0) (rw e at b.1))) (omega arith))

pub digits_first : (s : Bytes) (r : Option ℕ) →
    MatchOption r (AllWithin IsDigit s 0 (length s)) (λ i. (i < length s) × HoldsAt (λ c. Unit {0}) s i × AllWithin IsDigit s 0 i) → Digits s (unwrap_or r (length s))
digits_first s None h = record { within = omega arith; all = h }
digits_first s (Some n) h = record { within = omega (arith, h.0); all = h.2 }
