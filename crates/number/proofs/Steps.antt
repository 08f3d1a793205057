-- The order of two numbers, step by step: by the places, by the digits, by the signs.
-- Assumes nothing.
use borrow.Author.Tests.{le-leb, lt-leb}
use Prim.Native.Nat.{Ordering}
use Rattle.std.proofs.Common.{◌≡◌, ◌≢◌, ◌==◌, ◌<◌, ◌≤◌, Equal, Greater, Less, ap, ap₂, false, length, not, refl, sym, true, ◌∙◌}
use Rattle.std.specs.declared.cmp.Ordering.{Ordering as Ordered}
use Rattle.std.specs.Ordering.{nat_cmp, ordering_index}
use Rattle.number.specs.Compare.{Scaled, Sign, is_negative, is_nought, is_positive, number_order, scaled, scaled_order, sign_of, signed_order, then}
use Rattle.number.specs.Compared.{compared}
use Rattle.number.specs.Decimal.{exponent}
use Rattle.number.specs.Parts.{Parsed, held, side_of}
use Rattle.number.specs.Places.{order_integers}
use Rattle.number.specs.declared.text.Decimal.{Decimal}
use Rattle.json_text.specs.Bytes.{Bytes, order_bytes}
use Rattle.json_text.specs.Orders.{order_of}

-- the parts of a text stand for its number
pub held_is : (s : Bytes) (d : Decimal) → Parsed s d → held d ≡ scaled s
unfolding scaled exponent
held_is s d p = rw (p.negative, p.digits, p.whole, p.leads, p.exponent) refl

-- ---- without signs: by the places, then by the digits
module _ (a b : Scaled) where
  pub by_digits : Ordering.eq ≡ order_integers a.place b.place → order_bytes a.digits b.digits ≡ scaled_order a b
  unfolding scaled_order
  by_digits e = ap (λ (o : Ordering). then o (order_bytes a.digits b.digits)) e

  pub by_places : (r : Ordered) → r ≢ Equal → order_of r ≡ order_integers a.place b.place → order_of r ≡ scaled_order a b
  unfolding scaled_order
  by_places Less n e = ap (λ (o : Ordering). then o (order_bytes a.digits b.digits)) e
  by_places Equal n e = absurd (n refl)
  by_places Greater n e = ap (λ (o : Ordering). then o (order_bytes a.digits b.digits)) e

-- ---- the order by signs
same_sides : (x y : Ordered) → not (ordering_index x == ordering_index y) ≡ false → x ≡ y
same_sides Less Less e = refl
same_sides Less Equal e = absurd (cc)
same_sides Less Greater e = absurd (cc)
same_sides Equal Less e = absurd (cc)
same_sides Equal Equal e = refl
same_sides Equal Greater e = absurd (cc)
same_sides Greater Less e = absurd (cc)
same_sides Greater Equal e = absurd (cc)
same_sides Greater Greater e = refl

signs_apart : (i j : Sign) (up down : Ordering) → not (ordering_index (side_of i) == ordering_index (side_of j)) ≡ true →
    order_of (nat_cmp (ordering_index (side_of i)) (ordering_index (side_of j))) ≡ signed_order i j up down
signs_apart is_negative is_negative up down e = absurd (cc)
signs_apart is_negative is_nought up down e = refl
signs_apart is_negative is_positive up down e = refl
signs_apart is_nought is_negative up down e = refl
signs_apart is_nought is_nought up down e = absurd (cc)
signs_apart is_nought is_positive up down e = refl
signs_apart is_positive is_negative up down e = refl
signs_apart is_positive is_nought up down e = refl
signs_apart is_positive is_positive up down e = absurd (cc)

sign_is : (i k : Sign) → side_of i ≡ side_of k → i ≡ k
sign_is is_negative is_negative e = refl
sign_is is_negative is_nought e = absurd (cc)
sign_is is_negative is_positive e = absurd (cc)
sign_is is_nought is_negative e = absurd (cc)
sign_is is_nought is_nought e = refl
sign_is is_nought is_positive e = absurd (cc)
sign_is is_positive is_negative e = absurd (cc)
sign_is is_positive is_nought e = absurd (cc)
sign_is is_positive is_positive e = refl

-- ---- what `compare` looks at
pub looked_at : (s t : Bytes) → length s ≤ 255 → length t ≤ 255 → compared s t ≡ number_order s t
unfolding compared
looked_at s t p q = rw (le-leb (length s) 255 p, le-leb (length t) 255 q, compared) refl

pub left_long : (s t : Bytes) → 255 < length s → Ordering.eq ≡ compared s t
unfolding compared
left_long s t p = rw (lt-leb (length s) 255 p, compared) refl

pub right_long : (s t : Bytes) → length s ≤ 255 → 255 < length t → Ordering.eq ≡ compared s t
unfolding compared
right_long s t p q = rw (le-leb (length s) 255 p, lt-leb (length t) 255 q, compared) refl

module _ (s t : Bytes) (a b : Decimal) (p : Parsed s a) (q : Parsed t b) (h : length s ≤ 255) (k : length t ≤ 255) (x y : Ordered)
    (e : x ≡ side_of (sign_of (held a))) (f : y ≡ side_of (sign_of (held b))) where
  abbrev Signed : Sign → Sign → Ordering
  Signed i j = signed_order i j (scaled_order (held a) (held b)) (scaled_order (held b) (held a))

  signed : compared s t ≡ Signed (sign_of (held a)) (sign_of (held b))
  unfolding number_order
  signed = looked_at s t h k ∙ sym (ap₂ (λ (u v : Scaled). signed_order (sign_of u) (sign_of v) (scaled_order u v) (scaled_order v u)) (held_is s a p) (held_is t b q))

  pub apart : true ≡ not (ordering_index x == ordering_index y) → order_of (nat_cmp (ordering_index x) (ordering_index y)) ≡ compared s t
  apart n = rw (e, f) (signs_apart (sign_of (held a)) (sign_of (held b)) _ _ (rw (e, f) at (sym n))) ∙ sym signed

  pub alike : false ≡ not (ordering_index x == ordering_index y) → (i : Sign) → x ≡ side_of i → Signed i i ≡ compared s t
  alike n i g =
      let u : sign_of (held a) ≡ i = sign_is (sign_of (held a)) i (sym e ∙ g) in
      let v : sign_of (held b) ≡ i = sign_is (sign_of (held b)) i (sym f ∙ sym (same_sides x y (sym n)) ∙ g) in
      sym (signed ∙ ap₂ Signed u v)
