-- What RFC 8259 spells is read, or refused with one of 5 to 8 for a limit that its tree passes; within the limits it is read.
-- Assumes nothing.
use mathlib.Core.Bool.{Bool, false, false≢true, not, true, true≢false, ◌&&◌, ◌||◌}
use mathlib.Core.List.{List, [], ◌++◌, ◌∷◌}
use mathlib.Core.Logic.{inl, inr, ◌↔◌, ◌⊎◌}
use Rattle.std.specs.Prelude.{None, Some}
use mathlib.Core.Path.{ap, refl, subst, sym, ◌∙◌, ◌≡◌}
use Prim.Native.Nat.{suc, zero, ℕ, ◌*◌, ◌+◌, ◌-◌, ◌<◌, ◌≤◌}
use native.Mathlib.Omega.{arith}
use lib.Dec.{eqb, leb, ltb}
use lib.ListN.{length, length-append}
use Rattle.json_text.proofs.Laws.{bind_ok, bind_refused, bind_same, eqb_false, eqb_no, eqb_same, eqb_true, leb_true, ok_injective, same_bytes_true}
use Rattle.json_text.proofs.Sound.{AfterInt, From, between_in, between_not, between_of, between_out, json_sound, leb_false, leb_le, leb_lt, one_here, one_there}
use Rattle.json_text.specs.Bytes.{Bytes, ascii, between, choose, is_one_of, same_bytes}
use Rattle.json_text.specs.Fault.{
  Part,
  PartIn,
  PartOf,
  Passes,
  Twice,
  again,
  in_array,
  in_object,
  itself,
  later_element,
  later_member,
  passes_depth,
  passes_name,
  passes_nodes,
  passes_number,
  this_element,
  this_member,
}
use Rattle.json_text.specs.Grammar
use Rattle.json_text.specs.Grammar.{
  Chars,
  Digits,
  Elements,
  Escape,
  Exp,
  Frac,
  Hex,
  Int,
  JsonText,
  MembersOf,
  Minus,
  MoreElements,
  MoreMembers,
  Number,
  Sign,
  SomeDigits,
  Spells,
  Structural,
  Within,
  Ws,
  close,
  exp,
  frac,
  is_unescaped,
  minus,
  no_digit,
  no_exp,
  no_frac,
  no_hex,
  no_minus,
  no_sign,
  no_space,
  nonzero,
  one_digit,
  one_hex,
  pair,
  sign,
  simple,
  some_digits,
  space,
  structural,
  unescaped,
  unit,
}
use Rattle.json_text.specs.Json.{Members, Value, Values, array, bool, cons, empty, keys, member, nil, null, number, object, text}
use Rattle.json_text.specs.Limits
use Rattle.json_text.specs.Limits.{depth, depth_in, depth_of, nodes, nodes_in, nodes_of, tidy, tidy_in, tidy_of}
use Rattle.json_text.specs.Numerals
use Rattle.json_text.specs.Numerals.{Place, complete, digit, digits, is_stop, onward}
use Rattle.json_text.specs.Reader
use Rattle.json_text.specs.Reader.{Parsed}
use Rattle.json_text.specs.Refusal.{Refusal, Result, not_json, number_too_long, ok, refused, repeated_name, too_deep, too_many_nodes, ◌>>=◌}
use Rattle.json_text.specs.Scan.{Read, expect, is_space, skip}
use Rattle.json_text.specs.Strings.{char, chars, escape, hex, high_half, high_unit, low_half, of_unit, other, plain_unit, simple_escape, unicode, unit16}
use Rattle.json_text.specs.Utf8.{encode}

-- spaces
pub skip_of : {s r : Bytes} → Ws s r → skip s ≡ skip r
unfolding skip
skip_of no_space = refl
skip_of (space e w) = rw (e, skip) (skip_of w)

pub skip_idle : (c : ℕ) (s : Bytes) → is_space c ≡ false → skip (c ∷ s) ≡ c ∷ s
unfolding skip
skip_idle c s e = rw (e, skip) refl

-- what a structural byte leaves to the reader: the byte itself, and then what it would skip
pub ws_length : {s r : Bytes} → Ws s r → length r ≤ length s
ws_length no_space = omega arith
ws_length (space e w) = omega (arith, ws_length w)

structural_skip : (c : ℕ) {s r : Bytes} → is_space c ≡ false → Structural c s r → (t : Bytes) × (skip s ≡ c ∷ t) × (skip t ≡ skip r) × (length r ≤ length t)
structural_skip c e (structural {t} v w) = (t, skip_of v ∙ skip_idle c t e, skip_of w, ws_length w)

-- a rule's rest is no longer than its text
pub structural_length : {c : ℕ} {s r : Bytes} → Structural c s r → length r + 1 ≤ length s
structural_length {c} (structural {t} v w) = omega (arith, ws_length v, ws_length w)

digits_length : {s r : Bytes} → Digits s r → length r ≤ length s
digits_length no_digit = omega arith
digits_length (one_digit e d) = omega (arith, digits_length d)

some_digits_length : {s r : Bytes} → SomeDigits s r → length r + 1 ≤ length s
some_digits_length (some_digits e d) = omega (arith, digits_length d)

int_length : {s r : Bytes} → Int s r → length r + 1 ≤ length s
int_length (Int.zero e) = omega arith
int_length (nonzero e d) = omega (arith, digits_length d)

frac_length : {s r : Bytes} → Frac s r → length r ≤ length s
frac_length no_frac = omega arith
frac_length (frac e d) = omega (arith, some_digits_length d)

sign_length : {s r : Bytes} → Sign s r → length r ≤ length s
sign_length no_sign = omega arith
sign_length (sign e) = omega arith

exp_length : {s r : Bytes} → Exp s r → length r ≤ length s
exp_length no_exp = omega arith
exp_length (exp e g d) = omega (arith, sign_length g, some_digits_length d)

minus_length : {s r : Bytes} → Minus s r → length r ≤ length s
minus_length no_minus = omega arith
minus_length (minus e) = omega arith

pub number_length : {s r : Bytes} → Number s r → length r + 1 ≤ length s
number_length n = omega (arith, minus_length n.has_minus, int_length n.has_int, frac_length n.has_frac, exp_length n.has_exp)

hex_length : {n u v : ℕ} {s r : Bytes} → Hex n u v s r → length r ≤ length s
hex_length no_hex = omega arith
hex_length (one_hex e h) = omega (arith, hex_length h)

pub escape_length : {x s r : Bytes} → Escape x s r → length r + 1 ≤ length s
escape_length (simple e) = omega arith
escape_length (unit e h b x) = omega (arith, hex_length h)
escape_length (pair {u = u} e h b p k d x) = omega (arith, hex_length h, ap length p, length-append (ascii "\\u") u, hex_length k)

chars_length : {x s r : Bytes} → Chars x s r → length r + 1 ≤ length s
chars_length (close e) = omega arith
chars_length (unescaped e c) = omega (arith, chars_length c)
chars_length (Chars.escape e y c x) = omega (arith, escape_length y, chars_length c)

pub string_length : {x s r : Bytes} → Grammar.String x s r → length r + 1 ≤ length s
string_length (Grammar.string e c) = omega (arith, chars_length c)

-- the leaves
expect_complete : (c : ℕ) (s : Bytes) → expect c (c ∷ s) ≡ ok s
unfolding expect
expect_complete c s = rw (eqb_same c, expect) refl

pub hex_complete : {n u v : ℕ} {s r : Bytes} → Hex n u v s r → hex n u s ≡ ok (record { got = v; rest = r })
unfolding hex
hex_complete no_hex = refl
hex_complete (one_hex e h) = rw (e, hex) (hex_complete h)

pub plain_unit_lem : (u : ℕ) → between 55296 57343 u ≡ false → unit16 u ≡ plain_unit
plain_unit_lem u e =
    rw
    (between_out 55296 56319 u (λ a b. omega (arith, between_not 55296 57343 u e a)), between_out 56320 57343 u (λ a b. omega (arith, between_not 55296 57343 u e (omega arith))), choose)
    refl

pub high_unit_lem : (u : ℕ) → between 55296 56319 u ≡ true → unit16 u ≡ high_unit
high_unit_lem u e = rw (e, choose) refl

pub low_half_complete : (high low : ℕ) (r : Bytes) → between 56320 57343 low ≡ true → low_half high (record { got = low; rest = r }) ≡
    ok (record { got = encode (65536 + (high - 55296) * 1024 + (low - 56320)); rest = r })
unfolding low_half
low_half_complete high low r e = rw (e, low_half) refl

high_half_complete : (high low : ℕ) (u r : Bytes) → Hex 4 0 low u r → between 56320 57343 low ≡ true → high_half high (ascii "\\u" ++ u) ≡
    ok (record { got = encode (65536 + (high - 55296) * 1024 + (low - 56320)); rest = r })
unfolding high_half
high_half_complete high low u r h b = bind_ok (low_half high) (hex_complete h) ∙ low_half_complete high low r b

not_simple : (c : ℕ) → c ≡ 117 → simple_escape c ≡ None
not_simple c e = rw e refl

pub escape_complete : {x s r : Bytes} → Escape x s r → escape s ≡ ok (record { got = x; rest = r })
unfolding escape unicode of_unit
escape_complete (simple e) = rw (e, escape) refl
escape_complete (unit {c} {u} {x} {s} {r} e h b p) =
    rw (not_simple c e, escape, ap (λ (k : ℕ). eqb k 117) e)
    (bind_ok of_unit (hex_complete h) ∙
    rw (plain_unit_lem u b, of_unit) (ap {B = Result (Read Bytes)} (λ y. ok (record { got = y; rest = r })) (sym p)))
escape_complete (pair {c} {high} {low} {x} {s} {t} {u} {r} e h b p k d q) =
    rw
    (not_simple c e, escape, ap (λ (i : ℕ). eqb i 117) e)
    (bind_ok of_unit (hex_complete h) ∙
    rw (high_unit_lem high b, of_unit)
    (ap (high_half high) p ∙
    high_half_complete high low u r k d ∙
    ap {B = Result (Read Bytes)} (λ y. ok (record { got = y; rest = r })) (sym q)))

pub unescaped_char : (c : ℕ) → is_unescaped c ≡ true → char c ≡ other
unescaped_char c e = go (leb 32 c) (eqb c 34) (eqb c 92) refl refl refl e
  where
    go : (a b d : Bool) → leb 32 c ≡ a → eqb c 34 ≡ b → eqb c 92 ≡ d → (a && (not b && not d)) ≡ true → char c ≡ other
    go true false false p q r f = rw (q, r, choose, below) refl
      where
        below : ltb c 32 ≡ false
        below = leb_false (suc c) 32 (omega (arith, leb_le {m = 32} {n = c} p))
    go true false true p q r f = absurd (false≢true f)
    go true true d p q r f = absurd (false≢true f)
    go false b d p q r f = absurd (false≢true f)

-- the characters of a string, with enough steps for the text's length
pub chars_complete : {x s r : Bytes} (n : ℕ) → length s ≤ n → Chars x s r → chars n s ≡ ok (record { got = x; rest = r })
unfolding chars
chars_complete zero l (close e) = absurd (omega (arith, l))
chars_complete zero l (unescaped e c) = absurd (omega (arith, l))
chars_complete zero l (Chars.escape e y c q) = absurd (omega (arith, l))
chars_complete (suc n) l (close {c} {r} e) = rw e refl
chars_complete (suc n) l (unescaped {c} {x} {s} {r} e k) = rw (unescaped_char c e, chars) (rw (chars_complete n (omega (arith, l)) k) refl)
chars_complete (suc n) l (Chars.escape {c} {x} {y} {z} {s} {t} {r} e k m q) =
    rw e (rw (escape_complete k) (rw (chars_complete n (omega (arith, l, escape_length k)) m) (ap {B = Result (Read Bytes)} (λ w. ok (record { got = w; rest = r })) (sym q))))

-- numbers: what may follow one, and which class a byte is in
abbrev pub Ends : Bytes → Type 0
Ends [] = Unit {0}
Ends (c ∷ s) = digit c ≡ Numerals.is_other

digit_nonzero : (c : ℕ) → between 49 57 c ≡ true → digit c ≡ Numerals.is_nonzero
digit_nonzero c e = go (eqb c 48) refl
  where
    go : (b : Bool) → eqb c 48 ≡ b → digit c ≡ Numerals.is_nonzero
    go true q = absurd (false≢true (subst (λ (k : ℕ). between 49 57 k ≡ true) (eqb_true c 48 q) e))
    go false q = rw (q, e, choose) refl

digit_any : (c : ℕ) → between 48 57 c ≡ true → (digit c ≡ Numerals.is_zero) ⊎ (digit c ≡ Numerals.is_nonzero)
digit_any c e = go (eqb c 48) refl
  where
    go : (b : Bool) → eqb c 48 ≡ b → (digit c ≡ Numerals.is_zero) ⊎ (digit c ≡ Numerals.is_nonzero)
    go true q = inl (rw (q, choose) refl)
    go false q = let p = between_in 48 57 c e in inr (digit_nonzero c (between_of 49 57 c (omega (arith, eqb_no c 48 q)) p.1))

-- one byte of a number read
abbrev pub Onward : Place → ℕ → Bytes → Bytes → Type 0
Onward p c s r = (is_stop (onward p (digit c)) ≡ false) × From (onward p (digit c)) s r

onward_by : (p : Place) (c : ℕ) (s r : Bytes) (d : Numerals.Digit) → digit c ≡ d → is_stop (onward p d) ≡ false → From (onward p d) s r → Onward p c s r
onward_by p c s r d e f h = subst (λ (k : Numerals.Digit). (is_stop (onward p k) ≡ false) × From (onward p k) s r) (sym e) (f, h)

onward_digit : (p : Place) (c : ℕ) (s r : Bytes) → between 48 57 c ≡ true → is_stop (onward p Numerals.is_zero) ≡ false →
    is_stop (onward p Numerals.is_nonzero) ≡ false → From (onward p Numerals.is_zero) s r → From (onward p Numerals.is_nonzero) s r →
    Onward p c s r
onward_digit p c s r e f g h k = go (digit_any c e)
  where
    go : (digit c ≡ Numerals.is_zero) ⊎ (digit c ≡ Numerals.is_nonzero) → Onward p c s r
    go (inl q) = onward_by p c s r Numerals.is_zero q f h
    go (inr q) = onward_by p c s r Numerals.is_nonzero q g k

digit_e : (c : ℕ) → (c ≡ 69) ⊎ (c ≡ 101) → digit c ≡ Numerals.is_e
digit_e c (inl e) = rw e refl
digit_e c (inr e) = rw e refl

-- the parts, from a first byte that belongs to the number
next_exp : (p : Place) (c : ℕ) (s r : Bytes) → is_stop (onward p Numerals.is_e) ≡ false →
    ((t : Bytes) → Sign s t → SomeDigits t r → From (onward p Numerals.is_e) s r) → Exp (c ∷ s) r → length r ≤ length s → Onward p c s r
next_exp p c s r f k no_exp l = absurd (omega (arith, l))
next_exp p c s r f k (exp {t = t} e g d) l = onward_by p c s r Numerals.is_e (digit_e c e) f (k t g d)

next_digits : (p : Place) (c : ℕ) (s t r : Bytes) → Digits (c ∷ s) t → is_stop (onward p Numerals.is_zero) ≡ false →
    is_stop (onward p Numerals.is_nonzero) ≡ false → (Digits s t → From (onward p Numerals.is_zero) s r) →
    (Digits s t → From (onward p Numerals.is_nonzero) s r) → (t ≡ c ∷ s → Onward p c s r) → Onward p c s r
next_digits p c s t r no_digit f g h k z = z refl
next_digits p c s t r (one_digit e d) f g h k z = onward_digit p c s r e f g (h d) (k d)

next_some_digits : (p : Place) (c : ℕ) (s t r : Bytes) → SomeDigits (c ∷ s) t → is_stop (onward p Numerals.is_zero) ≡ false →
    is_stop (onward p Numerals.is_nonzero) ≡ false → (Digits s t → From (onward p Numerals.is_zero) s r) →
    (Digits s t → From (onward p Numerals.is_nonzero) s r) → Onward p c s r
next_some_digits p c s t r (some_digits e d) f g h k = onward_digit p c s r e f g (h d) (k d)

next_frac : (p : Place) (c : ℕ) (s t r : Bytes) → is_stop (onward p Numerals.is_point) ≡ false → is_stop (onward p Numerals.is_e) ≡ false →
    ((u : Bytes) → SomeDigits s u → Exp u r → From (onward p Numerals.is_point) s r) →
    ((u : Bytes) → Sign s u → SomeDigits u r → From (onward p Numerals.is_e) s r) → Frac (c ∷ s) t → Exp t r → length r ≤ length s →
    Onward p c s r
next_frac p c s t r f g h k no_frac x l = next_exp p c s r g k x l
next_frac p c s t r f g h k (frac e d) x l = onward_by p c s r Numerals.is_point (rw e refl) f (h t d x)

next_int : (c : ℕ) (s t r : Bytes) → Int (c ∷ s) t → AfterInt t r → Onward Place.sign c s r
next_int c s t r (Int.zero e) a = onward_by Place.sign c s r Numerals.is_zero (rw e refl) refl a
next_int c s t r (nonzero e d) a = onward_by Place.sign c s r Numerals.is_nonzero (digit_nonzero c e) refl (t, d, a)

next_sign : (c : ℕ) (s t r : Bytes) → Sign (c ∷ s) t → SomeDigits t r → Onward Place.exponent c s r
next_sign c s t r no_sign d = next_some_digits Place.exponent c s r r d refl refl (λ k. k) (λ k. k)
next_sign c s t r (sign (inl e)) d = onward_by Place.exponent c s r Numerals.is_minus (rw e refl) refl d
next_sign c s t r (sign (inr e)) d = onward_by Place.exponent c s r Numerals.is_plus (rw e refl) refl d

pub from_next : (p : Place) (c : ℕ) (s r : Bytes) → From p (c ∷ s) r → length r ≤ length s → Onward p c s r
from_next Place.sign c s r h l = next_int c s h.0 r h.1 h.2
from_next Place.zeroed c s r h l = next_frac Place.zeroed c s h.0 r refl refl (λ u d x. (u, d, x)) (λ u g d. (u, g, d)) h.1 h.2 l
from_next Place.whole c s r h l =
    next_digits Place.whole c s h.0 r h.1 refl refl (λ d. (h.0, d, h.2)) (λ d. (h.0, d, h.2)) λ e.
    next_frac Place.whole c s h.2.0 r refl refl (λ u d x. (u, d, x)) (λ u g d. (u, g, d)) (subst (λ (k : Bytes). Frac k h.2.0) e h.2.1) h.2.2 l
from_next Place.point c s r h l = next_some_digits Place.point c s h.0 r h.1 refl refl (λ d. (h.0, d, h.2)) (λ d. (h.0, d, h.2))
from_next Place.fraction c s r h l =
    next_digits Place.fraction c s h.0 r h.1 refl refl (λ d. (h.0, d, h.2)) (λ d. (h.0, d, h.2)) λ e.
    next_exp Place.fraction c s r refl (λ u g d. (u, g, d)) (subst (λ (k : Bytes). Exp k r) e h.2) l
from_next Place.exponent c s r h l = next_sign c s h.0 r h.1 h.2
from_next Place.exp_sign c s r h l = next_some_digits Place.exp_sign c s r r h refl refl (λ d. d) (λ d. d)
from_next Place.exp_digits c s r h l = next_digits Place.exp_digits c s r r h refl refl (λ d. d) (λ d. d) (λ e. absurd (omega (arith, l, ap length e)))
from_next Place.stop c s r h l = absurd h

from_done : (p : Place) (r : Bytes) → From p r r → complete p ≡ true
from_done Place.sign r h = absurd (omega (arith, int_length h.1, frac_length h.2.1, exp_length h.2.2))
from_done Place.zeroed r h = refl
from_done Place.whole r h = refl
from_done Place.point r h = absurd (omega (arith, some_digits_length h.1, exp_length h.2))
from_done Place.fraction r h = refl
from_done Place.exponent r h = absurd (omega (arith, sign_length h.1, some_digits_length h.2))
from_done Place.exp_sign r h = absurd (omega (arith, some_digits_length h))
from_done Place.exp_digits r h = refl
from_done Place.stop r h = absurd h

pub stop_other : (p : Place) → is_stop (onward p Numerals.is_other) ≡ true
stop_other Place.sign = refl
stop_other Place.zeroed = refl
stop_other Place.whole = refl
stop_other Place.point = refl
stop_other Place.fraction = refl
stop_other Place.exponent = refl
stop_other Place.exp_sign = refl
stop_other Place.exp_digits = refl
stop_other Place.stop = refl

digits_complete : (x : Bytes) (p : Place) (left : ℕ) (r : Bytes) → From p (x ++ r) r → Ends r → length x ≤ left → digits p left (x ++ r) ≡ ok (record { got = x; rest = r })
unfolding digits
digits_complete [] p left [] h n l = rw (from_done p [] h, digits) refl
digits_complete [] p left (c ∷ r) h n l = rw (n, digits, stop_other p, from_done p (c ∷ r) h) refl
digits_complete (c ∷ x) p left r h n l =
    let o = from_next p c (x ++ r) r h (omega (arith, length-append x r)) in
    rw (o.0, digits, eqb_false left 0 (omega (arith, l))) (rw (digits_complete x (onward p (digit c)) (left - 1) r o.1 n (omega (arith, l))) refl)

-- a number of more characters than may come
digits_long : (x : Bytes) (p : Place) (left : ℕ) (r : Bytes) → From p (x ++ r) r → left < length x → digits p left (x ++ r) ≡ refused number_too_long
unfolding digits
digits_long [] p left r h l = absurd (omega arith)
digits_long (c ∷ x) p left r h l = go (λ k j. digits_long x (onward p (digit c)) (left - 1) r k j) (eqb left 0) refl
  where
    o : Onward p c (x ++ r) r
    o = from_next p c (x ++ r) r h (omega (arith, length-append x r))

    go : (From (onward p (digit c)) (x ++ r) r → left - 1 < length x → digits (onward p (digit c)) (left - 1) (x ++ r) ≡
        refused number_too_long) → (b : Bool) → eqb left 0 ≡ b → digits p left (c ∷ (x ++ r)) ≡ refused number_too_long
    go below true q = rw (o.0, digits, q) refl
    go below false q = rw (o.0, digits, q) (rw (below o.1 (omega (arith, eqb_no left 0 q))) refl)

-- a number from its first byte on
abbrev pub First : ℕ → Bytes → Bytes → Type 0
First c s r = (is_space c ≡ false) × (Reader.start c ≡ Reader.start_number) × From (Numerals.first c) s r

first_is : (c d : ℕ) (s r : Bytes) → c ≡ d → First d s r → First c s r
first_is c d s r e h = subst (λ (k : ℕ). First k s r) (sym e) h

nonzero_apart : (c k : ℕ) → between 49 57 c ≡ true → between 49 57 k ≡ false → eqb c k ≡ false
nonzero_apart c k e f = eqb_false c k (λ p. true≢false (sym (subst (λ (x : ℕ). between 49 57 x ≡ true) p e) ∙ f))

first_nonzero : (c : ℕ) (s r : Bytes) → between 49 57 c ≡ true → From Place.whole s r → First c s r
first_nonzero c s r e h = (
  rw (nonzero_apart c 32 e refl, nonzero_apart c 9 e refl, nonzero_apart c 10 e refl, nonzero_apart c 13 e refl) refl,
  rw (nonzero_apart c 34 e refl, nonzero_apart c 45 e refl, any, choose) refl,
  rw (nonzero_apart c 45 e refl, nonzero_apart c 48 e refl, e, choose) h,
)
  where
    any : between 48 57 c ≡ true
    any = let p = between_in 49 57 c e in between_of 48 57 c (omega arith) p.1

first_int : (c : ℕ) (s t r : Bytes) → Int (c ∷ s) t → AfterInt t r → First c s r
first_int c s t r (Int.zero e) a = first_is c 48 s r e (refl, refl, a)
first_int c s t r (nonzero e d) a = first_nonzero c s r e (t, d, a)

first_minus : (c : ℕ) (s m t r : Bytes) → Minus (c ∷ s) m → Int m t → AfterInt t r → First c s r
first_minus c s m t r no_minus i a = first_int c s t r i a
first_minus c s m t r (minus e) i a = first_is c 45 s r e (refl, refl, (t, i, a))

pub first_number : (c : ℕ) (s r : Bytes) → Number (c ∷ s) r → First c s r
first_number c s r n = first_minus c s n.after_minus n.after_int r n.has_minus n.has_int (n.after_frac, n.has_frac, n.has_exp)

-- every value takes a byte
mutual
  pub spells_length : {v : Value} {s r : Bytes} → Spells v s r → length r + 1 ≤ length s
  spells_length (Spells.is_null {s} {r} e) = omega (arith, ap length e, length-append (ascii "null") r)
  spells_length (Spells.is_true {s} {r} e) = omega (arith, ap length e, length-append (ascii "true") r)
  spells_length (Spells.is_false {s} {r} e) = omega (arith, ap length e, length-append (ascii "false") r)
  spells_length (Spells.is_number n e) = number_length n
  spells_length (Spells.is_text t) = string_length t
  spells_length (Spells.is_array o es c) = omega (arith, structural_length o, elements_length es, structural_length c)
  spells_length (Spells.is_object o ms c) = omega (arith, structural_length o, members_length ms, structural_length c)

  elements_length : {vs : Values} {s r : Bytes} → Elements vs s r → length r ≤ length s
  elements_length Grammar.no_element = omega arith
  elements_length (Grammar.elements p m) = omega (arith, spells_length p, more_elements_length m)

  more_elements_length : {vs : Values} {s r : Bytes} → MoreElements vs s r → length r ≤ length s
  more_elements_length Grammar.last_element = omega arith
  more_elements_length (Grammar.next_element c p m) = omega (arith, structural_length c, spells_length p, more_elements_length m)

  members_length : {ms : Members} {s r : Bytes} → MembersOf ms s r → length r ≤ length s
  members_length Grammar.no_member = omega arith
  members_length (Grammar.members k c p m) = omega (arith, string_length k, structural_length c, spells_length p, more_members_length m)

  more_members_length : {ms : Members} {s r : Bytes} → MoreMembers ms s r → length r ≤ length s
  more_members_length Grammar.last_member = omega arith
  more_members_length (Grammar.next_member d k c p m) = omega (arith, structural_length d, string_length k, structural_length c, spells_length p, more_members_length m)

-- what follows a value ends a number
space_other : (c : ℕ) → is_space c ≡ true → digit c ≡ Numerals.is_other
space_other c e = go (eqb c 32) (eqb c 9) (eqb c 10) (eqb c 13) refl refl refl refl e
  where
    by : (k : ℕ) → eqb c k ≡ true → digit k ≡ Numerals.is_other → digit c ≡ Numerals.is_other
    by k p q = subst (λ (x : ℕ). digit x ≡ Numerals.is_other) (sym (eqb_true c k p)) q

    go : (a b d f : Bool) → eqb c 32 ≡ a → eqb c 9 ≡ b → eqb c 10 ≡ d → eqb c 13 ≡ f → (a || b || d || f) ≡ true → digit c ≡ Numerals.is_other
    go true b d f p q r t _ = by 32 p refl
    go false true d f p q r t _ = by 9 q refl
    go false false true f p q r t _ = by 10 r refl
    go false false false true p q r t _ = by 13 t refl
    go false false false false p q r t z = absurd (false≢true z)

ws_ends : {s t : Bytes} → Ws s t → Ends t → Ends s
ws_ends no_space h = h
ws_ends (space {c} e w) h = space_other c e

structural_ends : (c : ℕ) {s r : Bytes} → digit c ≡ Numerals.is_other → Structural c s r → Ends s
structural_ends c e (structural v w) = ws_ends v e

more_ends : {vs : Values} {t u r : Bytes} → MoreElements vs t u → Structural 93 u r → Ends t
more_ends Grammar.last_element c = structural_ends 93 refl c
more_ends (Grammar.next_element d p m) c = structural_ends 44 refl d

more_members_ends : {ms : Members} {t u r : Bytes} → MoreMembers ms t u → Structural 125 u r → Ends t
more_members_ends Grammar.last_member c = structural_ends 125 refl c
more_members_ends (Grammar.next_member d k e p m) c = structural_ends 44 refl d

-- a value's first byte closes no bracket
pub record Begins (s : Bytes) : Type 0 where
  pub byte : ℕ
  pub others : Bytes
  pub skipped : skip s ≡ byte ∷ others
  pub is_no93 : eqb byte 93 ≡ false

begins_word : (c : ℕ) (w s r : Bytes) → is_space c ≡ false → eqb c 93 ≡ false → s ≡ c ∷ (w ++ r) → Begins s
begins_word c w s r e f p = record { byte = c; others = w ++ r; skipped = ap skip p ∙ skip_idle c (w ++ r) e; is_no93 = f }

number_no93 : (c : ℕ) → Reader.start c ≡ Reader.start_number → eqb c 93 ≡ false
number_no93 c e = eqb_false c 93 λ p. apart (subst (λ (k : ℕ). Reader.start k ≡ Reader.start_number) p e)
  where
    apart : Reader.start_nothing ≡ Reader.start_number → ⊥
    apart q = let z : ◌≡◌ {A = ℕ} 0 1 = cc in omega arith

begins_number : (s r : Bytes) → Number s r → Begins s
begins_number [] r n = absurd (omega (arith, number_length n))
begins_number (c ∷ s) r n = let f = first_number c s r n in record { byte = c; others = s; skipped = skip_idle c s f.0; is_no93 = number_no93 c f.1 }

begins_string : {x s r : Bytes} → Grammar.String x s r → Begins s
begins_string (Grammar.string {c} {x} {s} {r} e k) = record { byte = 34; others = s; skipped = ap skip (ap (λ (y : ℕ). y ∷ s) e) ∙ skip_idle 34 s refl; is_no93 = refl }

begins_structural : (c : ℕ) {s r : Bytes} → is_space c ≡ false → eqb c 93 ≡ false → Structural c s r → Begins s
begins_structural c e f o = let k = structural_skip c e o in record { byte = c; others = k.0; skipped = k.1; is_no93 = f }

begins : {v : Value} {s r : Bytes} → Spells v s r → Begins s
begins (Spells.is_null {s} {r} e) = begins_word 110 (ascii "ull") s r refl refl e
begins (Spells.is_true {s} {r} e) = begins_word 116 (ascii "rue") s r refl refl e
begins (Spells.is_false {s} {r} e) = begins_word 102 (ascii "alse") s r refl refl e
begins (Spells.is_number {s = s} {r = r} n e) = begins_number s r n
begins (Spells.is_text t) = begins_string t
begins (Spells.is_array o es c) = begins_structural 91 refl refl o
begins (Spells.is_object o ms c) = begins_structural 123 refl refl o

-- results that differ only in how the rest and the count are written
parsed : {A : Type 0} (a : A) {r r' : Bytes} {n n' : ℕ} → r ≡ r' → n ≡
    n' → ◌≡◌ {A = Result (Parsed A)} (ok (record { tree = a; rest = r; count = n })) (ok (record { tree = a; rest = r'; count = n' }))
parsed a p q = cc

-- what a reader answers on what the grammar spells: its tree, or the refusal of a limit for a cause C
pub data Why {A : Type 0} (x : Result A) (a : A) (C : Refusal → Type 0) : Type 0 where
  reads : x ≡ ok a → Why x a C
  passed : (q : Refusal) → x ≡ refused q → C q → Why x a C

why_at : {A : Type 0} {x y : Result A} {a : A} {C : Refusal → Type 0} → x ≡ y → Why y a C → Why x a C
why_at e (reads h) = reads (e ∙ h)
why_at e (passed q h c) = passed q (e ∙ h) c

why_as : {A : Type 0} {x : Result A} {a b : A} {C : Refusal → Type 0} → ok a ≡ ok b → Why x a C → Why x b C
why_as e (reads h) = reads (h ∙ e)
why_as e (passed q h c) = passed q h c

why_map : {A : Type 0} {x : Result A} {a : A} {C D : Refusal → Type 0} → ((q : Refusal) → C q → D q) → Why x a C → Why x a D
why_map f (reads h) = reads h
why_map f (passed q h c) = passed q h (f q c)

why_bind :
    {A B : Type 0} {x : Result A} {a : A} {b : B} {C D : Refusal → Type 0} (f : A → Result B) → Why x a C → ((q : Refusal) → C q → D q) →
    Why (f a) b D → Why (x >>= f) b D
why_bind f (reads h) k w = why_at (bind_ok f h) w
why_bind f (passed q h c) k w = passed q (ap (λ y. y >>= f) h) (k q c)

node_why : {B : Type 0} {b : B} {C : Refusal → Type 0} (n : ℕ) (f : ℕ → Result B) → Why (f (n + 1)) b C →
    (Limits.max_nodes < n + 1 → C too_many_nodes) → Why (Reader.one_node n >>= f) b C
unfolding Reader.one_node
node_why {b} {C} n f w full = go (ltb n Limits.max_nodes) refl
  where
    go : (y : Bool) → ltb n Limits.max_nodes ≡ y → Why (Reader.one_node n >>= f) b C
    go true e = why_at (rw (e, Reader.one_node) refl) w
    go false e = passed too_many_nodes (rw (e, Reader.one_node) refl) (full (omega (arith, leb_lt {m = suc n} {n = Limits.max_nodes} e)))

-- the causes of 5 to 8, where so many brackets may be open at once and so many nodes stand before
pub data Causes (deep many long twice : Type 0) : Refusal → Type 0 where
  is_deep : deep → Causes deep many long twice too_deep
  is_many : many → Causes deep many long twice too_many_nodes
  is_long : long → Causes deep many long twice number_too_long
  is_twice : twice → Causes deep many long twice repeated_name

causes_map :
    {d m l t d' m' l' t' : Type 0} → (d → d') → (m → m') → (l → l') → (t → t') → (q : Refusal) → Causes d m l t q → Causes d' m' l' t' q
causes_map f g h k q (is_deep x) = is_deep (f x)
causes_map f g h k q (is_many x) = is_many (g x)
causes_map f g h k q (is_long x) = is_long (h x)
causes_map f g h k q (is_twice x) = is_twice (k x)

abbrev Cause : ℕ → ℕ → Value → Refusal → Type 0
Cause left n v =
    Causes (left < depth v) (Limits.max_nodes < n + nodes v) ((x : Bytes) × Part (number x) v × (Limits.max_number < length x))
    ((ms : Members) × Part (object ms) v × Twice ms)

abbrev CauseIn : ℕ → ℕ → Values → Refusal → Type 0
CauseIn left n vs =
    Causes (left < depth_in vs) (Limits.max_nodes < n + nodes_in vs) ((x : Bytes) × PartIn (number x) vs × (Limits.max_number < length x))
    ((ms : Members) × PartIn (object ms) vs × Twice ms)

-- a name of an object's members that stands before them, or twice among them, or a repeated one further in
pub data Repeats (names : List Bytes) (ms : Members) : Type 0 where
  before : (k : Bytes) → is_one_of k names ≡ true → is_one_of k (keys ms) ≡ true → Repeats names ms
  within : Twice ms → Repeats names ms
  inside : {ns : Members} → PartOf (object ns) ms → Twice ns → Repeats names ms

abbrev CauseOf : ℕ → ℕ → List Bytes → Members → Refusal → Type 0
CauseOf left n names ms = Causes (left < depth_of ms) (Limits.max_nodes < n + nodes_of ms) ((x : Bytes) × PartOf (number x) ms × (Limits.max_number < length x)) (Repeats names ms)

-- the causes of the parts
module _ (left n : ℕ) (v : Value) (vs : Values) where
  head_cause : (q : Refusal) → Cause left n v q → CauseIn left n (cons v vs) q
  unfolding nodes depth
  head_cause = causes_map (λ h. omega arith) (λ h. omega arith) (λ h. (h.0, this_element h.1, h.2)) (λ h. (h.0, this_element h.1, h.2))

  tail_cause : (q : Refusal) → CauseIn left (n + nodes v) vs q → CauseIn left n (cons v vs) q
  unfolding nodes depth
  tail_cause = causes_map (λ h. omega arith) (λ h. omega arith) (λ h. (h.0, later_element h.1, h.2)) (λ h. (h.0, later_element h.1, h.2))

of_tail : (o k : Bytes) (ks : List Bytes) → same_bytes o k ≡ false → is_one_of o (k ∷ ks) ≡ true → is_one_of o ks ≡ true
unfolding is_one_of
of_tail o k ks q e = rw (q, is_one_of) at e

repeats_later : (names : List Bytes) (k : Bytes) (v : Value) (ms : Members) → Repeats (k ∷ names) ms → Repeats names (member k v ms)
repeats_later names k v ms (before o e f) = go (same_bytes o k) refl
  where
    go : (b : Bool) → same_bytes o k ≡ b → Repeats names (member k v ms)
    go true q = within (again (subst (λ (x : Bytes). is_one_of x (keys ms) ≡ true) (same_bytes_true o k q) f))
    go false q = before o (of_tail o k names q e) (one_there o k (keys ms) f)
repeats_later names k v ms (within t) = within (Twice.later t)
repeats_later names k v ms (inside p t) = inside (later_member p) t

module _ (left n : ℕ) (names : List Bytes) (k : Bytes) (v : Value) (ms : Members) where
  field_cause : (q : Refusal) → Cause left (n + 1) v q → CauseOf left n names (member k v ms) q
  unfolding nodes depth
  field_cause = causes_map (λ h. omega arith) (λ h. omega arith) (λ h. (h.0, this_member h.1, h.2)) (λ h. inside (this_member h.1) h.2)

  rest_cause : (q : Refusal) → CauseOf left (n + 1 + nodes v) (k ∷ names) ms q → CauseOf left n names (member k v ms) q
  unfolding nodes depth
  rest_cause = causes_map (λ h. omega arith) (λ h. omega arith) (λ h. (h.0, later_member h.1, h.2)) (repeats_later names k v ms)

array_cause : (left n : ℕ) (vs : Values) (q : Refusal) → CauseIn left (n + 1) vs q → Cause (suc left) n (array vs) q
unfolding nodes depth
array_cause left n vs = causes_map (λ h. omega arith) (λ h. omega arith) (λ h. (h.0, in_array h.1, h.2)) (λ h. (h.0, in_array h.1, h.2))

object_cause : (left n : ℕ) (ms : Members) (q : Refusal) → CauseOf left (n + 1) [] ms q → Cause (suc left) n (object ms) q
unfolding nodes depth is_one_of
object_cause left n ms = causes_map (λ h. omega arith) (λ h. omega arith) (λ h. (h.0, in_object h.1, h.2)) go
  where
    go : Repeats [] ms → (ns : Members) × Part (object ns) (object ms) × Twice ns
    go (before k e f) = absurd (false≢true e)
    go (within t) = (ms, itself, t)
    go (inside {ns} p t) = (ns, in_object p, t)

-- scalars
module _ (arr obj : Reader.Parser Value) (n : ℕ) where
  abbrev ReadsScalar : Value → Bytes → Bytes → Type 0
  ReadsScalar v s r = Reader.value_with arr obj n (skip s) ≡ (Reader.one_node n >>= λ m. ok (record { tree = v; rest = skip r; count = m }))

  null_complete : (s r : Bytes) → s ≡ ascii "null" ++ r → ReadsScalar null s r
  unfolding Reader.value_with skip
  null_complete s r e = ap (λ (x : Bytes). Reader.value_with arr obj n (skip x)) e

  true_complete : (s r : Bytes) → s ≡ ascii "true" ++ r → ReadsScalar (bool true) s r
  unfolding Reader.value_with skip
  true_complete s r e = ap (λ (x : Bytes). Reader.value_with arr obj n (skip x)) e

  false_complete : (s r : Bytes) → s ≡ ascii "false" ++ r → ReadsScalar (bool false) s r
  unfolding Reader.value_with skip
  false_complete s r e = ap (λ (x : Bytes). Reader.value_with arr obj n (skip x)) e

  text_complete : (x s r : Bytes) → Chars x s r → ReadsScalar (text x) (34 ∷ s) r
  unfolding Reader.value_with skip
  text_complete x s r c = bind_same (Reader.one_node n) _ _ λ m i. bind_ok _ (chars_complete (length s) (omega arith) c)

  string_complete : (x s r : Bytes) → Grammar.String x s r → ReadsScalar (text x) s r
  string_complete x s r (Grammar.string {c} {s = t} e k) = subst (λ (y : ℕ). ReadsScalar (text x) (y ∷ t) r) (sym e) (text_complete x t r k)

  number_reads : (c : ℕ) (x r : Bytes) → First c (x ++ r) r → Reader.value_with arr obj n (skip (c ∷ (x ++ r))) ≡
      (Reader.one_node n >>= λ m. digits (Numerals.first c) (Limits.max_number - 1) (x ++ r) >>= λ t. ok
      (record { tree = number (c ∷ t.got); rest = skip t.rest; count = m }))
  unfolding Reader.value_with
  number_reads c x r f = rw (skip_idle c (x ++ r) f.0, f.1, Reader.value_with) refl

  number_why : (left : ℕ) (x s r : Bytes) → Number s r → s ≡ x ++ r → Ends r →
      Why (Reader.value_with arr obj n (skip s)) (record { tree = number x; rest = skip r; count = n + 1 }) (Cause left n (number x))
  unfolding nodes
  number_why left [] s r k p e = absurd (omega (arith, number_length k, ap length p))
  number_why left (c ∷ x) s r k p e =
      why_at (ap (λ (y : Bytes). Reader.value_with arr obj n (skip y)) p ∙ number_reads c x r f)
      (node_why n _ (go (leb (length (c ∷ x)) Limits.max_number) refl) (λ h. is_many h))
    where
      f : First c (x ++ r) r
      f = first_number c (x ++ r) r (subst (λ (y : Bytes). Number y r) p k)

      go : (b : Bool) → leb (length (c ∷ x)) Limits.max_number ≡
          b → Why {A = Parsed Value}
          (digits (Numerals.first c) (Limits.max_number - 1) (x ++ r) >>= λ t. ok
          (record { tree = number (c ∷ t.got); rest = skip t.rest; count = n + 1 }))
          (record { tree = number (c ∷ x); rest = skip r; count = n + 1 }) (Cause left n (number (c ∷ x)))
      go true q = reads (bind_ok _ (digits_complete x (Numerals.first c) (Limits.max_number - 1) r f.2 e (omega (arith, leb_le {m = length (c ∷ x)} {n = Limits.max_number} q))))
      go false q =
          let l = leb_lt {m = length (c ∷ x)} {n = Limits.max_number} q in
          passed number_too_long (bind_refused _ (digits_long x (Numerals.first c) (Limits.max_number - 1) r f.2 (omega arith))) (is_long (c ∷ x, itself, l))

-- a value is read by the same cases whatever is left
value_with_lem : (left : ℕ) → (arr : Reader.Parser Value) × (obj : Reader.Parser Value) × ((n : ℕ) (s : Bytes) → Reader.value left n s ≡ Reader.value_with arr obj n s)
unfolding Reader.value
value_with_lem zero = (Reader.no_bracket, Reader.no_bracket, λ n s. refl)
value_with_lem (suc left) = (Reader.array_rest (Reader.value left), Reader.object_rest (Reader.value left), λ n s. refl)

abbrev WhyValue : ℕ → ℕ → Value → Bytes → Bytes → Type 0
WhyValue left n v s r = Why (Reader.value left n (skip s)) (record { tree = v; rest = skip r; count = n + nodes v }) (Cause left n v)

scalar_why : (left n : ℕ) (v : Value) (s r : Bytes) → nodes v ≡ 1 → ((arr obj : Reader.Parser Value) → ReadsScalar arr obj n v s r) → WhyValue left n v s r
scalar_why left n v s r e h =
    let w = value_with_lem left in
    why_at (w.2 n (skip s) ∙ h w.0 w.1) (node_why n _ (reads (parsed v refl (ap (λ (k : ℕ). n + k) (sym e)))) (λ l. is_many (omega (arith, e))))

with_suc : (P : ℕ → Type 0) (k : ℕ) → 1 ≤ k → ((j : ℕ) → k ≡ suc j → P (suc j)) → P k
with_suc P zero h f = absurd (omega arith)
with_suc P (suc j) h f = f j refl

abbrev AfterItem : Reader.Parser Value → ℕ → Value → ℕ → Reader.Next → Result (Parsed Values)
AfterItem val f v k x =
    elim
    x [
      | Reader.more t ↦
          (Reader.items val f k (skip t) >>= λ vs. ok (record { tree = cons v vs.tree; rest = vs.rest; count = vs.count }))
      | Reader.closed t ↦
          ok (record { tree = cons v nil; rest = skip t; count = k })
      | Reader.neither ↦
          refused not_json
    ]

items_why : {C D : Refusal → Type 0} (val : Reader.Parser Value) (f n : ℕ) (s rest : Bytes) (v : Value) (k : ℕ) (p : Parsed Values) →
    Why (val n s) (record { tree = v; rest = rest; count = k }) C → ((q : Refusal) → C q → D q) →
    Why (AfterItem val f v k (Reader.next 93 rest)) p D → Why (Reader.items val (suc f) n s) p D
unfolding Reader.items
items_why val f n s rest v k p e h g = why_bind _ e h g

abbrev AfterField : Reader.Parser Value → ℕ → List Bytes → Bytes → Value → ℕ → Reader.Next → Result (Parsed Members)
AfterField val f names k v n x =
    elim
    x [
      | Reader.more t ↦
          (Reader.fields val f (k ∷ names) n (skip t) >>= λ ms. ok (record { tree = member k v ms.tree; rest = ms.rest; count = ms.count }))
      | Reader.closed t ↦
          ok (record { tree = member k v empty; rest = skip t; count = n })
      | Reader.neither ↦
          refused not_json
    ]

new_name_complete : (k : Bytes) (names : List Bytes) (s : Bytes) → is_one_of k names ≡ false → Reader.new_name k names s ≡ ok s
unfolding Reader.new_name
new_name_complete k names s e = rw (e, Reader.new_name) refl

module _ {C D : Refusal → Type 0} {p : Parsed Members} (val : Reader.Parser Value) (f n : ℕ) (names : List Bytes) (s t u rest : Bytes) (k : Bytes) (v : Value) (m : ℕ) where
  fields_why : Chars k s t → skip t ≡ 58 ∷ u → (Limits.max_nodes < n + 1 → D too_many_nodes) → (is_one_of k names ≡ true → D repeated_name) →
      Why (val (n + 1) (skip u)) (record { tree = v; rest = rest; count = m }) C → ((q : Refusal) → C q → D q) →
      Why (AfterField val f names k v m (Reader.next 125 rest)) p D → Why (Reader.fields val (suc f) names n (34 ∷ s)) p D
  unfolding Reader.fields Reader.new_name
  fields_why c colon full clash e h g = node_why n _ (why_at (bind_ok _ (chars_complete (length s) (omega arith) c)) (go (is_one_of k names) refl)) full
    where
      go : (b : Bool) → is_one_of k names ≡ b →
          Why
          (Reader.new_name k names t >>= λ r. expect 58 (skip r) >>= λ w. val (n + 1) (skip w) >>= λ x. AfterField val f names k x.tree
          x.count (Reader.next 125 x.rest)) p D
      go true q = passed repeated_name (rw (q, Reader.new_name) refl) (clash q)
      go false q = why_at (bind_ok _ (new_name_complete k names t q) ∙ bind_ok _ (ap (expect 58) colon ∙ expect_complete 58 u)) (why_bind _ e h g)

abbrev ArrayBody : Reader.Parser Value → ℕ → ℕ → Bytes → Result (Parsed Value)
ArrayBody val f m x =
    elim (Reader.is_closed 93 x) [
      | Some w ↦ ok (record { tree = array nil; rest = skip w; count = m })
      | None ↦
          (Reader.items val f m x >>= λ vs. ok (record { tree = array vs.tree; rest = vs.rest; count = vs.count }))
    ]

abbrev ObjectBody : Reader.Parser Value → ℕ → ℕ → Bytes → Result (Parsed Value)
ObjectBody val f m x =
    elim (Reader.is_closed 125 x) [
      | Some w ↦ ok (record { tree = object empty; rest = skip w; count = m })
      | None ↦
          (Reader.fields val f [] m x >>= λ ms. ok (record { tree = object ms.tree; rest = ms.rest; count = ms.count }))
    ]

array_open :
    (left n : ℕ) (t : Bytes) {p : Parsed Value} {C : Refusal → Type 0} → Why (ArrayBody (Reader.value left) (length t) (n + 1) (skip t)) p C →
    (Limits.max_nodes < n + 1 → C too_many_nodes) → Why (Reader.value (suc left) n (91 ∷ t)) p C
unfolding Reader.value
array_open left n t w full = node_why n _ w full

object_open : (left n : ℕ) (t : Bytes) {p : Parsed Value} {C : Refusal → Type 0} →
    Why (ObjectBody (Reader.value left) (length t) (n + 1) (skip t)) p C → (Limits.max_nodes < n + 1 → C too_many_nodes) →
    Why (Reader.value (suc left) n (123 ∷ t)) p C
unfolding Reader.value
object_open left n t w full = node_why n _ w full

too_deep_lem : (n : ℕ) (t : Bytes) → (Reader.value 0 n (91 ∷ t) ≡ refused too_deep) × (Reader.value 0 n (123 ∷ t) ≡ refused too_deep)
unfolding Reader.value
too_deep_lem n t = (refl, refl)

not_closed : (end c : ℕ) (s : Bytes) → eqb c end ≡ false → Reader.is_closed end (c ∷ s) ≡ None
not_closed end c s e = rw (e, Reader.is_closed) refl

array_items : {C : Refusal → Type 0} (val : Reader.Parser Value) (f m : ℕ) (x : Bytes) (q : Parsed Values) → Reader.is_closed 93 x ≡
    None → Why (Reader.items val f m x) q C → Why (ArrayBody val f m x)
    (record { tree = array q.tree; rest = q.rest; count = q.count }) C
array_items val f m x q e g = rw (e, ArrayBody) (why_bind _ g (λ r c. c) (reads refl))

object_fields : {C : Refusal → Type 0} (val : Reader.Parser Value) (f m : ℕ) (x : Bytes) (q : Parsed Members) → Reader.is_closed 125 x ≡
    None → Why (Reader.fields val f [] m x) q C → Why (ObjectBody val f m x)
    (record { tree = object q.tree; rest = q.rest; count = q.count }) C
object_fields val f m x q e g = rw (e, ObjectBody) (why_bind _ g (λ r c. c) (reads refl))

string_parts : {k s t : Bytes} → Grammar.String k s t → (y : Bytes) × (skip s ≡ 34 ∷ y) × Chars k y t × (s ≡ 34 ∷ y)
string_parts (Grammar.string {s = y} e c) = let q = ap (λ (x : ℕ). x ∷ y) e in (y, ap skip q ∙ skip_idle 34 y refl, c, q)

-- a member, from its value and from what follows
abbrev WhyFields : ℕ → ℕ → List Bytes → ℕ → Members → Bytes → Bytes → Type 0
WhyFields left f names n ms s r = Why (Reader.fields (Reader.value left) f names n (skip s)) (record { tree = ms; rest = skip r; count = n + nodes_of ms }) (CauseOf left n names ms)

member_why : (left f : ℕ) (names : List Bytes) (n : ℕ) {k s t u : Bytes} {v : Value} (ms : Members) (w r : Bytes) → Grammar.String k s t →
    Structural 58 t u → WhyValue left (n + 1) v u w →
    Why (AfterField (Reader.value left) f names k v (n + 1 + nodes v) (Reader.next 125 (skip w)))
    (record { tree = member k v ms; rest = skip r; count = n + 1 + nodes v + nodes_of ms }) (CauseOf left (n + 1 + nodes v) (k ∷ names) ms) →
    WhyFields left (suc f) names n (member k v ms) s r
unfolding nodes
member_why left f names n {k} {t} {v} ms w r name colon h rest =
    let y = string_parts name in
    let z = structural_skip 58 refl colon in
    why_at (ap (Reader.fields (Reader.value left) (suc f) names n) y.1)
    (fields_why (Reader.value left) f n names y.0 t z.0 (skip w) k v (n + 1 + nodes v) y.2 z.1 (λ l. is_many (omega arith))
    (λ e. is_twice (before k e (one_here k (keys ms)))) (why_at (ap (Reader.value left (n + 1)) z.2) h)
    (field_cause left n names k v ms)
    (why_as (parsed (member k v ms) refl (omega arith)) (why_map (rest_cause left n names k v ms) rest)))

-- reading each rule of the grammar
mutual
  unfolding nodes depth

  value_why : {v : Value} {s r : Bytes} → Spells v s r → (left n : ℕ) → Ends r → WhyValue left n v s r
  value_why (Spells.is_null {s} {r} e) left n en = scalar_why left n null s r refl λ arr obj. null_complete arr obj n s r e
  value_why (Spells.is_true {s} {r} e) left n en = scalar_why left n (bool true) s r refl λ arr obj. true_complete arr obj n s r e
  value_why (Spells.is_false {s} {r} e) left n en = scalar_why left n (bool false) s r refl λ arr obj. false_complete arr obj n s r e
  value_why (Spells.is_number {x} {s} {r} k e) left n en = let w = value_with_lem left in why_at (w.2 n (skip s)) (number_why w.0 w.1 n left x s r k e en)
  value_why (Spells.is_text {x} {s} {r} t) left n en = scalar_why left n (text x) s r refl λ arr obj. string_complete arr obj n x s r t
  value_why (Spells.is_array {vs} {s} {t} {u} {r} o es c) zero n en =
      let k = structural_skip 91 refl o in
      passed too_deep (ap (λ (x : Bytes). Reader.value 0 n x) k.1 ∙ (too_deep_lem n k.0).0) (is_deep (omega arith))
  value_why (Spells.is_array {vs} {s} {t} {u} {r} o es c) (suc left) n en =
      let k = structural_skip 91 refl o in
      why_at (ap (λ (x : Bytes). Reader.value (suc left) n x) k.1)
      (array_open left n k.0
      (why_at (ap (ArrayBody (Reader.value left) (length k.0) (n + 1)) k.2)
      (why_as (parsed (array vs) refl (omega arith))
      (why_map (array_cause left n vs) (elements_why es (length k.0) left (n + 1) r c k.3)))) (λ h. is_many (omega arith)))
  value_why (Spells.is_object {ms} {s} {t} {u} {r} o es c) zero n en =
      let k = structural_skip 123 refl o in
      passed too_deep (ap (λ (x : Bytes). Reader.value 0 n x) k.1 ∙ (too_deep_lem n k.0).1) (is_deep (omega arith))
  value_why (Spells.is_object {ms} {s} {t} {u} {r} o es c) (suc left) n en =
      let k = structural_skip 123 refl o in
      why_at (ap (λ (x : Bytes). Reader.value (suc left) n x) k.1)
      (object_open left n k.0
      (why_at (ap (ObjectBody (Reader.value left) (length k.0) (n + 1)) k.2)
      (why_as (parsed (object ms) refl (omega arith))
      (why_map (object_cause left n ms) (members_why es (length k.0) left (n + 1) r c k.3)))) (λ h. is_many (omega arith)))

  elements_why : {vs : Values} {t u : Bytes} → Elements vs t u → (f left m : ℕ) (r : Bytes) → Structural 93 u r → length t ≤ f →
      Why (ArrayBody (Reader.value left) f m (skip t)) (record { tree = array vs; rest = skip r; count = m + nodes_in vs })
      (CauseIn left m vs)
  elements_why (Grammar.no_element {s}) f left m r c l =
      let k = structural_skip 93 refl c in
      reads (ap (ArrayBody (Reader.value left) f m) k.1 ∙ parsed (array nil) k.2 (omega arith))
  elements_why (Grammar.elements {v} {vs} {s} {t} {r = u} p more) f left m r c l =
      let b = begins p in
      array_items (Reader.value left) f m (skip s) (record { tree = cons v vs; rest = skip r; count = m + nodes_in (cons v vs) }) (ap
      (Reader.is_closed 93) b.skipped ∙ not_closed 93 b.byte b.others b.is_no93) (with_suc (λ g. Why (Reader.items
      (Reader.value left) g m (skip s)) (record { tree = cons v vs; rest = skip r; count = m + nodes_in (cons v vs) }) (CauseIn left m
      (cons v vs))) f (omega (arith, l, spells_length p)) λ g q.
      items_why (Reader.value left) g m (skip s) (skip t) v (m + nodes v) _ (value_why p left m (more_ends more c))
      (head_cause left m v vs)
      (why_as (parsed (cons v vs) refl (omega arith))
      (why_map (tail_cause left m v vs) (more_why more g left v (m + nodes v) r c (omega (arith, l, q, spells_length p))))))

  more_why :
      {vs : Values} {t u : Bytes} → MoreElements vs t u → (f left : ℕ) (v : Value) (k : ℕ) (r : Bytes) → Structural 93 u r → length t ≤ f →
      Why (AfterItem (Reader.value left) f v k (Reader.next 93 (skip t)))
      (record { tree = cons v vs; rest = skip r; count = k + nodes_in vs }) (CauseIn left k vs)
  more_why (Grammar.last_element {s}) f left v k r c l =
      let y = structural_skip 93 refl c in
      reads (ap (λ (x : Bytes). AfterItem (Reader.value left) f v k (Reader.next 93 x)) y.1 ∙ parsed (cons v nil) y.2 (omega arith))
  more_why (Grammar.next_element {v = w} {vs} {s} {t} {u} {r = x} d p more) f left v k r c l =
      let y = structural_skip 44 refl d in
      why_at (ap (λ (z : Bytes). AfterItem (Reader.value left) f v k (Reader.next 93 z)) y.1 ∙ ap (λ (z : Bytes). Reader.items
      (Reader.value left) f k z >>= λ l. ok (record { tree = cons v l.tree; rest = l.rest; count = l.count })) y.2) (why_bind _
      (with_suc (λ g. Why (Reader.items (Reader.value left) g k (skip t)) (record {
        tree = cons w vs;
        rest = skip r;
        count = k + nodes_in
            (cons w vs);
      }) (CauseIn left k (cons w vs))) f (omega (arith, l, structural_length d, spells_length p)) λ g q.
      items_why (Reader.value left) g k (skip t) (skip u) w (k + nodes w) _ (value_why p left k (more_ends more c))
      (head_cause left k w vs)
      (why_as (parsed (cons w vs) refl (omega arith))
      (why_map (tail_cause left k w vs)
      (more_why more g left w (k + nodes w) r c (omega (arith, l, q, structural_length d, spells_length p)))))) (λ q h. h) (reads refl))

  members_why : {ms : Members} {t u : Bytes} → MembersOf ms t u → (f left m : ℕ) (r : Bytes) → Structural 125 u r → length t ≤ f →
      Why (ObjectBody (Reader.value left) f m (skip t)) (record { tree = object ms; rest = skip r; count = m + nodes_of ms })
      (CauseOf left m [] ms)
  members_why (Grammar.no_member {s}) f left m r c l =
      let k = structural_skip 125 refl c in
      reads (ap (ObjectBody (Reader.value left) f m) k.1 ∙ parsed (object empty) k.2 (omega arith))
  members_why (Grammar.members {k} {v} {ms} {s} {t} {u} {w} {r = x} name colon p more) f left m r c l =
      object_fields (Reader.value left) f m (skip s) (record {
        tree = member k v ms;
        rest = skip r;
        count = m + nodes_of (member k v ms);
      }) (ap (Reader.is_closed 125) (string_parts name).1) (with_suc (λ g. WhyFields left g [] m (member k v ms) s r) f (omega (
        arith,
        l,
        string_length name,
      )) λ g q.
      member_why left g [] m ms w r name colon (value_why p left (m + 1) (more_members_ends more c))
      (more_members_why more g left [] k v (m + 1 + nodes v) r c
      (omega (arith, l, q, string_length name, structural_length colon, spells_length p))))

  more_members_why :
      {ms : Members} {t u : Bytes} → MoreMembers ms t u → (f left : ℕ) (names : List Bytes) (k : Bytes) (v : Value) (n : ℕ) (r : Bytes) →
      Structural 125 u r → length t ≤ f →
      Why (AfterField (Reader.value left) f names k v n (Reader.next 125 (skip t)))
      (record { tree = member k v ms; rest = skip r; count = n + nodes_of ms }) (CauseOf left n (k ∷ names) ms)
  more_members_why (Grammar.last_member {s}) f left names k v n r c l =
      let y = structural_skip 125 refl c in
      reads (ap (λ (x : Bytes). AfterField (Reader.value left) f names k v n (Reader.next 125 x)) y.1 ∙ parsed (member k v empty) y.2 (omega arith))
  more_members_why (Grammar.next_member {k = j} {v = w} {ms} {s} {s'} {t} {u} {w = x} {r = o} d name colon p more) f left names k v n r c l =
      let a = structural_skip 44 refl d in
      why_at (ap (λ (b : Bytes). AfterField (Reader.value left) f names k v n (Reader.next 125 b)) a.1 ∙ ap (λ (b : Bytes).
      Reader.fields (Reader.value left) f (k ∷ names) n b >>= λ l. ok (record {
        tree = member k v l.tree;
        rest = l.rest;
        count = l.count;
      })) a.2) (why_bind _ (with_suc (λ g. WhyFields left g (k ∷ names) n (member j w ms) s' r) f (omega (
        arith,
        l,
        structural_length d,
        string_length name,
      )) λ g q.
      member_why left g (k ∷ names) n ms x r name colon (value_why p left (n + 1) (more_members_ends more c))
      (more_members_why more g left (k ∷ names) j w (n + 1 + nodes w) r c
      (omega (arith, l, q, structural_length d, string_length name, structural_length colon, spells_length p)))) (λ q h. h)
      (reads refl))

-- A JSON text is read as its tree, or refused with one of 5 to 8, whose limit the tree passes.
passes_of : (v : Value) (q : Refusal) → Cause Limits.max_depth 0 v q → Passes q v
passes_of v q (is_deep h) = passes_depth h
passes_of v q (is_many h) = passes_nodes {v = v} (omega arith)
passes_of v q (is_long h) = passes_number h.1 h.2
passes_of v q (is_twice h) = passes_name h.1 h.2

pub why_refused : (s : Bytes) (v : Value) → JsonText v s → Why (Reader.parse s) v (λ q. Passes q v)
unfolding Reader.parse Reader.whole_text
why_refused s v t =
    why_at (ap (λ (x : Bytes). Reader.value Limits.max_depth 0 x >>= Reader.whole_text) (skip_of t.before))
    (why_bind Reader.whole_text (value_why t.spelled Limits.max_depth 0 (ws_ends t.behind tt)) (passes_of v) (reads whole))
  where
    ended : skip t.to ≡ []
    ended = skip_of t.behind ∙ none_left
      where
        none_left : skip [] ≡ []
        none_left = refl

    whole : Reader.whole_text (record { tree = v; rest = skip t.to; count = 0 + nodes v }) ≡ ok v
    whole = rw (ended, Reader.whole_text) refl

-- a tree within the limits passes none
and_left : (a b : Bool) → (a && b) ≡ true → a ≡ true
and_left true b e = refl
and_left false b e = absurd (false≢true e)

and_right : (a b : Bool) → (a && b) ≡ true → b ≡ true
and_right true b e = e
and_right false b e = absurd (false≢true e)

mutual
  unfolding tidy

  part_tidy : {w v : Value} → Part w v → (limit : ℕ) → tidy limit v ≡ true → tidy limit w ≡ true
  part_tidy itself limit e = e
  part_tidy (in_array p) limit e = part_in_tidy p limit e
  part_tidy (in_object p) limit e = part_of_tidy p limit e

  part_in_tidy : {w : Value} {vs : Values} → PartIn w vs → (limit : ℕ) → tidy_in limit vs ≡ true → tidy limit w ≡ true
  part_in_tidy (this_element {v} {vs} p) limit e = part_tidy p limit (and_left (tidy limit v) (tidy_in limit vs) e)
  part_in_tidy (later_element {v} {vs} p) limit e = part_in_tidy p limit (and_right (tidy limit v) (tidy_in limit vs) e)

  part_of_tidy : {w : Value} {ms : Members} → PartOf w ms → (limit : ℕ) → tidy_of limit ms ≡ true → tidy limit w ≡ true
  part_of_tidy (this_member {k} {v} {ms} p) limit e = part_tidy p limit (and_left (tidy limit v) (tidy_of limit ms) (and_right (not (is_one_of k (keys ms))) (tidy limit v && tidy_of limit ms) e))
  part_of_tidy (later_member {k} {v} {ms} p) limit e =
      part_of_tidy p limit
      (and_right (tidy limit v) (tidy_of limit ms) (and_right (not (is_one_of k (keys ms))) (tidy limit v && tidy_of limit ms) e))

twice_untidy : {ms : Members} → Twice ms → (limit : ℕ) → tidy_of limit ms ≡ true → ⊥
unfolding tidy
twice_untidy (again {k} {v} {ms} f) limit e = true≢false (sym (and_left (not (is_one_of k (keys ms))) (tidy limit v && tidy_of limit ms) e) ∙ ap not f)
twice_untidy (Twice.later {k} {v} {ms} t) limit e =
    twice_untidy t limit
    (and_right (tidy limit v) (tidy_of limit ms) (and_right (not (is_one_of k (keys ms))) (tidy limit v && tidy_of limit ms) e))

within_passes : {q : Refusal} {v : Value} → Passes q v → depth v ≤ Limits.max_depth → nodes v ≤ Limits.max_nodes → tidy Limits.max_number v ≡ true → ⊥
unfolding tidy
within_passes (passes_depth h) d n t = omega arith
within_passes (passes_number {x} p h) d n t = omega (arith, leb_le {m = length x} {n = Limits.max_number} (part_tidy p Limits.max_number t))
within_passes (passes_nodes h) d n t = omega arith
within_passes (passes_name {ms} p h) d n t = twice_untidy h Limits.max_number (part_tidy p Limits.max_number t)

-- a text within the limits is read as its tree
pub json_complete : (s : Bytes) (v : Value) → Within v s → Reader.json s ≡ ok v
unfolding Reader.json
json_complete s v w = rw (leb_true (length s) Limits.max_bytes w.bytes, Reader.json, w.is_utf8) (go (why_refused s v w.is_json))
  where
    go : Why (Reader.parse s) v (λ q. Passes q v) → Reader.parse s ≡ ok v
    go (reads e) = e
    go (passed q e c) = absurd (within_passes c w.brackets w.count w.is_tidy)

-- Reading is RFC 8259 within the limits, exactly.
pub read_exactly : (s : Bytes) (v : Value) → (Reader.json s ≡ ok v) ↔ Within v s
read_exactly s v = (json_sound s v, json_complete s v)

-- A text has one tree.
pub one_tree : (s : Bytes) (v w : Value) → Within v s → Within w s → v ≡ w
one_tree s v w p q = ok_injective (sym (json_complete s v p) ∙ json_complete s w q)
