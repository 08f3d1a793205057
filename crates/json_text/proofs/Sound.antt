-- What the reader accepts is spelled as RFC 8259 has it and keeps the limits.
-- Assumes nothing.
use mathlib.Core.Bool.{Bool, false, false≢true, not, true, true≢false, ◌&&◌}
use mathlib.Core.List.{List, [], ◌++◌, ◌∷◌}
use mathlib.Core.Logic.{inl, inr, ◌⊎◌}
use Rattle.std.specs.Prelude.{Option, None, Some}
use mathlib.Core.Path.{ap, refl, subst, sym, ◌∙◌, ◌≡◌}
use Prim.Native.Nat.{suc, zero, ℕ, ◌*◌, ◌+◌, ◌-◌, ◌<◌, ◌≤◌}
use native.Mathlib.Omega.{arith}
use lib.Dec.{T, eqb, leb, leb→le, ltb, nleb→lt}
use lib.ListN.{length}
use Rattle.json_text.proofs.Laws.{eqb_no, eqb_true, holds_of, leb_true, ok_injective, same_bytes_refl, same_bytes_true}
use Rattle.json_text.specs.Bytes.{Bytes, ascii, between, choose, is_one_of, same_bytes}
use Rattle.json_text.specs.Grammar
use Rattle.json_text.specs.Grammar.{
  Chars,
  Digits,
  Elements,
  Escape,
  Exp,
  Frac,
  Hex,
  Int,
  MembersOf,
  MoreElements,
  MoreMembers,
  Number,
  Sign,
  SomeDigits,
  Spells,
  Structural,
  Within,
  Ws,
  close,
  exp,
  frac,
  is_unescaped,
  minus,
  no_digit,
  no_exp,
  no_frac,
  no_hex,
  no_minus,
  no_sign,
  no_space,
  nonzero,
  one_digit,
  one_hex,
  pair,
  sign,
  simple,
  some_digits,
  space,
  structural,
  unescaped,
  unit,
}
use Rattle.json_text.specs.Json.{Members, Value, Values, array, bool, cons, empty, keys, member, nil, null, number, object, text}
use Rattle.json_text.specs.Limits
use Rattle.json_text.specs.Limits.{depth, depth_in, depth_of, nodes, nodes_in, nodes_of, tidy, tidy_in, tidy_of}
use Rattle.json_text.specs.Numerals
use Rattle.json_text.specs.Numerals.{Place, complete, digit, digits, is_stop, onward}
use Rattle.json_text.specs.Reader
use Rattle.json_text.specs.Reader.{Parsed}
use Rattle.json_text.specs.Refusal.{Refusal, Result, not_json, number_too_long, ok, refused, repeated_name, too_many_nodes, ◌>>=◌}
use Rattle.json_text.specs.Scan.{Read, expect, is_space, skip, word}
use Rattle.json_text.specs.Strings
use Rattle.json_text.specs.Strings.{
  backslash,
  char,
  chars,
  control,
  escape,
  hex,
  hex_digit,
  high_half,
  high_unit,
  low_half,
  low_unit,
  of_unit,
  other,
  plain_unit,
  quote,
  simple_escape,
  unicode,
  unit16,
}
use Rattle.json_text.specs.Utf8
use Rattle.json_text.specs.Utf8.{encode}

-- a computation that was not refused, step by step
pub bind_inv : {A B : Type 0} (x : Result A) (f : A → Result B) {b : B} → (x >>= f) ≡ ok b → (a : A) × (x ≡ ok a) × (f a ≡ ok b)
bind_inv (ok a) f e = (a, refl, e)
bind_inv (refused r) f e = let z : ◌≡◌ {A = Bool} true false = cc in absurd (true≢false z)

-- an inversion that hands on what it found
pub bind_with : {A B : Type 0} {X : Type 0} (x : Result A) (f : A → Result B) {b : B} → (x >>= f) ≡ ok b → ((a : A) → x ≡ ok a → f a ≡ ok b → X) → X
bind_with x f e k = let i = bind_inv x f e in k i.0 i.1 i.2

pub not_ok : {A : Type 0} {X : Type 0} {a : A} (r : Refusal) → refused r ≡ ok a → X
not_ok r e = let z : ◌≡◌ {A = Bool} true false = cc in absurd (true≢false z)

pub skip_ws : (s : Bytes) → Ws s (skip s)
unfolding skip
skip_ws [] = no_space
skip_ws (c ∷ s) = go (skip_ws s) (is_space c) refl
  where
    go : Ws s (skip s) → (b : Bool) → is_space c ≡ b → Ws (c ∷ s) (skip (c ∷ s))
    go below true q = rw (q, skip) (space q below)
    go below false q = rw (q, skip) no_space

pub expect_sound : (c : ℕ) (s r : Bytes) → expect c s ≡ ok r → s ≡ c ∷ r
unfolding expect
expect_sound c [] r e = not_ok not_json e
expect_sound c (d ∷ s) r e = go (eqb c d) refl
  where
    go : (b : Bool) → eqb c d ≡ b → d ∷ s ≡ c ∷ r
    go true q = cc (eqb_true c d q, rw (q, expect) at e)
    go false q = not_ok not_json (rw (q, expect) at e)

pub word_sound : (w s r : Bytes) → word w s ≡ ok r → s ≡ w ++ r
unfolding word
word_sound [] s r e = cc
word_sound (c ∷ w) [] r e = not_ok not_json e
word_sound (c ∷ w) (d ∷ s) r e = go (λ h. word_sound w s r h) (eqb c d) refl
  where
    go : (word w s ≡ ok r → s ≡ w ++ r) → (b : Bool) → eqb c d ≡ b → d ∷ s ≡ c ∷ (w ++ r)
    go below true q = cc (eqb_true c d q, below (rw (q, word) at e))
    go below false q = not_ok not_json (rw (q, word) at e)

pub hex_sound : (n u : ℕ) (s : Bytes) (x : Read ℕ) → hex n u s ≡ ok x → Hex n u x.got s x.rest
unfolding hex
hex_sound zero u s x e = subst (λ (y : Read ℕ). Hex 0 u y.got s y.rest) (ok_injective e) no_hex
hex_sound (suc n) u [] x e = not_ok not_json e
hex_sound (suc n) u (c ∷ s) x e = go (λ v h. hex_sound n v s x h) (hex_digit c) refl
  where
    go : ((v : ℕ) → hex n v s ≡ ok x → Hex n v x.got s x.rest) → (o : Option ℕ) → hex_digit c ≡ o → Hex (suc n) u x.got (c ∷ s) x.rest
    go below None q = not_ok not_json (rw (q, hex) at e)
    go below (Some d) q = one_hex q (below (u * 16 + d) (rw (q, hex) at e))

-- tests of numbers as facts
pub leb_le : {m n : ℕ} → leb m n ≡ true → m ≤ n
leb_le {m} {n} e = leb→le m n (holds_of (leb m n) e)

pub leb_lt : {m n : ℕ} → leb m n ≡ false → n < m
leb_lt {m} {n} e = nleb→lt m n (subst (λ (b : Bool). T (not b)) (sym e) tt)

pub leb_false : (m n : ℕ) → n < m → leb m n ≡ false
leb_false m n h = go (leb m n) refl
  where
    go : (b : Bool) → leb m n ≡ b → leb m n ≡ false
    go true e = absurd (omega (arith, leb_le {m = m} {n = n} e))
    go false e = e

pub between_in : (l h c : ℕ) → between l h c ≡ true → (l ≤ c) × (c ≤ h)
between_in l h c e = go (leb l c) (leb c h) refl refl e
  where
    go : (a b : Bool) → leb l c ≡ a → leb c h ≡ b → (a && b) ≡ true → (l ≤ c) × (c ≤ h)
    go true true p q _ = (leb_le p, leb_le q)
    go true false p q f = absurd (false≢true f)
    go false b p q f = absurd (false≢true f)

pub between_out : (l h c : ℕ) → ((l ≤ c) → (c ≤ h) → ⊥) → between l h c ≡ false
between_out l h c f = go (between l h c) refl
  where
    go : (b : Bool) → between l h c ≡ b → between l h c ≡ false
    go true e = let p = between_in l h c e in absurd (f p.0 p.1)
    go false e = e

pub between_of : (l h c : ℕ) → l ≤ c → c ≤ h → between l h c ≡ true
between_of l h c p q = cc (leb_true l c p, leb_true c h q)

pub between_not : (l h c : ℕ) → between l h c ≡ false → l ≤ c → h < c
between_not l h c e p = go (leb c h) refl
  where
    go : (b : Bool) → leb c h ≡ b → h < c
    go true q = absurd (true≢false (sym (between_of l h c p (leb_le q)) ∙ e))
    go false q = leb_lt q

-- how a byte or a unit is classed
pub data Unit16View (u : ℕ) : Strings.Unit16 → Type 0 where
  is_high : between 55296 56319 u ≡ true → Unit16View u high_unit
  is_low : between 56320 57343 u ≡ true → Unit16View u low_unit
  is_plain : between 55296 57343 u ≡ false → Unit16View u plain_unit

pub unit16_view : (u : ℕ) → Unit16View u (unit16 u)
unit16_view u = go (between 55296 56319 u) (between 56320 57343 u) refl refl
  where
    outside : between 55296 56319 u ≡ false → between 56320 57343 u ≡ false → between 55296 57343 u ≡ false
    outside p q = between_out 55296 57343 u λ a b. omega (arith, between_not 56320 57343 u q (between_not 55296 56319 u p a))

    go : (a b : Bool) → between 55296 56319 u ≡ a → between 56320 57343 u ≡ b → Unit16View u (unit16 u)
    go true b p q = rw (p, choose) (is_high p)
    go false true p q = rw (p, q, choose) (is_low q)
    go false false p q = rw (p, q, choose) (is_plain (outside p q))

low_half_sound : (high : ℕ) (low : Read ℕ) (x : Read Bytes) → low_half high low ≡ ok x →
    (between 56320 57343 low.got ≡ true) × (x.got ≡ encode (65536 + (high - 55296) * 1024 + (low.got - 56320))) × (x.rest ≡ low.rest)
unfolding low_half
low_half_sound high low x e = go (between 56320 57343 low.got) refl
  where
    go : (b : Bool) → between 56320 57343 low.got ≡ b →
        (between 56320 57343 low.got ≡ true) × (x.got ≡ encode (65536 + (high - 55296) * 1024 + (low.got - 56320))) ×
        (x.rest ≡ low.rest)
    go true q = let z = ok_injective (rw (q, low_half) at e) in (q, ap (λ (y : Read Bytes). y.got) (sym z), ap (λ (y : Read Bytes). y.rest) (sym z))
    go false q = not_ok not_json (rw (q, low_half) at e)

-- a rest that is another's
hex_to : {n u v : ℕ} {s r r' : Bytes} → r ≡ r' → Hex n u v s r → Hex n u v s r'
hex_to {n} {u} {v} {s} e h = subst (λ (y : Bytes). Hex n u v s y) e h

of_unit_sound : (c : ℕ) (s : Bytes) (u : Read ℕ) (x : Read Bytes) → c ≡ 117 → Hex 4 0 u.got s u.rest → of_unit u ≡ ok x → Escape x.got (c ∷ s) x.rest
unfolding of_unit high_half
of_unit_sound c s u x p h e = go (unit16 u.got) (unit16_view u.got) refl
  where
    is_pair : between 55296 56319 u.got ≡ true → high_half u.got u.rest ≡ ok x → Escape x.got (c ∷ s) x.rest
    is_pair b f =
        let t = bind_inv (word (ascii "\\u") u.rest) _ f in
        let low = bind_inv (hex 4 0 t.0) _ t.2 in
        let z = low_half_sound u.got low.0 x low.2 in
        pair p h b (word_sound (ascii "\\u") u.rest t.0 t.1) (hex_to (sym z.2) (hex_sound 4 0 t.0 low.0 low.1)) z.0 z.1

    go : (k : Strings.Unit16) → Unit16View u.got k → unit16 u.got ≡ k → Escape x.got (c ∷ s) x.rest
    go k (is_high b) q = is_pair b (rw (q, of_unit) at e)
    go k (is_low b) q = not_ok not_json (rw (q, of_unit) at e)
    go k (is_plain b) q =
        let z = ok_injective (rw (q, of_unit) at e) in
        unit p (hex_to (ap (λ (y : Read Bytes). y.rest) z) h) b (ap (λ (y : Read Bytes). y.got) (sym z))

pub escape_sound : (s : Bytes) (x : Read Bytes) → escape s ≡ ok x → Escape x.got s x.rest
unfolding escape unicode
escape_sound [] x e = not_ok not_json e
escape_sound (c ∷ s) x e = go (simple_escape c) refl
  where
    is_u : (b : Bool) → eqb c 117 ≡ b → simple_escape c ≡ None → Escape x.got (c ∷ s) x.rest
    is_u true p q =
        let u = bind_inv (hex 4 0 s) of_unit (rw (q, escape, p) at e) in
        of_unit_sound c s u.0 x (eqb_true c 117 p) (hex_sound 4 0 s u.0 u.1) u.2
    is_u false p q = not_ok not_json (rw (q, escape, p) at e)

    go : (o : Option ℕ) → simple_escape c ≡ o → Escape x.got (c ∷ s) x.rest
    go (Some d) q = subst (λ (y : Read Bytes). Escape y.got (c ∷ s) y.rest) (ok_injective (rw (q, escape) at e)) (simple q)
    go None q = is_u (eqb c 117) refl q

pub data CharView (c : ℕ) : Strings.Char → Type 0 where
  is_quote : c ≡ 34 → CharView c quote
  is_backslash : c ≡ 92 → CharView c backslash
  is_control : CharView c control
  is_other : is_unescaped c ≡ true → CharView c other

pub char_view : (c : ℕ) → CharView c (char c)
char_view c = go (eqb c 34) (eqb c 92) (ltb c 32) refl refl refl
  where
    plainly : eqb c 34 ≡ false → eqb c 92 ≡ false → ltb c 32 ≡ false → is_unescaped c ≡ true
    plainly p q r = cc (p, q, leb_true 32 c (omega (arith, leb_lt {m = suc c} {n = 32} r)))

    go : (a b d : Bool) → eqb c 34 ≡ a → eqb c 92 ≡ b → ltb c 32 ≡ d → CharView c (char c)
    go true b d p q r = rw (p, choose) (is_quote (eqb_true c 34 p))
    go false true d p q r = rw (p, q, choose) (is_backslash (eqb_true c 92 q))
    go false false true p q r = rw (p, q, r, choose) is_control
    go false false false p q r = rw (p, q, r, choose) (is_other (plainly p q r))

pub chars_sound : (n : ℕ) (s : Bytes) (x : Read Bytes) → chars n s ≡ ok x → Chars x.got s x.rest
unfolding chars
chars_sound zero s x e = not_ok not_json e
chars_sound (suc n) [] x e = not_ok not_json e
chars_sound (suc n) (c ∷ s) x e = go (λ t y h. chars_sound n t y h) (char c) (char_view c) refl
  where
    Sound : Type 0
    Sound = (t : Bytes) (y : Read Bytes) → chars n t ≡ ok y → Chars y.got t y.rest

    go : Sound → (k : Strings.Char) → CharView c k → char c ≡ k → Chars x.got (c ∷ s) x.rest
    go below k (is_quote p) q = subst (λ (y : Read Bytes). Chars y.got (c ∷ s) y.rest) (ok_injective (rw (q, chars) at e)) (close p)
    go below k (is_backslash p) q =
        bind_with (escape s) _ (rw (q, chars) at e) λ d f g.
        bind_with (chars n d.rest) _ g λ r h i.
        subst (λ (y : Read Bytes). Chars y.got (c ∷ s) y.rest) (ok_injective i) (Chars.escape p (escape_sound s d f) (below d.rest r h) refl)
    go below k is_control q = not_ok not_json (rw (q, chars) at e)
    go below k (is_other p) q =
        bind_with (chars n s) _ (rw (q, chars) at e) λ r f g.
        subst (λ (y : Read Bytes). Chars y.got (c ∷ s) y.rest) (ok_injective g) (unescaped p (below s r f))

-- what is still to be read of a number from a place on
abbrev pub AfterInt : Bytes → Bytes → Type 0
AfterInt s r = (t : Bytes) × Frac s t × Exp t r

abbrev pub From : Place → Bytes → Bytes → Type 0
From Place.sign s r = (t : Bytes) × Int s t × AfterInt t r
From Place.zeroed s r = AfterInt s r
From Place.whole s r = (t : Bytes) × Digits s t × AfterInt t r
From Place.point s r = (t : Bytes) × SomeDigits s t × Exp t r
From Place.fraction s r = (t : Bytes) × Digits s t × Exp t r
From Place.exponent s r = (t : Bytes) × Sign s t × SomeDigits t r
From Place.exp_sign s r = SomeDigits s r
From Place.exp_digits s r = Digits s r
From Place.stop s r = ⊥

pub data DigitView (c : ℕ) : Numerals.Digit → Type 0 where
  v_zero : c ≡ 48 → DigitView c Numerals.is_zero
  v_nonzero : between 49 57 c ≡ true → DigitView c Numerals.is_nonzero
  v_minus : c ≡ 45 → DigitView c Numerals.is_minus
  v_plus : c ≡ 43 → DigitView c Numerals.is_plus
  v_point : c ≡ 46 → DigitView c Numerals.is_point
  v_e : (c ≡ 69) ⊎ (c ≡ 101) → DigitView c Numerals.is_e
  v_other : DigitView c Numerals.is_other

pub digit_view : (c : ℕ) → DigitView c (digit c)
digit_view c = go (eqb c 48) (between 49 57 c) (eqb c 45) (eqb c 43) (eqb c 46) (eqb c 69) (eqb c 101) refl refl refl refl refl refl refl
  where
    go : (a b d f g h i : Bool) → eqb c 48 ≡ a → between 49 57 c ≡ b → eqb c 45 ≡ d → eqb c 43 ≡ f → eqb c 46 ≡ g → eqb c 69 ≡ h →
        eqb c 101 ≡ i → DigitView c (digit c)
    go true b d f g h i p1 p2 p3 p4 p5 p6 p7 = rw (p1, choose) (v_zero (eqb_true c 48 p1))
    go false true d f g h i p1 p2 p3 p4 p5 p6 p7 = rw (p1, p2, choose) (v_nonzero p2)
    go false false true f g h i p1 p2 p3 p4 p5 p6 p7 = rw (p1, p2, p3, choose) (v_minus (eqb_true c 45 p3))
    go false false false true g h i p1 p2 p3 p4 p5 p6 p7 = rw (p1, p2, p3, p4, choose) (v_plus (eqb_true c 43 p4))
    go false false false false true h i p1 p2 p3 p4 p5 p6 p7 = rw (p1, p2, p3, p4, p5, choose) (v_point (eqb_true c 46 p5))
    go false false false false false true i p1 p2 p3 p4 p5 p6 p7 = rw (p1, p2, p3, p4, p5, p6, choose) (v_e (inl (eqb_true c 69 p6)))
    go false false false false false false true p1 p2 p3 p4 p5 p6 p7 = rw (p1, p2, p3, p4, p5, p6, p7, choose) (v_e (inr (eqb_true c 101 p7)))
    go false false false false false false false p1 p2 p3 p4 p5 p6 p7 = rw (p1, p2, p3, p4, p5, p6, p7, choose) v_other

pub digit_of_zero : {c : ℕ} → c ≡ 48 → between 48 57 c ≡ true
digit_of_zero {c} e = rw e refl

digit_of_nonzero : (c : ℕ) → between 49 57 c ≡ true → between 48 57 c ≡ true
digit_of_nonzero c e = let p = between_in 49 57 c e in between_of 48 57 c (omega arith) p.1

pub from_step : (c : ℕ) (s r : Bytes) (p : Place) (k : Numerals.Digit) → DigitView c k → From (onward p k) s r → From p (c ∷ s) r
from_step c s r Place.sign k (v_zero e) h = (_, Int.zero e, h)
from_step c s r Place.sign k (v_nonzero e) h = (h.0, nonzero e h.1, h.2)
from_step c s r Place.sign k (v_minus e) h = absurd h
from_step c s r Place.sign k (v_plus e) h = absurd h
from_step c s r Place.sign k (v_point e) h = absurd h
from_step c s r Place.sign k (v_e e) h = absurd h
from_step c s r Place.sign k v_other h = absurd h
from_step c s r Place.zeroed k (v_zero e) h = absurd h
from_step c s r Place.zeroed k (v_nonzero e) h = absurd h
from_step c s r Place.zeroed k (v_minus e) h = absurd h
from_step c s r Place.zeroed k (v_plus e) h = absurd h
from_step c s r Place.zeroed k (v_point e) h = (h.0, frac e h.1, h.2)
from_step c s r Place.zeroed k (v_e e) h = (_, no_frac, exp e h.1 h.2)
from_step c s r Place.zeroed k v_other h = absurd h
from_step c s r Place.whole k (v_zero e) h = (h.0, one_digit (digit_of_zero e) h.1, h.2)
from_step c s r Place.whole k (v_nonzero e) h = (h.0, one_digit (digit_of_nonzero c e) h.1, h.2)
from_step c s r Place.whole k (v_minus e) h = absurd h
from_step c s r Place.whole k (v_plus e) h = absurd h
from_step c s r Place.whole k (v_point e) h = (_, no_digit, (h.0, frac e h.1, h.2))
from_step c s r Place.whole k (v_e e) h = (_, no_digit, (_, no_frac, exp e h.1 h.2))
from_step c s r Place.whole k v_other h = absurd h
from_step c s r Place.point k (v_zero e) h = (h.0, some_digits (digit_of_zero e) h.1, h.2)
from_step c s r Place.point k (v_nonzero e) h = (h.0, some_digits (digit_of_nonzero c e) h.1, h.2)
from_step c s r Place.point k (v_minus e) h = absurd h
from_step c s r Place.point k (v_plus e) h = absurd h
from_step c s r Place.point k (v_point e) h = absurd h
from_step c s r Place.point k (v_e e) h = absurd h
from_step c s r Place.point k v_other h = absurd h
from_step c s r Place.fraction k (v_zero e) h = (h.0, one_digit (digit_of_zero e) h.1, h.2)
from_step c s r Place.fraction k (v_nonzero e) h = (h.0, one_digit (digit_of_nonzero c e) h.1, h.2)
from_step c s r Place.fraction k (v_minus e) h = absurd h
from_step c s r Place.fraction k (v_plus e) h = absurd h
from_step c s r Place.fraction k (v_point e) h = absurd h
from_step c s r Place.fraction k (v_e e) h = (_, no_digit, exp e h.1 h.2)
from_step c s r Place.fraction k v_other h = absurd h
from_step c s r Place.exponent k (v_zero e) h = (_, no_sign, some_digits (digit_of_zero e) h)
from_step c s r Place.exponent k (v_nonzero e) h = (_, no_sign, some_digits (digit_of_nonzero c e) h)
from_step c s r Place.exponent k (v_minus e) h = (_, sign (inl e), h)
from_step c s r Place.exponent k (v_plus e) h = (_, sign (inr e), h)
from_step c s r Place.exponent k (v_point e) h = absurd h
from_step c s r Place.exponent k (v_e e) h = absurd h
from_step c s r Place.exponent k v_other h = absurd h
from_step c s r Place.exp_sign k (v_zero e) h = some_digits (digit_of_zero e) h
from_step c s r Place.exp_sign k (v_nonzero e) h = some_digits (digit_of_nonzero c e) h
from_step c s r Place.exp_sign k (v_minus e) h = absurd h
from_step c s r Place.exp_sign k (v_plus e) h = absurd h
from_step c s r Place.exp_sign k (v_point e) h = absurd h
from_step c s r Place.exp_sign k (v_e e) h = absurd h
from_step c s r Place.exp_sign k v_other h = absurd h
from_step c s r Place.exp_digits k (v_zero e) h = one_digit (digit_of_zero e) h
from_step c s r Place.exp_digits k (v_nonzero e) h = one_digit (digit_of_nonzero c e) h
from_step c s r Place.exp_digits k (v_minus e) h = absurd h
from_step c s r Place.exp_digits k (v_plus e) h = absurd h
from_step c s r Place.exp_digits k (v_point e) h = absurd h
from_step c s r Place.exp_digits k (v_e e) h = absurd h
from_step c s r Place.exp_digits k v_other h = absurd h
from_step c s r Place.stop k (v_zero e) h = absurd h
from_step c s r Place.stop k (v_nonzero e) h = absurd h
from_step c s r Place.stop k (v_minus e) h = absurd h
from_step c s r Place.stop k (v_plus e) h = absurd h
from_step c s r Place.stop k (v_point e) h = absurd h
from_step c s r Place.stop k (v_e e) h = absurd h
from_step c s r Place.stop k v_other h = absurd h

-- a place at which a number may end
pub from_end : (s : Bytes) (p : Place) → complete p ≡ true → From p s s
from_end s Place.sign e = absurd (false≢true e)
from_end s Place.zeroed e = (s, no_frac, no_exp)
from_end s Place.whole e = (s, no_digit, (s, no_frac, no_exp))
from_end s Place.point e = absurd (false≢true e)
from_end s Place.fraction e = (s, no_digit, no_exp)
from_end s Place.exponent e = absurd (false≢true e)
from_end s Place.exp_sign e = absurd (false≢true e)
from_end s Place.exp_digits e = no_digit
from_end s Place.stop e = absurd (false≢true e)

-- the characters of a number: its grammar, its text and its length
pub record NumberRead (p : Place) (left : ℕ) (s : Bytes) (x : Read Bytes) : Type 0 where
  pub spelled : From p s x.rest
  pub chars : s ≡ x.got ++ x.rest
  pub short : length x.got ≤ left

pub digits_sound : (p : Place) (left : ℕ) (s : Bytes) (x : Read Bytes) → digits p left s ≡ ok x → NumberRead p left s x
unfolding digits
digits_sound p left [] x e = go (complete p) refl
  where
    go : (b : Bool) → complete p ≡ b → NumberRead p left [] x
    go true q = subst (λ (y : Read Bytes). NumberRead p left [] y) (ok_injective (rw (q, digits) at e)) (record { spelled = from_end [] p q; chars = refl; short = omega arith })
    go false q = not_ok not_json (rw (q, digits) at e)
digits_sound p left (c ∷ s) x e = go (λ m y h. digits_sound (onward p (digit c)) m s y h) (is_stop (onward p (digit c))) refl
  where
    ended : (b : Bool) → complete p ≡ b → is_stop (onward p (digit c)) ≡ true → NumberRead p left (c ∷ s) x
    ended true q t =
        subst (λ (y : Read Bytes). NumberRead p left (c ∷ s) y) (ok_injective (rw (t, digits, q) at e))
        (record { spelled = from_end (c ∷ s) p q; chars = refl; short = omega arith })
    ended false q t = not_ok not_json (rw (t, digits, q) at e)

    more : ((m : ℕ) (y : Read Bytes) → digits (onward p (digit c)) m s ≡ ok y → NumberRead (onward p (digit c)) m s y) → (b : Bool) →
        eqb left 0 ≡ b → is_stop (onward p (digit c)) ≡ false → NumberRead p left (c ∷ s) x
    more below true q t = not_ok number_too_long (rw (t, digits, q) at e)
    more below false q t =
        bind_with (digits (onward p (digit c)) (left - 1) s) _ (rw (t, digits, q) at e) λ y f g.
        let k = below (left - 1) y f in
        subst (λ (z : Read Bytes). NumberRead p left (c ∷ s) z) (ok_injective g)
        (record {
          spelled = from_step c s y.rest p (digit c) (digit_view c) k.spelled;
          chars = ap {B = Bytes} (λ z. c ∷ z) k.chars;
          short = omega (arith, k.short, eqb_no left 0 q);
        })

    go : ((m : ℕ) (y : Read Bytes) → digits (onward p (digit c)) m s ≡ ok y → NumberRead (onward p (digit c)) m s y) → (b : Bool) →
        is_stop (onward p (digit c)) ≡ b → NumberRead p left (c ∷ s) x
    go below true t = ended (complete p) refl t
    go below false t = more below (eqb left 0) refl t

-- a number from its first byte on
pub data FirstView (c : ℕ) : Place → Type 0 where
  first_minus : c ≡ 45 → FirstView c Place.sign
  first_zero : c ≡ 48 → FirstView c Place.zeroed
  first_nonzero : between 49 57 c ≡ true → FirstView c Place.whole
  first_none : FirstView c Place.stop

pub first_view : (c : ℕ) → FirstView c (Numerals.first c)
first_view c = go (eqb c 45) (eqb c 48) (between 49 57 c) refl refl refl
  where
    go : (a b d : Bool) → eqb c 45 ≡ a → eqb c 48 ≡ b → between 49 57 c ≡ d → FirstView c (Numerals.first c)
    go true b d p q r = rw (p, choose) (first_minus (eqb_true c 45 p))
    go false true d p q r = rw (p, q, choose) (first_zero (eqb_true c 48 q))
    go false false true p q r = rw (p, q, r, choose) (first_nonzero r)
    go false false false p q r = rw (p, q, r, choose) first_none

pub number_of : (c : ℕ) (s r : Bytes) (p : Place) → FirstView c p → From p s r → Number (c ∷ s) r
number_of c s r p (first_minus e) h = record { after_minus = s; after_int = h.0; after_frac = h.2.0; has_minus = minus e; has_int = h.1; has_frac = h.2.1; has_exp = h.2.2 }
number_of c s r p (first_zero e) h = record { after_minus = c ∷ s; after_int = s; after_frac = h.0; has_minus = no_minus; has_int = Int.zero e; has_frac = h.1; has_exp = h.2 }
number_of c s r p (first_nonzero e) h =
    record {
      after_minus = c ∷ s;
      after_int = h.0;
      after_frac = h.2.0;
      has_minus = no_minus;
      has_int = nonzero e h.1;
      has_frac = h.2.1;
      has_exp = h.2.2;
    }
number_of c s r p first_none h = absurd h

-- how a value begins
pub data StartView (c : ℕ) : Reader.Start → Type 0 where
  text_start : c ≡ 34 → StartView c Reader.start_text
  number_start : (c ≡ 45) ⊎ (between 48 57 c ≡ true) → StartView c Reader.start_number
  array_start : c ≡ 91 → StartView c Reader.start_array
  object_start : c ≡ 123 → StartView c Reader.start_object
  null_start : c ≡ 110 → StartView c Reader.start_null
  true_start : c ≡ 116 → StartView c Reader.start_true
  false_start : c ≡ 102 → StartView c Reader.start_false
  no_start : StartView c Reader.start_nothing

pub start_view : (c : ℕ) → StartView c (Reader.start c)
start_view c = go (eqb c 34) (eqb c 45) (between 48 57 c) (eqb c 91) (eqb c 123) (eqb c 110) (eqb c 116) (eqb c 102) refl refl refl refl refl refl refl refl
  where
    go : (a b d f g h i j : Bool) → eqb c 34 ≡ a → eqb c 45 ≡ b → between 48 57 c ≡ d → eqb c 91 ≡ f → eqb c 123 ≡ g → eqb c 110 ≡ h →
        eqb c 116 ≡ i → eqb c 102 ≡ j → StartView c (Reader.start c)
    go true b d f g h i j p1 p2 p3 p4 p5 p6 p7 p8 = rw (p1, choose) (text_start (eqb_true c 34 p1))
    go false true d f g h i j p1 p2 p3 p4 p5 p6 p7 p8 = rw (p1, p2, choose) (number_start (inl (eqb_true c 45 p2)))
    go false false true f g h i j p1 p2 p3 p4 p5 p6 p7 p8 = rw (p1, p2, p3, choose) (number_start (inr p3))
    go false false false true g h i j p1 p2 p3 p4 p5 p6 p7 p8 = rw (p1, p2, p3, p4, choose) (array_start (eqb_true c 91 p4))
    go false false false false true h i j p1 p2 p3 p4 p5 p6 p7 p8 = rw (p1, p2, p3, p4, p5, choose) (object_start (eqb_true c 123 p5))
    go false false false false false true i j p1 p2 p3 p4 p5 p6 p7 p8 = rw (p1, p2, p3, p4, p5, p6, choose) (null_start (eqb_true c 110 p6))
    go false false false false false false true j p1 p2 p3 p4 p5 p6 p7 p8 = rw (p1, p2, p3, p4, p5, p6, p7, choose) (true_start (eqb_true c 116 p7))
    go false false false false false false false true p1 p2 p3 p4 p5 p6 p7 p8 = rw (p1, p2, p3, p4, p5, p6, p7, p8, choose) (false_start (eqb_true c 102 p8))
    go false false false false false false false false p1 p2 p3 p4 p5 p6 p7 p8 = rw (p1, p2, p3, p4, p5, p6, p7, p8, choose) no_start

-- a node more
pub one_node_sound : (n m : ℕ) → Reader.one_node n ≡ ok m → (m ≡ n + 1) × (m ≤ Limits.max_nodes)
unfolding Reader.one_node
one_node_sound n m e = go (ltb n Limits.max_nodes) refl
  where
    go : (b : Bool) → ltb n Limits.max_nodes ≡ b → (m ≡ n + 1) × (m ≤ Limits.max_nodes)
    go true q = let z = ok_injective (rw (q, Reader.one_node) at e) in (sym z, omega (arith, z, leb_le {m = suc n} {n = Limits.max_nodes} q))
    go false q = not_ok too_many_nodes (rw (q, Reader.one_node) at e)

-- what is known of a value that was read, where so many brackets may be open at once
pub record ValueRead (left n : ℕ) (s : Bytes) (p : Parsed Value) : Type 0 where
  pub to : Bytes
  pub spelled : Spells p.tree s to
  pub spaces : Ws to p.rest
  pub counted : p.count ≡ n + nodes p.tree
  pub most : p.count ≤ Limits.max_nodes
  pub deep : depth p.tree ≤ left
  pub is_tidy : tidy Limits.max_number p.tree ≡ true

-- a scalar: one node, no bracket
scalar_read : (left n m : ℕ) (s to rest : Bytes) (v : Value) → (m ≡ n + 1) × (m ≤ Limits.max_nodes) → nodes v ≡ 1 → depth v ≡ 0 →
    tidy Limits.max_number v ≡ true → Spells v s to → Ws to rest → ValueRead left n s (record { tree = v; rest = rest; count = m })
scalar_read left n m s to rest v c nv dv t sp w =
    record {
      to = to;
      spelled = sp;
      spaces = w;
      counted = c.0 ∙ ap (λ (k : ℕ). n + k) (sym nv);
      most = c.1;
      deep = omega (arith, dv);
      is_tidy = t;
    }

-- what follows a value in brackets
pub data NextView (end : ℕ) (s : Bytes) : Reader.Next → Type 0 where
  goes_on : {t : Bytes} → s ≡ 44 ∷ t → NextView end s (Reader.more t)
  ends : {t : Bytes} → s ≡ end ∷ t → NextView end s (Reader.closed t)
  fails : NextView end s Reader.neither

pub next_view : (end : ℕ) (s : Bytes) → NextView end s (Reader.next end s)
next_view end [] = fails
next_view end (c ∷ s) = go (eqb c 44) (eqb c end) refl refl
  where
    go : (a b : Bool) → eqb c 44 ≡ a → eqb c end ≡ b → NextView end (c ∷ s) (Reader.next end (c ∷ s))
    go true b p q = rw (p, choose) (goes_on (ap (λ (x : ℕ). x ∷ s) (eqb_true c 44 p)))
    go false true p q = rw (p, q, choose) (ends (ap (λ (x : ℕ). x ∷ s) (eqb_true c end q)))
    go false false p q = rw (p, q, choose) fails

closed_sound : (end : ℕ) (s t : Bytes) → Reader.is_closed end s ≡ Some t → s ≡ end ∷ t
closed_sound end [] t e = let z : ◌≡◌ {A = Bool} true false = cc in absurd (true≢false z)
closed_sound end (c ∷ s) t e = go (eqb c end) refl
  where
    go : (b : Bool) → eqb c end ≡ b → c ∷ s ≡ end ∷ t
    go true q = cc (eqb_true c end q, rw (q, Reader.is_closed) at e)
    go false q = let f = rw (q, Reader.is_closed) at e in let z : ◌≡◌ {A = Bool} true false = cc in absurd (true≢false z)

pub ws_at : {s r r' : Bytes} → r ≡ r' → Ws s r → Ws s r'
ws_at {s} e w = subst (λ (y : Bytes). Ws s y) e w

-- a structural byte that stands behind a value, and the spaces after it
pub structural_at : {c : ℕ} {s u t : Bytes} → Ws s u → u ≡ c ∷ t → Structural c s (skip t)
structural_at {t} w e = structural (ws_at e w) (skip_ws t)

pub data SomeElements : Values → Bytes → Bytes → Type 0 where
  some_elements : {v : Value} {vs : Values} {s t r : Bytes} → Spells v s t → MoreElements vs t r → SomeElements (cons v vs) s r

pub comma_elements : {vs : Values} {s t r : Bytes} → Structural 44 s t → SomeElements vs t r → MoreElements vs s r
comma_elements c (some_elements p q) = Grammar.next_element c p q

pub data SomeMembers : Members → Bytes → Bytes → Type 0 where
  some_members : {k : Bytes} {v : Value} {ms : Members} {s t u w r : Bytes} → Grammar.String k s t → Structural 58 t u → Spells v u w →
      MoreMembers ms w r → SomeMembers (member k v ms) s r

pub comma_members : {ms : Members} {s t r : Bytes} → Structural 44 s t → SomeMembers ms t r → MoreMembers ms s r
comma_members c (some_members k d v q) = Grammar.next_member c k d v q

pub some_elements_lem : {vs : Values} {s r : Bytes} → SomeElements vs s r → Elements vs s r
some_elements_lem (some_elements p q) = Grammar.elements p q

pub some_members_lem : {ms : Members} {s r : Bytes} → SomeMembers ms s r → MembersOf ms s r
some_members_lem (some_members k d v q) = Grammar.members k d v q

pub record ItemsRead (left n : ℕ) (s : Bytes) (p : Parsed Values) : Type 0 where
  pub to : Bytes
  pub spelled : SomeElements p.tree s to
  pub closing : Structural 93 to p.rest
  pub counted : p.count ≡ n + nodes_in p.tree
  pub most : p.count ≤ Limits.max_nodes
  pub deep : depth_in p.tree ≤ left
  pub is_tidy : tidy_in Limits.max_number p.tree ≡ true

pub record FieldsRead (left n : ℕ) (names : List Bytes) (s : Bytes) (p : Parsed Members) : Type 0 where
  pub to : Bytes
  pub spelled : SomeMembers p.tree s to
  pub closing : Structural 125 to p.rest
  pub counted : p.count ≡ n + nodes_of p.tree
  pub most : p.count ≤ Limits.max_nodes
  pub deep : depth_of p.tree ≤ left
  pub is_tidy : tidy_of Limits.max_number p.tree ≡ true
  pub fresh : (k : Bytes) → is_one_of k names ≡ true → is_one_of k (keys p.tree) ≡ false

abbrev pub ParserSound : ℕ → Reader.Parser Value → Type 0
ParserSound left val = (n : ℕ) (s : Bytes) (p : Parsed Value) → val n s ≡ ok p → ValueRead left n s p

items_sound : (left : ℕ) (val : Reader.Parser Value) → ParserSound left val → (f n : ℕ) (s : Bytes) (p : Parsed Values) → Reader.items val f n s ≡ ok p → ItemsRead left n s p
unfolding Reader.items nodes depth tidy
items_sound left val vsound zero n s p e = not_ok not_json e
items_sound left val vsound (suc f) n s p e =
    bind_with (val n s) _ e λ v g h. go (λ m t q i. items_sound left val vsound f m t q i) v (vsound n s v g) (Reader.next 93 v.rest) (next_view 93 v.rest) refl h
  where
    Below : Type 0
    Below = (m : ℕ) (t : Bytes) (q : Parsed Values) → Reader.items val f m t ≡ ok q → ItemsRead left m t q

    After : Parsed Value → Reader.Next → Result (Parsed Values)
    After v k =
        elim
        k [
          | Reader.more t ↦
              (Reader.items val f v.count (skip t) >>= λ vs. ok (record { tree = cons v.tree vs.tree; rest = vs.rest; count = vs.count }))
          | Reader.closed t ↦
              ok (record { tree = cons v.tree nil; rest = skip t; count = v.count })
          | Reader.neither ↦
              refused not_json
        ]

    go : Below → (v : Parsed Value) → ValueRead left n s v → (k : Reader.Next) → NextView 93 v.rest k → Reader.next 93 v.rest ≡ k →
        After v (Reader.next 93 v.rest) ≡ ok p → ItemsRead left n s p
    go below v r k (goes_on {t} q) i g =
        bind_with (Reader.items val f v.count (skip t)) _ (rw i at g) λ vs h j.
        let l = below v.count (skip t) vs h in
        subst
        (λ (x : Parsed Values). ItemsRead left n s x)
        (ok_injective j)
        (record {
          to = l.to;
          spelled = some_elements r.spelled (comma_elements (structural_at r.spaces q) l.spelled);
          closing = l.closing;
          counted = omega (arith, l.counted, r.counted);
          most = l.most;
          deep = omega (arith, l.deep, r.deep);
          is_tidy = cc (r.is_tidy, l.is_tidy);
        })
    go below v r k (ends {t} q) i g =
        subst
        (λ (x : Parsed Values). ItemsRead left n s x)
        (ok_injective (rw i at g))
        (record {
          to = r.to;
          spelled = some_elements r.spelled Grammar.last_element;
          closing = structural_at r.spaces q;
          counted = omega (arith, r.counted);
          most = r.most;
          deep = omega (arith, r.deep);
          is_tidy = cc r.is_tidy;
        })
    go below v r k fails i g = not_ok not_json (rw i at g)

pub new_name_sound : (k : Bytes) (names : List Bytes) (s r : Bytes) → Reader.new_name k names s ≡ ok r → (is_one_of k names ≡ false) × (r ≡ s)
unfolding Reader.new_name
new_name_sound k names s r e = go (is_one_of k names) refl
  where
    go : (b : Bool) → is_one_of k names ≡ b → (is_one_of k names ≡ false) × (r ≡ s)
    go true q = not_ok repeated_name (rw (q, Reader.new_name) at e)
    go false q = (q, sym (ok_injective (rw (q, Reader.new_name) at e)))

-- a name that stands in front is one of the names, and no other becomes one
pub one_here : (k : Bytes) (ks : List Bytes) → is_one_of k (k ∷ ks) ≡ true
unfolding is_one_of
one_here k ks = rw (same_bytes_refl k, is_one_of) refl

pub one_there : (k l : Bytes) (ks : List Bytes) → is_one_of k ks ≡ true → is_one_of k (l ∷ ks) ≡ true
unfolding is_one_of
one_there k l ks e = go (same_bytes k l) refl
  where
    go : (b : Bool) → same_bytes k l ≡ b → is_one_of k (l ∷ ks) ≡ true
    go true q = rw (q, is_one_of) refl
    go false q = rw (q, is_one_of) e

none_there : (k l : Bytes) (ks names : List Bytes) → is_one_of l names ≡ false → is_one_of k names ≡ true → is_one_of k ks ≡ false → is_one_of k (l ∷ ks) ≡ false
unfolding is_one_of
none_there k l ks names p q r = go (same_bytes k l) refl
  where
    go : (b : Bool) → same_bytes k l ≡ b → is_one_of k (l ∷ ks) ≡ false
    go true e = absurd (true≢false (sym q ∙ subst (λ (x : Bytes). is_one_of x names ≡ false) (sym (same_bytes_true k l e)) p))
    go false e = rw (e, is_one_of) r

fields_sound :
    (left : ℕ) (val : Reader.Parser Value) → ParserSound left val → (f : ℕ) (names : List Bytes) (n : ℕ) (s : Bytes) (p : Parsed Members) →
    Reader.fields val f names n s ≡ ok p → FieldsRead left n names s p
unfolding Reader.fields nodes depth tidy
fields_sound left val vsound zero names n s p e = not_ok not_json e
fields_sound left val vsound (suc f) names n s p e =
    bind_with (expect 34 s) _ e λ t f1 e1.
    bind_with (Reader.one_node n) _ e1 λ m f2 e2.
    bind_with (chars (length t) t) _ e2 λ k f3 e3.
    bind_with (Reader.new_name k.got names k.rest) _ e3 λ r f4 e4.
    bind_with (expect 58 (skip r)) _ e4 λ u f5 e5.
    bind_with (val m (skip u)) _ e5 λ v f6 e6.
    named (λ ns j o q i. fields_sound left val vsound f ns j o q i) t m k r u v f1 (one_node_sound n m f2)
    (chars_sound (length t) t k f3) (new_name_sound k.got names k.rest r f4) (expect_sound 58 (skip r) u f5)
    (vsound m (skip u) v f6) (Reader.next 125 v.rest) (next_view 125 v.rest) refl e6
  where
    Below : Type 0
    Below = (ns : List Bytes) (j : ℕ) (o : Bytes) (q : Parsed Members) → Reader.fields val f ns j o ≡ ok q → FieldsRead left j ns o q

    After : Parsed Value → Bytes → Reader.Next → Result (Parsed Members)
    After v k x =
        elim
        x [
          | Reader.more w ↦
              (Reader.fields val f (k ∷ names) v.count (skip w) >>= λ ms. ok (record { tree = member k v.tree ms.tree; rest = ms.rest; count = ms.count }))
          | Reader.closed w ↦
              ok (record { tree = member k v.tree empty; rest = skip w; count = v.count })
          | Reader.neither ↦
              refused not_json
        ]

    named : Below → (t : Bytes) (m : ℕ) (k : Read Bytes) (r u : Bytes) (v : Parsed Value) → expect 34 s ≡ ok t →
        (m ≡ n + 1) × (m ≤ Limits.max_nodes) → Chars k.got t k.rest → (is_one_of k.got names ≡ false) × (r ≡ k.rest) →
        skip r ≡ 58 ∷ u → ValueRead left m (skip u) v → (x : Reader.Next) → NextView 125 v.rest x → Reader.next 125 v.rest ≡ x →
        After v k.got (Reader.next 125 v.rest) ≡ ok p → FieldsRead left n names s p
    named below t m k r u v f1 c2 c3 c4 f5 y x w i g = go x w i g
      where
        name : Grammar.String k.got s k.rest
        name = subst (λ (z : Bytes). Grammar.String k.got z k.rest) (sym (expect_sound 34 s t f1)) (Grammar.string refl c3)

        colon : Structural 58 k.rest (skip u)
        colon = structural_at (subst (λ (z : Bytes). Ws z (skip r)) c4.1 (skip_ws r)) f5

        go : (x : Reader.Next) → NextView 125 v.rest x → Reader.next 125 v.rest ≡ x → After v k.got (Reader.next 125 v.rest) ≡ ok p → FieldsRead left n names s p
        go x (goes_on {t = z} q) i g =
            bind_with (Reader.fields val f (k.got ∷ names) v.count (skip z)) _ (rw i at g) λ ms h j.
            let l = below (k.got ∷ names) v.count (skip z) ms h in
            subst
            (λ (x : Parsed Members). FieldsRead left n names s x)
            (ok_injective j)
            (record {
              to = l.to;
              spelled = some_members name colon y.spelled (comma_members (structural_at y.spaces q) l.spelled);
              closing = l.closing;
              counted = omega (arith, l.counted, y.counted, c2.0);
              most = l.most;
              deep = omega (arith, l.deep, y.deep);
              is_tidy = cc (l.fresh k.got (one_here k.got names), y.is_tidy, l.is_tidy);
              fresh = λ o d. none_there o k.got (keys ms.tree) names c4.0 d (l.fresh o (one_there o k.got names d));
            })
        go x (ends {t = z} q) i g =
            subst
            (λ (x : Parsed Members). FieldsRead left n names s x)
            (ok_injective (rw i at g))
            (record {
              to = y.to;
              spelled = some_members name colon y.spelled Grammar.last_member;
              closing = structural_at y.spaces q;
              counted = omega (arith, y.counted, c2.0);
              most = y.most;
              deep = omega (arith, y.deep);
              is_tidy = cc y.is_tidy;
              fresh = λ o d. none_there o k.got [] names c4.0 d refl;
            })
        go x fails i g = not_ok not_json (rw i at g)

literal_sound : (w : Bytes) (v : Value) (m : ℕ) (s : Bytes) (p : Parsed Value) → Reader.literal w v m s ≡ ok p →
    (t : Bytes) × (s ≡ w ++ t) × (record { tree = v; rest = skip t; count = m } ≡ p)
literal_sound w v m s p e = bind_with (word w s) _ e λ t f g. (t, word_sound w s t f, ok_injective g)

-- behind an opening bracket
abbrev BracketSound : ℕ → ℕ → Reader.Parser Value → Type 0
BracketSound byte left arr = (n : ℕ) (c : ℕ) (s : Bytes) (p : Parsed Value) → c ≡ byte → arr n s ≡ ok p → ValueRead left n (c ∷ s) p

array_sound : (left : ℕ) (val : Reader.Parser Value) → ParserSound left val → BracketSound 91 (suc left) (Reader.array_rest val)
unfolding Reader.array_rest nodes depth tidy
array_sound left val vsound n c s p q e = bind_with (Reader.one_node n) _ e λ m f g. by m (one_node_sound n m f) (Reader.is_closed 93 (skip s)) refl g
  where
    opening : Structural 91 (c ∷ s) (skip s)
    opening = structural (ws_at (ap (λ (x : ℕ). x ∷ s) q) no_space) (skip_ws s)

    read : {x : Parsed Value} → x ≡ p → ValueRead (suc left) n (c ∷ s) x → ValueRead (suc left) n (c ∷ s) p
    read i r = subst (λ (y : Parsed Value). ValueRead (suc left) n (c ∷ s) y) i r

    by : (m : ℕ) → (m ≡ n + 1) ×
        (m ≤ Limits.max_nodes) → (o : Option Bytes) → Reader.is_closed 93 (skip s) ≡
        o →
        (elim o [
          | Some t ↦ ok (record { tree = array nil; rest = skip t; count = m })
          | None ↦
              (Reader.items val (length s) m (skip s) >>= λ vs. ok
              (record { tree = array vs.tree; rest = vs.rest; count = vs.count }))
        ]) ≡ ok p → ValueRead (suc left) n (c ∷ s) p
    by m b (Some t) i g =
        read (ok_injective g)
        (record {
          to = skip t;
          spelled = Spells.is_array opening Grammar.no_element (structural_at no_space (closed_sound 93 (skip s) t i));
          spaces = no_space;
          counted = omega (arith, b.0);
          most = b.1;
          deep = omega arith;
          is_tidy = refl;
        })
    by m b None i g =
        bind_with (Reader.items val (length s) m (skip s)) _ g λ vs f j.
        let l = items_sound left val vsound (length s) m (skip s) vs f in
        read (ok_injective j)
        (record {
          to = vs.rest;
          spelled = Spells.is_array opening (some_elements_lem l.spelled) l.closing;
          spaces = no_space;
          counted = omega (arith, b.0, l.counted);
          most = l.most;
          deep = omega (arith, l.deep);
          is_tidy = l.is_tidy;
        })

object_sound : (left : ℕ) (val : Reader.Parser Value) → ParserSound left val → BracketSound 123 (suc left) (Reader.object_rest val)
unfolding Reader.object_rest nodes depth tidy
object_sound left val vsound n c s p q e = bind_with (Reader.one_node n) _ e λ m f g. by m (one_node_sound n m f) (Reader.is_closed 125 (skip s)) refl g
  where
    opening : Structural 123 (c ∷ s) (skip s)
    opening = structural (ws_at (ap (λ (x : ℕ). x ∷ s) q) no_space) (skip_ws s)

    read : {x : Parsed Value} → x ≡ p → ValueRead (suc left) n (c ∷ s) x → ValueRead (suc left) n (c ∷ s) p
    read i r = subst (λ (y : Parsed Value). ValueRead (suc left) n (c ∷ s) y) i r

    by : (m : ℕ) → (m ≡ n + 1) ×
        (m ≤ Limits.max_nodes) → (o : Option Bytes) → Reader.is_closed 125 (skip s) ≡
        o →
        (elim o [
          | Some t ↦ ok (record { tree = object empty; rest = skip t; count = m })
          | None ↦
              (Reader.fields val (length s) [] m (skip s) >>= λ ms. ok
              (record { tree = object ms.tree; rest = ms.rest; count = ms.count }))
        ]) ≡ ok p → ValueRead (suc left) n (c ∷ s) p
    by m b (Some t) i g =
        read (ok_injective g)
        (record {
          to = skip t;
          spelled = Spells.is_object opening Grammar.no_member (structural_at no_space (closed_sound 125 (skip s) t i));
          spaces = no_space;
          counted = omega (arith, b.0);
          most = b.1;
          deep = omega arith;
          is_tidy = refl;
        })
    by m b None i g =
        bind_with (Reader.fields val (length s) [] m (skip s)) _ g λ ms f j.
        let l = fields_sound left val vsound (length s) [] m (skip s) ms f in
        read (ok_injective j)
        (record {
          to = ms.rest;
          spelled = Spells.is_object opening (some_members_lem l.spelled) l.closing;
          spaces = no_space;
          counted = omega (arith, b.0, l.counted);
          most = l.most;
          deep = omega (arith, l.deep);
          is_tidy = l.is_tidy;
        })

with_sound : (left : ℕ) (arr obj : Reader.Parser Value) → BracketSound 91 left arr → BracketSound 123 left obj → ParserSound left (Reader.value_with arr obj)
unfolding Reader.value_with nodes depth tidy
with_sound left arr obj asound osound n [] p e = not_ok not_json e
with_sound left arr obj asound osound n (c ∷ s) p e = go (Reader.start c) (start_view c) refl
  where
    read : {q : Parsed Value} → q ≡ p → ValueRead left n (c ∷ s) q → ValueRead left n (c ∷ s) p
    read i r = subst (λ (x : Parsed Value). ValueRead left n (c ∷ s) x) i r

    literally : (w : Bytes) (v : Value) → ((t : Bytes) → c ∷ s ≡ w ++ t → Spells v (c ∷ s) t) → nodes v ≡ 1 → depth v ≡ 0 →
        tidy Limits.max_number v ≡ true → (m : ℕ) → (m ≡ n + 1) × (m ≤ Limits.max_nodes) → Reader.literal w v m (c ∷ s) ≡ ok p →
        ValueRead left n (c ∷ s) p
    literally w v make nv dv tv m b g =
        let l = literal_sound w v m (c ∷ s) p g in
        read l.2 (scalar_read left n m (c ∷ s) l.0 (skip l.0) v b nv dv tv (make l.0 l.1) (skip_ws l.0))

    go : (k : Reader.Start) → StartView c k → Reader.start c ≡ k → ValueRead left n (c ∷ s) p
    go k (null_start q) i =
        bind_with (Reader.one_node n) _ (rw (i, Reader.value_with) at e) λ m f g. literally (ascii "null") null (λ t x. Spells.is_null x) refl
        refl refl m (one_node_sound n m f) g
    go k (true_start q) i =
        bind_with (Reader.one_node n) _ (rw (i, Reader.value_with) at e) λ m f g. literally (ascii "true") (bool true)
        (λ t x. Spells.is_true x) refl refl refl m (one_node_sound n m f) g
    go k (false_start q) i =
        bind_with (Reader.one_node n) _ (rw (i, Reader.value_with) at e) λ m f g. literally (ascii "false") (bool false)
        (λ t x. Spells.is_false x) refl refl refl m (one_node_sound n m f) g
    go k (text_start q) i =
        bind_with (Reader.one_node n) _ (rw (i, Reader.value_with) at e) λ m f g.
        bind_with (chars (length s) s) _ g λ t f2 g2.
        read (ok_injective g2)
        (scalar_read left n m (c ∷ s) t.rest (skip t.rest) (text t.got) (one_node_sound n m f) refl refl refl
        (Spells.is_text (Grammar.string q (chars_sound (length s) s t f2))) (skip_ws t.rest))
    go k (number_start q) i =
        bind_with (Reader.one_node n) _ (rw (i, Reader.value_with) at e) λ m f g.
        bind_with (digits (Numerals.first c) (Limits.max_number - 1) s) _ g λ t f2 g2.
        let d = digits_sound (Numerals.first c) (Limits.max_number - 1) s t f2 in
        read (ok_injective g2)
        (scalar_read left n m (c ∷ s) t.rest (skip t.rest) (number (c ∷ t.got)) (one_node_sound n m f) refl refl
        (leb_true (suc (length t.got)) 255 (omega (arith, d.short)))
        (Spells.is_number (number_of c s t.rest (Numerals.first c) (first_view c) d.spelled)
        (ap {B = Bytes} (λ x. c ∷ x) d.chars)) (skip_ws t.rest))
    go k (array_start q) i = asound n c s p q (rw (i, Reader.value_with) at e)
    go k (object_start q) i = osound n c s p q (rw (i, Reader.value_with) at e)
    go k no_start i = not_ok not_json (rw (i, Reader.value_with) at e)

pub value_sound : (left : ℕ) → ParserSound left (Reader.value left)
unfolding Reader.value
value_sound zero = with_sound 0 Reader.no_bracket Reader.no_bracket (λ n c s p q e. not_ok _ e) (λ n c s p q e. not_ok _ e)
value_sound (suc left) =
    with_sound (suc left) (Reader.array_rest (Reader.value left)) (Reader.object_rest (Reader.value left))
    (array_sound left (Reader.value left) (value_sound left)) (object_sound left (Reader.value left) (value_sound left))

-- what is read as a tree is a text of RFC 8259 within the limits
pub json_sound : (s : Bytes) (v : Value) → Reader.json s ≡ ok v → Within v s
unfolding Reader.json Reader.whole_text nodes
json_sound s v e = long (leb (length s) Limits.max_bytes) refl
  where
    whole : (p : Parsed Value) → ValueRead Limits.max_depth 0 (skip s) p → Reader.whole_text p ≡ ok v → length s ≤ Limits.max_bytes →
        Utf8.utf8 Utf8.scalar s ≡ true → Within v s
    whole p r f l u = ends p.rest refl
      where
        ends : (t : Bytes) → p.rest ≡ t → Within v s
        ends [] q =
            subst
            (λ (x : Value). Within x s)
            (ok_injective (rw (q, Reader.whole_text) at f))
            (record {
              bytes = l;
              is_utf8 = u;
              is_json = record { from = skip s; to = r.to; before = skip_ws s; spelled = r.spelled; behind = ws_at q r.spaces };
              brackets = r.deep;
              count = omega (arith, r.counted, r.most);
              is_tidy = r.is_tidy;
            })
        ends (c ∷ t) q = not_ok not_json (rw (q, Reader.whole_text) at f)

    read : length s ≤ Limits.max_bytes → Utf8.utf8 Utf8.scalar s ≡ true → (Reader.value Limits.max_depth 0 (skip s) >>= Reader.whole_text) ≡ ok v → Within v s
    read l u f = bind_with (Reader.value Limits.max_depth 0 (skip s)) Reader.whole_text f λ p g i. whole p (value_sound Limits.max_depth 0 (skip s) p g) i l u

    decoded : (b : Bool) → Utf8.utf8 Utf8.scalar s ≡ b → leb (length s) Limits.max_bytes ≡ true → Within v s
    decoded true q l = read (leb_le l) q (rw (l, Reader.json, q) at e)
    decoded false q l = not_ok Refusal.not_utf8 (rw (l, Reader.json, q) at e)

    long : (b : Bool) → leb (length s) Limits.max_bytes ≡ b → Within v s
    long true l = decoded (Utf8.utf8 Utf8.scalar s) refl l
    long false l = not_ok Refusal.too_long (rw (l, Reader.json) at e)
