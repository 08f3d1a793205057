-- `encode` is UTF-8: a text is UTF-8 exactly where it is the encoding of scalar values, which are then those that it decodes to.
-- Assumes nothing.
use mathlib.Core.Bool.{Bool, false, false≢true, not, true}
use mathlib.Core.List.{List, append-nil, [], ◌++◌, ◌∷◌}
use mathlib.Core.Logic.{◌↔◌, ◌≢◌}
use mathlib.Core.Path.{ap, refl, subst, sym, ◌∙◌, ◌≡◌}
use Prim.Native.Nat.{suc, zero, ℕ, ◌%◌, ◌*◌, ◌+◌, ◌-◌, ◌/◌, ◌<◌, ◌≤◌}
use native.Mathlib.Omega.{arith}
use lib.Dec.{eqb, leb, ltb}
use lib.ListN.{length, length-append}
use Rattle.json_text.proofs.Cursor.{encode_1, encode_2, encode_3, encode_4}
use Rattle.json_text.proofs.Laws.{both_true, eqb_no, eqb_true, leb_true}
use Rattle.json_text.proofs.Sound.{between_in, between_not, between_of, between_out, leb_le, leb_lt}
use Rattle.json_text.specs.Bytes.{Bytes, between, choose}
use Rattle.json_text.specs.Cursor.{tails}
use Rattle.json_text.specs.Utf8.{Expect, after, are_scalars, encode, encode_all, is_scalar, lead, lead_bits, never, scalar, scalars, scalars_from, tail, utf8}
use borrow.Author.Tests.{le-ltb, lt-ltb, ne_eqb}

-- ---- what a first byte leads to, and the bits it has
lead_1 : (c : ℕ) → c < 128 → lead c ≡ scalar
lead_1 c h = rw (lt-ltb c 128 h, choose)

lead_2 : (c : ℕ) → 194 ≤ c → c ≤ 223 → lead c ≡ tail 128 191 0
lead_2 c h k = let a : 128 ≤ c = omega arith in rw (le-ltb c 128 a, between_of 194 223 c h k, choose)

lead_3 : (c : ℕ) → 225 ≤ c → c ≢ 237 → c ≤ 239 → lead c ≡ tail 128 191 1
lead_3 c h q k =
    let a : 128 ≤ c = omega arith in rw (
      le-ltb c 128 a,
      between_out 194 223 c (λ i j. omega arith),
      ne_eqb c 224 (λ e. omega arith),
      ne_eqb c 237 q,
      between_of 225 239 c h
          k,
      choose,
    )

lead_4 : (c : ℕ) → 241 ≤ c → c ≤ 243 → lead c ≡ tail 128 191 2
lead_4 c h k =
    let a : 128 ≤ c = omega arith in
    rw (
      le-ltb c 128 a,
      between_out 194 223 c (λ i j. omega arith),
      ne_eqb c 224 (λ e. omega arith),
      ne_eqb c 237 (λ e. omega arith),
      between_out 225 239 c (λ i j. omega arith),
      ne_eqb c 240 (λ e. omega arith),
      between_of 241 243 c h k,
      choose,
    )

bits_1 : (c : ℕ) → c < 128 → lead_bits c ≡ c
bits_1 c h = rw (lt-ltb c 128 h, choose)

bits_2 : (c : ℕ) → 128 ≤ c → c < 224 → lead_bits c ≡ c - 192
bits_2 c h k = rw (le-ltb c 128 h, lt-ltb c 224 k, choose)

bits_3 : (c : ℕ) → 224 ≤ c → c < 240 → lead_bits c ≡ c - 224
bits_3 c h k = let a : 128 ≤ c = omega arith in rw (le-ltb c 128 a, le-ltb c 224 h, lt-ltb c 240 k, choose)

bits_4 : (c : ℕ) → 240 ≤ c → lead_bits c ≡ c - 240
bits_4 c h = let a : 128 ≤ c = omega arith in let b : 224 ≤ c = omega arith in rw (le-ltb c 128 a, le-ltb c 224 b, le-ltb c 240 h, choose)

-- ---- a scalar value, encoded and read back
pub record Scalar (u : ℕ) : Type 0 where
  pub most : u ≤ 1114111
  pub plain : between 55296 57343 u ≡ false

not_true : (b : Bool) → not b ≡ true → b ≡ false
not_true true e = absurd (false≢true e)
not_true false e = refl

pub is_scalar_lem : (u : ℕ) → is_scalar u ≡ true → Scalar u
is_scalar_lem u h = let b = both_true (leb u 1114111) (not (between 55296 57343 u)) h in record { most = leb_le b.0; plain = not_true (between 55296 57343 u) b.1 }

pub scalar_is : (u : ℕ) → Scalar u → is_scalar u ≡ true
scalar_is u h = rw (leb_true u 1114111 h.most, h.plain) refl

one_tail : (low high n c : ℕ) (w : Bytes) → low ≤ c → c ≤ high → utf8 (tail low high n) (c ∷ w) ≡ utf8 (after n) w
unfolding utf8
one_tail low high n c w h k = rw (between_of low high c h k, utf8)

six_bits : (u c : ℕ) (w : Bytes) → 128 ≤ c → c ≤ 191 → scalars_from u (c ∷ w) ≡ scalars_from (u * 64 + (c - 128)) w
unfolding scalars_from
six_bits u c w h k = rw (between_of 128 191 c h k, scalars_from)

-- behind the bytes of a scalar value, UTF-8 and the values go on as from the start
pub record Coded (u : ℕ) (x : Bytes) : Type 0 where
  pub utf8_on : (w : Bytes) → utf8 scalar (x ++ w) ≡ utf8 scalar w
  pub value : (w : Bytes) → scalars (x ++ w) ≡ scalars_from u w
  pub begins : (a : ℕ) (w : Bytes) → scalars_from a (x ++ w) ≡ a ∷ scalars (x ++ w)

begins_with : (c : ℕ) (y : Bytes) → (128 ≤ c → c ≤ 191 → ⊥) → (a : ℕ) (w : Bytes) → scalars_from a ((c ∷ y) ++ w) ≡ a ∷ scalars ((c ∷ y) ++ w)
unfolding scalars_from scalars
begins_with c y h a w = rw (between_out 128 191 c h, scalars_from) refl

coded_1 : (u : ℕ) → u < 128 → Coded u (u ∷ [])
unfolding utf8 scalars
coded_1 u h =
    record {
      utf8_on = λ w. ap (λ (e : Expect). utf8 e w) (lead_1 u h);
      value = λ w. ap (λ (v : ℕ). scalars_from v w) (bits_1 u h);
      begins = begins_with u [] (λ i j. omega arith);
    }

coded_2 : (c d u : ℕ) → 194 ≤ c → c ≤ 223 → 128 ≤ d → d ≤ 191 → (c - 192) * 64 + (d - 128) ≡ u → Coded u (c ∷ d ∷ [])
unfolding utf8 scalars
coded_2 c d u h k p q e =
    record {
      utf8_on = λ w. ap (λ (x : Expect). utf8 x (d ∷ w)) (lead_2 c h k) ∙ one_tail 128 191 0 d w p q;
      value = λ w. ap (λ (v : ℕ). scalars_from v (d ∷ w)) (bits_2 c (omega arith) (omega arith)) ∙ six_bits (c - 192) d w p q ∙ ap (λ (v : ℕ). scalars_from v w) e;
      begins = begins_with c (d ∷ []) (λ i j. omega arith);
    }

coded_3 :
    (low high c d e u : ℕ) → lead c ≡ tail low high 1 → 224 ≤ c → c ≤ 239 → low ≤ d → d ≤ high → 128 ≤ d → d ≤ 191 → 128 ≤ e → e ≤ 191 →
    ((c - 224) * 64 + (d - 128)) * 64 + (e - 128) ≡ u → Coded u (c ∷ d ∷ e ∷ [])
unfolding utf8 scalars
coded_3 low high c d e u l h k a b p q r t i =
    record {
      utf8_on = λ w. ap (λ (x : Expect). utf8 x (d ∷ e ∷ w)) l ∙ one_tail low high 1 d (e ∷ w) a b ∙ one_tail 128 191 0 e w r t;
      value =
          λ w. ap (λ (v : ℕ). scalars_from v (d ∷ e ∷ w)) (bits_3 c h (omega arith)) ∙
          six_bits (c - 224) d (e ∷ w) p q ∙
          six_bits ((c - 224) * 64 + (d - 128)) e w r t ∙
          ap (λ (v : ℕ). scalars_from v w) i;
      begins = begins_with c (d ∷ e ∷ []) (λ x y. omega arith);
    }

coded_4 :
    (low high c d e f u : ℕ) → lead c ≡ tail low high 2 → 240 ≤ c → low ≤ d → d ≤ high → 128 ≤ d → d ≤ 191 → 128 ≤ e → e ≤ 191 → 128 ≤ f →
    f ≤ 191 → (((c - 240) * 64 + (d - 128)) * 64 + (e - 128)) * 64 + (f - 128) ≡ u → Coded u (c ∷ d ∷ e ∷ f ∷ [])
unfolding utf8 scalars
coded_4 low high c d e f u l h a b p q r t m n i =
    record {
      utf8_on =
          λ w. ap (λ (x : Expect). utf8 x (d ∷ e ∷ f ∷ w)) l ∙
          one_tail low high 2 d (e ∷ f ∷ w) a b ∙
          one_tail 128 191 1 e (f ∷ w) r t ∙
          one_tail 128 191 0 f w m n;
      value =
          λ w. ap (λ (v : ℕ). scalars_from v (d ∷ e ∷ f ∷ w)) (bits_4 c h) ∙
          six_bits (c - 240) d (e ∷ f ∷ w) p q ∙
          six_bits ((c - 240) * 64 + (d - 128)) e (f ∷ w) r t ∙
          six_bits (((c - 240) * 64 + (d - 128)) * 64 + (e - 128)) f w m n ∙
          ap (λ (v : ℕ). scalars_from v w) i;
      begins = begins_with c (d ∷ e ∷ f ∷ []) (λ x y. omega arith);
    }

-- the four lengths
data Length (u : ℕ) : Type 0 where
  len_1 : u < 128 → Length u
  len_2 : 128 ≤ u → u < 2048 → Length u
  len_3 : 2048 ≤ u → u < 65536 → Length u
  len_4 : 65536 ≤ u → Length u

length_of : (u : ℕ) → Length u
length_of u = go (leb 128 u) (leb 2048 u) (leb 65536 u) refl refl refl
  where
    go : (a b c : Bool) → leb 128 u ≡ a → leb 2048 u ≡ b → leb 65536 u ≡ c → Length u
    go false b c p q r = len_1 (leb_lt p)
    go true false c p q r = len_2 (leb_le p) (leb_lt q)
    go true true false p q r = len_3 (leb_le q) (leb_lt r)
    go true true true p q r = len_4 (leb_le r)

-- the four bytes' bits together
sum_4 : (u : ℕ) → ((u / 262144 * 64 + u / 4096 % 64) * 64 + u / 64 % 64) * 64 + u % 64 ≡ u
sum_4 u =
    let a : u / 262144 * 64 + u / 4096 % 64 ≡ u / 4096 = omega arith in
    let b : u / 4096 * 64 + u / 64 % 64 ≡ u / 64 = omega arith in
    omega arith

pub coded : (u : ℕ) → Scalar u → Coded u (encode u)
coded u k = go (length_of u)
  where
    is : {x : Bytes} → encode u ≡ x → Coded u x → Coded u (encode u)
    is e h = subst (λ y. Coded u y) (sym e) h

    three_bytes : (low high : ℕ) → lead (224 + u / 4096) ≡ tail low high 1 → low ≤ 128 + u / 64 % 64 → 128 + u / 64 % 64 ≤ high → u < 65536 →
        Coded u ((224 + u / 4096) ∷ tails 2 u)
    three_bytes low high e a b l =
        coded_3 low high (224 + u / 4096) (128 + u / 64 % 64) (128 + u % 64) u e (omega arith) (omega arith) a b (omega arith) (omega arith)
        (omega arith) (omega arith) (omega arith)

    -- the surrogates are left out
    below_surrogates : 224 + u / 4096 ≡ 237 → u < 55296
    below_surrogates c = go (leb 55296 u) refl
      where
        go : (b : Bool) → leb 55296 u ≡ b → u < 55296
        go true e = absurd (omega (arith, between_not 55296 57343 u k.plain (leb_le e)))
        go false e = leb_lt e

    three : 2048 ≤ u → u < 65536 → (a b : Bool) → eqb (224 + u / 4096) 224 ≡ a → eqb (224 + u / 4096) 237 ≡ b → Coded u ((224 + u / 4096) ∷ tails 2 u)
    three h l true b p q = let c = eqb_true (224 + u / 4096) 224 p in three_bytes 160 191 (ap lead c) (omega arith) (omega arith) l
    three h l false true p q =
        let c = eqb_true (224 + u / 4096) 237 q in
        let m = below_surrogates c in
        three_bytes 128 159 (ap lead c) (omega arith) (omega arith) l
    three h l false false p q =
        let c = lead_3 (224 + u / 4096) (omega (arith, eqb_no (224 + u / 4096) 224 p)) (eqb_no (224 + u / 4096) 237 q) (omega arith) in
        three_bytes 128 191 c (omega arith) (omega arith) l

    four_bytes : (low high : ℕ) → lead (240 + u / 262144) ≡ tail low high 2 → low ≤ 128 + u / 4096 % 64 → 128 + u / 4096 % 64 ≤ high →
        Coded u ((240 + u / 262144) ∷ tails 3 u)
    four_bytes low high e a b =
        let total = sum_4 u in
        coded_4 low high (240 + u / 262144) (128 + u / 4096 % 64) (128 + u / 64 % 64) (128 + u % 64) u e (omega arith) a b (omega arith)
        (omega arith) (omega arith) (omega arith) (omega arith) (omega arith) (omega arith)

    four : 65536 ≤ u → (a b : Bool) → eqb (240 + u / 262144) 240 ≡ a → eqb (240 + u / 262144) 244 ≡ b → Coded u ((240 + u / 262144) ∷ tails 3 u)
    four h true b p q = let c = eqb_true (240 + u / 262144) 240 p in four_bytes 144 191 (ap lead c) (omega arith) (omega arith)
    four h false true p q = let c = eqb_true (240 + u / 262144) 244 q in four_bytes 128 143 (ap lead c) (omega arith) (omega (arith, k.most))
    four h false false p q =
        let c = lead_4 (240 + u / 262144) (omega (arith, eqb_no (240 + u / 262144) 240 p)) (omega (arith, k.most, eqb_no (240 + u / 262144) 244 q)) in
        four_bytes 128 191 c (omega arith) (omega arith)

    go : Length u → Coded u (encode u)
    go (len_1 h) = is (encode_1 u h) (coded_1 u h)
    go (len_2 h l) = is (encode_2 u h l) (coded_2 (192 + u / 64) (128 + u % 64) u (omega arith) (omega arith) (omega arith) (omega arith) (omega arith))
    go (len_3 h l) = is (encode_3 u h l) (three h l (eqb (224 + u / 4096) 224) (eqb (224 + u / 4096) 237) refl refl)
    go (len_4 h) = is (encode_4 u h) (four h (eqb (240 + u / 262144) 240) (eqb (240 + u / 262144) 244) refl refl)

scalars_head : (a : ℕ) (us : List ℕ) → are_scalars us ≡ true → scalars_from a (encode_all us) ≡ a ∷ scalars (encode_all us)
unfolding encode_all are_scalars scalars_from scalars
scalars_head a [] h = refl
scalars_head a (u ∷ us) h = let b = both_true (is_scalar u) (are_scalars us) h in (coded u (is_scalar_lem u b.0)).begins a (encode_all us)

-- Scalar values, encoded one after the other, are UTF-8, and are what that decodes to.
pub encoded_utf8 : (us : List ℕ) → are_scalars us ≡ true → (utf8 scalar (encode_all us) ≡ true) × (scalars (encode_all us) ≡ us)
unfolding encode_all are_scalars utf8 scalars
encoded_utf8 [] h = (refl, refl)
encoded_utf8 (u ∷ us) h =
    let b = both_true (is_scalar u) (are_scalars us) h in
    let k = coded u (is_scalar_lem u b.0) in
    let below = encoded_utf8 us b.1 in
    (k.utf8_on (encode_all us) ∙ below.0, k.value (encode_all us) ∙ scalars_head u us b.1 ∙ ap (λ (x : List ℕ). u ∷ x) below.1)

pub encode_decodes : (u : ℕ) → is_scalar u ≡ true → (utf8 scalar (encode u) ≡ true) × (scalars (encode u) ≡ u ∷ [])
unfolding encode_all are_scalars
encode_decodes u h = subst (λ (x : Bytes). (utf8 scalar x ≡ true) × (scalars x ≡ u ∷ [])) (append-nil (encode u)) (encoded_utf8 (u ∷ []) (rw h refl))

-- Different scalar values have different bytes.
pub encode_injective : (u v : ℕ) → is_scalar u ≡ true → is_scalar v ≡ true → encode u ≡ encode v → u ≡ v
encode_injective u v h k e = first (sym (encode_decodes u h).1 ∙ ap scalars e ∙ (encode_decodes v k).1)
  where
    first : {a b : ℕ} → ◌≡◌ {A = List ℕ} (a ∷ []) (b ∷ []) → a ≡ b
    first q = cc

-- ---- a UTF-8 text, taken apart
record Next (low high n : ℕ) (s : Bytes) : Type 0 where
  byte : ℕ
  rest : Bytes
  parts : s ≡ byte ∷ rest
  least : low ≤ byte
  most : byte ≤ high
  behind : utf8 (after n) rest ≡ true

next_byte : (low high n : ℕ) (s : Bytes) → utf8 (tail low high n) s ≡ true → Next low high n s
unfolding utf8
next_byte low high n [] h = absurd (false≢true h)
next_byte low high n (c ∷ s) h = go (between low high c) refl
  where
    go : (b : Bool) → between low high c ≡ b → Next low high n (c ∷ s)
    go true q = let i = between_in low high c q in record { byte = c; rest = s; parts = refl; least = i.0; most = i.1; behind = rw (q, utf8) at h }
    go false q = absurd (false≢true (rw (q, utf8) at h))

-- a text that begins with the bytes of a scalar value
record Led (s : Bytes) : Type 0 where
  value : ℕ
  is_one : Scalar value
  rest : Bytes
  parts : s ≡ encode value ++ rest
  onward : utf8 scalar rest ≡ true

led : (u : ℕ) (x r s : Bytes) → Scalar u → s ≡ x ++ r → encode u ≡ x → utf8 scalar r ≡ true → Led s
led u x r s k e i h = record { value = u; is_one = k; rest = r; parts = e ∙ ap (λ (y : Bytes). y ++ r) (sym i); onward = h }

abbrev value_3 : ℕ → ℕ → ℕ → ℕ
value_3 c d e = ((c - 224) * 64 + (d - 128)) * 64 + (e - 128)

abbrev value_4 : ℕ → ℕ → ℕ → ℕ → ℕ
value_4 c d e f = (((c - 240) * 64 + (d - 128)) * 64 + (e - 128)) * 64 + (f - 128)

-- the bytes that may follow make a scalar value that needs as many
abbrev Fine-3 : ℕ → ℕ → ℕ → Type 0
Fine-3 c low high = (d e : ℕ) → low ≤ d → d ≤ high → 128 ≤ e → e ≤ 191 → (2048 ≤ value_3 c d e) × (between 55296 57343 (value_3 c d e) ≡ false)

abbrev Fine-4 : ℕ → ℕ → ℕ → Type 0
Fine-4 c low high = (d e f : ℕ) → low ≤ d → d ≤ high → 128 ≤ e → e ≤ 191 → 128 ≤ f → f ≤ 191 → (65536 ≤ value_4 c d e f) × (value_4 c d e f ≤ 1114111)

-- what each first byte may lead to
data Leads (c : ℕ) : Expect → Type 0 where
  leads_1 : c < 128 → Leads c scalar
  leads_2 : 194 ≤ c → c ≤ 223 → Leads c (tail 128 191 0)
  leads_3 : {low high : ℕ} → 224 ≤ c → c ≤ 239 → 128 ≤ low → high ≤ 191 → Fine-3 c low high → Leads c (tail low high 1)
  leads_4 : {low high : ℕ} → 240 ≤ c → 128 ≤ low → high ≤ 191 → Fine-4 c low high → Leads c (tail low high 2)
  leads_no : Leads c never

lead_view : (c : ℕ) → Leads c (lead c)
lead_view c = go (ltb c 128) (between 194 223 c) (eqb c 224) (eqb c 237) (between 225 239 c) (eqb c 240) (between 241 243 c) (eqb c 244) refl refl refl refl refl refl refl refl
  where
    go : (a b d e f g h i : Bool) → ltb c 128 ≡ a → between 194 223 c ≡ b → eqb c 224 ≡ d → eqb c 237 ≡ e → between 225 239 c ≡ f →
        eqb c 240 ≡ g → between 241 243 c ≡ h → eqb c 244 ≡ i → Leads c (lead c)
    go true b d e f g h i p1 p2 p3 p4 p5 p6 p7 p8 = rw (p1, choose) (leads_1 (leb_le p1))
    go false true d e f g h i p1 p2 p3 p4 p5 p6 p7 p8 = let k = between_in 194 223 c p2 in rw (p1, p2, choose) (leads_2 k.0 k.1)
    go false false true e f g h i p1 p2 p3 p4 p5 p6 p7 p8 =
        let k = eqb_true c 224 p3 in
        rw (p1, p2, p3, choose)
        (leads_3 {low = 160} {high = 191} (omega arith) (omega arith) (omega arith) (omega arith) λ x y l m n o.
        (omega arith, between_out 55296 57343 (value_3 c x y) (λ s t. omega arith)))
    go false false false true f g h i p1 p2 p3 p4 p5 p6 p7 p8 =
        let k = eqb_true c 237 p4 in
        rw (p1, p2, p3, p4, choose)
        (leads_3 {low = 128} {high = 159} (omega arith) (omega arith) (omega arith) (omega arith) λ x y l m n o.
        (omega arith, between_out 55296 57343 (value_3 c x y) (λ s t. omega arith)))
    go false false false false true g h i p1 p2 p3 p4 p5 p6 p7 p8 =
        let k = between_in 225 239 c p5 in
        rw (p1, p2, p3, p4, p5, choose)
        (leads_3 {low = 128} {high = 191} (omega arith) (omega arith) (omega arith) (omega arith) λ x y l m n o.
        (omega arith, between_out 55296 57343 (value_3 c x y) (λ s t. eqb_no c 237 p4 (omega arith))))
    go false false false false false true h i p1 p2 p3 p4 p5 p6 p7 p8 =
        let k = eqb_true c 240 p6 in
        rw (p1, p2, p3, p4, p5, p6, choose) (leads_4 {low = 144} {high = 191} (omega arith) (omega arith) (omega arith) λ x y z l m n o s t. (omega arith, omega arith))
    go false false false false false false true i p1 p2 p3 p4 p5 p6 p7 p8 =
        let k = between_in 241 243 c p7 in
        rw (p1, p2, p3, p4, p5, p6, p7, choose) (leads_4 {low = 128} {high = 191} (omega arith) (omega arith) (omega arith) λ x y z l m n o s t. (omega arith, omega arith))
    go false false false false false false false true p1 p2 p3 p4 p5 p6 p7 p8 =
        let k = eqb_true c 244 p8 in
        rw (p1, p2, p3, p4, p5, p6, p7, p8, choose) (leads_4 {low = 128} {high = 143} (omega arith) (omega arith) (omega arith) λ x y z l m n o s t. (omega arith, omega arith))
    go false false false false false false false false p1 p2 p3 p4 p5 p6 p7 p8 = rw (p1, p2, p3, p4, p5, p6, p7, p8, choose) leads_no

pair_same : {a b c d : ℕ} → a ≡ c → b ≡ d → ◌≡◌ {A = Bytes} (a ∷ b ∷ []) (c ∷ d ∷ [])
pair_same p q = cc

three_same : {a b c d e f : ℕ} → a ≡ d → b ≡ e → c ≡ f → ◌≡◌ {A = Bytes} (a ∷ b ∷ c ∷ []) (d ∷ e ∷ f ∷ [])
three_same p q r = cc

four_same : {a b c d e f g h : ℕ} → a ≡ e → b ≡ f → c ≡ g → d ≡ h → ◌≡◌ {A = Bytes} (a ∷ b ∷ c ∷ d ∷ []) (e ∷ f ∷ g ∷ h ∷ [])
four_same p q r s = cc

never_utf8 : (s : Bytes) → utf8 never s ≢ true
unfolding utf8
never_utf8 [] h = false≢true h
never_utf8 (c ∷ s) h = false≢true h

first_scalar : (c : ℕ) (s : Bytes) → utf8 scalar (c ∷ s) ≡ true → Led (c ∷ s)
unfolding utf8
first_scalar c s h = go (lead_view c) h
  where
    go : {e : Expect} → Leads c e → utf8 e s ≡ true → Led (c ∷ s)
    go (leads_1 l) k = led c (c ∷ []) s (c ∷ s) (record { most = omega arith; plain = between_out 55296 57343 c (λ i j. omega arith) }) refl (encode_1 c l) k
    go (leads_2 l m) k =
        let n = next_byte 128 191 0 s k in
        let u = (c - 192) * 64 + (n.byte - 128) in
        let x = n.least in
        let y = n.most in
        let one : Scalar u = record { most = omega arith; plain = between_out 55296 57343 u (λ i j. omega arith) } in
        let bytes : encode u ≡ c ∷ n.byte ∷ [] = encode_2 u (omega arith) (omega arith) ∙ pair_same (omega arith) (omega arith) in
        led u (c ∷ n.byte ∷ []) n.rest (c ∷ s) one (ap (λ (z : Bytes). c ∷ z) n.parts) bytes n.behind
    go (leads_3 {low} {high} l m a b f) k =
        let n = next_byte low high 1 s k in
        let o = next_byte 128 191 0 n.rest n.behind in
        let i = n.least in
        let j = n.most in
        let x = o.least in
        let y = o.most in
        let g = f n.byte o.byte i j x y in
        let u = value_3 c n.byte o.byte in
        let bytes : encode u ≡ c ∷ n.byte ∷ o.byte ∷ [] = encode_3 u g.0 (omega arith) ∙ three_same (omega arith) (omega arith) (omega arith) in
        let parts = ap (λ (z : Bytes). c ∷ z) n.parts ∙ ap (λ (z : Bytes). c ∷ n.byte ∷ z) o.parts in
        led u (c ∷ n.byte ∷ o.byte ∷ []) o.rest (c ∷ s) (record { most = omega arith; plain = g.1 }) parts bytes o.behind
    go (leads_4 {low} {high} l a b f) k =
        let n = next_byte low high 2 s k in
        let o = next_byte 128 191 1 n.rest n.behind in
        let p = next_byte 128 191 0 o.rest o.behind in
        let i = n.least in
        let j = n.most in
        let x = o.least in
        let y = o.most in
        let v = p.least in
        let w = p.most in
        let g = f n.byte o.byte p.byte i j x y v w in
        let u = value_4 c n.byte o.byte p.byte in
        let one : Scalar u = record { most = g.1; plain = between_out 55296 57343 u (λ a b. omega (arith, g.0)) } in
        let bytes : encode u ≡ c ∷ n.byte ∷ o.byte ∷ p.byte ∷ [] = encode_4 u g.0 ∙ four_same (omega arith) (omega arith) (omega arith) (omega arith) in
        let parts = ap (λ (z : Bytes). c ∷ z) n.parts ∙ ap (λ (z : Bytes). c ∷ n.byte ∷ z) o.parts ∙ ap (λ (z : Bytes). c ∷ n.byte ∷ o.byte ∷ z) p.parts in
        led u (c ∷ n.byte ∷ o.byte ∷ p.byte ∷ []) p.rest (c ∷ s) one parts bytes p.behind
    go leads_no k = absurd (never_utf8 s k)

-- A text is UTF-8 exactly where it is the encoding of scalar values.
abbrev pub Encoded : Bytes → Type 0
Encoded s = (us : List ℕ) × (are_scalars us ≡ true) × (s ≡ encode_all us)

encode_longer : (u : ℕ) → length (encode u) ≢ 0
unfolding encode
encode_longer u = go (ltb u 128) (ltb u 2048) (ltb u 65536) refl refl refl
  where
    go : (a b c : Bool) → ltb u 128 ≡ a → ltb u 2048 ≡ b → ltb u 65536 ≡ c → length (encode u) ≢ 0
    go true b c p q r = rw (p, choose) (λ e. omega arith)
    go false true c p q r = rw (p, q, choose) (λ e. omega arith)
    go false false true p q r = rw (p, q, r, choose) (λ e. omega arith)
    go false false false p q r = rw (p, q, r, choose) (λ e. omega arith)

decoded_below : (n : ℕ) (s : Bytes) → length s ≤ n → utf8 scalar s ≡ true → Encoded s
unfolding encode_all are_scalars
decoded_below zero [] l h = ([], refl, refl)
decoded_below zero (c ∷ s) l h = absurd (omega arith)
decoded_below (suc n) [] l h = ([], refl, refl)
decoded_below (suc n) (c ∷ s) l h =
    let k = first_scalar c s h in
    let below = decoded_below n k.rest (omega (arith, encode_longer k.value, ap length k.parts, length-append (encode k.value) k.rest)) k.onward in
    (k.value ∷ below.0, rw (scalar_is k.value k.is_one) below.1, k.parts ∙ ap (λ (x : Bytes). encode k.value ++ x) below.2)

pub utf8_exactly : (s : Bytes) → (utf8 scalar s ≡ true) ↔ Encoded s
utf8_exactly s = (λ h. decoded_below (length s) s (omega arith) h, λ k. subst (λ (x : Bytes). utf8 scalar x ≡ true) (sym k.2) (encoded_utf8 k.0 k.1).0)

-- What a UTF-8 text decodes to are scalar values, and it is their encoding.
pub decoded_back : (s : Bytes) → utf8 scalar s ≡ true → (are_scalars (scalars s) ≡ true) × (encode_all (scalars s) ≡ s)
decoded_back s h =
    let k = decoded_below (length s) s (omega arith) h in
    let e = ap scalars k.2 ∙ (encoded_utf8 k.0 k.1).1 in
    (ap are_scalars e ∙ k.1, ap encode_all e ∙ sym k.2)
