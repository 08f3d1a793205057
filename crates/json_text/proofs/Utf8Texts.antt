-- Every text and every name of a tree that was read from a text in UTF-8 is UTF-8, decoded.
-- Assumes nothing.
use mathlib.Core.Bool.{Bool, false, false≢true, true, true≢false}
use mathlib.Core.List.{[], ◌++◌, ◌∷◌}
use mathlib.Core.Logic.{inl, inr, ◌≢◌}
use Rattle.std.specs.Prelude.{Option, None, Some}
use mathlib.Core.Path.{ap, refl, subst, sym, ◌∙◌, ◌≡◌}
use Prim.Native.Nat.{suc, zero, ℕ, ◌*◌, ◌+◌, ◌-◌, ◌<◌, ◌≤◌}
use native.Mathlib.Omega.{arith}
use lib.Dec.{eqb}
use Rattle.json_text.proofs.Ascii.{Fits, all_ascii, hex_ascii, is_ascii, lead_fits, not_ascii, simple_ascii, space_ascii}
use Rattle.json_text.proofs.Cursor.{encode_1}
use Rattle.json_text.proofs.Laws.{ltb_true}
use Rattle.json_text.proofs.Quoted.{hex_digit_small, highest, highest_mono}
use Rattle.json_text.proofs.Sound.{between_in, between_out, json_sound}
use Rattle.json_text.specs.Bytes.{Bytes, ascii, between, choose}
use Rattle.json_text.specs.Grammar
use Rattle.json_text.specs.Grammar.{
  Chars,
  Digits,
  Elements,
  Escape,
  Exp,
  Frac,
  Hex,
  Int,
  JsonText,
  MembersOf,
  Minus,
  MoreElements,
  MoreMembers,
  Number,
  Sign,
  SomeDigits,
  Spells,
  Structural,
  Ws,
  no_hex,
  no_space,
  one_hex,
  pair,
  simple,
  space,
  structural,
  unit,
}
use Rattle.json_text.specs.Json.{Members, Value, Values}
use Rattle.json_text.specs.Reader.{json}
use Rattle.json_text.specs.Refusal.{ok}
use Rattle.json_text.specs.Strings.{simple_escape}
use Rattle.json_text.specs.Utf8.{Expect, after, all_utf8, encode, in_utf8, lead, members_utf8, never, scalar, tail, utf8}
use Rattle.json_text.proofs.Encoded.{Scalar, coded}

-- an ASCII byte stands alone
ascii_on : (c : ℕ) (s : Bytes) → is_ascii c ≡ true → utf8 scalar (c ∷ s) ≡ true → utf8 scalar s ≡ true
unfolding utf8
ascii_on c s a h = rw (a, utf8, choose) at h

ascii_only : (low high n c : ℕ) (s : Bytes) → 128 ≤ low → is_ascii c ≡ true → utf8 (tail low high n) (c ∷ s) ≢ true
unfolding utf8
ascii_only low high n c s l a h = go (between low high c) refl
  where
    go : (b : Bool) → between low high c ≡ b → ⊥
    go true q = true≢false (sym a ∙ not_ascii low high c l q)
    go false q = false≢true (rw (q, utf8) at h)

hex_most : {n u v : ℕ} {s r : Bytes} → Hex n u v s r → v ≤ highest n u
hex_most no_hex = omega arith
hex_most (one_hex {n} {u} {d = d} {c} e k) = omega (arith, hex_most k, highest_mono n (u * 16 + d) (u * 16 + 15) (omega (arith, hex_digit_small c d e)))

hex_on : {n u v : ℕ} {s r : Bytes} → Hex n u v s r → utf8 scalar s ≡ true → utf8 scalar r ≡ true
hex_on no_hex h = h
hex_on (one_hex {d = d} {c} {s} e k) h = hex_on k (ascii_on c s (hex_ascii c d e) h)

simple_small : (c d : ℕ) → simple_escape c ≡ Some d → d < 128
simple_small c d e = go (eqb c 34) (eqb c 92) (eqb c 47) (eqb c 98) (eqb c 102) (eqb c 110) (eqb c 114) (eqb c 116) e
  where
    is : (k : ℕ) → k < 128 → ◌≡◌ {A = Option ℕ} (Some k) (Some d) → d < 128
    is k l q = let z : k ≡ d = cc in omega arith

    none_is : ◌≡◌ {A = Option ℕ} None (Some d) → d < 128
    none_is q = let z : ◌≡◌ {A = Bool} true false = cc in absurd (true≢false z)

    go : (a b f g h i j k : Bool) →
        choose ((a, Some 34) ∷ (b, Some 92) ∷ (f, Some 47) ∷ (g, Some 8) ∷ (h, Some 12) ∷ (i, Some 10) ∷ (j, Some 13) ∷ (k, Some 9) ∷ [])
        None ≡ Some d → d < 128
    go true b f g h i j k q = is 34 (omega arith) q
    go false true f g h i j k q = is 92 (omega arith) q
    go false false true g h i j k q = is 47 (omega arith) q
    go false false false true h i j k q = is 8 (omega arith) q
    go false false false false true i j k q = is 12 (omega arith) q
    go false false false false false true j k q = is 10 (omega arith) q
    go false false false false false false true k q = is 13 (omega arith) q
    go false false false false false false false true q = is 9 (omega arith) q
    go false false false false false false false false q = none_is q

-- an escape stands for one scalar value
record Escaped (y s t : Bytes) : Type 0 where
  value : ℕ
  is_one : Scalar value
  bytes : y ≡ encode value
  onward : utf8 scalar s ≡ true → utf8 scalar t ≡ true

escaped_one : {y s t : Bytes} → Escape y s t → Escaped y s t
escaped_one (simple {c} {d} {s} e) =
    let k = simple_small c d e in
    record {
      value = d;
      is_one = record { most = omega arith; plain = between_out 55296 57343 d (λ i j. omega arith) };
      bytes = sym (encode_1 d k);
      onward = ascii_on c s (simple_ascii c d e);
    }
escaped_one (unit {c} {u} {s = s} e k p q) =
    record {
      value = u;
      is_one = record { most = omega (arith, hex_most k); plain = p };
      bytes = q;
      onward = λ h. hex_on k (ascii_on c s (rw e refl) h);
    }
escaped_one (pair {c} {high} {low} {s = s} {t = t} {u = u} e k p q l m n) =
    let a = between_in 55296 56319 high p in
    let b = between_in 56320 57343 low m in
    let v = 65536 + (high - 55296) * 1024 + (low - 56320) in
    let one : Scalar v = record { most = omega arith; plain = between_out 55296 57343 v (λ i j. omega arith) } in
    record {
      value = v;
      is_one = one;
      bytes = n;
      onward = λ h. hex_on l
          (ascii_on 117 u refl
          (ascii_on 92 (117 ∷ u) refl (subst (λ (x : Bytes). utf8 scalar x ≡ true) q (hex_on k (ascii_on c s (rw e refl) h)))));
    }

-- what UTF-8 waits for begins at byte 128
abbrev High : Expect → Type 0
High scalar = Unit {0}
High (tail low high n) = 128 ≤ low
High never = Unit {0}

fits_high : (e : Expect) (d : Bool) → Fits e d → High e
fits_high scalar d f = tt
fits_high (tail low high n) d f = f.1
fits_high never d f = tt

after_high : (n : ℕ) → High (after n)
after_high zero = tt
after_high (suc n) = omega arith

-- a string's characters, decoded, are UTF-8 where they are, and so is what follows the closing quote
chars_utf8 : {x s r : Bytes} → Chars x s r → (e : Expect) → High e → utf8 e s ≡ true → (utf8 e x ≡ true) × (utf8 scalar r ≡ true)
unfolding utf8
chars_utf8 (Grammar.close {c} {r} p) scalar k h = (refl, ascii_on c r (rw p refl) h)
chars_utf8 (Grammar.close {c} {r} p) (tail low high n) k h = absurd (ascii_only low high n c r k (rw p refl) h)
chars_utf8 (Grammar.close {c} {r} p) never k h = absurd (false≢true h)
chars_utf8 (Grammar.unescaped {c} p t) scalar k h = chars_utf8 t (lead c) (fits_high (lead c) (is_ascii c) (lead_fits c)) h
chars_utf8 (Grammar.unescaped {c} {x} {s} {r} p t) (tail low high n) k h = go (chars_utf8 t (after n) (after_high n)) (between low high c) refl
  where
    go : (utf8 (after n) s ≡ true → (utf8 (after n) x ≡ true) × (utf8 scalar r ≡ true)) → (b : Bool) → between low high c ≡ b →
        (utf8 (tail low high n) (c ∷ x) ≡ true) × (utf8 scalar r ≡ true)
    go below true q = rw (q, utf8) (below (rw (q, utf8) at h))
    go below false q = absurd (false≢true (rw (q, utf8) at h))
chars_utf8 (Grammar.unescaped {c} p t) never k h = absurd (false≢true h)
chars_utf8 (Chars.escape {c} {x} {y} {z} {s} {t} {r} p i j q) scalar k h =
    let o = escaped_one i in
    let below = chars_utf8 j scalar tt (o.onward (ascii_on c s (rw p refl) h)) in
    (ap (utf8 scalar) (q ∙ ap (λ (w : Bytes). w ++ z) o.bytes) ∙ (coded o.value o.is_one).utf8_on z ∙ below.0, below.1)
chars_utf8 (Chars.escape {c} {s = s} p i j q) (tail low high n) k h = absurd (ascii_only low high n c s k (rw p refl) h)
chars_utf8 (Chars.escape p i j q) never k h = absurd (false≢true h)

string_utf8 : {x s r : Bytes} → Grammar.String x s r → utf8 scalar s ≡ true → (utf8 scalar x ≡ true) × (utf8 scalar r ≡ true)
string_utf8 (Grammar.string {c} {s = s} p t) h = chars_utf8 t scalar tt (ascii_on c s (rw p refl) h)

-- what else a text has is ASCII
ws_on : {s r : Bytes} → Ws s r → utf8 scalar s ≡ true → utf8 scalar r ≡ true
ws_on no_space h = h
ws_on (space {c} {s} e k) h = ws_on k (ascii_on c s (space_ascii c e) h)

structural_on : {c : ℕ} {s r : Bytes} → is_ascii c ≡ true → Structural c s r → utf8 scalar s ≡ true → utf8 scalar r ≡ true
structural_on {c} a (structural {t = t} i j) h = ws_on j (ascii_on c t a (ws_on i h))

digit_on : (c : ℕ) (s : Bytes) → between 48 57 c ≡ true → utf8 scalar (c ∷ s) ≡ true → utf8 scalar s ≡ true
digit_on c s e = ascii_on c s (ltb_true c 128 (omega (arith, between_in 48 57 c e)))

digits_on : {s r : Bytes} → Digits s r → utf8 scalar s ≡ true → utf8 scalar r ≡ true
digits_on Grammar.no_digit h = h
digits_on (Grammar.one_digit {c} {s} e k) h = digits_on k (digit_on c s e h)

some_digits_on : {s r : Bytes} → SomeDigits s r → utf8 scalar s ≡ true → utf8 scalar r ≡ true
some_digits_on (Grammar.some_digits {c} {s} e k) h = digits_on k (digit_on c s e h)

number_on : {s r : Bytes} → Number s r → utf8 scalar s ≡ true → utf8 scalar r ≡ true
number_on n h = exp_on n.has_exp (frac_on n.has_frac (int_on n.has_int (minus_on n.has_minus h)))
  where
    minus_on : {s r : Bytes} → Minus s r → utf8 scalar s ≡ true → utf8 scalar r ≡ true
    minus_on Grammar.no_minus h = h
    minus_on (Grammar.minus {c} {s} e) h = ascii_on c s (rw e refl) h

    int_on : {s r : Bytes} → Int s r → utf8 scalar s ≡ true → utf8 scalar r ≡ true
    int_on (Int.zero {c} {r} e) h = ascii_on c r (rw e refl) h
    int_on (Int.nonzero {c} {s} e k) h = digits_on k (ascii_on c s (ltb_true c 128 (omega (arith, between_in 49 57 c e))) h)

    frac_on : {s r : Bytes} → Frac s r → utf8 scalar s ≡ true → utf8 scalar r ≡ true
    frac_on Grammar.no_frac h = h
    frac_on (Grammar.frac {c} {s} e k) h = some_digits_on k (ascii_on c s (rw e refl) h)

    sign_on : {s r : Bytes} → Sign s r → utf8 scalar s ≡ true → utf8 scalar r ≡ true
    sign_on Grammar.no_sign h = h
    sign_on (Sign.sign {c} {s} (inl e)) h = ascii_on c s (rw e refl) h
    sign_on (Sign.sign {c} {s} (inr e)) h = ascii_on c s (rw e refl) h

    exp_on : {s r : Bytes} → Exp s r → utf8 scalar s ≡ true → utf8 scalar r ≡ true
    exp_on Grammar.no_exp h = h
    exp_on (Exp.exp {c} {s} (inl e) g k) h = some_digits_on k (sign_on g (ascii_on c s (rw e refl) h))
    exp_on (Exp.exp {c} {s} (inr e) g k) h = some_digits_on k (sign_on g (ascii_on c s (rw e refl) h))

word_on : (w r : Bytes) → all_ascii w ≡ true → utf8 scalar (w ++ r) ≡ true → utf8 scalar r ≡ true
word_on [] r a h = h
word_on (c ∷ w) r a h = go (is_ascii c) refl (word_on w r)
  where
    go : (b : Bool) → is_ascii c ≡ b → (all_ascii w ≡ true → utf8 scalar (w ++ r) ≡ true → utf8 scalar r ≡ true) → utf8 scalar r ≡ true
    go true q below = below (rw (q, all_ascii) at a) (ascii_on c (w ++ r) q h)
    go false q below = absurd (false≢true (rw (q, all_ascii) at a))

literal_on : (w s r : Bytes) → all_ascii w ≡ true → s ≡ w ++ r → utf8 scalar s ≡ true → utf8 scalar r ≡ true
literal_on w s r a e h = word_on w r a (subst (λ (x : Bytes). utf8 scalar x ≡ true) e h)

mutual
  unfolding in_utf8

  spells_utf8 : {v : Value} {s r : Bytes} → Spells v s r → utf8 scalar s ≡ true → (in_utf8 v ≡ true) × (utf8 scalar r ≡ true)
  spells_utf8 (Spells.is_null {s} {r} e) h = (refl, literal_on (ascii "null") s r refl e h)
  spells_utf8 (Spells.is_true {s} {r} e) h = (refl, literal_on (ascii "true") s r refl e h)
  spells_utf8 (Spells.is_false {s} {r} e) h = (refl, literal_on (ascii "false") s r refl e h)
  spells_utf8 (Spells.is_number n e) h = (refl, number_on n h)
  spells_utf8 (Spells.is_text t) h = string_utf8 t h
  spells_utf8 (Spells.is_array o es c) h = let k = elements_utf8 es (structural_on refl o h) in (k.0, structural_on refl c k.1)
  spells_utf8 (Spells.is_object o ms c) h = let k = members_utf8_lem ms (structural_on refl o h) in (k.0, structural_on refl c k.1)

  elements_utf8 : {vs : Values} {s r : Bytes} → Elements vs s r → utf8 scalar s ≡ true → (all_utf8 vs ≡ true) × (utf8 scalar r ≡ true)
  elements_utf8 Grammar.no_element h = (refl, h)
  elements_utf8 (Elements.elements v m) h = let k = spells_utf8 v h in let l = more_elements_utf8 m k.1 in (rw k.0 l.0, l.1)

  more_elements_utf8 : {vs : Values} {s r : Bytes} → MoreElements vs s r → utf8 scalar s ≡ true → (all_utf8 vs ≡ true) × (utf8 scalar r ≡ true)
  more_elements_utf8 Grammar.last_element h = (refl, h)
  more_elements_utf8 (Grammar.next_element c v m) h = let k = spells_utf8 v (structural_on refl c h) in let l = more_elements_utf8 m k.1 in (rw k.0 l.0, l.1)

  members_utf8_lem : {ms : Members} {s r : Bytes} → MembersOf ms s r → utf8 scalar s ≡ true → (members_utf8 ms ≡ true) × (utf8 scalar r ≡ true)
  members_utf8_lem Grammar.no_member h = (refl, h)
  members_utf8_lem (Grammar.members t d v m) h =
      let i = string_utf8 t h in let k = spells_utf8 v (structural_on refl d i.1) in let l = more_members_utf8 m k.1 in
      (rw (i.0, k.0) l.0, l.1)

  more_members_utf8 : {ms : Members} {s r : Bytes} → MoreMembers ms s r → utf8 scalar s ≡ true → (members_utf8 ms ≡ true) × (utf8 scalar r ≡ true)
  more_members_utf8 Grammar.last_member h = (refl, h)
  more_members_utf8 (Grammar.next_member c t d v m) h =
      let i = string_utf8 t (structural_on refl c h) in
      let k = spells_utf8 v (structural_on refl d i.1) in
      let l = more_members_utf8 m k.1 in
      (rw (i.0, k.0) l.0, l.1)

-- Every text and every name of a JSON text in UTF-8 is UTF-8, decoded; so is every one of a tree that was read.
pub json_texts_utf8 : (s : Bytes) (v : Value) → JsonText v s → utf8 scalar s ≡ true → in_utf8 v ≡ true
json_texts_utf8 s v t h = (spells_utf8 t.spelled (ws_on t.before h)).0

pub read_texts_utf8 : (s : Bytes) (v : Value) → json s ≡ ok v → in_utf8 v ≡ true
read_texts_utf8 s v e = let w = json_sound s v e in json_texts_utf8 s v w.is_json w.is_utf8
