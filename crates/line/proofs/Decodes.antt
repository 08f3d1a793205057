-- A text in quotes is a JSON string, and reading it gives the text back.
-- Assumes nothing.
use mathlib.Core.Bool.{Bool, false, true}
use mathlib.Core.List.{append_assoc, [], ◌++◌, ◌∷◌}
use Rattle.std.specs.Prelude.{Some}
use mathlib.Core.Path.{ap, refl, sym, ◌∙◌, ◌≡◌}
use Prim.Native.Nat.{suc, ℕ, ◌%◌, ◌*◌, ◌+◌, ◌/◌, ◌<◌, ◌≤◌}
use native.Mathlib.Omega.{arith}
use borrow.Author.Tests.{eqb-false, eqb-true, le-leb, lt-leb, lt-ltb, ltb-false, ltb-true}
use lib.Dec.{eqb, ltb}
use lib.ListN.{length}
use Rattle.answers.proofs.Digits.{backslash_escaped, byte_itself, control_escaped, high_hex, low_hex, quote_escaped}
use Rattle.answers.specs.Line.{hex_of, quoted_byte, quoted_bytes}
use Rattle.tokens.proofs.Scans.{chars_enough}
use Rattle.json_text.specs.Bytes.{Bytes}
use Rattle.json_text.specs.Refusal.{Result, ok}
use Rattle.json_text.specs.Scan.{Read}
use Rattle.json_text.specs.Strings.{chars, escape, hex, hex_digit, of_unit, plain_unit, unit16}
use Rattle.json_text.specs.Utf8.{encode}

abbrev pub gave : Bytes → Bytes → Result (Read Bytes)
gave t rest = ok (record { got = t; rest = rest })

-- a hexadecimal digit is read back
digit_back : (d : ℕ) → d < 16 → hex_digit (hex_of d) ≡ Some d
digit_back d h = go (ltb d 10) refl
  where
    go : (b : Bool) → ltb d 10 ≡ b → hex_digit (hex_of d) ≡ Some d
    go true e =
        let l = ltb-true d 10 e in
        rw (low_hex d l, le-leb 48 (48 + d) (omega arith), le-leb (48 + d) 57 (omega arith)) (ap Some (omega arith))
    go false e =
        let l = ltb-false d 10 e in
        rw (
          high_hex d l,
          le-leb 48 (87 + d) (omega arith),
          lt-leb (87 + d) 57 (omega arith),
          le-leb 65 (87 + d) (omega arith),
          lt-leb
              (87 + d) 70 (omega arith),
          le-leb 97 (87 + d) (omega arith),
          le-leb (87 + d) 102 (omega arith),
        ) (ap Some (omega arith))

-- a scalar value below 32 is its own byte
unit_back : (c : ℕ) (s : Bytes) → c < 32 → of_unit (record { got = c; rest = s }) ≡ gave (c ∷ []) s
unfolding of_unit encode
unit_back c s h =
    let e : unit16 c ≡ plain_unit = rw (lt-leb 55296 c (omega arith), lt-leb 56320 c (omega arith)) in
    let f : encode c ≡ c ∷ [] = rw (lt-ltb c 128 (omega arith)) in
    rw (e, of_unit) (ap (λ (b : Bytes). gave b s) f)

-- a control byte, behind the backslash
control_back : (c : ℕ) (s : Bytes) → c < 32 → escape (117 ∷ 48 ∷ 48 ∷ hex_of (c / 16) ∷ hex_of (c % 16) ∷ s) ≡ gave (c ∷ []) s
unfolding escape
control_back c s h =
    let e : ((0 * 16 + 0) * 16 + c / 16) * 16 + c % 16 ≡ c = omega arith in
    rw (digit_back (c / 16) (omega arith), hex, digit_back (c % 16) (omega arith), hex, e) (unit_back c s h)

-- each byte in turn, and the closing quote
module _ (rest : Bytes) (k : ℕ) where
  steps : Bytes → ℕ
  steps [] = suc k
  steps (c ∷ t) = suc (steps t)

  byte_back : (n c : ℕ) (t s : Bytes) → chars n s ≡ gave t rest → chars (suc n) (quoted_byte c ++ s) ≡ gave (c ∷ t) rest
  unfolding chars
  byte_back n c t s h = go (eqb c 34) refl (eqb c 92) refl (ltb c 32) refl
    where
      go : (x : Bool) → eqb c 34 ≡ x → (y : Bool) → eqb c 92 ≡ y → (z : Bool) → ltb c 32 ≡ z → chars (suc n) (quoted_byte c ++ s) ≡ gave (c ∷ t) rest
      go true e y f z g = let q = eqb-true c 34 e in rw (quote_escaped c q, h) (ap (λ (b : ℕ). gave (b ∷ t) rest) (sym q))
      go false e true f z g = let q = eqb-true c 92 f in rw (backslash_escaped c (eqb-false c 34 e) q, h) (ap (λ (b : ℕ). gave (b ∷ t) rest) (sym q))
      go false e false f true g = let l = ltb-true c 32 g in rw (control_escaped c (eqb-false c 34 e) (eqb-false c 92 f) l, control_back c s l, h)
      go false e false f false g = rw (byte_itself c (eqb-false c 34 e) (eqb-false c 92 f) (ltb-false c 32 g), e, f, g, chars, h)

  text_back : (t : Bytes) → chars (steps t) (quoted_bytes t ++ rest) ≡ gave t rest
  unfolding chars quoted_bytes steps
  text_back [] = refl
  text_back (c ∷ t) = rw append_assoc (byte_back (steps t) c t (quoted_bytes t ++ rest) (text_back t))

  many_steps : (t : Bytes) → k ≤ steps t
  unfolding steps
  many_steps [] = omega arith
  many_steps (c ∷ t) = omega (arith, many_steps t)

-- What stands behind the opening quote is read as the text, up to the closing quote.
pub decodes : (t rest : Bytes) → chars (length (quoted_bytes t ++ rest)) (quoted_bytes t ++ rest) ≡ gave t rest
decodes t rest =
    let n = length (quoted_bytes t ++ rest) in
    chars_enough n (steps rest n t) (quoted_bytes t ++ rest) (omega arith) (many_steps rest n t) ∙ text_back rest n t
