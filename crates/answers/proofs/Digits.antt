-- Decimal digits as code lays them: those of a tenth first, and then the last. Hexadecimal digits and the escapes of a quoted byte.
-- Assumes nothing.
use mathlib.Core.Bool.{Bool, false, true}
use mathlib.Core.List.{[], ◌++◌, ◌∷◌}
use mathlib.Core.Path.{ap, refl, sym, ◌∙◌, ◌≡◌}
use Prim.Native.Nat.{suc, zero, ℕ, ◌%◌, ◌*◌, ◌+◌, ◌-◌, ◌/◌, ◌<◌, ◌≤◌}
use native.Mathlib.Omega.{arith}
use borrow.Author.Tests.{eq-eqb, le-ltb, lt-ltb, ne_eqb}
use lib.Dec.{ltb}
use Rattle.answers.specs.Line.{decimal_digits, digits_of, hex_of, quoted_byte}
use Rattle.json_text.specs.Bytes.{Bytes, ascii, natural}

digits_before : (f n : ℕ) (s : Bytes) → digits_of f n s ≡ digits_of f n [] ++ s
unfolding digits_of
digits_before zero n s = refl
digits_before (suc f) n s = go (ltb n 10) refl (digits_before f (n / 10) ((48 + n % 10) ∷ s)) (digits_before f (n / 10) ((48 + n % 10) ∷ []))
  where
    go : (b : Bool) → ltb n 10 ≡ b → digits_of f (n / 10) ((48 + n % 10) ∷ s) ≡ digits_of f (n / 10) [] ++ ((48 + n % 10) ∷ s) →
        digits_of f (n / 10) ((48 + n % 10) ∷ []) ≡ digits_of f (n / 10) [] ++ ((48 + n % 10) ∷ []) →
        digits_of (suc f) n s ≡ digits_of (suc f) n [] ++ s
    go true e x y = rw (e, digits_of)
    go false e x y = rw (e, digits_of) (x ∙ rw (y, mathlib.Core.List.append_assoc))

tens : ℕ → ℕ
tens zero = 10
tens (suc f) = 10 * tens f

-- one digit more may be asked for where there are enough
digits_enough : (f n : ℕ) (s : Bytes) → n < tens f → digits_of (suc (suc f)) n s ≡ digits_of (suc f) n s
unfolding digits_of tens
digits_enough zero n s h = rw (lt-ltb n 10 h, digits_of)
digits_enough (suc f) n s h = go (λ t. digits_enough f (n / 10) t (omega arith)) (ltb n 10) refl
  where
    go : ((t : Bytes) → digits_of (suc (suc f)) (n / 10) t ≡ digits_of (suc f) (n / 10) t) → (b : Bool) → ltb n 10 ≡ b →
        digits_of (suc (suc (suc f))) n s ≡ digits_of (suc (suc f)) n s
    go below true e = rw (e, digits_of)
    go below false e = rw (e, digits_of) (below ((48 + n % 10) ∷ s))

pub one_digit : (n : ℕ) → n < 10 → decimal_digits n ≡ (48 + n) ∷ []
unfolding digits_of
one_digit n h = rw (lt-ltb n 10 h, digits_of)

pub more_digits : (n : ℕ) → 10 ≤ n → n < 18446744073709551616 → decimal_digits n ≡ decimal_digits (n / 10) ++ ((48 + n % 10) ∷ [])
unfolding digits_of tens
more_digits n h k =
    let e : digits_of 20 n [] ≡ digits_of 19 (n / 10) ((48 + n % 10) ∷ []) = rw (le-ltb n 10 h, digits_of) in
    e ∙ digits_before 19 (n / 10) ((48 + n % 10) ∷ []) ∙ ap (λ (l : Bytes). l ++ ((48 + n % 10) ∷ [])) (sym (digits_enough 18 (n / 10) [] (omega arith)))

-- the digits spell the number
digits_spell : (f n : ℕ) (s : Bytes) → n < tens f → natural 0 (digits_of (suc f) n s) ≡ natural n s
unfolding digits_of tens natural
digits_spell zero n s h = rw (lt-ltb n 10 h, digits_of) (ap (λ (k : ℕ). natural k s) (let e : 0 * 10 + (48 + n - 48) ≡ n = omega arith in e))
digits_spell (suc f) n s h = go (digits_spell f (n / 10) ((48 + n % 10) ∷ s) (omega arith)) (ltb n 10) refl
  where
    go : natural 0 (digits_of (suc f) (n / 10) ((48 + n % 10) ∷ s)) ≡ natural (n / 10) ((48 + n % 10) ∷ s) → (b : Bool) → ltb n 10 ≡ b →
        natural 0 (digits_of (suc (suc f)) n s) ≡ natural n s
    go below true e = rw (e, digits_of) (ap (λ (k : ℕ). natural k s) (let e : 0 * 10 + (48 + n - 48) ≡ n = omega arith in e))
    go below false e = rw (e, digits_of) (below ∙ ap (λ (k : ℕ). natural k s) (let e : n / 10 * 10 + (48 + n % 10 - 48) ≡ n = omega arith in e))

pub reads_back : (n : ℕ) → n < 18446744073709551616 → natural 0 (decimal_digits n) ≡ n
unfolding tens natural
reads_back n h = digits_spell 19 n [] (omega arith)

pub low_hex : (n : ℕ) → n < 10 → hex_of n ≡ 48 + n
low_hex n h = rw (lt-ltb n 10 h)

pub high_hex : (n : ℕ) → 10 ≤ n → hex_of n ≡ 87 + n
high_hex n h = rw (le-ltb n 10 h)

module _ (c : ℕ) where
  pub quote_escaped : c ≡ 34 → quoted_byte c ≡ ascii "\\\""
  quote_escaped e = rw (eq-eqb c 34 e)

  module _ (q : c ≡ 34 → ⊥) where
    pub backslash_escaped : c ≡ 92 → quoted_byte c ≡ ascii "\\\\"
    backslash_escaped e = rw (ne_eqb c 34 q, eq-eqb c 92 e)

    module _ (b : c ≡ 92 → ⊥) where
      pub control_escaped : c < 32 → quoted_byte c ≡ ascii "\\u00" ++ (hex_of (c / 16) ∷ hex_of (c % 16) ∷ [])
      control_escaped h = rw (ne_eqb c 34 q, ne_eqb c 92 b, lt-ltb c 32 h)

      pub byte_itself : 32 ≤ c → quoted_byte c ≡ c ∷ []
      byte_itself h = rw (ne_eqb c 34 q, ne_eqb c 92 b, le-ltb c 32 h)
