-- The string scanner and the escape, by place: a law for each turn of the code.
-- Assumes nothing.
use mathlib.Core.Bool.{Bool, false, true}
use mathlib.Core.List.{[], ◌++◌, ◌∷◌}
use mathlib.Core.Path.{refl, subst, sym, ◌∙◌, ◌≡◌}
use Prim.Native.Nat.{suc, zero, ℕ, ◌+◌, ◌-◌, ◌<◌, ◌≤◌}
use native.Mathlib.Numerals.{add-one}
use native.Mathlib.Omega.{arith}
use lib.ListN.{drop, drop_of_length-le, get_or, length, length-drop}
use lib.Seq.{drop-cons}
use Rattle.json_text.proofs.Complete.{escape_length}
use Rattle.json_text.proofs.Laws.{ok_injective}
use Rattle.json_text.proofs.Sound.{escape_sound}
use Rattle.json_text.proofs.Texts.{escape_is}
use Rattle.json_text.specs.Bytes.{Bytes, choose}
use Rattle.json_text.specs.Escapes.{escaped}
use Rattle.json_text.specs.Placing.{byte_at, chars_at, place_of, skip_at}
use Rattle.json_text.specs.Refusal.{Result, not_json, ok, refused, ◌>>=◌}
use Rattle.json_text.specs.Scan.{Read, is_space, skip}
use Rattle.json_text.specs.Strings.{Char, backslash, char, chars, control, escape, other, quote}
use Rattle.json_text.specs.Utf8.{encode}
use borrow.Author.Tests.{eq-eqb, eqb-true, le-ltb, lt-ltb, ne_eqb}
use Rattle.std.specs.Borrow.{Bor}
use Rattle.std.specs.Prelude.{None, Option, option_map, unwrap_or}
use lib.Dec.{eqb}

-- what `get` says of a place where nothing stands
pub none_there : (s : Bytes) (at : ℕ) {r : Option (Bor ℕ)} → unwrap_or (option_map (λ (x : Bor ℕ). x.now) r) 0 ≡ get_or s at 0 → r ≡ None → get_or s at 0 ≡ 0
none_there s at h e = sym (subst (λ (r : Option (Bor ℕ)). unwrap_or (option_map (λ (x : Bor ℕ). x.now) r) 0 ≡ get_or s at 0) e h)

-- ---- one byte
pub byte_is : (c : ℕ) (s : Bytes) (at : ℕ) → get_or s at 0 ≡ c → byte_at c s at ≡ ok (at + 1)
unfolding byte_at
byte_is c s at e = rw (eq-eqb c (get_or s at 0) (sym e), byte_at)

pub byte_not : (c : ℕ) (s : Bytes) (at : ℕ) → (get_or s at 0 ≡ c → ⊥) → byte_at c s at ≡ refused not_json
unfolding byte_at
byte_not c s at f = rw (ne_eqb c (get_or s at 0) (λ e. f (sym e)), byte_at)

pub byte_was : (c : ℕ) (s : Bytes) (at a : ℕ) → byte_at c s at ≡ ok a → (get_or s at 0 ≡ c) × (a ≡ at + 1)
unfolding byte_at
byte_was c s at a e = go (eqb c (get_or s at 0)) refl
  where
    go : (b : Bool) → eqb c (get_or s at 0) ≡ b → (get_or s at 0 ≡ c) × (a ≡ at + 1)
    go true q = (sym (eqb-true c (get_or s at 0) q), sym (ok_injective (rw (q, byte_at) at e)))
    go false q = let f : refused not_json ≡ ok a = rw (q, byte_at) at e in let z : ◌≡◌ {A = ℕ} 0 1 = cc in absurd (omega arith)

-- ---- a text
-- enough steps are enough
pub chars_enough : (n m : ℕ) (t : Bytes) → length t ≤ n → length t ≤ m → chars n t ≡ chars m t
unfolding chars
chars_enough zero zero t p q = refl
chars_enough zero (suc m) [] p q = refl
chars_enough zero (suc m) (c ∷ t) p q = absurd (omega arith)
chars_enough (suc n) zero [] p q = refl
chars_enough (suc n) zero (c ∷ t) p q = absurd (omega arith)
chars_enough (suc n) (suc m) [] p q = refl
chars_enough (suc n) (suc m) (c ∷ t) p q = go (λ u i j. chars_enough n m u i j) (char c) refl
  where
    Below : Type 0
    Below = (u : Bytes) → length u ≤ n → length u ≤ m → chars n u ≡ chars m u

    on : ℕ → Read Bytes → Result (Read Bytes)
    on k e = chars k e.rest >>= λ r. ok (record { got = e.got ++ r.got; rest = r.rest })

    step : Below → (x : Result (Read Bytes)) → escape t ≡ x → (x >>= λ e. on n e) ≡ (x >>= λ e. on m e)
    step below (ok e) i = let l = escape_length (escape_sound t e i) in rw (below e.rest (omega arith) (omega arith))
    step below (refused r) i = refl

    go : Below → (k : Char) → char c ≡ k → chars (suc n) (c ∷ t) ≡ chars (suc m) (c ∷ t)
    go below quote e = rw (e, chars)
    go below backslash e = rw (e, chars) (step below (escape t) refl)
    go below control e = rw (e, chars)
    go below other e = rw (e, chars) (rw (below t (omega arith) (omega arith)))

-- the characters' place, whatever they are
place : Bytes → Result (Read Bytes) → Result ℕ
place s x = x >>= λ r. ok (place_of s r.rest)

place_more : (s y : Bytes) (x : Result (Read Bytes)) → place s (x >>= λ r. ok (record { got = y ++ r.got; rest = r.rest })) ≡ place s x
unfolding place
place_more s y (ok r) = refl
place_more s y (refused r) = refl

module _ (s : Bytes) (at : ℕ) where
  pub scan_none : length s ≤ at → chars_at s at ≡ refused not_json
  unfolding chars_at chars
  scan_none h = rw (drop_of_length-le s h)

  module _ (h : at < length s) where
    here : drop at s ≡ get_or s at 0 ∷ drop (at + 1) s
    here = rw add-one (drop-cons s at 0 h)

    opened : chars_at s at ≡ place s (chars (suc (length (drop (at + 1) s))) (get_or s at 0 ∷ drop (at + 1) s))
    unfolding chars_at place
    opened = rw here

    pub scan_quote : get_or s at 0 ≡ 34 → chars_at s at ≡ ok (at + 1)
    unfolding chars place place_of
    scan_quote e = let q : length s - length (drop (at + 1) s) ≡ at + 1 = omega (arith, length-drop (at + 1) s) in opened ∙ rw (e, q)

    pub scan_control : get_or s at 0 < 32 → chars_at s at ≡ refused not_json
    unfolding chars place
    scan_control e = opened ∙ rw (is, chars)
      where
        is : char (get_or s at 0) ≡ control
        is = rw (ne_eqb (get_or s at 0) 34 (λ q. omega arith), ne_eqb (get_or s at 0) 92 (λ q. omega arith), lt-ltb (get_or s at 0) 32 e, choose)

    pub scan_raw : (get_or s at 0 ≡ 34 → ⊥) → (get_or s at 0 ≡ 92 → ⊥) → 32 ≤ get_or s at 0 → chars_at s at ≡ chars_at s (at + 1)
    unfolding chars place chars_at
    scan_raw p q r = opened ∙ rw (is, chars) (place_more s (get_or s at 0 ∷ []) (chars (length (drop (at + 1) s)) (drop (at + 1) s)))
      where
        is : char (get_or s at 0) ≡ other
        is = rw (ne_eqb (get_or s at 0) 34 p, ne_eqb (get_or s at 0) 92 q, le-ltb (get_or s at 0) 32 r, choose)

    pub scan_bad : get_or s at 0 ≡ 92 → escaped (drop (at + 1) s) ≡ refused not_json → chars_at s at ≡ refused not_json
    unfolding chars place
    scan_bad e f = opened ∙ rw (e, escape_is (drop (at + 1) s), f)

    pub scan_escape : (u b : ℕ) → get_or s at 0 ≡ 92 → escaped (drop (at + 1) s) ≡ ok (record { got = u; rest = drop b s }) → at < b → chars_at s at ≡ chars_at s b
    unfolding chars place chars_at
    scan_escape u b e f l =
        opened ∙
        rw (
          e,
          escape_is (drop (at + 1) s),
          f,
          chars_enough (length (drop (at + 1) s)) (length (drop b s)) (drop b s)
              (omega (arith, length-drop b s, length-drop (at + 1) s)) (omega arith),
        )
        (place_more s (encode u) (chars (length (drop b s)) (drop b s)))

-- ---- spaces
module _ (s : Bytes) (at : ℕ) where
  pub skip_none : length s ≤ at → at ≤ length s → skip_at s at ≡ at
  unfolding skip_at
  skip_none h k = rw (drop_of_length-le s h) (omega arith)

  module _ (h : at < length s) where
    pub skip_stop : is_space (get_or s at 0) ≡ false → skip_at s at ≡ at
    unfolding skip_at
    skip_stop e = rw (here s at h, e, skip) (omega (arith, length-drop (at + 1) s))

    pub skip_on : is_space (get_or s at 0) ≡ true → skip_at s at ≡ skip_at s (at + 1)
    unfolding skip_at
    skip_on e = rw (here s at h, e, skip)
