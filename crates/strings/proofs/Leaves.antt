-- The scans, turn by turn: hexadecimal digits, escapes, texts and spaces by place, and two cursors compared.
-- Assumes nothing.
use mathlib.Core.Path.{◌≡◌, refl, sym, ◌∙◌, ap, subst}
use mathlib.Core.List.{[], ◌∷◌}
use Rattle.std.specs.Prelude.{Option, None, Some}
use mathlib.Core.Bool.{Bool, true, false}
use Prim.Native.Nat.{ℕ, zero, suc, ◌+◌, ◌-◌, ◌*◌, ◌^◌, ◌≤◌, ◌<◌}
use native.Mathlib.Nat.{add_assoc, add-zero, pow-suc}
use native.Mathlib.Numerals.{add-one}
use native.Mathlib.Omega.{arith}
use lib.Dec.{eqb, ltb}
use lib.ListN.{length, get_or, drop, take, length-drop, drop_of_length-le}
use Rattle.std.specs.Array.{IsFirstChunk}
use Rattle.std.specs.List.{starts_with}
use Rattle.std.proofs.lemmas.List.{drop-drop, get_or-drop, get_or-take, take_rest}
use lib.Seq.{drop-cons}
use borrow.Author.Tests.{eq-eqb, ltb-false, ltb-true, ne_eqb}
use Rattle.strings.specs.declared.escape.Scalar.{Scalar}
use Rattle.json_text.proofs.Cursor.{order_less, order_more}
use Rattle.json_text.specs.Orders.{order_of}
use Rattle.std.specs.Ordering.{nat_cmp}
use Rattle.json_text.proofs.Sound.{between_of, between_out}
use Rattle.strings.specs.Answers.{EscapedIn, EscapedTold, HexIn, HexTold, escaped_of, hex_of}
use Rattle.json_text.specs.Bytes.{Bytes, order_bytes}
use Rattle.json_text.specs.Escapes.{escaped, high_scalar, low_scalar, unit_scalar}
use Rattle.json_text.specs.Placing.{chars_at, place_of, skip_at, word_at}
use Rattle.json_text.specs.Refusal.{Result, ◌>>=◌, not_json, ok, refused}
use Rattle.json_text.specs.Scan.{Read, is_space, word}
use Rattle.json_text.specs.Strings.{hex, hex_digit, simple_escape}

first_byte : (s : Bytes) (at : ℕ) → at < length s → drop at s ≡ get_or s at 0 ∷ drop (at + 1) s
first_byte s at h = rw add-one (drop-cons s at 0 h)

-- ---- four digits
hex_short : (n u : ℕ) (t : Bytes) → length t < n → hex n u t ≡ refused not_json
unfolding hex
hex_short zero u t h = absurd (omega arith)
hex_short (suc n) u [] h = refl
hex_short (suc n) u (c ∷ t) h = go (hex_digit c) refl (λ v. hex_short n v t (omega arith))
  where
    go : (o : Option ℕ) → hex_digit c ≡ o → ((v : ℕ) → hex n v t ≡ refused not_json) → hex (suc n) u (c ∷ t) ≡ refused not_json
    go None e below = rw (e, hex)
    go (Some d) e below = rw (e, hex) (below (u * 16 + d))

hex_step : (n u : ℕ) (s : Bytes) (at d : ℕ) → at < length s → hex_digit (get_or s at 0) ≡ Some d → hex (suc n) u (drop at s) ≡ hex n (u * 16 + d) (drop (at + 1) s)
unfolding hex
hex_step n u s at d h e = rw (first_byte s at h, e, hex)

hex_stop : (n u : ℕ) (s : Bytes) (at : ℕ) → at < length s → hex_digit (get_or s at 0) ≡ None → hex (suc n) u (drop at s) ≡ refused not_json
unfolding hex
hex_stop n u s at h e = rw (first_byte s at h, e, hex)

pub told_bad : {s : Bytes} {at : ℕ} → hex 4 0 (drop at s) ≡ refused not_json → HexTold s at None
unfolding hex_of HexIn
told_bad e = record { answers = e; bounds = tt }

pub short : (s : Bytes) (at : ℕ) → length (take (length s - at) (drop at s)) < 4 → HexTold s at None
short s at h = told_bad (hex_short 4 0 (drop at s) (rw take_rest at h))

-- so many digits spell this number so far, and the others decide the whole
pub record Spelling (s : Bytes) (at k u : ℕ) : Type 0 where
  pub room : at + 4 ≤ length s
  pub few : k ≤ 4
  pub small : u < 16 ^ k
  pub rest : hex 4 0 (drop at s) ≡ hex (4 - k) u (drop (at + k) s)

-- the four bytes that are taken
module _ (s : Bytes) (at : ℕ) {items : Bytes} (i : IsFirstChunk (take (length s - at) (drop at s)) items 4) where
  pub chunk_room : at ≤ length s → at + 4 ≤ length s
  chunk_room h = omega (arith, rw take_rest at i.enough, length-drop at s)

  chunk_byte : (k : ℕ) → k < 4 → get_or items k 0 ≡ get_or s (at + k) 0
  chunk_byte k h = rw (i.same, take_rest) (get_or-take 4 (drop at s) k 0 h ∙ get_or-drop at s k 0)

pub spelling : (s : Bytes) (at : ℕ) → at + 4 ≤ length s → Spelling s at 0 0
spelling s at h = record { room = h; few = omega arith; small = omega arith; rest = rw add-zero }

module _ {s : Bytes} {at k u : ℕ} (l : Spelling s at k u) where
  fits : (k : ℕ) → k < 4 → 16 ^ k ≤ 4096
  fits zero h = omega arith
  fits (suc zero) h = omega arith
  fits (suc (suc zero)) h = omega arith
  fits (suc (suc (suc zero))) h = omega arith
  fits (suc (suc (suc (suc n)))) h = absurd (omega arith)

  pub unit_fits : k < 4 → u < 4096
  unit_fits h = omega (arith, l.small, fits k h)

  module _ (h : k < 4) where
    one_less : 4 - k ≡ suc (4 - (k + 1))
    one_less = omega arith

    pub digit_on : {items : Bytes} → IsFirstChunk (take (length s - at) (drop at s)) items 4 → (d : ℕ) → hex_digit (get_or items k 0) ≡ Some d → d < 16 → Spelling s at (k + 1) (u * 16 + d)
    digit_on i d e b = record {
      room = l.room;
      few = omega arith;
      small = rw (add-one, pow-suc) (omega (arith, l.small));
      rest = l.rest ∙ rw (one_less, ← add_assoc) (hex_step _ u s (at + k) d (omega (arith, l.room)) (ap hex_digit (sym (chunk_byte s at i k h)) ∙ e));
    }

    pub digit_bad : {items : Bytes} → IsFirstChunk (take (length s - at) (drop at s)) items 4 → hex_digit (get_or items k 0) ≡ None → HexTold s at None
    digit_bad i e = told_bad (l.rest ∙ rw one_less (hex_stop _ u s (at + k) (omega (arith, l.room)) (ap hex_digit (sym (chunk_byte s at i k h)) ∙ e)))

  pub all_four : 4 ≤ k → HexTold s at (Some u)
  unfolding hex hex_of HexIn
  all_four h = let e : k ≡ 4 = omega (arith, l.few) in record {
    answers = l.rest ∙ rw e;
    bounds = (omega (arith, rw e at l.small), l.room);
  }

-- ---- an escape, by what is known of its bytes
pub escape_bad : {s : Bytes} {at : ℕ} {x : Result (Read ℕ)} → x ≡ refused not_json → EscapedTold s at x None
unfolding escaped_of EscapedIn
escape_bad e = record { answers = e; bounds = tt }

pub escape_is : {s : Bytes} {at : ℕ} {x : Result (Read ℕ)} (u p : ℕ) → x ≡ ok (record { got = u; rest = drop p s }) → u < 1114112 → at < p →
    p ≤ length s → EscapedTold s at x (Some (record { unit = u; next = p }))
unfolding escaped_of EscapedIn
escape_is u p e a b c = record { answers = e; bounds = (a, b, c) }

-- what four digits said
pub hex_was_bad : {s : Bytes} {at : ℕ} {r : Option ℕ} → HexTold s at r → r ≡ None → hex 4 0 (drop at s) ≡ refused not_json
unfolding hex_of
hex_was_bad {s} {at} h e = h.answers ∙ ap (hex_of s at) e

pub hex_was : {s : Bytes} {at : ℕ} {r : Option ℕ} (u p : ℕ) → HexTold s at r → r ≡ Some u → p ≡ at + 4 →
    (hex 4 0 (drop at s) ≡ ok (record { got = u; rest = drop p s })) × (u < 65536) × (p ≤ length s)
unfolding hex_of HexIn
hex_was {s} {at} u p h e q = let b = subst (HexIn s at) e h.bounds in rw q (h.answers ∙ ap (hex_of s at) e, b.0, b.1)

-- a word that a text begins with
pub word_starts : (w t : Bytes) → word w t ≡ elim (starts_with eqb t w) [ true ↦ ok (drop (length w) t) | false ↦ refused not_json ]
unfolding word
word_starts [] t = refl
word_starts (c ∷ w) [] = refl
word_starts (c ∷ w) (d ∷ t) = go (eqb c d) refl (word_starts w t)
  where
    go : (b : Bool) → eqb c d ≡ b → word w t ≡ elim (starts_with eqb t w) [ true ↦ ok (drop (length w) t) | false ↦ refused not_json ] →
        word (c ∷ w) (d ∷ t) ≡ elim (starts_with eqb (d ∷ t) (c ∷ w)) [ true ↦ ok (drop (suc (length w)) (d ∷ t)) | false ↦ refused not_json ]
    go true e h = rw (e, word) h
    go false e h = rw (e, word)

pub two_left : (s : Bytes) (at : ℕ) → 2 ≤ length (take (length s - at) (drop at s)) → at + 2 ≤ length s
two_left s at h = omega (arith, rw take_rest at h, length-drop at s)

module _ (high : ℕ) (s : Bytes) (at : ℕ) where
  pub no_word : false ≡ starts_with eqb (take (length s - at) (drop at s)) (92 ∷ 117 ∷ []) → high_scalar high (drop at s) ≡ refused not_json
  unfolding high_scalar
  no_word e = rw (word_starts (92 ∷ 117 ∷ []) (drop at s), sym (rw take_rest at e))

  module _ (is_word : true ≡ starts_with eqb (take (length s - at) (drop at s)) (92 ∷ 117 ∷ [])) where
    high_is : high_scalar high (drop at s) ≡ (hex 4 0 (drop (at + 2) s) >>= low_scalar high)
    unfolding high_scalar
    high_is = rw (word_starts (92 ∷ 117 ∷ []) (drop at s), sym (rw take_rest at is_word), drop-drop 2 at s)

    pub no_low : hex 4 0 (drop (at + 2) s) ≡ refused not_json → high_scalar high (drop at s) ≡ refused not_json
    no_low e = high_is ∙ rw e

    pub wrong_low :
        (low : ℕ) (r : Bytes) → hex 4 0 (drop (at + 2) s) ≡ ok (record { got = low; rest = r }) → (56320 ≤ low → low ≤ 57343 → ⊥) →
        high_scalar high (drop at s) ≡ refused not_json
    unfolding low_scalar
    wrong_low low r e f = high_is ∙ rw (e, between_out 56320 57343 low f, low_scalar)

    pub good_low : (low : ℕ) (r : Bytes) → hex 4 0 (drop (at + 2) s) ≡
        ok (record { got = low; rest = r }) → 56320 ≤ low → low ≤ 57343 → high_scalar high (drop at s) ≡
        ok (record { got = 65536 + (high - 55296) * 1024 + (low - 56320); rest = r })
    unfolding low_scalar
    good_low low r e p q = high_is ∙ rw (e, between_of 56320 57343 low p q, low_scalar)

module _ (s : Bytes) (at : ℕ) where
  pub escape_none : length s ≤ at → escaped (drop at s) ≡ refused not_json
  unfolding escaped
  escape_none h = rw (drop_of_length-le s h)

  module _ (h : at < length s) where
    pub escape_simple : (d : ℕ) → simple_escape (get_or s at 0) ≡ Some d → escaped (drop at s) ≡ ok (record { got = d; rest = drop (at + 1) s })
    unfolding escaped
    escape_simple d e = rw (first_byte s at h, e, escaped)

    module _ (none_simple : simple_escape (get_or s at 0) ≡ None) where
      pub escape_other : (get_or s at 0 ≡ 117 → ⊥) → escaped (drop at s) ≡ refused not_json
      unfolding escaped
      escape_other f = rw (first_byte s at h, none_simple, escaped, ne_eqb (get_or s at 0) 117 f)

      module _ (is_u : get_or s at 0 ≡ 117) where
        escape_u : escaped (drop at s) ≡ (hex 4 0 (drop (at + 1) s) >>= unit_scalar)
        unfolding escaped
        escape_u = rw (first_byte s at h, none_simple, escaped, eq-eqb (get_or s at 0) 117 is_u)

        pub no_unit : hex 4 0 (drop (at + 1) s) ≡ refused not_json → escaped (drop at s) ≡ refused not_json
        no_unit e = escape_u ∙ rw e

        module _ (u : ℕ) (r : Bytes) (e : hex 4 0 (drop (at + 1) s) ≡ ok (record { got = u; rest = r })) where
          pub plain_unit_lem : (55296 ≤ u → u ≤ 57343 → ⊥) → escaped (drop at s) ≡ ok (record { got = u; rest = r })
          unfolding unit_scalar
          plain_unit_lem f = escape_u ∙ rw (e, between_out 55296 56319 u (λ a b. f a (omega arith)), between_out 56320 57343 u (λ a b. f (omega arith) b), unit_scalar)

          pub low_unit_lem : 56320 ≤ u → u ≤ 57343 → escaped (drop at s) ≡ refused not_json
          unfolding unit_scalar
          low_unit_lem p q = escape_u ∙ rw (e, between_out 55296 56319 u (λ a b. omega arith), between_of 56320 57343 u p q, unit_scalar)

          pub high_unit_lem : 55296 ≤ u → u < 56320 → escaped (drop at s) ≡ high_scalar u r
          unfolding unit_scalar
          high_unit_lem p q = escape_u ∙ rw (e, between_of 55296 56319 u p (omega arith), unit_scalar)

-- an answer for a later place is one for an earlier
pub later : {s : Bytes} {at b : ℕ} {x y : Result (Read ℕ)} {r : Option Scalar} → x ≡ y → at ≤ b → EscapedTold s b y r → EscapedTold s at x r
unfolding EscapedIn
later {s} {at} {b} {r} e h t = record { answers = e ∙ t.answers; bounds = go r t.bounds }
  where
    go : (r : Option Scalar) → EscapedIn s b r → EscapedIn s at r
    go None i = tt
    go (Some x) i = (i.0, omega arith, i.2)

-- ---- the scan's loop: from `here` on it is the whole scan
pub record Scanning (s : Bytes) (at here : ℕ) : Type 0 where
  pub upto : here ≤ length s
  pub same : chars_at s at ≡ chars_at s here

pub escape_was_bad : {s : Bytes} {at : ℕ} {x : Result (Read ℕ)} {r : Option Scalar} → EscapedTold s at x r → r ≡ None → x ≡ refused not_json
unfolding escaped_of
escape_was_bad {s} h e = h.answers ∙ ap (escaped_of s) e

pub escape_was : {s : Bytes} {at : ℕ} {x : Result (Read ℕ)} {r : Option Scalar} (q : Scalar) → EscapedTold s at x r → r ≡
    Some q → (x ≡ ok (record { got = q.unit; rest = drop q.next s })) × (q.unit < 1114112) × (at < q.next) ×
    (q.next ≤ length s)
unfolding escaped_of EscapedIn
escape_was {s} {at} q h e = let b = subst (EscapedIn s at) e h.bounds in (h.answers ∙ ap (escaped_of s) e, b.0, b.1, b.2)

-- ---- texts compared
-- two different bytes decide
pub order_differ : {x y s t : Bytes} {c d : ℕ} → x ≡ c ∷ s → y ≡ d ∷ t → (c ≡ d → ⊥) → order_bytes x y ≡ order_of (nat_cmp c d)
order_differ {x} {y} {s} {t} {c} {d} i j ne = go (ltb c d) refl
  where
    go : (b : Bool) → ltb c d ≡ b → order_bytes x y ≡ order_of (nat_cmp c d)
    go true e = order_less i j (ltb-true c d e) ∙ rw e
    go false e = let f = ltb-false c d e in order_more i j (omega arith) ∙ rw (e, ne_eqb c d ne)

-- ---- spaces
pub is_space_lem : (c k : ℕ) → c ≡ k → is_space k ≡ true → true ≡ is_space c
is_space_lem c k e h = sym (ap is_space e ∙ h)

pub record Skipping (s : Bytes) (at here : ℕ) : Type 0 where
  pub upto : here ≤ length s
  pub same : skip_at s at ≡ skip_at s here

-- ---- a word, byte by byte
pub record Wording (w s : Bytes) (at here k : ℕ) : Type 0 where
  pub upto : here ≤ length s
  pub within : k ≤ length w
  pub same : word_at w s at ≡ word_at (drop k w) s here

module _ {w s : Bytes} {at here k : ℕ} (l : Wording w s at here k) where
  pub word_done : length w ≤ k → word_at w s at ≡ ok here
  unfolding word_at word place_of
  word_done h =
      l.same ∙
      rw (drop_of_length-le w h)
      (let q : length s - length (drop here s) ≡
      here = omega (arith, length-drop here s, l.upto) in ap {B = Result ℕ} (λ (n : ℕ). ok n) q)

  module _ (more : k < length w) where
    pub word_short : length s ≤ here → word_at w s at ≡ refused not_json
    unfolding word_at word
    word_short h = l.same ∙ rw (first_byte w k more, drop_of_length-le s h)

    module _ (inside : here < length s) where
      pub word_apart : (get_or s here 0 ≡ get_or w k 0 → ⊥) → word_at w s at ≡ refused not_json
      unfolding word_at word
      word_apart f = l.same ∙ rw (first_byte w k more, first_byte s here inside, ne_eqb (get_or w k 0) (get_or s here 0) (λ e. f (sym e)), word)

      pub word_on : get_or s here 0 ≡ get_or w k 0 → Wording w s at (here + 1) (k + 1)
      unfolding word_at word
      word_on e =
          record {
            upto = omega arith;
            within = omega arith;
            same = l.same ∙ rw (first_byte w k more, first_byte s here inside, eq-eqb (get_or w k 0) (get_or s here 0) (sym e), word);
          }
