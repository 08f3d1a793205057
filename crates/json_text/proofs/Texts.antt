-- A text as written, one character or escape at a time, and byte by byte through a cursor.
-- Assumes nothing.
use mathlib.Core.Bool.{Bool, false, true}
use mathlib.Core.List.{[], ◌++◌, ◌∷◌}
use Rattle.std.specs.Prelude.{Option, None, Some}
use mathlib.Core.Path.{ap, refl, subst, sym, ◌∙◌, ◌≡◌}
use Prim.Native.Nat.{ℕ, ◌+◌, ◌-◌, ◌<◌, ◌≤◌}
use native.Mathlib.Nat.{add-zero}
use native.Mathlib.Omega.{arith}
use lib.Dec.{eqb}
use lib.ListN.{drop, get_or, length, length-drop}
use lib.Seq.{drop-drop, get_or-drop}
use Rattle.json_text.proofs.Agree.{chars_short, chars_tail, escape_tail, placed}
use Rattle.json_text.proofs.Complete.{chars_complete, escape_complete, escape_length, unescaped_char}
use Rattle.json_text.proofs.Laws.{ok_injective}
use Rattle.json_text.proofs.Sound.{bind_inv, chars_sound}
use Rattle.json_text.specs.Bytes.{Bytes, ascii, between, choose}
use Rattle.json_text.specs.Escapes.{escaped, high_scalar, low_scalar, unit_scalar}
use Rattle.json_text.specs.Fits.{Text}
use Rattle.json_text.specs.Grammar.{Chars, close, unescaped}
use Rattle.json_text.specs.Placing.{chars_at, place_of}
use Rattle.json_text.specs.Refusal.{Result, ok, refused, ◌>>=◌}
use Rattle.json_text.specs.Scan.{Read, word}
use Rattle.json_text.specs.Spans.{text_at}
use Rattle.json_text.specs.Strings
use Rattle.json_text.specs.Strings.{char, chars, escape, hex, high_unit, low_unit, other, plain_unit, simple_escape, unit16}
use Rattle.json_text.specs.Utf8.{encode}

abbrev pub in_bytes : Read ℕ → Result (Read Bytes)
in_bytes u = ok (record { got = encode u.got; rest = u.rest })

simple_byte : (c d : ℕ) → simple_escape c ≡ Some d → encode d ≡ d ∷ []
unfolding encode
simple_byte c d e = go (eqb c 34) (eqb c 92) (eqb c 47) (eqb c 98) (eqb c 102) (eqb c 110) (eqb c 114) (eqb c 116) e
  where
    is : (k : ℕ) → ◌≡◌ {A = Option ℕ} (Some k) (Some d) → encode k ≡ k ∷ [] → encode d ≡ d ∷ []
    is k q r = let z : k ≡ d = cc in subst (λ (x : ℕ). encode x ≡ x ∷ []) z r

    go : (a b f g h i j k : Bool) →
        choose ((a, Some 34) ∷ (b, Some 92) ∷ (f, Some 47) ∷ (g, Some 8) ∷ (h, Some 12) ∷ (i, Some 10) ∷ (j, Some 13) ∷ (k, Some 9) ∷ [])
        None ≡ Some d → encode d ≡ d ∷ []
    go true b f g h i j k q = is 34 q refl
    go false true f g h i j k q = is 92 q refl
    go false false true g h i j k q = is 47 q refl
    go false false false true h i j k q = is 8 q refl
    go false false false false true i j k q = is 12 q refl
    go false false false false false true j k q = is 10 q refl
    go false false false false false false true k q = is 13 q refl
    go false false false false false false false true q = is 9 q refl
    go false false false false false false false false q = let z : ◌≡◌ {A = ℕ} 0 1 = cc in absurd (omega arith)

low_half_is : (high : ℕ) (low : Read ℕ) → Strings.low_half high low ≡ (low_scalar high low >>= in_bytes)
unfolding Strings.low_half low_scalar
low_half_is high low = go (between 56320 57343 low.got) refl
  where
    go : (b : Bool) → between 56320 57343 low.got ≡ b → Strings.low_half high low ≡ (low_scalar high low >>= in_bytes)
    go true e = rw (e, Strings.low_half, low_scalar)
    go false e = rw (e, Strings.low_half, low_scalar)

high_half_is : (high : ℕ) (s : Bytes) → Strings.high_half high s ≡ (high_scalar high s >>= in_bytes)
unfolding Strings.high_half high_scalar
high_half_is high s = go (word (ascii "\\u") s)
  where
    by : (y : Result (Read ℕ)) → (y >>= λ low. Strings.low_half high low) ≡ ((y >>= λ low. low_scalar high low) >>= in_bytes)
    by (ok low) = low_half_is high low
    by (refused r) = refl

    go : (x : Result Bytes) → (x >>= λ t. (hex 4 0 t >>= λ low. Strings.low_half high low)) ≡ ((x >>= λ t. (hex 4 0 t >>= λ low. low_scalar high low)) >>= in_bytes)
    go (ok t) = by (hex 4 0 t)
    go (refused r) = refl

of_unit_is : (u : Read ℕ) → Strings.of_unit u ≡ (unit_scalar u >>= in_bytes)
unfolding Strings.of_unit unit_scalar
of_unit_is u = go (unit16 u.got) refl
  where
    go : (k : Strings.Unit16) → unit16 u.got ≡ k → Strings.of_unit u ≡ (unit_scalar u >>= in_bytes)
    go plain_unit e = rw (e, Strings.of_unit, unit_scalar)
    go high_unit e = rw (e, Strings.of_unit, unit_scalar) (high_half_is u.got u.rest)
    go low_unit e = rw (e, Strings.of_unit, unit_scalar)

-- an escape's bytes are those of its scalar value
pub escape_is : (s : Bytes) → escape s ≡ (escaped s >>= in_bytes)
unfolding escape escaped Strings.unicode
escape_is [] = refl
escape_is (c ∷ s) = go (simple_escape c) refl
  where
    by : (y : Result (Read ℕ)) → (y >>= λ u. Strings.of_unit u) ≡ ((y >>= λ u. unit_scalar u) >>= in_bytes)
    by (ok u) = of_unit_is u
    by (refused r) = refl

    is_u : (b : Bool) → eqb c 117 ≡ b → simple_escape c ≡ None → escape (c ∷ s) ≡ (escaped (c ∷ s) >>= in_bytes)
    is_u true q e = rw (e, escape, escaped, q) (by (hex 4 0 s))
    is_u false q e = rw (e, escape, escaped, q)

    go : (o : Option ℕ) → simple_escape c ≡ o → escape (c ∷ s) ≡ (escaped (c ∷ s) >>= in_bytes)
    go (Some d) e = rw (e, escape, escaped, simple_byte c d e)
    go None e = is_u (eqb c 117) refl e

-- ---- a text, and what stands at its beginning
pub text_spelled : (s : Bytes) (a e : ℕ) → Text s a e → Chars (text_at s a) (drop a s) (drop (e + 1) s)
unfolding chars_at text_at
text_spelled s a e h =
    let i = bind_inv (chars (length (drop a s)) (drop a s)) _ h.read in
    let x = i.0 in
    let f = chars_sound (length (drop a s)) (drop a s) x i.1 in
    let b = placed s a 1 (drop a s) x.rest refl (omega (arith, h.order, h.upto)) (chars_tail f) (chars_short f) in
    let p : place_of s x.rest ≡ e + 1 = ok_injective i.2 in
    let r : x.rest ≡ drop (e + 1) s = b.rest ∙ ap (λ (k : ℕ). drop k s) p in
    rw i.1 (subst (λ (y : Bytes). Chars x.got (drop a s) y) r f)

pub spelled_text : (s : Bytes) (a e : ℕ) {x t : Bytes} → t ≡ drop a s → e < length s → Chars x t (drop (e + 1) s) → Text s a e × (text_at s a ≡ x)
unfolding chars_at text_at place_of
spelled_text s a e {x} {t} q h f =
    let c = chars_complete (length (drop a s)) (omega arith) (subst (λ (y : Bytes). Chars x y (drop (e + 1) s)) q f) in
    let p : length s - length (drop (e + 1) s) ≡ e + 1 = omega (arith, length-drop (e + 1) s) in
    (record { read = rw (c, p); order = omega (arith, chars_short f, ap length q, length-drop a s, length-drop (e + 1) s); upto = h }, rw c)

pub data TextView (s : Bytes) (a e : ℕ) : Type 0 where
  ended : a ≡ e → get_or s a 0 ≡ 34 → text_at s a ≡ [] → TextView s a e
  raw : a < e → char (get_or s a 0) ≡ other → text_at s a ≡ get_or s a 0 ∷ text_at s (a + 1) → Text s (a + 1) e → TextView s a e
  written : (u b : ℕ) → get_or s a 0 ≡ 92 → escaped (drop (a + 1) s) ≡ ok (record { got = u; rest = drop b s }) →
      text_at s a ≡ encode u ++ text_at s b → Text s b e → a + 2 ≤ b → TextView s a e

head_at : (s : Bytes) (a c : ℕ) (r : Bytes) → drop a s ≡ c ∷ r → (get_or s a 0 ≡ c) × (r ≡ drop (a + 1) s)
head_at s a c r e = (ap (λ (k : ℕ). get_or s k 0) (sym (add-zero a)) ∙ sym (get_or-drop a s 0 0) ∙ ap (λ (l : Bytes). get_or l 0 0) e, ap (drop 1) (sym e) ∙ drop-drop 1 a s)

pub text_view : (s : Bytes) (a e : ℕ) → Text s a e → TextView s a e
text_view s a e h = go (drop a s) (drop (e + 1) s) (text_at s a) refl refl refl (text_spelled s a e h)
  where
    go : (t r x : Bytes) → drop a s ≡ t → drop (e + 1) s ≡ r → text_at s a ≡ x → Chars x t r → TextView s a e
    go t r x i j k (close {c} {r = z} q) =
        let g = head_at s a c z i in
        ended (omega (arith, ap length i, ap length j, length-drop a s, length-drop (e + 1) s, h.order, h.upto)) (g.0 ∙ q) k
    go t r x i j k (unescaped {c} {x = y} {s = z} u f) =
        let g = head_at s a c z i in
        let m = spelled_text s (a + 1) e g.1 h.upto (subst (λ (v : Bytes). Chars y z v) (sym j) f) in
        raw (omega (arith, m.0.order)) (ap char g.0 ∙ unescaped_char c u) (k ∙ cc (g.0, m.1)) m.0
    go t r x i j k (Chars.escape {c} {y} {z} {s = s'} {t = t'} q f l p) =
        let g = head_at s a c s' i in
        let o = bind_inv (escaped s') in_bytes (sym (escape_is s') ∙ escape_complete f) in
        let u = o.0 in
        let d = ok_injective o.2 in
        let b = placed s (a + 1) 1 s' t' g.1 (omega (arith, ap length i, length-drop a s)) (escape_tail f) (escape_length f) in
        let m = spelled_text s (place_of s t') e b.rest h.upto (subst (λ (v : Bytes). Chars z t' v) (sym j) l) in
        let w : u.rest ≡ drop (place_of s t') s = ap (λ (v : Read Bytes). v.rest) d ∙ b.rest in
        let v : encode u.got ≡ y = ap (λ (v : Read Bytes). v.got) d in
        written u.got (place_of s t') (g.0 ∙ q)
        (ap escaped (sym g.1) ∙ o.1 ∙ ap {B = Result (Read ℕ)} (λ (r' : Bytes). ok (record { got = u.got; rest = r' })) w)
        (k ∙ p ∙ cc (v, m.1)) m.0 (omega (arith, b.past))

-- a text that was scanned
pub text_read : (s : Bytes) (a e : ℕ) → a ≤ length s → chars_at s a ≡ ok e → Text s a (e - 1) × (a < e) × (e ≤ length s)
unfolding chars_at
text_read s a e h q =
    let i = bind_inv (chars (length (drop a s)) (drop a s)) _ q in
    let x = i.0 in
    let f = chars_sound (length (drop a s)) (drop a s) x i.1 in
    let b = placed s a 1 (drop a s) x.rest refl h (chars_tail f) (chars_short f) in
    let p : place_of s x.rest ≡ e = ok_injective i.2 in
    let z : e - 1 + 1 ≡ e = omega (arith, b.past) in
    (record { read = rw z q; order = omega (arith, b.past); upto = omega (arith, b.past, b.upto) }, omega (arith, b.past), omega (arith, b.upto))
