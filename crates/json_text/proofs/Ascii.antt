-- Which bytes are ASCII, and UTF-8 where a text is cut or continued at an ASCII byte.
-- Assumes nothing.
use mathlib.Core.Bool.{Bool, false, false≢true, true, true≢false}
use mathlib.Core.List.{[], ◌++◌, ◌∷◌}
use mathlib.Core.Logic.{inl, inr, ◌≢◌}
use Rattle.std.specs.Prelude.{None, Some}
use mathlib.Core.Path.{refl, subst, sym, ◌∙◌, ◌≡◌}
use Prim.Native.Nat.{suc, zero, ℕ, ◌≤◌}
use native.Mathlib.Omega.{arith}
use lib.Dec.{eqb, ltb}
use Rattle.json_text.proofs.Laws.{eqb_false, leb_true, ltb_true}
use Rattle.json_text.proofs.Sound.{DigitView, between_in, between_out, digit_view, leb_false, leb_lt, v_e, v_minus, v_nonzero, v_other, v_plus, v_point, v_zero}
use Rattle.json_text.specs.Bytes.{Bytes, between, choose}
use Rattle.json_text.specs.Fault.{StandsAt}
use Rattle.json_text.specs.Grammar.{is_unescaped}
use Rattle.json_text.specs.Numerals.{Digit, digit, is_other}
use Rattle.json_text.specs.Reader.{start, start_nothing}
use Rattle.json_text.specs.Refusal.{Refusal}
use Rattle.json_text.specs.Scan.{is_space}
use Rattle.json_text.specs.Strings.{hex_digit, simple_escape}
use Rattle.json_text.specs.Tally.{Tally}
use Rattle.json_text.specs.Utf8.{Expect, after, lead, never, scalar, tail, utf8}

abbrev pub is_ascii : ℕ → Bool
is_ascii c = ltb c 128

-- the last byte of a text is ASCII, or what stands before it where it is empty
abbrev pub last_ascii : Bool → Bytes → Bool
last_ascii d [] = d
last_ascii d (c ∷ s) = last_ascii (is_ascii c) s

pub last_append : (d : Bool) (s t : Bytes) → last_ascii d (s ++ t) ≡ last_ascii (last_ascii d s) t
last_append d [] t = refl
last_append d (c ∷ s) t = last_append (is_ascii c) s t

-- all bytes are
abbrev pub all_ascii : Bytes → Bool
all_ascii [] = true
all_ascii (c ∷ s) = elim (is_ascii c) [ true ↦ all_ascii s | false ↦ false ]

pub all_append : (s t : Bytes) → all_ascii s ≡ true → all_ascii t ≡ true → all_ascii (s ++ t) ≡ true
all_append [] t h k = k
all_append (c ∷ s) t h k = go (is_ascii c) refl (all_append s t)
  where
    go : (b : Bool) → is_ascii c ≡ b → (all_ascii s ≡ true → all_ascii t ≡ true → all_ascii (s ++ t) ≡ true) → all_ascii (c ∷ (s ++ t)) ≡ true
    go true q below = rw (q, all_ascii) (below (rw (q, all_ascii) at h) k)
    go false q below = absurd (false≢true (rw (q, all_ascii) at h))

-- a byte that is not ASCII is none of these
high : (c : ℕ) → is_ascii c ≡ false → 128 ≤ c
high c e = omega (arith, leb_lt {m = suc c} {n = 128} e)

apart : (c k : ℕ) → is_ascii c ≡ false → is_ascii k ≡ true → eqb c k ≡ false
apart c k e f = eqb_false c k λ p. true≢false (sym f ∙ subst (λ (x : ℕ). is_ascii x ≡ false) p e)

outside : (l h c : ℕ) → is_ascii c ≡ false → suc h ≤ 128 → between l h c ≡ false
outside l h c e k = between_out l h c λ a b. omega (arith, high c e)

ascii_unless : (c : ℕ) → (is_ascii c ≡ false → ⊥) → is_ascii c ≡ true
ascii_unless c h = go (is_ascii c) refl
  where
    go : (b : Bool) → is_ascii c ≡ b → is_ascii c ≡ true
    go true q = q
    go false q = absurd (h q)

pub space_ascii : (c : ℕ) → is_space c ≡ true → is_ascii c ≡ true
space_ascii c e = ascii_unless c λ h. false≢true (sym (rw (apart c 32 h refl, apart c 9 h refl, apart c 10 h refl, apart c 13 h refl) refl) ∙ e)

pub digit_ascii : (c : ℕ) → digit c ≢ is_other → is_ascii c ≡ true
digit_ascii c n = go (digit_view c) n
  where
    go : {k : Digit} → DigitView c k → k ≢ is_other → is_ascii c ≡ true
    go (v_zero e) h = rw e refl
    go (v_nonzero e) h = ltb_true c 128 (omega (arith, between_in 49 57 c e))
    go (v_minus e) h = rw e refl
    go (v_plus e) h = rw e refl
    go (v_point e) h = rw e refl
    go (v_e (inl e)) h = rw e refl
    go (v_e (inr e)) h = rw e refl
    go v_other h = absurd (h refl)

pub hex_ascii : (c d : ℕ) → hex_digit c ≡ Some d → is_ascii c ≡ true
hex_ascii c d e =
    ascii_unless c λ h. absurd
    (none_is_some
    (sym (rw (outside 48 57 c h (omega arith), outside 65 70 c h (omega arith), outside 97 102 c h (omega arith), choose) refl) ∙ e))
  where
    none_is_some : None ≡ Some d → ⊥
    none_is_some p = let z : ◌≡◌ {A = Bool} true false = cc in true≢false z

pub simple_ascii : (c d : ℕ) → simple_escape c ≡ Some d → is_ascii c ≡ true
simple_ascii c d e =
    ascii_unless c λ h. absurd
    (none_is_some
    (sym
    (rw (
      apart c 34 h refl,
      apart c 92 h refl,
      apart c 47 h refl,
      apart c 98 h refl,
      apart c 102 h refl,
      apart c 110 h refl,
      apart
          c 114 h refl,
      apart c 116 h refl,
      choose,
    ) refl) ∙
    e))
  where
    none_is_some : None ≡ Some d → ⊥
    none_is_some p = let z : ◌≡◌ {A = Bool} true false = cc in true≢false z

pub start_ascii : (c : ℕ) → start c ≢ start_nothing → is_ascii c ≡ true
start_ascii c n =
    ascii_unless c λ h. n
    (rw (
      apart c 34 h refl,
      apart c 45 h refl,
      outside 48 57 c h (omega arith),
      apart c 91 h refl,
      apart c 123 h refl,
      apart c 110 h refl,
      apart c 116 h refl,
      apart c 102 h refl,
      choose,
    ) refl)

pub unescaped_high : (c : ℕ) → is_ascii c ≡ false → is_unescaped c ≡ true
unescaped_high c h = rw (leb_true 32 c (omega (arith, high c h)), apart c 34 h refl, apart c 92 h refl) refl

pub stands_ascii : {t : Tally} {c : ℕ} {q : Refusal} → StandsAt t c q → is_ascii c ≡ true
stands_ascii (StandsAt.bracket (inl e) x y) = rw e refl
stands_ascii (StandsAt.bracket (inr e) x y) = rw e refl
stands_ascii {c = c} (StandsAt.numeral h x y) = digit_ascii c h
stands_ascii {c = c} (StandsAt.begins h x y) = start_ascii c h
stands_ascii (StandsAt.quote e x) = rw e refl

-- what UTF-8 waits for, behind a byte that is ASCII or not
abbrev pub Fits : Expect → Bool → Type 0
Fits scalar d = Unit {0}
Fits (tail low high n) d = (d ≡ false) × (128 ≤ low)
Fits never d = Unit {0}

pub lead_fits : (c : ℕ) → Fits (lead c) (is_ascii c)
lead_fits c = go (ltb c 128) (between 194 223 c) (eqb c 224) (eqb c 237) (between 225 239 c) (eqb c 240) (between 241 243 c) (eqb c 244) refl refl refl refl refl refl refl refl
  where
    go : (a b d e f g h i : Bool) → ltb c 128 ≡ a → between 194 223 c ≡ b → eqb c 224 ≡ d → eqb c 237 ≡ e → between 225 239 c ≡ f →
        eqb c 240 ≡ g → between 241 243 c ≡ h → eqb c 244 ≡ i → Fits (lead c) (is_ascii c)
    go true b d e f g h i p1 p2 p3 p4 p5 p6 p7 p8 = rw (p1, choose) tt
    go false true d e f g h i p1 p2 p3 p4 p5 p6 p7 p8 = rw (p1, p2, choose) (refl, omega arith)
    go false false true e f g h i p1 p2 p3 p4 p5 p6 p7 p8 = rw (p1, p2, p3, choose) (refl, omega arith)
    go false false false true f g h i p1 p2 p3 p4 p5 p6 p7 p8 = rw (p1, p2, p3, p4, choose) (refl, omega arith)
    go false false false false true g h i p1 p2 p3 p4 p5 p6 p7 p8 = rw (p1, p2, p3, p4, p5, choose) (refl, omega arith)
    go false false false false false true h i p1 p2 p3 p4 p5 p6 p7 p8 = rw (p1, p2, p3, p4, p5, p6, choose) (refl, omega arith)
    go false false false false false false true i p1 p2 p3 p4 p5 p6 p7 p8 = rw (p1, p2, p3, p4, p5, p6, p7, choose) (refl, omega arith)
    go false false false false false false false true p1 p2 p3 p4 p5 p6 p7 p8 = rw (p1, p2, p3, p4, p5, p6, p7, p8, choose) (refl, omega arith)
    go false false false false false false false false p1 p2 p3 p4 p5 p6 p7 p8 = rw (p1, p2, p3, p4, p5, p6, p7, p8, choose) tt

pub after_fits : (n : ℕ) (d : Bool) → d ≡ false → Fits (after n) d
after_fits zero d e = tt
after_fits (suc n) d e = (e, omega arith)

pub not_ascii : (low h c : ℕ) → 128 ≤ low → between low h c ≡ true → is_ascii c ≡ false
not_ascii low h c l e = leb_false (suc c) 128 (omega (arith, between_in low h c e))

-- a UTF-8 text cut before a byte, where one of that byte and the one before it is ASCII
cut_from : (good : Bytes) (e : Expect) (d : Bool) → Fits e d → (c : ℕ) (t : Bytes) → utf8 e (good ++ (c ∷ t)) ≡ true →
    (is_ascii c ≡ false → last_ascii d good ≡ true) → utf8 e good ≡ true
unfolding utf8
cut_from [] scalar d f c t h k = refl
cut_from [] (tail low high n) d f c t h k = go (between low high c) refl
  where
    go : (b : Bool) → between low high c ≡ b → false ≡ true
    go true q = absurd (true≢false (sym (k (not_ascii low high c f.1 q)) ∙ f.0))
    go false q = rw (q, utf8) at h
cut_from [] never d f c t h k = absurd (false≢true h)
cut_from (b ∷ good) scalar d f c t h k = cut_from good (lead b) (is_ascii b) (lead_fits b) c t h k
cut_from (b ∷ good) (tail low high n) d f c t h k = go (λ i j. cut_from good (after n) (is_ascii b) i c t j k) (between low high b) refl
  where
    go : (Fits (after n) (is_ascii b) → utf8 (after n) (good ++ (c ∷ t)) ≡ true → utf8 (after n) good ≡ true) → (x : Bool) →
        between low high b ≡ x → utf8 (tail low high n) (b ∷ good) ≡ true
    go below true q = rw (q, utf8) (below (after_fits n (is_ascii b) (not_ascii low high b f.1 q)) (rw (q, utf8) at h))
    go below false q = absurd (false≢true (rw (q, utf8) at h))
cut_from (b ∷ good) never d f c t h k = absurd (false≢true h)

pub cut_utf8 : (good : Bytes) (c : ℕ) (t : Bytes) → utf8 scalar (good ++ (c ∷ t)) ≡ true → (is_ascii c ≡ false → last_ascii true good ≡ true) → utf8 scalar good ≡ true
cut_utf8 good c t h k = cut_from good scalar true tt c t h k

-- a UTF-8 text with ASCII behind it
all_utf8 : (w : Bytes) → all_ascii w ≡ true → utf8 scalar w ≡ true
unfolding utf8
all_utf8 [] h = refl
all_utf8 (c ∷ w) h = go (is_ascii c) refl (all_utf8 w)
  where
    go : (b : Bool) → is_ascii c ≡ b → (all_ascii w ≡ true → utf8 scalar w ≡ true) → utf8 (lead c) w ≡ true
    go true q below = rw (q, choose) (below (rw (q, all_ascii) at h))
    go false q below = absurd (false≢true (rw (q, all_ascii) at h))

more_from : (good : Bytes) (e : Expect) (w : Bytes) → utf8 e good ≡ true → all_ascii w ≡ true → utf8 e (good ++ w) ≡ true
unfolding utf8
more_from [] scalar w h k = all_utf8 w k
more_from [] (tail low high n) w h k = absurd (false≢true h)
more_from [] never w h k = absurd (false≢true h)
more_from (b ∷ good) scalar w h k = more_from good (lead b) w h k
more_from (b ∷ good) (tail low high n) w h k = go (λ i. more_from good (after n) w i k) (between low high b) refl
  where
    go : (utf8 (after n) good ≡ true → utf8 (after n) (good ++ w) ≡ true) → (x : Bool) → between low high b ≡ x → utf8 (tail low high n) (b ∷ (good ++ w)) ≡ true
    go below true q = rw (q, utf8) (below (rw (q, utf8) at h))
    go below false q = absurd (false≢true (rw (q, utf8) at h))
more_from (b ∷ good) never w h k = absurd (false≢true h)

pub more_utf8 : (good w : Bytes) → utf8 scalar good ≡ true → all_ascii w ≡ true → utf8 scalar (good ++ w) ≡ true
more_utf8 good w h k = more_from good scalar w h k
