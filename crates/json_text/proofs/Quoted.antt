-- What the reader of strings makes of a text. A surrogate is refused at the hexadecimal digit after which it can't have its partner.
-- Assumes nothing.
use mathlib.Core.Bool.{Bool, false, false≢true, not, true, true≢false}
use mathlib.Core.List.{append-nil, [], ◌++◌, ◌∷◌}
use Rattle.std.specs.Prelude.{Option, None, Some}
use mathlib.Core.Path.{ap, refl, subst, sym, ◌∙◌, ◌≡◌}
use Prim.Native.Nat.{suc, zero, ℕ, ◌*◌, ◌+◌, ◌-◌, ◌≤◌}
use native.Mathlib.Omega.{arith}
use lib.Dec.{eqb}
use lib.ListN.{length, length-append}
use Rattle.json_text.proofs.Ascii.{all_append, all_ascii, hex_ascii, is_ascii, simple_ascii, unescaped_high}
use Rattle.json_text.proofs.Complete.{chars_complete, escape_length, high_unit_lem, plain_unit_lem}
use Rattle.json_text.proofs.Laws.{bind_ok, bind_same, eqb_true, ok_not_refused}
use Rattle.json_text.proofs.Outcome.{Outcome, all_read, bind, cut, dead, done, early, ext, step, step_any, stopped, weaken}
use Rattle.json_text.proofs.Sound.{
  CharView,
  Unit16View,
  between_in,
  between_of,
  between_out,
  char_view,
  escape_sound,
  is_backslash,
  is_control,
  is_high,
  is_low,
  is_other,
  is_plain,
  is_quote,
  unit16_view,
}
use Rattle.json_text.proofs.Tokens.{Completes, Either, Takes, behind, finish, read_of, regroup, word_local}
use Rattle.json_text.specs.Bytes.{Bytes, ascii, between, choose}
use Rattle.json_text.specs.Grammar.{Chars, Escape, Hex, close, no_hex, one_hex, pair, simple, unescaped, unit}
use Rattle.json_text.specs.Refusal.{Refusal, Result, not_json, ok, refused, ◌>>=◌}
use Rattle.json_text.specs.Scan.{Read}
use Rattle.json_text.specs.Strings
use Rattle.json_text.specs.Strings.{char, chars, escape, hex, hex_digit, high_half, low_half, low_unit, of_unit, simple_escape, unicode, unit16}
use Rattle.json_text.specs.Tally.{Tally, further, tallied}
use Rattle.json_text.specs.Utf8.{encode}

-- the least and the greatest number that n more digits make of u
abbrev lowest : ℕ → ℕ → ℕ
lowest zero u = u
lowest (suc n) u = lowest n (u * 16 + 0)

abbrev pub highest : ℕ → ℕ → ℕ
highest zero u = u
highest (suc n) u = highest n (u * 16 + 15)

lowest_mono : (n a b : ℕ) → a ≤ b → lowest n a ≤ lowest n b
lowest_mono zero a b h = h
lowest_mono (suc n) a b h = lowest_mono n (a * 16 + 0) (b * 16 + 0) (omega arith)

pub highest_mono : (n a b : ℕ) → a ≤ b → highest n a ≤ highest n b
highest_mono zero a b h = h
highest_mono (suc n) a b h = highest_mono n (a * 16 + 15) (b * 16 + 15) (omega arith)

some_same : {a b : ℕ} → Some a ≡ Some b → a ≡ b
some_same e = cc

none_some : {d : ℕ} {X : Type 0} → None ≡ Some d → X
none_some e = let z : ◌≡◌ {A = Bool} true false = cc in absurd (true≢false z)

pub hex_digit_small : (c d : ℕ) → hex_digit c ≡ Some d → d ≤ 15
hex_digit_small c d e = go (between 48 57 c) (between 65 70 c) (between 97 102 c) refl refl refl
  where
    go : (a b h : Bool) → between 48 57 c ≡ a → between 65 70 c ≡ b → between 97 102 c ≡ h → d ≤ 15
    go true b h p q r = omega (arith, between_in 48 57 c p, some_same (rw (p, choose) at e))
    go false true h p q r = omega (arith, between_in 65 70 c q, some_same (rw (p, q, choose) at e))
    go false false true p q r = omega (arith, between_in 97 102 c r, some_same (rw (p, q, r, choose) at e))
    go false false false p q r = none_some (rw (p, q, r, choose) at e)

-- digits that are refused whatever number they make
hex_dead : (f : Read ℕ → Result (Read Bytes)) (n u : ℕ) →
    ((v : ℕ) (r : Bytes) → lowest n u ≤ v → v ≤ highest n u → f (read_of v r) ≡ refused not_json) → (t : Bytes) →
    (hex n u t >>= f) ≡ refused not_json
unfolding hex
hex_dead f zero u h t = h u t (omega arith) (omega arith)
hex_dead f (suc n) u h [] = refl
hex_dead f (suc n) u h (c ∷ t) = go (λ d k. hex_dead f n (u * 16 + d) k t) (hex_digit c) refl
  where
    go : ((d : ℕ) → ((v : ℕ) (r : Bytes) → lowest n (u * 16 + d) ≤ v → v ≤ highest n (u * 16 + d) → f (read_of v r) ≡ refused not_json) →
        (hex n (u * 16 + d) t >>= f) ≡ refused not_json) → (o : Option ℕ) → hex_digit c ≡ o → (hex (suc n) u (c ∷ t) >>= f) ≡ refused not_json
    go below None q = rw (q, hex) refl
    go below (Some d) q =
        rw (q, hex) (below d λ v r a b.
        h v r (omega (arith, lowest_mono n (u * 16 + 0) (u * 16 + d) (omega arith))) (omega (arith, highest_mono n (u * 16 + d) (u * 16 + 15) (omega (arith, hex_digit_small c d q)))))

-- n more digits, and then what f reads: Then says how it is spelled
module _ (f : Read ℕ → Result (Read Bytes)) (Then : ℕ → Bytes → Bytes → Bytes → Type 0) where
  abbrev HexThen : ℕ → ℕ → Bytes → Bytes → Bytes → Type 0
  HexThen n u x s r = (v : ℕ) × (t : Bytes) × Hex n u v s t × Then v x t r

  abbrev HexLocal : Tally → ℕ → ℕ → Bytes → Type 0
  HexLocal st n u s = Outcome st read_of (λ x. hex n u x >>= f) (Either (Completes (HexThen n u))) (Takes (HexThen n u)) s

  -- alive says which numbers may still become one that f takes
  record Units (alive : ℕ → ℕ → Bool) : Type 0 where
    opens : (n u : ℕ) → n ≤ 4 → alive n u ≡ true → Completes (HexThen n u) []
    kills : (n u v : ℕ) (r : Bytes) → n ≤ 3 → alive n u ≡ false → lowest n u ≤ v → v ≤ highest n u → f (read_of v r) ≡ refused not_json
    last : (st : Tally) (v : ℕ) (s : Bytes) → alive 0 v ≡ true → Outcome st read_of (λ x. f (read_of v x)) (Either (Completes (Then v))) (Takes (Then v)) s

  hex_local : (st : Tally) (alive : ℕ → ℕ → Bool) → Units alive → (n u : ℕ) → n ≤ 4 → alive n u ≡ true → (s : Bytes) → HexLocal st n u s
  unfolding hex
  hex_local st alive k zero u l a s = weaken (λ i g. behind [] (λ x. x) λ x z r h. (u, z, no_hex, h)) (λ x w h r. (u, w ++ r, no_hex, h r)) (k.last st u s a)
  hex_local st alive k (suc n) u l a [] = cut refl (k.opens (suc n) u l a)
  hex_local st alive k (suc n) u l a (c ∷ s) = go (λ d e. hex_local (further st c) alive k n (u * 16 + d) (omega arith) e s) (hex_digit c) refl
    where
      digit : (d : ℕ) → hex_digit c ≡ Some d → (alive n (u * 16 + d) ≡ true → HexLocal (further st c) n (u * 16 + d) s) → (b : Bool) →
          alive n (u * 16 + d) ≡ b → HexLocal st (suc n) u (c ∷ s)
      digit d q below true e =
          step c s (hex_ascii c d q) (λ x. rw (q, hex) refl)
          (weaken (λ i g. behind (c ∷ []) (λ x. x) λ x z r h. (h.0, h.1, one_hex q h.2, h.3))
          (λ x w h r. let i = h r in (i.0, i.1, one_hex q i.2, i.3)) (below e))
      digit d q below false e =
          stopped not_json c s (λ x. rw (q, hex) (hex_dead f n (u * 16 + d) (λ v r. k.kills n (u * 16 + d) v r (omega arith) e) x)) early
          (k.opens (suc n) u l a) dead

      go : ((d : ℕ) → alive n (u * 16 + d) ≡ true → HexLocal (further st c) n (u * 16 + d) s) → (o : Option ℕ) → hex_digit c ≡ o → HexLocal st (suc n) u (c ∷ s)
      go below None q = stopped not_json c s (λ x. rw (q, hex) refl) early (k.opens (suc n) u l a) dead
      go below (Some d) q = digit d q (below d) (alive n (u * 16 + d)) refl

-- the second half of a pair: it must come to lie from DC00 to DFFF
abbrev LowThen : ℕ → ℕ → Bytes → Bytes → Bytes → Type 0
LowThen high v x t r = (between 56320 57343 v ≡ true) × (x ≡ encode (65536 + (high - 55296) * 1024 + (v - 56320))) × (t ≡ r)

-- the last n digits of `dc00`, and the number that they make of u
low_end : ℕ → Bytes
low_end zero = []
low_end (suc zero) = ascii "0"
low_end (suc (suc zero)) = ascii "00"
low_end (suc (suc (suc zero))) = ascii "c00"
low_end (suc (suc (suc (suc n)))) = ascii "dc00"

low_end_ascii : (n : ℕ) → all_ascii (low_end n) ≡ true
unfolding low_end
low_end_ascii zero = refl
low_end_ascii (suc zero) = refl
low_end_ascii (suc (suc zero)) = refl
low_end_ascii (suc (suc (suc zero))) = refl
low_end_ascii (suc (suc (suc (suc n)))) = refl

lowest_low : ℕ → ℕ → ℕ
lowest_low zero u = u
lowest_low (suc zero) u = u * 16 + 0
lowest_low (suc (suc zero)) u = (u * 16 + 0) * 16 + 0
lowest_low (suc (suc (suc zero))) u = ((u * 16 + 12) * 16 + 0) * 16 + 0
lowest_low (suc (suc (suc (suc n)))) u = (((u * 16 + 13) * 16 + 12) * 16 + 0) * 16 + 0

low_end_hex : (n u : ℕ) (r : Bytes) → n ≤ 4 → Hex n u (lowest_low n u) (low_end n ++ r) r
unfolding low_end lowest_low
low_end_hex zero u r l = no_hex
low_end_hex (suc zero) u r l = one_hex refl no_hex
low_end_hex (suc (suc zero)) u r l = one_hex refl (one_hex refl no_hex)
low_end_hex (suc (suc (suc zero))) u r l = one_hex refl (one_hex refl (one_hex refl no_hex))
low_end_hex (suc (suc (suc (suc zero)))) u r l = one_hex refl (one_hex refl (one_hex refl (one_hex refl no_hex)))
low_end_hex (suc (suc (suc (suc (suc n))))) u r l = absurd (omega arith)

abbrev is_lowest : ℕ → ℕ → Bool
is_lowest n u = between 56320 57343 (lowest_low n u)

low_outside : (n u v : ℕ) → n ≤ 3 → is_lowest n u ≡ false → lowest n u ≤ v → v ≤ highest n u → between 56320 57343 v ≡ false
unfolding lowest_low
low_outside zero u v l e p q = between_out 56320 57343 v λ a b. absurd (true≢false (sym (between_of 56320 57343 u (omega arith) (omega arith)) ∙ e))
low_outside (suc zero) u v l e p q = between_out 56320 57343 v λ a b. absurd (true≢false (sym (between_of 56320 57343 (u * 16 + 0) (omega arith) (omega arith)) ∙ e))
low_outside (suc (suc zero)) u v l e p q = between_out 56320 57343 v λ a b. absurd (true≢false (sym (between_of 56320 57343 ((u * 16 + 0) * 16 + 0) (omega arith) (omega arith)) ∙ e))
low_outside (suc (suc (suc zero))) u v l e p q =
    between_out 56320 57343 v λ a b. absurd
    (true≢false (sym (between_of 56320 57343 (((u * 16 + 12) * 16 + 0) * 16 + 0) (omega arith) (omega arith)) ∙ e))
low_outside (suc (suc (suc (suc n)))) u v l e p q = absurd (omega arith)

low_units : (high : ℕ) → Units (low_half high) (LowThen high) is_lowest
unfolding low_half lowest_low
low_units high =
    record {
      opens =
          λ n u l a.
          record {
            end = low_end n;
            what = encode (65536 + (high - 55296) * 1024 + (lowest_low n u - 56320));
            spelled = λ r. (lowest_low n u, r, low_end_hex n u r l, (a, refl, refl));
            plain = low_end_ascii n;
          };
      kills = λ n u v r l a p q. rw (low_outside n u v l a p q, low_half) refl;
      last = λ st v s a. ext (λ x h. rw (a, low_half) refl) (done (encode (65536 + (high - 55296) * 1024 + (v - 56320))) s (λ r. (a, refl, refl)));
    }

-- the first unit: no low half, and behind a high half its partner
pub data UnitThen (v : ℕ) : Bytes → Bytes → Bytes → Type 0 where
  alone : {x t : Bytes} → between 55296 57343 v ≡ false → x ≡ encode v → UnitThen v x t t
  paired : {x t s u : Bytes} → between 55296 56319 v ≡ true → t ≡ ascii "\\u" ++ s → HexThen (low_half v) (LowThen v) 4 0 x s u → UnitThen v x t u

unit_escape : {x s r : Bytes} → HexThen of_unit UnitThen 4 0 x s r → Escape x (117 ∷ s) r
unit_escape {x} {s} {r} h = go h.2 h.3
  where
    go : {v : ℕ} {t : Bytes} → Hex 4 0 v s t → UnitThen v x t r → Escape x (117 ∷ s) r
    go k (alone b e) = unit refl k b e
    go k (paired b e l) = pair refl k b e (subst (λ (y : Bytes). Hex 4 0 l.0 _ y) l.3.2 l.2) l.3.0 l.3.1

abbrev not_low : ℕ → ℕ → Bool
not_low n u = not (between 56320 57343 (lowest n u))

zeros : ℕ → Bytes
zeros zero = []
zeros (suc n) = 48 ∷ zeros n

zeros_hex : (n u : ℕ) (r : Bytes) → Hex n u (lowest n u) (zeros n ++ r) r
unfolding zeros
zeros_hex zero u r = no_hex
zeros_hex (suc n) u r = one_hex refl (zeros_hex n (u * 16 + 0) r)

zeros_ascii : (n : ℕ) → all_ascii (zeros n) ≡ true
unfolding zeros
zeros_ascii zero = refl
zeros_ascii (suc n) = zeros_ascii n

not_false : (b : Bool) → not b ≡ false → b ≡ true
not_false true e = refl
not_false false e = absurd (true≢false e)

not_true : (b : Bool) → not b ≡ true → b ≡ false
not_true true e = absurd (false≢true e)
not_true false e = refl

low_inside : (n u v : ℕ) → n ≤ 3 → between 56320 57343 (lowest n u) ≡ true → lowest n u ≤ v → v ≤ highest n u → between 56320 57343 v ≡ true
low_inside zero u v l e p q = let b = between_in 56320 57343 u e in between_of 56320 57343 v (omega arith) (omega arith)
low_inside (suc zero) u v l e p q = let b = between_in 56320 57343 (u * 16 + 0) e in between_of 56320 57343 v (omega arith) (omega arith)
low_inside (suc (suc zero)) u v l e p q = let b = between_in 56320 57343 ((u * 16 + 0) * 16 + 0) e in between_of 56320 57343 v (omega arith) (omega arith)
low_inside (suc (suc (suc zero))) u v l e p q = let b = between_in 56320 57343 (((u * 16 + 0) * 16 + 0) * 16 + 0) e in between_of 56320 57343 v (omega arith) (omega arith)
low_inside (suc (suc (suc (suc n)))) u v l e p q = absurd (omega arith)

low_unit_lem : (v : ℕ) → between 56320 57343 v ≡ true → unit16 v ≡ low_unit
low_unit_lem v e = let b = between_in 56320 57343 v e in rw (between_out 55296 56319 v (λ p q. omega arith), e, choose) refl

-- a low half that any high half may have
dc00 : (v : ℕ) (r : Bytes) → HexThen (low_half v) (LowThen v) 4 0 (encode (65536 + (v - 55296) * 1024 + (56320 - 56320))) (ascii "dc00" ++ r) r
dc00 v r = (56320, r, one_hex refl (one_hex refl (one_hex refl (one_hex refl no_hex))), (refl, refl, refl))

high_local : (st : Tally) (v : ℕ) → between 55296 56319 v ≡ true → (s : Bytes) → Outcome st read_of (high_half v) (Either (Completes (UnitThen v))) (Takes (UnitThen v)) s
unfolding high_half lowest_low
high_local st v b s =
    bind (λ t. hex 4 0 t >>= low_half v) s (word_local st (ascii "\\u") refl s)
    (λ i g. finish (ascii "dc00") refl (λ x. encode (65536 + (v - 55296) * 1024 + (56320 - 56320))) λ x z r h. paired b h (dc00 v r))
    (λ d. early) λ d used r e t w.
    weaken
    (λ i g. behind used (λ x. x) λ x z w h. paired b (t z) h)
    (λ x w h y. regroup (λ (z : Bytes). UnitThen v x z y) used w y (paired b (t (w ++ y)) (h y)))
    (hex_local (low_half v) (LowThen v) (tallied st used) is_lowest (low_units v) 4 0 (omega arith) refl r)

unit_units : Units of_unit UnitThen not_low
unfolding of_unit
unit_units =
    record {
      opens = λ n u l a. first n u (unit16_view (lowest n u)) (not_true (between 56320 57343 (lowest n u)) a);
      kills = λ n u v r l a p q. rw (low_unit_lem v (low_inside n u v l (not_false (between 56320 57343 (lowest n u)) a) p q), of_unit) refl;
      last = λ st v s a. second st v s (unit16_view v) (not_true (between 56320 57343 v) a);
    }
  where
    first : (n u : ℕ) {k : Strings.Unit16} → Unit16View (lowest n u) k → between 56320 57343 (lowest n u) ≡ false → Completes (HexThen of_unit UnitThen n u) []
    first n u (is_high b) a =
        record {
          end = zeros n ++ ascii "\\udc00";
          what = encode (65536 + (lowest n u - 55296) * 1024 + (56320 - 56320));
          spelled = λ r. regroup
              (λ (z : Bytes). HexThen of_unit UnitThen n u (encode (65536 + (lowest n u - 55296) * 1024 + (56320 - 56320))) z r) (zeros n)
              (ascii "\\udc00") r
              (lowest n u, ascii "\\udc00" ++ r, zeros_hex n u (ascii "\\udc00" ++ r), paired b refl (dc00 (lowest n u) r));
          plain = all_append (zeros n) (ascii "\\udc00") (zeros_ascii n) refl;
        }
    first n u (is_low b) a = absurd (true≢false (sym b ∙ a))
    first n u (is_plain b) a = record { end = zeros n; what = encode (lowest n u); spelled = λ r. (lowest n u, r, zeros_hex n u r, alone b refl); plain = zeros_ascii n }

    second : (st : Tally) (v : ℕ) (s : Bytes) {k : Strings.Unit16} → Unit16View v k → between 56320 57343 v ≡ false →
        Outcome st read_of (λ x. of_unit (read_of v x)) (Either (Completes (UnitThen v))) (Takes (UnitThen v)) s
    second st v s (is_high b) a = ext (λ x h. rw (high_unit_lem v b, of_unit) refl) (high_local st v b s)
    second st v s (is_low b) a = absurd (true≢false (sym b ∙ a))
    second st v s (is_plain b) a = ext (λ x h. rw (plain_unit_lem v b, of_unit) refl) (done (encode v) s (λ r. alone b refl))

-- escapes
escape_opens : Completes Escape []
escape_opens = record { end = ascii "n"; what = 10 ∷ []; spelled = λ r. simple refl; plain = refl }

pub escape_local : (st : Tally) (s : Bytes) → Outcome st read_of escape (Either (Completes Escape)) (Takes Escape) s
unfolding escape unicode
escape_local st [] = cut refl escape_opens
escape_local st (c ∷ s) = go (simple_escape c) refl
  where
    is_u : (b : Bool) → eqb c 117 ≡ b → simple_escape c ≡ None → Outcome st read_of escape (Either (Completes Escape)) (Takes Escape) (c ∷ s)
    is_u true p q =
        subst (λ (d : ℕ). Outcome st read_of escape (Either (Completes Escape)) (Takes Escape) (d ∷ s)) (sym (eqb_true c 117 p))
        (step 117 s refl (λ x. refl)
        (weaken (λ i g. behind (117 ∷ []) (λ x. x) λ x z r h. unit_escape h) (λ x w h r. unit_escape (h r))
        (hex_local of_unit UnitThen (further st 117) not_low unit_units 4 0 (omega arith) refl s)))
    is_u false p q = stopped not_json c s (λ x. rw (q, escape, p) refl) early escape_opens dead

    go : (o : Option ℕ) → simple_escape c ≡ o → Outcome st read_of escape (Either (Completes Escape)) (Takes Escape) (c ∷ s)
    go (Some d) q = step c s (simple_ascii c d q) (λ x. rw (q, escape) refl) (done (d ∷ []) s (λ r. simple q))
    go None q = is_u (eqb c 117) refl q

-- strings, with as many steps as there are bytes; more make no difference
abbrev pub chars_of : Bytes → Result (Read Bytes)
chars_of s = chars (length s) s

chars_steps : (n m : ℕ) (s : Bytes) → length s ≤ n → length s ≤ m → chars n s ≡ chars m s
unfolding chars
chars_steps zero zero s l k = refl
chars_steps zero (suc m) [] l k = refl
chars_steps zero (suc m) (c ∷ s) l k = absurd (omega arith)
chars_steps (suc n) zero [] l k = refl
chars_steps (suc n) zero (c ∷ s) l k = absurd (omega arith)
chars_steps (suc n) (suc m) [] l k = refl
chars_steps (suc n) (suc m) (c ∷ s) l k = go (λ t i j. chars_steps n m t i j) (char c) refl
  where
    go : ((t : Bytes) → length t ≤ n → length t ≤ m → chars n t ≡ chars m t) → (k : Strings.Char) → char c ≡ k → chars (suc n) (c ∷ s) ≡ chars (suc m) (c ∷ s)
    go below Strings.quote q = rw (q, chars) refl
    go below Strings.backslash q =
        rw (q, chars) (bind_same (escape s) _ _ λ e i.
        let h = escape_length (escape_sound s e i) in
        ap (λ (y : Result (Read Bytes)). y >>= λ r. ok (record { got = e.got ++ r.got; rest = r.rest })) (below e.rest (omega arith) (omega arith)))
    go below Strings.control q = rw (q, chars) refl
    go below Strings.other q = rw (q, chars) (ap (λ (y : Result (Read Bytes)). y >>= λ r. ok (record { got = c ∷ r.got; rest = r.rest })) (below s (omega arith) (omega arith)))

-- a string can be made as long as one likes
pad : ℕ → Bytes
pad zero = 34 ∷ []
pad (suc n) = 97 ∷ pad n

letters : ℕ → Bytes
letters zero = []
letters (suc n) = 97 ∷ letters n

pad_spells : (n : ℕ) (r : Bytes) → Chars (letters n) (pad n ++ r) r
unfolding pad letters
pad_spells zero r = close refl
pad_spells (suc n) r = unescaped refl (pad_spells n r)

letters_length : (n : ℕ) → length (letters n) ≡ n
unfolding letters
letters_length zero = refl
letters_length (suc n) = omega (arith, letters_length n)

pad_ascii : (n : ℕ) → all_ascii (pad n) ≡ true
unfolding pad
pad_ascii zero = refl
pad_ascii (suc n) = pad_ascii n

abbrev pub LongChars : Bytes → Type 0
LongChars g = (n : ℕ) → Completes (λ x s r. Chars x s r × (n ≤ length x)) g

pub chars_opens : LongChars []
chars_opens n = record { end = pad n; what = letters n; spelled = λ r. (pad_spells n r, omega (arith, letters_length n)); plain = pad_ascii n }

abbrev pub CharsLocal : Tally → Bytes → Type 0
CharsLocal st s = Outcome st read_of chars_of (Either LongChars) (Takes Chars) s

escaped_opens : (c : ℕ) → c ≡ 92 → (g : Bytes) → Completes Escape g → LongChars (c ∷ g)
escaped_opens c p g k n =
    behind (c ∷ []) (λ x. x) (λ x z r h. h)
    (finish {R = Escape} {S = λ x z r. Chars x (c ∷ z) r × (n ≤ length x)} (pad n) (pad_ascii n) (λ x. x ++ letters n)
    (λ x z r h. (Chars.escape p h (pad_spells n r) refl, omega (arith, length-append x (letters n), letters_length n))) k)

-- a string is refused at an ASCII byte, or behind one
refused_ascii : {A : Type 0} (f : Read Bytes → A) (q : Refusal) (d : ℕ) → (chars_of (d ∷ 34 ∷ []) >>= λ r. ok (f r)) ≡ refused q → is_ascii d ≡ true
refused_ascii f q d e = go (is_ascii d) refl
  where
    go : (b : Bool) → is_ascii d ≡ b → is_ascii d ≡ true
    go true h = h
    go false h = ok_not_refused (f (read_of (d ∷ []) [])) q (sym (bind_ok (λ r. ok (f r)) (chars_complete 2 (omega arith) (unescaped (unescaped_high d h) (close refl)))) ∙ e)

chars_below : (m : ℕ) (st : Tally) (s : Bytes) → length s ≤ m → CharsLocal st s
unfolding chars
chars_below zero st [] l = cut refl chars_opens
chars_below zero st (c ∷ s) l = absurd (omega arith)
chars_below (suc m) st [] l = cut refl chars_opens
chars_below (suc m) st (c ∷ s) l = go (λ x t h. chars_below m x t h) (char_view c) refl
  where
    go : ((x : Tally) (t : Bytes) → length t ≤ m → CharsLocal x t) → {k : Strings.Char} → CharView c k → char c ≡ k → CharsLocal st (c ∷ s)
    go below (is_quote p) q = step c s (rw p refl) (λ x. rw (q, chars) refl) (done [] s (λ r. close p))
    go below (is_backslash p) q =
        step c s (rw p refl) (λ x. rw (q, chars) (bind_same (escape x) _ (λ e. chars_of e.rest >>= λ r. ok (record { got = e.got ++ r.got; rest = r.rest })) λ e i.
        let h = escape_length (escape_sound x e i) in
        ap (λ (y : Result (Read Bytes)). y >>= λ r. ok (record { got = e.got ++ r.got; rest = r.rest })) (chars_steps (length x)
        (length e.rest) e.rest (omega arith) (omega arith)))) (bind (λ e. chars_of e.rest >>= λ r. ok (record {
          got = e.got ++
              r.got;
          rest = r.rest;
        })) s (escape_local (further st c) s) (λ i g k. escaped_opens c p g k) (λ b. early) λ b used r e t o.
        bind (λ d. ok (record { got = b ++ d.got; rest = d.rest })) r
        (below (tallied (further st c) used) r (omega (arith, ap length e, length-append used r)))
        (λ i g k n. behind (c ∷ used) (λ x. b ++ x)
        (λ x z w h. (Chars.escape p (t z) h.0 refl, omega (arith, h.1, length-append b x))) (k n)) (λ d. all_read (b ++ d)) λ d more
        w i h o'.
        done (b ++ d) w (rw (append-nil more) λ y. regroup (λ (z : Bytes). Chars (b ++ d) (c ∷ z) y) used more y (Chars.escape p (t (more ++ y)) (h y) refl)))
    go below is_control q = stopped not_json c s (λ x. rw (q, chars) refl) early chars_opens dead
    go below (is_other p) q =
        step_any c s (λ x. rw (q, chars) refl) (λ b e h. ok_not_refused (read_of b []) not_json (sym h)) (λ r d e h. refused_ascii (λ y.
        record { got = c ∷ y.got; rest = y.rest }) r d (h (34 ∷ []))) (bind (λ r. ok (record { got = c ∷ r.got; rest = r.rest })) s
        (below (further st c) s (omega arith)) (λ i g k n. behind (c ∷ []) (λ x. c ∷ x) (λ x z r h. (
          unescaped p h.0,
          omega (
            arith,
            h.1,
          ),
        )) (k n)) (λ b. all_read (c ∷ b)) λ b used r e t o.
        done (c ∷ b) r (rw (append-nil used) (λ z. unescaped p (t z))))

pub chars_local : (st : Tally) (s : Bytes) → CharsLocal st s
chars_local st s = chars_below (length s) st s (omega arith)
