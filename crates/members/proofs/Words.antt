-- A text against a word, turn by turn, and whether it is one of several.
-- Assumes nothing.
use mathlib.Core.Bool.{Bool, false, true, true≢false}
use mathlib.Core.List.{List, [], ◌++◌, ◌∷◌}
use Rattle.std.specs.Borrow.{Bor}
use Rattle.std.specs.Prelude.{Option, nat_eq}
use Rattle.std.specs.Option.{is_some, option_eq}
use Rattle.std.specs.List.{position, position_from, slice_get}
use Rattle.std.proofs.lemmas.Iterator.Adapters.{position_from-zero}
use mathlib.Core.Path.{ap, refl, sym, ◌∙◌, ◌≡◌}
use Prim.Native.Nat.{ℕ, ◌+◌, ◌-◌, ◌<◌, ◌≤◌}
use native.Mathlib.Numerals.{add-one}
use native.Mathlib.Omega.{arith}
use lib.Dec.{eqb, ltb}
use lib.ListN.{drop, drop_of_length-le, get_or, length, length-drop, take}
use lib.Seq.{drop-cons, take_all}
use borrow.Author.Tests.{eq-eqb, ltb-false, ltb-true}
use Rattle.json_text.proofs.Cursor.{encode_1, encode_2, encode_3, encode_4, same_apart, same_long, same_none, same_on, same_short, text_begins, text_behind, text_ends}
use Rattle.json_text.proofs.Texts.{TextView, ended, raw, text_view, written}
use Rattle.json_text.proofs.Laws.{eqb_no, eqb_true}
use Rattle.json_text.specs.Bytes.{Bytes, is_one_of, same_bytes}
use Rattle.json_text.specs.Cursor.{OnText}
use Rattle.json_text.specs.Spans.{text_at}
use Rattle.json_text.specs.Utf8.{encode}
use Rattle.members.specs.Words.{words}

pub here : (l : Bytes) (i : ℕ) → i < length l → drop i l ≡ get_or l i 0 ∷ drop (i + 1) l
here l i h = rw add-one (drop-cons l i 0 h)

-- a text that is not at its closing quote has a byte to come
begun : (u : ℕ) → (b : ℕ) × (r : Bytes) × (encode u ≡ b ∷ r)
begun u = one (ltb u 128) refl
  where
    three : (b : Bool) → 2048 ≤ u → ltb u 65536 ≡ b → (b : ℕ) × (r : Bytes) × (encode u ≡ b ∷ r)
    three true h e = (_, _, encode_3 u h (ltb-true u 65536 e))
    three false h e = (_, _, encode_4 u (ltb-false u 65536 e))

    two : (b : Bool) → 128 ≤ u → ltb u 2048 ≡ b → (b : ℕ) × (r : Bytes) × (encode u ≡ b ∷ r)
    two true h e = (_, _, encode_2 u h (ltb-true u 2048 e))
    two false h e = three (ltb u 65536) (ltb-false u 2048 e) refl

    one : (b : Bool) → ltb u 128 ≡ b → (b : ℕ) × (r : Bytes) × (encode u ≡ b ∷ r)
    one true e = (_, _, encode_1 u (ltb-true u 128 e))
    one false e = two (ltb u 2048) (ltb-false u 128 e) refl

text_goes_on : (s : Bytes) (at : ℕ) → OnText s at 0 → (get_or s at 0 ≡ 34 → ⊥) → (b : ℕ) × (r : Bytes) × (text_at s at ≡ b ∷ r)
text_goes_on s at o f = go (text_view s at o.stop o.text)
  where
    go : TextView s at o.stop → (b : ℕ) × (r : Bytes) × (text_at s at ≡ b ∷ r)
    go (ended i j k) = absurd (f j)
    go (raw i j k t) = (_, _, k)
    go (written u b i j k t l) = let x = begun u in (x.0, x.1 ++ text_at s b, k ∙ ap (λ (y : Bytes). y ++ text_at s b) x.2)

-- so many bytes of the text and of the word are the same, and what is left of both decides
pub record Spelling (s : Bytes) (at : ℕ) (word : Bytes) (i : ℕ) : Type 0 where
  pub on : OnText s (at + i) 0
  pub upto : i ≤ length word
  pub same : same_bytes (text_at s at) word ≡ same_bytes (text_at s (at + i)) (drop i word)

pub spelling : (s : Bytes) (at : ℕ) (word : Bytes) → OnText s at 0 → Spelling s at word 0
spelling s at word o = let z : at + 0 ≡ at = omega arith in record { on = rw z o; upto = omega arith; same = rw z }

module _ {s : Bytes} {at : ℕ} {word : Bytes} {i : ℕ} (l : Spelling s at word i) where
  pub ended_early : get_or s (at + i) 0 ≡ 34 → i < length word → false ≡ same_bytes (text_at s at) word
  ended_early e h = sym (l.same ∙ same_short (text_ends l.on e) (here word i h))

  -- behind the whole word, the text ends at a quote and nowhere else
  pub spelled : i ≡ length word → eqb (get_or s (at + length word) 0) 34 ≡ same_bytes (text_at s at) word
  spelled h = ap (λ (x : ℕ). eqb (get_or s (at + x) 0) 34) (sym h) ∙ go (eqb (get_or s (at + i) 0) 34) refl
    where
      no_more : drop i word ≡ []
      no_more = drop_of_length-le word {i = i} (omega arith)

      go : (b : Bool) → eqb (get_or s (at + i) 0) 34 ≡ b → eqb (get_or s (at + i) 0) 34 ≡ same_bytes (text_at s at) word
      go true e = e ∙ sym (l.same ∙ same_none (text_ends l.on (eqb_true (get_or s (at + i) 0) 34 e)) no_more)
      go false e = let x = text_goes_on s (at + i) l.on (eqb_no (get_or s (at + i) 0) 34 e) in e ∙ sym (l.same ∙ same_long x.2 no_more)

  pub escaped : {r : Bool} → r ≡ same_bytes (text_at s (at + i)) (take (length word - i) (drop i word)) → r ≡ same_bytes (text_at s at) word
  escaped e = e ∙ ap (same_bytes (text_at s (at + i))) (take_all (length word - i) (drop i word) (omega (arith, length-drop i word))) ∙ sym l.same

  module _ (f : get_or s (at + i) 0 ≡ 34 → ⊥) (g : get_or s (at + i) 0 ≡ 92 → ⊥) (h : i < length word) where
    pub unlike : (get_or s (at + i) 0 ≡ get_or word i 0 → ⊥) → false ≡ same_bytes (text_at s at) word
    unlike d = sym (l.same ∙ same_apart (text_begins l.on f g) (here word i h) d)

    pub like : get_or s (at + i) 0 ≡ get_or word i 0 → Spelling s at word (i + 1)
    like e =
        let x : at + (i + 1) ≡ at + i + 1 = omega arith in
        record { on = rw x (text_behind l.on f g); upto = omega arith; same = l.same ∙ same_on (text_begins l.on f g) (here word i h) e ∙ rw x }

-- a text that begins with another byte than the word, and with no escape
pub other_start :
    (s : Bytes) (at : ℕ) (word : Bytes) → OnText s at 0 → 0 < length word → (get_or s at 0 ≡ get_or word 0 0 → ⊥) → (get_or s at 0 ≡ 92 → ⊥) →
    false ≡ same_bytes (text_at s at) word
other_start s at word o h f g = go (eqb (get_or s (at + 0) 0) 34) refl
  where
    l : Spelling s at word 0
    l = spelling s at word o

    z : at + 0 ≡ at
    z = omega arith

    go : (b : Bool) → eqb (get_or s (at + 0) 0) 34 ≡ b → false ≡ same_bytes (text_at s at) word
    go true e = ended_early l (eqb_true (get_or s (at + 0) 0) 34 e) h
    go false e = unlike l (eqb_no (get_or s (at + 0) 0) 34 e) (rw z g) h (rw z f)

-- a text and a word of which one begins as the other does not
pub parted : (t w : Bytes) → option_eq nat_eq (slice_get w 0) (slice_get t 0) ≡ false → false ≡ same_bytes t w
parted [] [] h = absurd (true≢false h)
parted [] (d ∷ w) h = sym (same_short refl refl)
parted (c ∷ t) [] h = sym (same_long refl refl)
parted (c ∷ t) (d ∷ w) h = sym (same_apart refl refl (λ q. true≢false (sym (eq-eqb d c (sym q)) ∙ h)))

-- whether a text has a place among words
listed_from : (n : ℕ) (k : Bytes) (ws : List (Bor Bytes)) → is_some (position_from (λ w. same_bytes k w.now) n ws) ≡ is_one_of k (words ws)
unfolding is_one_of
listed_from n k [] = refl
listed_from n k (w ∷ ws) = go (same_bytes k w.now) refl (listed_from (n + 1) k ws)
  where
    go : (b : Bool) → same_bytes k w.now ≡ b → is_some (position_from (λ v. same_bytes k v.now) (n + 1) ws) ≡ is_one_of k (words ws) →
        is_some (position_from (λ v. same_bytes k v.now) n (w ∷ ws)) ≡ is_one_of k (words (w ∷ ws))
    go true e below = rw (e, is_one_of)
    go false e below = rw (e, is_one_of) below

pub is_listed : (k : Bytes) (ws : List (Bor Bytes)) {r : Option ℕ} → r ≡ position (λ w. same_bytes k w.now) ws → is_some r ≡ is_one_of k (words ws)
is_listed k ws p = ap is_some (p ∙ position_from-zero (λ w. same_bytes k w.now) ws) ∙ listed_from 0 k ws
