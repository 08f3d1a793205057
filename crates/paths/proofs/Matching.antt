-- The first part of a path compared byte by byte with a text, turn by turn.
-- Assumes nothing.
use mathlib.Core.List.{[], ◌∷◌}
use mathlib.Core.Bool.{Bool, cond, false, not, true}
use mathlib.Core.Path.{ap, refl, sym, ◌≡◌, ◌∙◌}
use Rattle.std.specs.Prelude.{MatchOption, Option, None, Some}
use Prim.Native.Nat.{suc, ℕ, ◌+◌, ◌<◌, ◌≤◌}
use native.Mathlib.Numerals.{add-one}
use native.Mathlib.Omega.{arith}
use lib.Dec.{eqb}
use lib.ListN.{drop, drop_of_length-le, get_or, length, take}
use Rattle.std.specs.List.{prefix_len}
use lib.Seq.{drop-cons}
use borrow.Author.Tests.{eq-eqb, eqb-false, eqb-true, ne_eqb}
use Rattle.json_text.proofs.Cursor.{same_none, same_short, text_begins, text_behind, text_ends}
use Rattle.json_text.specs.Bytes.{Bytes, same_bytes}
use Rattle.json_text.specs.Cursor.{OnText}
use Rattle.json_text.specs.Spans.{text_at}
use Rattle.paths.specs.Path.{part}

-- l is what stands before the path's cursor, m what the part is compared with
part_more : {l : Bytes} {c : ℕ} {k : Bytes} → l ≡ c ∷ k → (c ≡ 46 → ⊥) → part l ≡ c ∷ part k
unfolding part
part_more {c = c} e n = rw (e, ne_eqb c 46 n, part)

module _ {l : Bytes} (m : Bytes) where
  pub part_ended : l ≡ [] → same_bytes (part l) m ≡ same_bytes [] m
  unfolding part
  part_ended e = rw e

  pub part_dot : {c : ℕ} {k : Bytes} → l ≡ c ∷ k → c ≡ 46 → same_bytes (part l) m ≡ same_bytes [] m
  unfolding part
  part_dot {c} e d = rw (e, eq-eqb c 46 d, part)

  module _ {c : ℕ} {k : Bytes} (e : l ≡ c ∷ k) (n : c ≡ 46 → ⊥) where
    pub part_longer : m ≡ [] → same_bytes (part l) m ≡ false
    unfolding same_bytes
    part_longer f = rw (part_more e n, f)

    pub part_apart : {d : ℕ} {j : Bytes} → m ≡ d ∷ j → (c ≡ d → ⊥) → same_bytes (part l) m ≡ false
    unfolding same_bytes
    part_apart {d} f g = rw (part_more e n, f, ne_eqb c d g, same_bytes)

    pub part_on : {d : ℕ} {j : Bytes} → m ≡ d ∷ j → c ≡ d → same_bytes (part l) m ≡ same_bytes (part k) j
    unfolding same_bytes
    part_on {d} f g = rw (part_more e n, f, eq-eqb c d g, same_bytes)

-- what std takes while no dot comes is the part
pub part_taken : (l : Bytes) → take (prefix_len (λ c. not (eqb c 46)) l) l ≡ part l
unfolding part
part_taken [] = refl
part_taken (c ∷ l) = go (eqb c 46) (part_taken l)
  where
    go : (b : Bool) → take (prefix_len (λ c. not (eqb c 46)) l) l ≡ part l →
        take (cond (not b) (1 + prefix_len (λ c. not (eqb c 46)) l) 0) (c ∷ l) ≡ elim b [ true ↦ [] | false ↦ c ∷ part l ]
    go true e = refl
    go false e = let n : 1 + prefix_len (λ c. not (eqb c 46)) l ≡ suc (prefix_len (λ c. not (eqb c 46)) l) = omega arith in rw n (ap (λ (k : Bytes). c ∷ k) e)

-- a word from a place on
pub word_over : (w : Bytes) (i : ℕ) → length w ≤ i → drop i w ≡ []
word_over w i h = drop_of_length-le w h

pub word_here : (w : Bytes) (i : ℕ) → i < length w → drop i w ≡ get_or w i 0 ∷ drop (i + 1) w
word_here w i h = rw add-one (drop-cons w i 0 h)

pub word_ended : (w : Bytes) (i : ℕ) → i ≤ length w → eqb i (length w) ≡ same_bytes [] (drop i w)
unfolding same_bytes
word_ended w i h = go (eqb i (length w)) refl
  where
    go : (b : Bool) → eqb i (length w) ≡ b → b ≡ same_bytes [] (drop i w)
    go true q = rw (word_over w i (omega (arith, eqb-true i (length w) q)))
    go false q = rw (word_here w i (omega (arith, eqb-false i (length w) q)))

-- a text that begins with no escape has ended where its closing quote stands
text_ended : {s : Bytes} {at : ℕ} → OnText s at 0 → (get_or s at 0 ≡ 92 → ⊥) → eqb (get_or s at 0) 34 ≡ same_bytes [] (text_at s at)
text_ended {s} {at} o g = go (eqb (get_or s at 0) 34) refl
  where
    go : (b : Bool) → eqb (get_or s at 0) 34 ≡ b → b ≡ same_bytes [] (text_at s at)
    go true q = sym (same_none refl (text_ends o (eqb-true _ 34 q)))
    go false q = sym (same_short refl (text_begins o (eqb-false _ 34 q) g))

-- a part and a text that begin with the same bytes: what stands behind these decides whether they are the same
pub record Alongside (path s : Bytes) (name n : ℕ) : Type 0 where
  pub on_path : OnText path n 0
  pub on_name : OnText s (name + n) 0
  pub same : same_bytes (part (text_at path 0)) (text_at s name) ≡ same_bytes (part (text_at path n)) (text_at s (name + n))

pub alongside : (path s : Bytes) (name : ℕ) → OnText path 0 0 → OnText s name 0 → Alongside path s name 0
alongside path s name p q = let x : name + 0 ≡ name = omega arith in record { on_path = p; on_name = rw x q; same = rw x }

module _ {path s : Bytes} {name n : ℕ} (l : Alongside path s name n) where
  pub alongside_in_path : n < length path
  alongside_in_path = omega (arith, l.on_path.text.order, l.on_path.text.upto)

  pub alongside_in_name : name + n < length s
  alongside_in_name = omega (arith, l.on_name.text.order, l.on_name.text.upto)

  pub alongside_dot : get_or path n 0 ≡ 46 → (get_or s (name + n) 0 ≡ 92 → ⊥) → eqb (get_or s (name + n) 0) 34 ≡ same_bytes (part (text_at path 0)) (text_at s name)
  alongside_dot e g = text_ended l.on_name g ∙ sym (l.same ∙ part_dot _ (text_begins l.on_path (λ q. omega arith) (λ q. omega arith)) e)

  module _ (e : get_or path n 0 ≡ get_or s (name + n) 0) where
    pub alongside_end : get_or path n 0 ≡ 34 → true ≡ same_bytes (part (text_at path 0)) (text_at s name)
    alongside_end q = sym (l.same ∙ part_ended _ (text_ends l.on_path q) ∙ same_none refl (text_ends l.on_name (sym e ∙ q)))

    pub alongside_dots : get_or path n 0 ≡ 46 → false ≡ same_bytes (part (text_at path 0)) (text_at s name)
    alongside_dots q = sym (ne_eqb (get_or s (name + n) 0) 34 (λ r. omega arith)) ∙ alongside_dot q (λ r. omega arith)

    pub alongside_on : (get_or path n 0 ≡ 92 → ⊥) → (get_or path n 0 ≡ 34 → ⊥) → (get_or path n 0 ≡ 46 → ⊥) → Alongside path s name (n + 1)
    alongside_on g f m =
        let f' : get_or s (name + n) 0 ≡ 34 → ⊥ = λ q. f (e ∙ q) in
        let g' : get_or s (name + n) 0 ≡ 92 → ⊥ = λ q. g (e ∙ q) in
        let x : name + (n + 1) ≡ name + n + 1 = omega arith in
        record {
          on_path = text_behind l.on_path f g;
          on_name = rw x (text_behind l.on_name f' g');
          same = l.same ∙ part_on _ (text_begins l.on_path f g) m (text_begins l.on_name f' g') e ∙ rw x;
        }

  -- two bytes that differ, none of which begins an escape: only a dot may stand where the text ends
  pub alongside_apart :
      (get_or path n 0 ≡ get_or s (name + n) 0 → ⊥) → (get_or path n 0 ≡ 92 → ⊥) → (get_or s (name + n) 0 ≡ 92 → ⊥) → (get_or path n 0 ≡ 46 → ⊥) →
      false ≡ same_bytes (part (text_at path 0)) (text_at s name)
  alongside_apart a g h m = sym (l.same ∙ go (eqb (get_or path n 0) 34) refl (eqb (get_or s (name + n) 0) 34) refl)
    where
      go : (b : Bool) → eqb (get_or path n 0) 34 ≡ b → (k : Bool) → eqb (get_or s (name + n) 0) 34 ≡ k → same_bytes (part (text_at path n)) (text_at s (name + n)) ≡ false
      go true p k q = part_ended _ (text_ends l.on_path (eqb-true _ 34 p)) ∙ sym (text_ended l.on_name h) ∙ ne_eqb _ 34 (λ r. a (eqb-true _ 34 p ∙ sym r))
      go false p true q = part_longer _ (text_begins l.on_path (eqb-false _ 34 p) g) m (text_ends l.on_name (eqb-true _ 34 q))
      go false p false q = part_apart _ (text_begins l.on_path (eqb-false _ 34 p) g) m (text_begins l.on_name (eqb-false _ 34 q) h) a

-- a part that begins with a word's first bytes
pub record Spelled (path word : Bytes) (n : ℕ) : Type 0 where
  pub on_path : OnText path n 0
  pub upto : n ≤ length word
  pub same : same_bytes (part (text_at path 0)) word ≡ same_bytes (part (text_at path n)) (drop n word)

pub spelled : (path word : Bytes) → OnText path 0 0 → Spelled path word 0
spelled path word o = record { on_path = o; upto = omega arith; same = refl }

module _ {path word : Bytes} {n : ℕ} (l : Spelled path word n) where
  pub spelled_end : get_or path n 0 ≡ 34 → eqb n (length word) ≡ same_bytes (part (text_at path 0)) word
  spelled_end q = word_ended word n l.upto ∙ sym (l.same ∙ part_ended _ (text_ends l.on_path q))

  pub spelled_dot : get_or path n 0 ≡ 46 → eqb n (length word) ≡ same_bytes (part (text_at path 0)) word
  spelled_dot e = word_ended word n l.upto ∙ sym (l.same ∙ part_dot _ (text_begins l.on_path (λ q. omega arith) (λ q. omega arith)) e)

  module _ (g : get_or path n 0 ≡ 92 → ⊥) (f : get_or path n 0 ≡ 34 → ⊥) (m : get_or path n 0 ≡ 46 → ⊥) (h : n < length word) where
    pub spelled_apart : (get_or path n 0 ≡ get_or word n 0 → ⊥) → false ≡ same_bytes (part (text_at path 0)) word
    spelled_apart a = sym (l.same ∙ part_apart _ (text_begins l.on_path f g) m (word_here word n h) a)

    pub spelled_on : get_or path n 0 ≡ get_or word n 0 → Spelled path word (n + 1)
    spelled_on e = record { on_path = text_behind l.on_path f g; upto = omega arith; same = l.same ∙ part_on _ (text_begins l.on_path f g) m (word_here word n h) e }

-- the whole word stands there: the part is the same where it ends there too
module _ {path word : Bytes} {n : ℕ} (l : Spelled path word n) (h : length word ≤ n) where
  stands : length word ≡ n
  stands = let u = l.upto in omega arith

  over : same_bytes (part (text_at path (length word))) [] ≡ same_bytes (part (text_at path 0)) word
  over = rw stands (sym (l.same ∙ ap (same_bytes (part (text_at path n))) (word_over word n h)))

  -- the byte that stands behind the word, if one does, and whether it may
  pub spelled_over :
      (rest behind : Bytes) → rest ≡ text_at path (length word) → (r : Option ℕ) → MatchOption r ((rest ≡ []) × (behind ≡ [])) (λ c. rest ≡ c ∷ behind) → (b : Bool) →
      MatchOption r (b ≡ true) (λ c. b ≡ eqb c 46) → b ≡ same_bytes (part (text_at path 0)) word
  spelled_over rest behind e None s b h = h ∙ sym (sym over ∙ part_ended [] (sym e ∙ s.0) ∙ same_none refl refl)
  spelled_over rest behind e (Some c) s b h = go (eqb c 46) refl
    where
      go : (x : Bool) → eqb c 46 ≡ x → b ≡ same_bytes (part (text_at path 0)) word
      go true k = h ∙ k ∙ sym (sym over ∙ part_dot [] (sym e ∙ s) (eqb-true c 46 k) ∙ same_none refl refl)
      go false k = h ∙ k ∙ sym (sym over ∙ part_longer [] (sym e ∙ s) (eqb-false c 46 k) refl)
