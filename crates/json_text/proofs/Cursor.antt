-- A cursor into a text: a place in the sheet, and the bytes of a scalar value that are still to be given. What is before it is a list of bytes, taken from the front.
-- Assumes nothing.
use mathlib.Core.Bool.{false, true}
use mathlib.Core.List.{[], ◌++◌, ◌∷◌}
use mathlib.Core.Path.{ap, refl, subst, sym, ◌∙◌, ◌≡◌}
use Prim.Native.Nat.{Ordering, compare, suc, ℕ, ◌%◌, ◌+◌, ◌/◌, ◌<◌, ◌≤◌}
use native.Mathlib.Omega.{arith}
use lib.Dec.{compare_is_eq, is_le}
use lib.ListN.{drop, get_or, length, length-drop}
use Rattle.json_text.proofs.Laws.{ok_injective}
use Rattle.json_text.proofs.Texts.{TextView, ended, raw, text_view, written}
use Rattle.json_text.specs.Bytes.{Bytes, begins, order_bytes, same_bytes}
use Rattle.json_text.specs.Cursor.{OnText, Took, before, tails}
use Rattle.json_text.specs.Escapes.{escaped}
use Rattle.json_text.specs.Fits.{Text}
use Rattle.json_text.specs.Refusal.{Refusal, ok, refused}
use Rattle.json_text.specs.Scan.{Read}
use Rattle.json_text.specs.Spans.{text_at}
use Rattle.json_text.specs.Strings.{backslash, char, other, quote}
use Rattle.json_text.specs.Utf8.{encode}
use borrow.Author.Tests.{eq-eqb, le-leb, le-ltb, lt-leb, lt-ltb, ne_eqb}

pub encode_1 : (u : ℕ) → u < 128 → encode u ≡ u ∷ tails 0 u
unfolding encode
encode_1 u h = rw (lt-ltb u 128 h)

pub encode_2 : (u : ℕ) → 128 ≤ u → u < 2048 → encode u ≡ (192 + u / 64) ∷ tails 1 u
unfolding encode
encode_2 u g h = rw (le-ltb u 128 g, lt-ltb u 2048 h)

pub encode_3 : (u : ℕ) → 2048 ≤ u → u < 65536 → encode u ≡ (224 + u / 4096) ∷ tails 2 u
unfolding encode
encode_3 u g h = let k : 128 ≤ u = omega arith in rw (le-ltb u 128 k, le-ltb u 2048 g, lt-ltb u 65536 h)

pub encode_4 : (u : ℕ) → 65536 ≤ u → encode u ≡ (240 + u / 262144) ∷ tails 3 u
unfolding encode
encode_4 u g = let k : 128 ≤ u = omega arith in let l : 2048 ≤ u = omega arith in rw (le-ltb u 128 k, le-ltb u 2048 l, le-ltb u 65536 g)

-- ---- the next byte: pending, raw, of an escape, or none
module _ (s : Bytes) (at u : ℕ) where
  take_pending : (left b : ℕ) → OnText s at (suc left) → tails (suc left) u ≡ b ∷ tails left u → Took s at u (suc left) b at u left
  unfolding before
  take_pending left b o e = record { byte = ap {B = Bytes} (λ l. l ++ text_at s at) e; on_text = record { stop = o.stop; text = o.text; few = omega (arith, o.few) }; falls = omega arith }

  pub pending_1 : OnText s at 1 → Took s at u 1 (128 + u % 64) at u 0
  pending_1 o = take_pending 0 (128 + u % 64) o refl

  pub pending_2 : OnText s at 2 → Took s at u 2 (128 + u / 64 % 64) at u 1
  pending_2 o = take_pending 1 (128 + u / 64 % 64) o refl

  pub pending_3 : OnText s at 3 → Took s at u 3 (128 + u / 4096 % 64) at u 2
  pending_3 o = take_pending 2 (128 + u / 4096 % 64) o refl

  pub none_left : text_at s at ≡ [] → before s at u 0 ≡ []
  unfolding before
  none_left e = e

  pub raw_byte : (e b : ℕ) → text_at s at ≡ b ∷ text_at s (at + 1) → Text s (at + 1) e → Took s at u 0 b (at + 1) 0 0
  unfolding before
  raw_byte e b q t = record { byte = q; on_text = record { stop = e; text = t; few = omega arith }; falls = omega (arith, t.order, t.upto) }

  pub of_escape :
      (e v k left b : ℕ) → text_at s at ≡ encode v ++ text_at s k → Text s k e → at + 2 ≤ k → left ≤ 3 → encode v ≡ b ∷ tails left v →
      Took s at u 0 b k v left
  unfolding before
  of_escape e v k left b q t h f g =
      record {
        byte = q ∙ ap {B = Bytes} (λ l. l ++ text_at s k) g;
        on_text = record { stop = e; text = t; few = f };
        falls = omega (arith, t.order, t.upto);
      }

-- the same by what code has tested
module _ (s : Bytes) (at u left : ℕ) (o : OnText s at left) where
  pub turn_1 : left ≡ 1 → Took s at u left (128 + u % 64) at u 0
  turn_1 e = subst (λ (n : ℕ). Took s at u n (128 + u % 64) at u 0) (sym e) (pending_1 s at u (subst (OnText s at) e o))

  pub turn_2 : left ≡ 2 → Took s at u left (128 + u / 64 % 64) at u 1
  turn_2 e = subst (λ (n : ℕ). Took s at u n (128 + u / 64 % 64) at u 1) (sym e) (pending_2 s at u (subst (OnText s at) e o))

  pub turn_3 : left ≡ 3 → Took s at u left (128 + u / 4096 % 64) at u 2
  turn_3 e = subst (λ (n : ℕ). Took s at u n (128 + u / 4096 % 64) at u 2) (sym e) (pending_3 s at u (subst (OnText s at) e o))

  module _ (z : left ≡ 0) where
    pub turn_end : get_or s at 0 ≡ 34 → before s at u left ≡ []
    turn_end e = go (text_view s at o.stop o.text)
      where
        go : TextView s at o.stop → before s at u left ≡ []
        go (ended i j k) = subst (λ (n : ℕ). before s at u n ≡ []) (sym z) (none_left s at u k)
        go (raw i j k t) = absurd (not_other (sym (ap char e) ∙ j))
          where
            not_other : quote ≡ other → ⊥
            not_other q = let n : ◌≡◌ {A = ℕ} 0 1 = cc in omega arith
        go (written v b i j k t l) = absurd (omega arith)

    pub turn_raw : (get_or s at 0 ≡ 34 → ⊥) → (get_or s at 0 ≡ 92 → ⊥) → Took s at u left (get_or s at 0) (at + 1) 0 0
    turn_raw f g = go (text_view s at o.stop o.text)
      where
        go : TextView s at o.stop → Took s at u left (get_or s at 0) (at + 1) 0 0
        go (ended i j k) = absurd (f j)
        go (raw i j k t) = subst (λ (n : ℕ). Took s at u n (get_or s at 0) (at + 1) 0 0) (sym z) (raw_byte s at u o.stop (get_or s at 0) k t)
        go (written v b i j k t l) = absurd (g i)

    not_raw : get_or s at 0 ≡ 92 → char (get_or s at 0) ≡ other → ⊥
    not_raw e j = is_not (sym (ap char e) ∙ j)
      where
        is_not : backslash ≡ other → ⊥
        is_not q = let n : ◌≡◌ {A = ℕ} 0 1 = cc in omega arith

    pub turn_bad : {A : Type 0} (r : Refusal) → get_or s at 0 ≡ 92 → escaped (drop (at + 1) s) ≡ refused r → A
    turn_bad {A} r e q = go (text_view s at o.stop o.text)
      where
        go : TextView s at o.stop → A
        go (ended i j k) = absurd (omega arith)
        go (raw i j k t) = absurd (not_raw e j)
        go (written v b i j k t l) = let n : ◌≡◌ {A = ℕ} 0 1 = cc in absurd (omega arith)

    pub turn_escape :
        (v p n b : ℕ) → get_or s at 0 ≡ 92 → escaped (drop (at + 1) s) ≡ ok (record { got = v; rest = drop p s }) → p ≤ length s → n ≤ 3 →
        encode v ≡ b ∷ tails n v → Took s at u left b p v n
    turn_escape v p n b e q h m f = go (text_view s at o.stop o.text)
      where
        go : TextView s at o.stop → Took s at u left b p v n
        go (ended i j k) = absurd (omega arith)
        go (raw i j k t) = absurd (not_raw e j)
        go (written v' p' i j k t l) =
            let r = ok_injective (sym j ∙ q) in
            let x : v' ≡ v = ap (λ (y : Read ℕ). y.got) r in
            let y : p' ≡ p = omega (arith, ap length (ap (λ (y : Read ℕ). y.rest) r), length-drop p s, length-drop p' s, t.order, t.upto) in
            let k' : text_at s at ≡ encode v ++ text_at s p = cc (k, x, y) in
            let t' : Text s p o.stop = subst (λ (y : ℕ). Text s y o.stop) y t in
            subst (λ (d : ℕ). Took s at u d b p v n) (sym z) (of_escape s at u o.stop v p n b k' t' (omega arith) m f)

-- ---- comparing byte by byte: each law is a turn of the loop
pub compare_lt : (x y : ℕ) → x < y → compare x y ≡ Ordering.lt
compare_lt x y h = go (compare x y) (le-leb x y (omega arith)) (ne_eqb x y (λ e. omega arith))
  where
    go : (o : Ordering) → is_le o ≡ true → compare_is_eq o ≡ false → o ≡ Ordering.lt
    go Ordering.lt p q = refl
    go Ordering.eq p q = cc
    go Ordering.gt p q = cc

pub compare_gt : (x y : ℕ) → y < x → compare x y ≡ Ordering.gt
compare_gt x y h = go (compare x y) (lt-leb x y h)
  where
    go : (o : Ordering) → is_le o ≡ false → o ≡ Ordering.gt
    go Ordering.lt p = cc
    go Ordering.eq p = cc
    go Ordering.gt p = refl

pub compare_same : (x y : ℕ) → x ≡ y → compare x y ≡ Ordering.eq
compare_same x y h = go (compare x y) (eq-eqb x y h)
  where
    go : (o : Ordering) → compare_is_eq o ≡ true → o ≡ Ordering.eq
    go Ordering.lt p = cc
    go Ordering.eq p = refl
    go Ordering.gt p = cc

module _ {l m : Bytes} where
  pub same_none : l ≡ [] → m ≡ [] → same_bytes l m ≡ true
  unfolding same_bytes
  same_none p q = rw (p, q)

  pub same_short : {y : ℕ} {k : Bytes} → l ≡ [] → m ≡ y ∷ k → same_bytes l m ≡ false
  unfolding same_bytes
  same_short p q = rw (p, q)

  pub same_long : {x : ℕ} {k : Bytes} → l ≡ x ∷ k → m ≡ [] → same_bytes l m ≡ false
  unfolding same_bytes
  same_long p q = rw (p, q)

  pub same_on : {x y : ℕ} {k j : Bytes} → l ≡ x ∷ k → m ≡ y ∷ j → x ≡ y → same_bytes l m ≡ same_bytes k j
  unfolding same_bytes
  same_on {x} {y} p q e = rw (p, q, eq-eqb x y e, same_bytes)

  pub same_apart : {x y : ℕ} {k j : Bytes} → l ≡ x ∷ k → m ≡ y ∷ j → (x ≡ y → ⊥) → same_bytes l m ≡ false
  unfolding same_bytes
  same_apart {x} {y} p q e = rw (p, q, ne_eqb x y e, same_bytes)

  pub order_none : l ≡ [] → m ≡ [] → order_bytes l m ≡ Ordering.eq
  unfolding order_bytes
  order_none p q = rw (p, q)

  pub order_short : {y : ℕ} {k : Bytes} → l ≡ [] → m ≡ y ∷ k → order_bytes l m ≡ Ordering.lt
  unfolding order_bytes
  order_short p q = rw (p, q)

  pub order_long : {x : ℕ} {k : Bytes} → l ≡ x ∷ k → m ≡ [] → order_bytes l m ≡ Ordering.gt
  unfolding order_bytes
  order_long p q = rw (p, q)

  pub order_on : {x y : ℕ} {k j : Bytes} → l ≡ x ∷ k → m ≡ y ∷ j → x ≡ y → order_bytes l m ≡ order_bytes k j
  unfolding order_bytes
  order_on {x} {y} p q e = rw (p, q, compare_same x y e, order_bytes)

  pub order_less : {x y : ℕ} {k j : Bytes} → l ≡ x ∷ k → m ≡ y ∷ j → x < y → order_bytes l m ≡ Ordering.lt
  unfolding order_bytes
  order_less {x} {y} p q e = rw (p, q, compare_lt x y e, order_bytes)

  pub order_more : {x y : ℕ} {k j : Bytes} → l ≡ x ∷ k → m ≡ y ∷ j → y < x → order_bytes l m ≡ Ordering.gt
  unfolding order_bytes
  order_more {x} {y} p q e = rw (p, q, compare_gt x y e, order_bytes)

  pub begins_long : {x : ℕ} {k : Bytes} → l ≡ x ∷ k → m ≡ [] → begins l m ≡ false
  unfolding begins
  begins_long p q = rw (p, q)

  pub begins_on : {x y : ℕ} {k j : Bytes} → l ≡ x ∷ k → m ≡ y ∷ j → x ≡ y → begins l m ≡ begins k j
  unfolding begins
  begins_on {x} {y} p q e = rw (p, q, eq-eqb x y e, begins)

  pub begins_apart : {x y : ℕ} {k j : Bytes} → l ≡ x ∷ k → m ≡ y ∷ j → (x ≡ y → ⊥) → begins l m ≡ false
  unfolding begins
  begins_apart {x} {y} p q e = rw (p, q, ne_eqb x y e, begins)

pub begins_none : {l : Bytes} (m : Bytes) → l ≡ [] → begins l m ≡ true
unfolding begins
begins_none m p = rw p

-- ---- texts by the bytes that stand in the sheet: the first byte is the text's own, unless it ends the text or begins an escape
module _ {s : Bytes} {at : ℕ} (o : OnText s at 0) where
  pub text_ends : get_or s at 0 ≡ 34 → text_at s at ≡ []
  unfolding before
  text_ends e = turn_end s at 0 0 o refl e

  module _ (f : get_or s at 0 ≡ 34 → ⊥) (g : get_or s at 0 ≡ 92 → ⊥) where
    pub text_begins : text_at s at ≡ get_or s at 0 ∷ text_at s (at + 1)
    unfolding before
    text_begins = (turn_raw s at 0 0 o refl f g).byte

    pub text_behind : OnText s (at + 1) 0
    text_behind = (turn_raw s at 0 0 o refl f g).on_text

-- two texts that begin with the same bytes: what stands behind these decides their order
pub record Abreast (s : Bytes) (a b n : ℕ) : Type 0 where
  pub on_a : OnText s (a + n) 0
  pub on_b : OnText s (b + n) 0
  pub same : order_bytes (text_at s a) (text_at s b) ≡ order_bytes (text_at s (a + n)) (text_at s (b + n))

pub abreast : (s : Bytes) (a b : ℕ) → OnText s a 0 → OnText s b 0 → Abreast s a b 0
abreast s a b p q = let x : a + 0 ≡ a = omega arith in let y : b + 0 ≡ b = omega arith in record { on_a = rw x p; on_b = rw y q; same = rw (x, y) }

module _ {s : Bytes} {a b n : ℕ} (l : Abreast s a b n) where
  pub abreast_in_a : a + n < length s
  abreast_in_a = omega (arith, l.on_a.text.order, l.on_a.text.upto)

  pub abreast_in_b : b + n < length s
  abreast_in_b = omega (arith, l.on_b.text.order, l.on_b.text.upto)

  pub abreast_end : get_or s (a + n) 0 ≡ get_or s (b + n) 0 → get_or s (a + n) 0 ≡ 34 → order_bytes (text_at s a) (text_at s b) ≡ Ordering.eq
  abreast_end e q = l.same ∙ order_none (text_ends l.on_a q) (text_ends l.on_b (sym e ∙ q))

  module _ (f : get_or s (a + n) 0 ≡ 34 → ⊥) (g : get_or s (a + n) 0 ≡ 92 → ⊥) where
    pub abreast_on : get_or s (a + n) 0 ≡ get_or s (b + n) 0 → Abreast s a b (n + 1)
    abreast_on e =
        let f' : get_or s (b + n) 0 ≡ 34 → ⊥ = λ q. f (e ∙ q) in
        let g' : get_or s (b + n) 0 ≡ 92 → ⊥ = λ q. g (e ∙ q) in
        let x : a + (n + 1) ≡ a + n + 1 = omega arith in
        let y : b + (n + 1) ≡ b + n + 1 = omega arith in
        record {
          on_a = rw x (text_behind l.on_a f g);
          on_b = rw y (text_behind l.on_b f' g');
          same = l.same ∙ order_on (text_begins l.on_a f g) (text_begins l.on_b f' g') e ∙ rw (x, y);
        }
