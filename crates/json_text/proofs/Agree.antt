-- Reading by place is reading: the same refusal, or the same tree once its places are erased.
-- Assumes nothing.
use mathlib.Core.Bool.{Bool, false, true}
use mathlib.Core.List.{List, [], ◌++◌, ◌∷◌}
use Rattle.std.specs.Prelude.{Option, None, Some}
use mathlib.Core.Path.{ap, refl, subst, sym, ◌∙◌, ◌≡◌}
use Prim.Native.Nat.{suc, zero, ℕ, ◌+◌, ◌-◌, ◌<◌, ◌≤◌}
use native.Mathlib.Numerals.{add-one}
use native.Mathlib.Omega.{arith}
use lib.Dec.{eqb, leb, ltb}
use lib.ListN.{get_or-eq_default, drop, drop_of_length-le, get_or, length, length-append, length-drop, take}
use lib.Seq.{drop_at, drop-cons, length-take-le, slice, take-add, take_at}
use Rattle.json_text.proofs.Sound.{chars_sound, digits_sound, leb_le, one_node_sound, skip_ws, word_sound}
use Rattle.json_text.specs.Bytes.{Bytes, ascii, choose, is_one_of}
use Rattle.json_text.specs.Fits.{Fits, FitsIn, FitsLeaf, FitsOf, Numeral, Span, Text, fits_arr, fits_empty, fits_field, fits_leaf, fits_node, fits_none, fits_obj}
use Rattle.json_text.specs.Grammar.{Chars, Escape, Hex, Ws, close, no_hex, no_space, one_hex, pair, simple, space, unescaped, unit}
use Rattle.json_text.specs.Json.{Members, Value, Values, array, bool, cons, empty, member, nil, null, number, object, text}
use Rattle.json_text.specs.Limits
use Rattle.json_text.specs.Numerals
use Rattle.json_text.specs.Numerals.{digits}
use Rattle.json_text.specs.Placing
use Rattle.json_text.specs.Placing.{Placed, Placer, skip_at}
use Rattle.json_text.specs.Reader
use Rattle.json_text.specs.Reader.{Parsed}
use Rattle.json_text.specs.Refusal.{Refusal, Result, not_json, ok, refused, repeated_name, too_deep, ◌>>=◌}
use Rattle.json_text.specs.Scan.{Read, expect, skip, word}
use Rattle.json_text.specs.Spans
use Rattle.json_text.specs.Spans.{Fields, Node, Nodes, Plain, arr, deep, deep_in, deep_of, erase, erase_in, erase_of, field, leaf, no_field, no_node, node, obj, size, size_in, size_of, text_at}
use Rattle.json_text.specs.Strings.{chars}
use Rattle.json_text.specs.Utf8
use borrow.Author.Tests.{eq-eqb, ltb-false as ltb-ge, ltb-true as ltb-lt, ne_eqb}

-- ---- a rest of the sheet is the sheet from a place on
pub data Tail : Bytes → Bytes → Type 0 where
  whole : {s : Bytes} → Tail s s
  later : {c : ℕ} {s r : Bytes} → Tail s r → Tail (c ∷ s) r

pub tail_length : {s r : Bytes} → Tail s r → length r ≤ length s
tail_length whole = omega arith
tail_length (later t) = omega (arith, tail_length t)

pub tail_drop : {s r : Bytes} → Tail s r → drop (length s - length r) s ≡ r
tail_drop (whole {s}) = let e : length s - length s ≡ 0 = omega arith in rw e
tail_drop (later {c} {s} {r} t) = let e : suc (length s) - length r ≡ suc (length s - length r) = omega (arith, tail_length t) in rw e (tail_drop t)

pub tail_trans : {s t r : Bytes} → Tail s t → Tail t r → Tail s r
tail_trans whole k = k
tail_trans (later h) k = later (tail_trans h k)

pub drop_tail : (k : ℕ) (s : Bytes) → Tail s (drop k s)
drop_tail zero s = whole
drop_tail (suc k) [] = whole
drop_tail (suc k) (c ∷ s) = later (drop_tail k s)

append_tail : (x r : Bytes) → Tail (x ++ r) r
append_tail [] r = whole
append_tail (c ∷ x) r = later (append_tail x r)

tail_is : {s s' r : Bytes} → s ≡ s' → Tail s' r → Tail s r
tail_is {r} e t = subst (λ (x : Bytes). Tail x r) (sym e) t

ws_tail : {s r : Bytes} → Ws s r → Tail s r
ws_tail no_space = whole
ws_tail (space e w) = later (ws_tail w)

hex_tail : {n u v : ℕ} {s r : Bytes} → Hex n u v s r → Tail s r
hex_tail no_hex = whole
hex_tail (one_hex e h) = later (hex_tail h)

pub escape_tail : {x s r : Bytes} → Escape x s r → Tail s r
escape_tail (simple e) = later whole
escape_tail (unit e h b x) = later (hex_tail h)
escape_tail (pair {u = u} e h b p k d x) = later (tail_trans (hex_tail h) (tail_is p (tail_trans (append_tail (ascii "\\u") u) (hex_tail k))))

pub chars_tail : {x s r : Bytes} → Chars x s r → Tail s r
chars_tail (close e) = later whole
chars_tail (unescaped e c) = later (chars_tail c)
chars_tail (Chars.escape e y c x) = later (tail_trans (escape_tail y) (chars_tail c))

pub chars_short : {x s r : Bytes} → Chars x s r → length r + 1 ≤ length s
chars_short (close e) = omega arith
chars_short (unescaped e c) = omega (arith, chars_short c)
chars_short (Chars.escape e y c x) = omega (arith, tail_length (escape_tail y), chars_short c)

-- r is the sheet from p on, and p is not before `at`
pub record Behind (s : Bytes) (at : ℕ) (r : Bytes) (p : ℕ) : Type 0 where
  pub rest : r ≡ drop p s
  pub past : at ≤ p
  pub upto : p ≤ length s

pub placed : (s : Bytes) (at k : ℕ) (t r : Bytes) → t ≡ drop at s → at ≤ length s → Tail t r → length r + k ≤ length t → Behind s (at + k) r (Placing.place_of s r)
unfolding Placing.place_of
placed s at k t r e h l m =
    record {
      rest = sym (tail_drop (tail_trans (drop_tail at s) (tail_is (sym e) l)));
      past = omega (arith, tail_length l, ap length e, length-drop at s);
      upto = omega arith;
    }

pub skip_at_lem : (s : Bytes) (at : ℕ) (t : Bytes) → t ≡ drop at s → at ≤ length s → Behind s at (skip t) (Placing.skip_at s at)
unfolding Placing.skip_at
skip_at_lem s at t e h =
    let b = placed s at 0 t (skip t) e h (ws_tail (skip_ws t)) (omega (arith, tail_length (ws_tail (skip_ws t)))) in
    let q : Placing.place_of s (skip t) ≡ Placing.place_of s (skip (drop at s)) = ap (λ (x : Bytes). Placing.place_of s (skip x)) e in
    subst (λ (p : ℕ). Behind s at (skip t) p) q (record { rest = b.rest; past = omega (arith, b.past); upto = b.upto })

-- what stands at a place: a byte, or nothing, where 0 is read
pub data AtView (s : Bytes) (k : ℕ) : Bytes → ℕ → Type 0 where
  inside : {c : ℕ} → k < length s → c ≡ get_or s k 0 → AtView s k (c ∷ drop (k + 1) s) c
  outside : length s ≤ k → AtView s k [] 0

pub at_view : (s : Bytes) (k : ℕ) → AtView s k (drop k s) (get_or s k 0)
at_view s k = go (ltb k (length s)) refl
  where
    go : (b : Bool) → ltb k (length s) ≡ b → AtView s k (drop k s) (get_or s k 0)
    go true e = let h : k < length s = ltb-lt k (length s) e in rw (drop-cons s k 0 h, ← add-one) (inside h refl)
    go false e = let h : length s ≤ k = ltb-ge k (length s) e in rw (drop_of_length-le s h, get_or-eq_default s 0 h) (outside h)

-- ---- computations with one outcome: the same refusal, or results that belong together
pub data Rel (A B : Type 0) (R : A → B → Type 0) : Result A → Result B → Type 0 where
  both : {a : A} {b : B} → R a b → Rel A B R (ok a) (ok b)
  neither_of : (r : Refusal) → Rel A B R (refused r) (refused r)

pub rel_bind :
    {A B C D : Type 0} {R : A → B → Type 0} {S : C → D → Type 0} {x : Result A} {y : Result B} {f : A → Result C} {g : B → Result D} →
    Rel A B R x y → ((a : A) (b : B) → R a b → Rel C D S (f a) (g b)) → Rel C D S (x >>= f) (y >>= g)
rel_bind (both {a} {b} h) k = k a b h
rel_bind (neither_of r) k = neither_of r

-- ---- bytes, words, texts and numbers
byte_agrees : (c : ℕ) (s : Bytes) (at : ℕ) (t : Bytes) → t ≡ drop at s → at ≤ length s → eqb c 0 ≡ false →
    Rel Bytes ℕ (λ r p. Behind s (at + 1) r p × (p ≡ at + 1)) (expect c t) (Placing.byte_at c s at)
unfolding expect Placing.byte_at
byte_agrees c s at t e h z =
    subst (λ (x : Bytes). Rel Bytes ℕ (λ r p. Behind s (at + 1) r p × (p ≡ at + 1)) (expect c x) (Placing.byte_at c s at)) (sym e)
    (go (drop at s) (get_or s at 0) (at_view s at))
  where
    test : ℕ → Result ℕ
    test d = elim (eqb c d) [ true ↦ ok (at + 1) | false ↦ refused not_json ]

    go : (x : Bytes) (d : ℕ) → AtView s at x d → Rel Bytes ℕ (λ r p. Behind s (at + 1) r p × (p ≡ at + 1)) (expect c x) (test d)
    go x d (inside {c = b} l q) = by (eqb c b) refl
      where
        by : (y : Bool) → eqb c b ≡ y → Rel Bytes ℕ (λ r p. Behind s (at + 1) r p × (p ≡ at + 1)) (expect c (b ∷ drop (at + 1) s)) (test b)
        by true i = rw (i, expect, test) (both {a = drop (at + 1) s} {b = at + 1} (record { rest = refl; past = omega arith; upto = omega arith }, refl))
        by false i = rw (i, expect, test) (neither_of not_json)
    go x d (outside l) = rw (z, expect, test) (neither_of not_json)

-- a scan that gives a rest, and the same by place
scan_agrees : {A : Type 0} (s : Bytes) (at : ℕ) (x : Result A) (f : A → Bytes) (R : A → ℕ → Type 0) →
    ((a : A) → x ≡ ok a → R a (Placing.place_of s (f a))) → Rel A ℕ R x (x >>= λ a. ok (Placing.place_of s (f a)))
scan_agrees s at (ok a) f R h = both (h a refl)
scan_agrees s at (refused r) f R h = neither_of r

word_agrees : (w s : Bytes) (at : ℕ) (t : Bytes) → 1 ≤ length w → t ≡ drop at s → at ≤ length s →
    Rel Bytes ℕ (λ r p. Behind s (at + 1) r p) (word w t) (Placing.word_at w s at)
unfolding Placing.word_at
word_agrees w s at t k e h = subst (λ (x : Bytes). Rel Bytes ℕ (λ r p. Behind s (at + 1) r p) (word w x) (Placing.word_at w s at)) (sym
    e) (scan_agrees s at (word w (drop at s)) (λ r. r) (λ r p. Behind s (at + 1) r p) λ r q.
    let f = word_sound w (drop at s) r q in
    placed s at 1 (drop at s) r refl h (tail_is f (append_tail w r)) (omega (arith, ap length f, length-append w r)))

-- a text that stands from a up to its closing quote at e; a number from a up to e
pub record TextRead (s : Bytes) (at : ℕ) (x : Read Bytes) (p : ℕ) : Type 0 where
  pub decoded : x.got ≡ Spans.text_at s at
  pub behind : Behind s (at + 1) x.rest p
  pub fits : Text s at (p - 1)

chars_agrees : (s : Bytes) (at : ℕ) (t : Bytes) → t ≡ drop at s → at ≤ length s → Rel (Read Bytes) ℕ (TextRead s at) (chars (length t) t) (Placing.chars_at s at)
unfolding Placing.chars_at Spans.text_at
chars_agrees s at t e h = subst (λ (x : Bytes). Rel (Read Bytes) ℕ (TextRead s at) (chars (length x) x) (Placing.chars_at s at)) (sym e)
    (scan_agrees s at (chars (length (drop at s)) (drop at s)) (λ x. x.rest) (TextRead s at) λ x q.
    let f = chars_sound (length (drop at s)) (drop at s) x q in
    let b = placed s at 1 (drop at s) x.rest refl h (chars_tail f) (chars_short f) in
    let z : Placing.place_of s x.rest - 1 + 1 ≡ Placing.place_of s x.rest = omega (arith, b.past) in
    record {
      decoded = rw q refl;
      behind = b;
      fits = record { read = rw (q, z) refl; order = omega (arith, b.past); upto = omega (arith, b.past, b.upto) };
    })

slice_is : (s : Bytes) (at p : ℕ) (x r : Bytes) → drop at s ≡ x ++ r → at ≤ length s → p ≡ at + length x → slice at p s ≡ x
slice_is s at p x r e h q =
    rw
    (q, take-add at (length x) s, drop_at (take at s) (take (length x) (drop at s)) at (length-take-le at s h), e)
    (take_at x r (length x) refl)

pub record NumberRead (s : Bytes) (at c : ℕ) (x : Read Bytes) (p : ℕ) : Type 0 where
  pub decoded : c ∷ x.got ≡ slice at p s
  pub behind : Behind s (at + 1) x.rest p
  pub fits : Numeral s at p

digits_agrees : (s : Bytes) (at c : ℕ) → drop at s ≡ c ∷ drop (at + 1) s → at < length s → c ≡ get_or s at 0 →
    Rel (Read Bytes) ℕ (NumberRead s at c) (digits (Numerals.first c) (Limits.max_number - 1) (drop (at + 1) s)) (Placing.digits_at s at)
unfolding Placing.digits_at
digits_agrees s at c v h q = subst (λ (y : ℕ). Rel (Read Bytes) ℕ (NumberRead s at c) (digits (Numerals.first y) (Limits.max_number - 1)
    (drop (at + 1) s)) (Placing.digits_at s at)) (sym q) (scan_agrees s at (digits (Numerals.first (get_or s at 0)) (Limits.max_number - 1)
    (drop (at + 1) s)) (λ x. x.rest) (NumberRead s at c) λ x i.
    let f = digits_sound (Numerals.first (get_or s at 0)) (Limits.max_number - 1) (drop (at + 1) s) x i in
    let b = placed s (at + 1) 0 (drop (at + 1) s) x.rest refl (omega arith) (tail_is f.chars (append_tail x.got x.rest))
    (omega (arith, ap length f.chars, length-append x.got x.rest)) in
    record {
      decoded = sym (slice_is s at (Placing.place_of s x.rest) (c ∷ x.got) x.rest (v ∙ ap {B = Bytes} (λ z. c ∷ z) f.chars) (omega arith) (long x f.chars));
      behind = record { rest = b.rest; past = omega (arith, b.past); upto = b.upto };
      fits = record { read = rw i refl; order = omega (arith, b.past); upto = b.upto };
    })
  where
    long : (x : Read Bytes) → drop (at + 1) s ≡ x.got ++ x.rest → Placing.place_of s x.rest ≡ at + suc (length x.got)
    long x f = omega (arith, ap length f, length-append x.got x.rest, length-drop (at + 1) s)

-- what belongs together: a value read from a place, and its node
pub record ValueAgrees (s : Bytes) (left n at : ℕ) (p : Parsed Value) (q : Placed Node) : Type 0 where
  pub tree : p.tree ≡ erase s q.tree
  pub rest : p.rest ≡ skip (drop q.place s)
  pub count : p.count ≡ q.count
  pub past : at < q.place
  pub upto : q.place ≤ length s
  pub counted : q.count ≡ n + size q.tree
  pub most : q.count ≤ Limits.max_nodes
  pub shallow : deep q.tree ≤ left
  pub fits : Fits s q.tree

pub record ItemsAgree (s : Bytes) (left n at : ℕ) (p : Parsed Values) (q : Placed Nodes) : Type 0 where
  pub tree : p.tree ≡ erase_in s q.tree
  pub rest : p.rest ≡ skip (drop q.place s)
  pub count : p.count ≡ q.count
  pub past : at < q.place
  pub upto : q.place ≤ length s
  pub counted : q.count ≡ n + size_in q.tree
  pub most : q.count ≤ Limits.max_nodes
  pub shallow : deep_in q.tree ≤ left
  pub fits : FitsIn s q.tree

pub record FieldsAgree (s : Bytes) (left n at : ℕ) (p : Parsed Members) (q : Placed Fields) : Type 0 where
  pub tree : p.tree ≡ erase_of s q.tree
  pub rest : p.rest ≡ skip (drop q.place s)
  pub count : p.count ≡ q.count
  pub past : at < q.place
  pub upto : q.place ≤ length s
  pub counted : q.count ≡ n + size_of q.tree
  pub most : q.count ≤ Limits.max_nodes
  pub shallow : deep_of q.tree ≤ left
  pub fits : FitsOf s q.tree

-- what follows a value
pub data SepView (s : Bytes) (k : ℕ) : Reader.Next → Placing.Sep → Type 0 where
  goes : k < length s → SepView s k (Reader.more (drop (k + 1) s)) Placing.goes_on
  stops : k < length s → SepView s k (Reader.closed (drop (k + 1) s)) Placing.ends
  fails : SepView s k Reader.neither Placing.neither

sep_view : (end : ℕ) (s : Bytes) (k : ℕ) → eqb 0 end ≡ false → SepView s k (Reader.next end (drop k s)) (Placing.sep end (get_or s k 0))
sep_view end s k z = go (drop k s) (get_or s k 0) (at_view s k)
  where
    go : (t : Bytes) (c : ℕ) → AtView s k t c → SepView s k (Reader.next end t) (Placing.sep end c)
    go t c (inside {c = b} h q) = by (eqb b 44) (eqb b end) refl refl
      where
        by : (x y : Bool) → eqb b 44 ≡ x → eqb b end ≡ y → SepView s k (Reader.next end (b ∷ drop (k + 1) s)) (Placing.sep end b)
        by true y i j = rw (i, choose) (goes h)
        by false true i j = rw (i, j, choose) (stops h)
        by false false i j = rw (i, j, choose) fails
    go t c (outside h) = rw (z, choose) fails

pub data ClosedView (s : Bytes) (k : ℕ) : Option Bytes → Bool → Type 0 where
  is_shut : k < length s → ClosedView s k (Some (drop (k + 1) s)) true
  is_open : ClosedView s k None false

closed_view : (end : ℕ) (s : Bytes) (k : ℕ) → eqb 0 end ≡ false → ClosedView s k (Reader.is_closed end (drop k s)) (eqb (get_or s k 0) end)
closed_view end s k z = go (drop k s) (get_or s k 0) (at_view s k)
  where
    go : (t : Bytes) (c : ℕ) → AtView s k t c → ClosedView s k (Reader.is_closed end t) (eqb c end)
    go t c (inside {c = b} h q) = by (eqb b end) refl
      where
        by : (x : Bool) → eqb b end ≡ x → ClosedView s k (Reader.is_closed end (b ∷ drop (k + 1) s)) (eqb b end)
        by true i = rw (i, Reader.is_closed) (is_shut h)
        by false i = rw (i, Reader.is_closed) is_open
    go t c (outside h) = rw z is_open

abbrev Agrees : Bytes → ℕ → Reader.Parser Value → Placer Node → Type 0
Agrees s left val vat = (n at : ℕ) (t : Bytes) → t ≡ drop at s → at ≤ length s → Rel (Parsed Value) (Placed Node) (ValueAgrees s left n at) (val n t) (vat n at)

module _ (s : Bytes) (left : ℕ) (val : Reader.Parser Value) (vat : Placer Node) (agrees : Agrees s left val vat) where
  abbrev AfterItem : ℕ → Parsed Value → Reader.Next → Result (Parsed Values)
  AfterItem f v x =
      elim
      x [
        | Reader.more t ↦
            (Reader.items val f v.count (skip t) >>= λ vs. ok (record { tree = cons v.tree vs.tree; rest = vs.rest; count = vs.count }))
        | Reader.closed t ↦
            ok (record { tree = cons v.tree nil; rest = skip t; count = v.count })
        | Reader.neither ↦
            refused not_json
      ]

  abbrev AfterItemAt : ℕ → Placed Node → Placing.Sep → Result (Placed Nodes)
  AfterItemAt f v x =
      elim
      x [
        | Placing.goes_on ↦
            (Placing.items_at s vat f v.count (skip_at s (skip_at s v.place + 1)) >>= λ vs. ok (record { tree = node v.tree vs.tree; place = vs.place; count = vs.count }))
        | Placing.ends ↦
            ok (record { tree = node v.tree no_node; place = skip_at s v.place + 1; count = v.count })
        | Placing.neither ↦
            refused not_json
      ]

  items_agree : (f n at : ℕ) (t : Bytes) → t ≡ drop at s → at ≤ length s →
      Rel (Parsed Values) (Placed Nodes) (ItemsAgree s left n at) (Reader.items val f n t) (Placing.items_at s vat f n at)
  unfolding Reader.items Placing.items_at erase_in size_in deep_in
  items_agree zero n at t e h = neither_of not_json
  items_agree (suc f) n at t e h = rel_bind (agrees n at t e h) λ v p r. after (λ m a u i j. items_agree f m a u i j) v p r
    where
      Below : Type 0
      Below =
          (m a : ℕ) (u : Bytes) → u ≡
          drop a s → a ≤ length s → Rel (Parsed Values) (Placed Nodes) (ItemsAgree s left m a) (Reader.items val f m u)
          (Placing.items_at s vat f m a)

      after : Below → (v : Parsed Value) (p : Placed Node) → ValueAgrees s left n at v p →
          Rel (Parsed Values) (Placed Nodes) (ItemsAgree s left n at) (AfterItem f v (Reader.next 93 v.rest))
          (AfterItemAt f p (Placing.sep 93 (get_or s (skip_at s p.place) 0)))
      after below v p r =
          subst
          (λ (x : Bytes). Rel (Parsed Values) (Placed Nodes) (ItemsAgree s left n at) (AfterItem f v (Reader.next 93 x))
          (AfterItemAt f p (Placing.sep 93 (get_or s k 0)))) (sym (r.rest ∙ b.rest))
          (go (Reader.next 93 (drop k s)) (Placing.sep 93 (get_or s k 0)) (sep_view 93 s k refl))
        where
          k : ℕ
          k = skip_at s p.place

          b : Behind s p.place (skip (drop p.place s)) k
          b = skip_at_lem s p.place (drop p.place s) refl r.upto

          go : (x : Reader.Next) (y : Placing.Sep) → SepView s k x y → Rel (Parsed Values) (Placed Nodes) (ItemsAgree s left n at) (AfterItem f v x) (AfterItemAt f p y)
          go x y (goes l) =
              let d = skip_at_lem s (k + 1) (drop (k + 1) s) refl (omega arith) in
              rel_bind
              (subst
              (λ (m : ℕ). Rel (Parsed Values) (Placed Nodes) (ItemsAgree s left p.count (skip_at s (k + 1)))
              (Reader.items val f m (skip (drop (k + 1) s))) (Placing.items_at s vat f p.count (skip_at s (k + 1))))
              (sym r.count) (below p.count (skip_at s (k + 1)) (skip (drop (k + 1) s)) d.rest d.upto)) λ vs ps q.
              both
              {a = record { tree = cons v.tree vs.tree; rest = vs.rest; count = vs.count }}
              {b = record { tree = node p.tree ps.tree; place = ps.place; count = ps.count }}
              (record {
                tree = cc (r.tree, q.tree);
                rest = q.rest;
                count = q.count;
                past = omega (arith, r.past, b.past, d.past, q.past);
                upto = q.upto;
                counted = omega (arith, r.counted, q.counted);
                most = q.most;
                shallow = omega (arith, r.shallow, q.shallow);
                fits = fits_node r.fits q.fits;
              })
          go x y (stops l) =
              both
              {a = record { tree = cons v.tree nil; rest = skip (drop (k + 1) s); count = v.count }}
              {b = record { tree = node p.tree no_node; place = k + 1; count = p.count }}
              (record {
                tree = cc r.tree;
                rest = refl;
                count = r.count;
                past = omega (arith, r.past, b.past);
                upto = omega arith;
                counted = omega (arith, r.counted);
                most = r.most;
                shallow = omega (arith, r.shallow);
                fits = fits_node r.fits fits_none;
              })
          go x y fails = neither_of not_json

  abbrev AfterField : ℕ → List Bytes → Bytes → Parsed Value → Reader.Next → Result (Parsed Members)
  AfterField f names k v x =
      elim
      x [
        | Reader.more t ↦
            (Reader.fields val f (k ∷ names) v.count (skip t) >>= λ ms. ok (record { tree = member k v.tree ms.tree; rest = ms.rest; count = ms.count }))
        | Reader.closed t ↦
            ok (record { tree = member k v.tree empty; rest = skip t; count = v.count })
        | Reader.neither ↦
            refused not_json
      ]

  abbrev AfterFieldAt : ℕ → List Bytes → ℕ → ℕ → Placed Node → Placing.Sep → Result (Placed Fields)
  AfterFieldAt f names a e v x =
      elim
      x [
        | Placing.goes_on ↦
            (Placing.fields_at s vat f (text_at s a ∷ names) v.count (skip_at s (skip_at s v.place + 1)) >>= λ fs. ok
            (record { tree = field a (e - 1) v.tree fs.tree; place = fs.place; count = fs.count }))
        | Placing.ends ↦
            ok (record { tree = field a (e - 1) v.tree no_field; place = skip_at s v.place + 1; count = v.count })
        | Placing.neither ↦
            refused not_json
      ]

  node_agrees : (n : ℕ) → Rel ℕ ℕ (λ a b. (a ≡ b) × (b ≡ n + 1) × (b ≤ Limits.max_nodes)) (Reader.one_node n) (Reader.one_node n)
  node_agrees n = go (Reader.one_node n) refl
    where
      go : (x : Result ℕ) → Reader.one_node n ≡ x → Rel ℕ ℕ (λ a b. (a ≡ b) × (b ≡ n + 1) × (b ≤ Limits.max_nodes)) x x
      go (ok m) e = let f = one_node_sound n m e in both (refl, f.0, f.1)
      go (refused r) e = neither_of r

  name_agrees : (k k' : Bytes) (names : List Bytes) (r r' : Bytes) → k ≡ k' → Rel Bytes Bytes (λ a b. a ≡ r) (Reader.new_name k names r) (Reader.new_name k' names r')
  unfolding Reader.new_name
  name_agrees k k' names r r' e = subst (λ (x : Bytes). Rel Bytes Bytes (λ a b. a ≡ r) (Reader.new_name k names r) (Reader.new_name x names r')) e (go (is_one_of k names) refl)
    where
      go : (b : Bool) → is_one_of k names ≡ b → Rel Bytes Bytes (λ a b. a ≡ r) (Reader.new_name k names r) (Reader.new_name k names r')
      go true q = rw (q, Reader.new_name) (neither_of repeated_name)
      go false q = rw (q, Reader.new_name) (both refl)

  fields_agree : (f : ℕ) (names : List Bytes) (n at : ℕ) (t : Bytes) → t ≡ drop at s → at ≤ length s →
      Rel (Parsed Members) (Placed Fields) (FieldsAgree s left n at) (Reader.fields val f names n t) (Placing.fields_at s vat f names n at)
  unfolding Reader.fields Placing.fields_at erase_of size_of deep_of
  fields_agree zero names n at t e h = neither_of not_json
  fields_agree (suc f) names n at t e h =
      rel_bind (byte_agrees 34 s at t e h refl) λ t1 a r1.
      rel_bind (node_agrees n) λ m m' r2.
      rel_bind (chars_agrees s a t1 r1.0.rest r1.0.upto) λ k p r3.
      rel_bind (name_agrees k.got (text_at s a) names k.rest [] r3.decoded) λ t4 t4' r4.
      let b4 = skip_at_lem s p t4 (r4 ∙ r3.behind.rest) r3.behind.upto in
      rel_bind (byte_agrees 58 s (skip_at s p) (skip t4) b4.rest b4.upto refl) λ t5 u r5.
      let b5 = skip_at_lem s u t5 r5.0.rest r5.0.upto in
      rel_bind
      (subst
      (λ (i : ℕ). Rel (Parsed Value) (Placed Node) (ValueAgrees s left m' (skip_at s u)) (val i (skip t5)) (vat m' (skip_at s u)))
      (sym r2.0) (agrees m' (skip_at s u) (skip t5) b5.rest b5.upto)) λ v q r6.
      after (λ ns j o x i l. fields_agree f ns j o x i l) a p k.got r3.decoded r3.fits v q m' (skip_at s u) r2.1
      (omega (arith, r1.1, r3.behind.past, b4.past, r5.0.past, b5.past)) r6
    where
      Below : Type 0
      Below =
          (ns : List Bytes) (j o : ℕ) (x : Bytes) → x ≡
          drop o s → o ≤ length s → Rel (Parsed Members) (Placed Fields) (FieldsAgree s left j o) (Reader.fields val f ns j x)
          (Placing.fields_at s vat f ns j o)

      after :
          Below → (a e : ℕ) (key : Bytes) → key ≡ text_at s a → Text s a (e - 1) → (v : Parsed Value) (p : Placed Node) (m o : ℕ) → m ≡ n + 1 →
          at < o → ValueAgrees s left m o v p →
          Rel (Parsed Members) (Placed Fields) (FieldsAgree s left n at) (AfterField f names key v (Reader.next 125 v.rest))
          (AfterFieldAt f names a e p (Placing.sep 125 (get_or s (skip_at s p.place) 0)))
      after below a e key is_key is_text v p m o is_m is_o r =
          subst
          (λ (x : Bytes). Rel (Parsed Members) (Placed Fields) (FieldsAgree s left n at) (AfterField f names key v (Reader.next 125 x))
          (AfterFieldAt f names a e p (Placing.sep 125 (get_or s k 0)))) (sym (r.rest ∙ b.rest))
          (go (Reader.next 125 (drop k s)) (Placing.sep 125 (get_or s k 0)) (sep_view 125 s k refl))
        where
          k : ℕ
          k = skip_at s p.place

          b : Behind s p.place (skip (drop p.place s)) k
          b = skip_at_lem s p.place (drop p.place s) refl r.upto

          go : (x : Reader.Next) (y : Placing.Sep) → SepView s k x y →
              Rel (Parsed Members) (Placed Fields) (FieldsAgree s left n at) (AfterField f names key v x) (AfterFieldAt f names a e p y)
          go x y (goes l) =
              let d = skip_at_lem s (k + 1) (drop (k + 1) s) refl (omega arith) in
              let z = below (text_at s a ∷ names) p.count (skip_at s (k + 1)) (skip (drop (k + 1) s)) d.rest d.upto in
              let y : Rel (Parsed Members) (Placed Fields) (FieldsAgree s left p.count (skip_at s (k + 1)))
              (Reader.fields val f (key ∷ names) v.count (skip (drop (k + 1) s)))
              (Placing.fields_at s vat f (text_at s a ∷ names) p.count (skip_at s (k + 1))) = rw (r.count, is_key) z in
              rel_bind y λ ms fs q.
              both
              {a = record { tree = member key v.tree ms.tree; rest = ms.rest; count = ms.count }}
              {b = record { tree = field a (e - 1) p.tree fs.tree; place = fs.place; count = fs.count }}
              (record {
                tree = cc (is_key, r.tree, q.tree);
                rest = q.rest;
                count = q.count;
                past = omega (arith, r.past, b.past, d.past, q.past);
                upto = q.upto;
                counted = omega (arith, r.counted, q.counted);
                most = q.most;
                shallow = omega (arith, r.shallow, q.shallow);
                fits = fits_field is_text r.fits q.fits;
              })
          go x y (stops l) =
              both
              {a = record { tree = member key v.tree empty; rest = skip (drop (k + 1) s); count = v.count }}
              {b = record { tree = field a (e - 1) p.tree no_field; place = k + 1; count = p.count }}
              (record {
                tree = cc (is_key, r.tree);
                rest = refl;
                count = r.count;
                past = omega (arith, r.past, b.past);
                upto = omega arith;
                counted = omega (arith, r.counted);
                most = r.most;
                shallow = omega (arith, r.shallow);
                fits = fits_field is_text r.fits fits_empty;
              })
          go x y fails = neither_of not_json

  -- behind an opening bracket
  abbrev ArrayBody : Bytes → ℕ → Option Bytes → Result (Parsed Value)
  ArrayBody t m o =
      elim o [
        | Some w ↦ ok (record { tree = array nil; rest = skip w; count = m })
        | None ↦
            (Reader.items val (length t) m (skip t) >>= λ vs. ok (record { tree = array vs.tree; rest = vs.rest; count = vs.count }))
      ]

  abbrev ArrayBodyAt : ℕ → ℕ → Bool → Result (Placed Node)
  ArrayBodyAt at m b =
      elim b [
        | true ↦ ok (record { tree = arr at (skip_at s (at + 1) + 1) no_node; place = skip_at s (at + 1) + 1; count = m })
        | false ↦
            (Placing.items_at s vat (length (drop (at + 1) s)) m (skip_at s (at + 1)) >>= λ vs. ok
            (record { tree = arr at vs.place vs.tree; place = vs.place; count = vs.count }))
      ]

  abbrev ObjectBody : Bytes → ℕ → Option Bytes → Result (Parsed Value)
  ObjectBody t m o =
      elim o [
        | Some w ↦ ok (record { tree = object empty; rest = skip w; count = m })
        | None ↦
            (Reader.fields val (length t) [] m (skip t) >>= λ ms. ok
            (record { tree = object ms.tree; rest = ms.rest; count = ms.count }))
      ]

  abbrev ObjectBodyAt : ℕ → ℕ → Bool → Result (Placed Node)
  ObjectBodyAt at m b =
      elim b [
        | true ↦ ok (record { tree = obj at (skip_at s (at + 1) + 1) no_field; place = skip_at s (at + 1) + 1; count = m })
        | false ↦
            (Placing.fields_at s vat (length (drop (at + 1) s)) [] m (skip_at s (at + 1)) >>= λ fs. ok
            (record { tree = obj at fs.place fs.tree; place = fs.place; count = fs.count }))
      ]

  array_agrees : (n at : ℕ) → at < length s → Rel (Parsed Value) (Placed Node) (ValueAgrees s (suc left) n at) (Reader.array_rest val n (drop (at + 1) s)) (Placing.arr_at s vat n at)
  unfolding Reader.array_rest Placing.arr_at erase size deep
  array_agrees n at h =
      rel_bind (node_agrees n) λ m m' r. subst
      (λ (i : ℕ). Rel (Parsed Value) (Placed Node) (ValueAgrees s (suc left) n at) (ArrayBody t i (Reader.is_closed 93 (skip t)))
      (ArrayBodyAt at m' (eqb (get_or s k 0) 93))) (sym r.0)
      (subst
      (λ (x : Bytes). Rel (Parsed Value) (Placed Node) (ValueAgrees s (suc left) n at) (ArrayBody t m' (Reader.is_closed 93 x))
      (ArrayBodyAt at m' (eqb (get_or s k 0) 93))) (sym b.rest)
      (go m' r.1 r.2 (Reader.is_closed 93 (drop k s)) (eqb (get_or s k 0) 93) (closed_view 93 s k refl)))
    where
      t : Bytes
      t = drop (at + 1) s

      k : ℕ
      k = skip_at s (at + 1)

      b : Behind s (at + 1) (skip t) k
      b = skip_at_lem s (at + 1) t refl (omega arith)

      go : (m : ℕ) → m ≡ n + 1 → m ≤ Limits.max_nodes → (o : Option Bytes) (c : Bool) → ClosedView s k o c →
          Rel (Parsed Value) (Placed Node) (ValueAgrees s (suc left) n at) (ArrayBody t m o) (ArrayBodyAt at m c)
      go m e l o c (is_shut i) =
          both
          {a = record { tree = array nil; rest = skip (drop (k + 1) s); count = m }}
          {b = record { tree = arr at (k + 1) no_node; place = k + 1; count = m }}
          (record {
            tree = refl;
            rest = refl;
            count = refl;
            past = omega (arith, b.past);
            upto = omega arith;
            counted = omega arith;
            most = l;
            shallow = omega arith;
            fits = fits_arr {a = at} {e = k + 1} (record { order = omega (arith, b.past); upto = omega arith }) fits_none;
          })
      go m e l o c is_open =
          rel_bind (items_agree (length t) m k (skip t) b.rest b.upto) λ vs ps q.
          both
          {a = record { tree = array vs.tree; rest = vs.rest; count = vs.count }}
          {b = record { tree = arr at ps.place ps.tree; place = ps.place; count = ps.count }}
          (record {
            tree = ap array q.tree;
            rest = q.rest;
            count = q.count;
            past = omega (arith, b.past, q.past);
            upto = q.upto;
            counted = omega (arith, q.counted);
            most = q.most;
            shallow = omega (arith, q.shallow);
            fits = fits_arr {a = at} {e = ps.place} (record { order = omega (arith, b.past, q.past); upto = q.upto }) q.fits;
          })

  object_agrees : (n at : ℕ) → at < length s → Rel (Parsed Value) (Placed Node) (ValueAgrees s (suc left) n at) (Reader.object_rest val n (drop (at + 1) s)) (Placing.obj_at s vat n at)
  unfolding Reader.object_rest Placing.obj_at erase size deep
  object_agrees n at h =
      rel_bind (node_agrees n) λ m m' r. subst
      (λ (i : ℕ). Rel (Parsed Value) (Placed Node) (ValueAgrees s (suc left) n at) (ObjectBody t i (Reader.is_closed 125 (skip t)))
      (ObjectBodyAt at m' (eqb (get_or s k 0) 125))) (sym r.0)
      (subst
      (λ (x : Bytes). Rel (Parsed Value) (Placed Node) (ValueAgrees s (suc left) n at) (ObjectBody t m' (Reader.is_closed 125 x))
      (ObjectBodyAt at m' (eqb (get_or s k 0) 125))) (sym b.rest)
      (go m' r.1 r.2 (Reader.is_closed 125 (drop k s)) (eqb (get_or s k 0) 125) (closed_view 125 s k refl)))
    where
      t : Bytes
      t = drop (at + 1) s

      k : ℕ
      k = skip_at s (at + 1)

      b : Behind s (at + 1) (skip t) k
      b = skip_at_lem s (at + 1) t refl (omega arith)

      go : (m : ℕ) → m ≡ n + 1 → m ≤ Limits.max_nodes → (o : Option Bytes) (c : Bool) → ClosedView s k o c →
          Rel (Parsed Value) (Placed Node) (ValueAgrees s (suc left) n at) (ObjectBody t m o) (ObjectBodyAt at m c)
      go m e l o c (is_shut i) =
          both
          {a = record { tree = object empty; rest = skip (drop (k + 1) s); count = m }}
          {b = record { tree = obj at (k + 1) no_field; place = k + 1; count = m }}
          (record {
            tree = refl;
            rest = refl;
            count = refl;
            past = omega (arith, b.past);
            upto = omega arith;
            counted = omega arith;
            most = l;
            shallow = omega arith;
            fits = fits_obj {a = at} {e = k + 1} (record { order = omega (arith, b.past); upto = omega arith }) fits_empty;
          })
      go m e l o c is_open =
          rel_bind (fields_agree (length t) [] m k (skip t) b.rest b.upto) λ ms fs q.
          both
          {a = record { tree = object ms.tree; rest = ms.rest; count = ms.count }}
          {b = record { tree = obj at fs.place fs.tree; place = fs.place; count = fs.count }}
          (record {
            tree = ap object q.tree;
            rest = q.rest;
            count = q.count;
            past = omega (arith, b.past, q.past);
            upto = q.upto;
            counted = omega (arith, q.counted);
            most = q.most;
            shallow = omega (arith, q.shallow);
            fits = fits_obj {a = at} {e = fs.place} (record { order = omega (arith, b.past, q.past); upto = q.upto }) q.fits;
          })

-- a value, over what follows an opening bracket
abbrev BracketAgrees : Bytes → ℕ → Reader.Parser Value → Placer Node → Type 0
BracketAgrees s left ar at' = (n at : ℕ) → at < length s → Rel (Parsed Value) (Placed Node) (ValueAgrees s left n at) (ar n (drop (at + 1) s)) (at' n at)

module _ (s : Bytes) (left : ℕ) (ar ob : Reader.Parser Value) (ar_at ob_at : Placer Node) (arrays : BracketAgrees s left ar ar_at) (objects : BracketAgrees s left ob ob_at) where
  -- a node without brackets
  leaf_agrees : (k : Plain) (n m at a e : ℕ) (v : Value) (r : Bytes) (p : ℕ) → (m ≡ n + 1) × (m ≤ Limits.max_nodes) → Behind s (at + 1) r p →
      v ≡ Spans.plain s k a e → FitsLeaf s k a e →
      ValueAgrees s left n at (record { tree = v; rest = skip r; count = m }) (record { tree = leaf k a e; place = p; count = m })
  unfolding erase size deep
  leaf_agrees k n m at a e v r p c b t f =
      record {
        tree = t;
        rest = ap skip b.rest;
        count = refl;
        past = omega (arith, b.past);
        upto = b.upto;
        counted = c.0;
        most = c.1;
        shallow = omega arith;
        fits = fits_leaf f;
      }

  abbrev Both : ℕ → ℕ → Result (Parsed Value) → Result (Placed Node) → Type 0
  Both n at x y = Rel (Parsed Value) (Placed Node) (ValueAgrees s left n at) x y

  word_leaf : (w : Bytes) (v : Value) (k : Plain) (n m at : ℕ) (t : Bytes) → 1 ≤ length w → t ≡ drop at s → at < length s →
      (m ≡ n + 1) × (m ≤ Limits.max_nodes) → ((e : ℕ) → v ≡ Spans.plain s k at e) → ((e : ℕ) → Span s at e → FitsLeaf s k at e) →
      Both n at (Reader.literal w v m t) (Placing.leaf_at k m at (Placing.word_at w s at))
  word_leaf w v k n m at t l e h c g f =
      rel_bind (word_agrees w s at t l e (omega arith)) λ r p b.
      both {a = record { tree = v; rest = skip r; count = m }} {b = record { tree = leaf k at p; place = p; count = m }}
      (leaf_agrees k n m at at p v r p c b (g p) (f p (record { order = omega (arith, b.past); upto = b.upto })))

  counted : (n at : ℕ) (f : ℕ → Result (Parsed Value)) (g : ℕ → Result (Placed Node)) →
      ((m : ℕ) → (m ≡ n + 1) × (m ≤ Limits.max_nodes) → Both n at (f m) (g m)) → Both n at (Reader.one_node n >>= f) (Reader.one_node n >>= g)
  counted n at f g h = go (Reader.one_node n) refl
    where
      go : (x : Result ℕ) → Reader.one_node n ≡ x → Both n at (x >>= f) (x >>= g)
      go (ok m) e = h m (one_node_sound n m e)
      go (refused r) e = neither_of r

  with_agrees : Agrees s left (Reader.value_with ar ob) (Placing.read_with s ar_at ob_at)
  unfolding Reader.value_with Placing.read_with Spans.plain
  with_agrees n at t e h = subst (λ (x : Bytes). Both n at (Reader.value_with ar ob n x) (Placing.read_with s ar_at ob_at n at)) (sym e) (go (drop at s) (get_or s at 0) refl refl (at_view s at))
    where
      go : (x : Bytes) (d : ℕ) → drop at s ≡ x → get_or s at 0 ≡ d → AtView s at x d → Both n at (Reader.value_with ar ob n x) (Placing.read_with s ar_at ob_at n at)
      go x d i j (outside l) = rw (ap Reader.start j, Placing.read_with) (neither_of not_json)
      go x d i j (inside {c} l q) = by (Reader.start c) refl
        where
          k : Reader.start (get_or s at 0) ≡ Reader.start c
          k = ap Reader.start j

          by : (y : Reader.Start) → Reader.start c ≡ y → Both n at (Reader.value_with ar ob n (c ∷ drop (at + 1) s)) (Placing.read_with s ar_at ob_at n at)
          by Reader.start_null p =
              rw (k, Placing.read_with, p, Reader.value_with)
              (counted n at _ _ λ m b. word_leaf (ascii "null") null Plain.is_null n m at (c ∷ drop (at + 1) s) (omega arith) (sym i) l b
              (λ z. refl) (λ z f. f))
          by Reader.start_true p =
              rw (k, Placing.read_with, p, Reader.value_with)
              (counted n at _ _ λ m b. word_leaf (ascii "true") (bool true) Plain.is_true n m at (c ∷ drop (at + 1) s) (omega arith)
              (sym i) l b (λ z. refl) (λ z f. f))
          by Reader.start_false p =
              rw (k, Placing.read_with, p, Reader.value_with)
              (counted n at _ _ λ m b. word_leaf (ascii "false") (bool false) Plain.is_false n m at (c ∷ drop (at + 1) s) (omega arith)
              (sym i) l b (λ z. refl) (λ z f. f))
          by Reader.start_text p = rw (k, Placing.read_with, p, Reader.value_with) (counted n at _ _ λ m b.
              rel_bind (chars_agrees s (at + 1) (drop (at + 1) s) refl (omega arith)) λ z o f.
              both {a = record { tree = text z.got; rest = skip z.rest; count = m }}
              {b = record { tree = leaf Plain.is_text (at + 1) (o - 1); place = o; count = m }}
              (leaf_agrees Plain.is_text n m at (at + 1) (o - 1) (text z.got) z.rest o b
              (record { rest = f.behind.rest; past = omega (arith, f.behind.past); upto = f.behind.upto })
              (ap text f.decoded) f.fits))
          by Reader.start_number p = rw (k, Placing.read_with, p, Reader.value_with) (counted n at _ _ λ m b.
              rel_bind (digits_agrees s at c i l q) λ z o f.
              both {a = record { tree = number (c ∷ z.got); rest = skip z.rest; count = m }}
              {b = record { tree = leaf Plain.is_number at o; place = o; count = m }}
              (leaf_agrees Plain.is_number n m at at o (number (c ∷ z.got)) z.rest o b f.behind (ap number f.decoded)
              f.fits))
          by Reader.start_array p = rw (k, Placing.read_with, p, Reader.value_with) (arrays n at l)
          by Reader.start_object p = rw (k, Placing.read_with, p, Reader.value_with) (objects n at l)
          by Reader.start_nothing p = rw (k, Placing.read_with, p, Reader.value_with) (neither_of not_json)

pub read_agrees : (left : ℕ) (s : Bytes) → Agrees s left (Reader.value left) (Placing.read_at left s)
unfolding Reader.value Placing.read_at
read_agrees zero s = with_agrees s 0 Reader.no_bracket Reader.no_bracket Placing.none_at Placing.none_at (λ n at h. neither_of too_deep) (λ n at h. neither_of too_deep)
read_agrees (suc left) s =
    with_agrees s (suc left) (Reader.array_rest (Reader.value left)) (Reader.object_rest (Reader.value left))
    (Placing.arr_at s (Placing.read_at left s)) (Placing.obj_at s (Placing.read_at left s))
    (array_agrees s left (Reader.value left) (Placing.read_at left s) (read_agrees left s))
    (object_agrees s left (Reader.value left) (Placing.read_at left s) (read_agrees left s))

-- the sheet as a whole: its tree with places, read where `json` reads the tree without
pub record SheetAgrees (s : Bytes) (v : Value) (t : Node) : Type 0 where
  pub tree : v ≡ erase s t
  pub fits : Fits s t
  pub most : size t ≤ Limits.max_nodes
  pub shallow : deep t ≤ Limits.max_depth
  pub bytes : length s ≤ Limits.max_bytes

pub json_agrees : (s : Bytes) → Rel Value Node (SheetAgrees s) (Reader.json s) (Placing.spanned s)
unfolding Reader.json Placing.spanned
json_agrees s = long (leb (length s) Limits.max_bytes) refl
  where
    Goal : Type 0
    Goal = Rel Value Node (SheetAgrees s) (Reader.json s) (Placing.spanned s)

    b : Behind s 0 (skip s) (skip_at s 0)
    b = skip_at_lem s 0 s refl (omega arith)

    end : length s ≤ Limits.max_bytes → (p : Parsed Value) (q : Placed Node) → ValueAgrees s Limits.max_depth 0 (skip_at s 0) p q →
        Rel Value Node (SheetAgrees s) (Reader.whole_text p) (Placing.whole_at s q)
    end l p q r = by (drop k s) (get_or s k 0) (r.rest ∙ c.rest) (at_view s k)
      where
        k : ℕ
        k = skip_at s q.place

        c : Behind s q.place (skip (drop q.place s)) k
        c = skip_at_lem s q.place (drop q.place s) refl r.upto

        by : (x : Bytes) (d : ℕ) → p.rest ≡ x → AtView s k x d → Rel Value Node (SheetAgrees s) (Reader.whole_text p) (Placing.whole_at s q)
        by x d e (outside h) =
            rw (e, Reader.whole_text, eq-eqb k (length s) (omega (arith, c.upto)), Placing.whole_at)
            (both (record { tree = r.tree; fits = r.fits; most = omega (arith, r.counted, r.most); shallow = r.shallow; bytes = l }))
        by x d e (inside h i) = rw (e, Reader.whole_text, ne_eqb k (length s) (λ z. omega arith), Placing.whole_at) (neither_of not_json)

    decoded : (x : Bool) → Utf8.utf8 Utf8.scalar s ≡ x → leb (length s) Limits.max_bytes ≡ true → Goal
    decoded true u l = rw (l, u, Reader.json, Placing.spanned) (rel_bind (read_agrees Limits.max_depth s 0 (skip_at s 0) (skip s) b.rest b.upto) (end (leb_le l)))
    decoded false u l = rw (l, u, Reader.json, Placing.spanned) (neither_of Refusal.not_utf8)

    long : (x : Bool) → leb (length s) Limits.max_bytes ≡ x → Goal
    long true l = decoded (Utf8.utf8 Utf8.scalar s) refl l
    long false l = rw (l, Reader.json, Placing.spanned) (neither_of Refusal.too_long)

-- `json` is `spanned` without the places: one equation for trees and refusals
unfoldable pub erased : Bytes → Result Node → Result Value
unfolding erase
erased s (ok t) = ok (erase s t)
erased s (refused r) = refused r

pub json_erased : (s : Bytes) → Reader.json s ≡ erased s (Placing.spanned s)
unfolding erased
json_erased s = go (Reader.json s) (Placing.spanned s) (json_agrees s)
  where
    go : (x : Result Value) (y : Result Node) → Rel Value Node (SheetAgrees s) x y → x ≡ erased s y
    go x y (both h) = ap {B = Result Value} (λ v. ok v) h.tree
    go x y (neither_of r) = refl

-- what is known of a node once it is read: places, counts, depth, and that it fits the sheet
pub read_facts : (left : ℕ) (s : Bytes) (n at : ℕ) (q : Placed Node) → at ≤ length s → Placing.read_at left s n at ≡ ok q → (p : Parsed Value) × ValueAgrees s left n at p q
read_facts left s n at q h e = go (Reader.value left n (drop at s)) (Placing.read_at left s n at) (read_agrees left s n at (drop at s) refl h) e
  where
    go : (x : Result (Parsed Value)) (y : Result (Placed Node)) → Rel (Parsed Value) (Placed Node) (ValueAgrees s left n at) x y → y ≡ ok q →
        (p : Parsed Value) × ValueAgrees s left n at p q
    go x y (both {a = p} {b = b} r) i = let z : b ≡ q = cc in (p, subst (λ (u : Placed Node). ValueAgrees s left n at p u) z r)
    go x y (neither_of r) i = let z : ◌≡◌ {A = ℕ} 0 1 = cc in absurd (omega arith)
