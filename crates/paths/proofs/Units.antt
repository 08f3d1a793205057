-- Units of a text, a `$` at its start, and the first dot of a path.
-- Assumes nothing.
use mathlib.Core.Bool.{Bool, false, true}
use mathlib.Core.List.{List, [], ◌++◌, ◌∷◌}
use Rattle.std.specs.Prelude.{Option, None, Some}
use mathlib.Core.Path.{ap, refl, subst, sym, ◌∙◌, ◌≡◌}
use Prim.Native.Nat.{suc, zero, ℕ, ◌+◌, ◌/◌, ◌<◌, ◌≤◌}
use native.Mathlib.Omega.{arith}
use lib.Dec.{eqb, leb}
use lib.ListN.{drop, get_or, length, length-drop}
use borrow.Author.Tests.{leb-false, leb-true, ne_eqb}
use Rattle.json_text.proofs.Cursor.{encode_1, encode_2, encode_3, encode_4}
use Rattle.json_text.proofs.Laws.{ok_injective}
use Rattle.json_text.proofs.Texts.{TextView, ended, raw, text_view, written}
use Rattle.json_text.specs.Bytes.{Bytes}
use Rattle.json_text.specs.Cursor.{OnText, tails}
use Rattle.json_text.specs.Escapes as escapes
use Rattle.json_text.specs.Fits.{Text}
use Rattle.json_text.specs.Refusal.{Refusal, not_json, ok, refused}
use Rattle.json_text.specs.Scan.{Read}
use Rattle.json_text.specs.Spans.{text_at}
use Rattle.json_text.specs.Strings.{backslash, char, other, quote}
use Rattle.json_text.specs.Utf8.{encode}
use Rattle.semantics.specs.Expression.{parts, push}
use Rattle.semantics.specs.Operand.{after_dollar, escaped, expression, plain, read_text}
use Rattle.paths.specs.Path.{further, part}
use Rattle.paths.specs.Told.{Behind, High, RestTold, UnitIs, UnitTold, WrittenTold}
use Rattle.paths.specs.declared.written.Written as writtens
use Rattle.paths.specs.declared.written.Written.TheVariants as writing
use Rattle.strings.specs.declared.escape.Scalar.{Scalar}
use Rattle.strings.proofs.Leaves.{escape_was, escape_was_bad}
use Rattle.strings.specs.Answers.{EscapedTold}
use Rattle.paths.proofs.Stands.{impossible}

on_text_lem : (s : Bytes) (at e : ℕ) → Text s at e → OnText s at 0
on_text_lem s at e t = record { stop = e; text = t; few = omega arith }

high_tails : (n u : ℕ) → High (tails n u)
unfolding High
high_tails zero u = tt
high_tails (suc zero) u = (omega arith, tt)
high_tails (suc (suc zero)) u = (omega arith, (omega arith, tt))
high_tails (suc (suc (suc n))) u = (omega arith, (omega arith, (omega arith, tt)))

-- one unit, by what its first byte is
module _ (s : Bytes) (at : ℕ) (o : OnText s at 0) where
  pub unit_end : get_or s at 0 ≡ 34 → text_at s at ≡ []
  unit_end e = go (text_view s at o.stop o.text)
    where
      go : TextView s at o.stop → text_at s at ≡ []
      go (ended i j k) = k
      go (raw i j k t) = absurd (not_other (sym (ap char e) ∙ j))
        where
          not_other : quote ≡ other → ⊥
          not_other q = impossible (cc)
      go (written v b i j k t l) = absurd (omega arith)

  not_raw : get_or s at 0 ≡ 92 → char (get_or s at 0) ≡ other → ⊥
  not_raw e j = is_not (sym (ap char e) ∙ j)
    where
      is_not : backslash ≡ other → ⊥
      is_not q = impossible (cc)

  pub unit_raw : (get_or s at 0 ≡ 34 → ⊥) → (get_or s at 0 ≡ 92 → ⊥) → UnitIs s at (get_or s at 0) (at + 1)
  unfolding High
  unit_raw f g = go (text_view s at o.stop o.text)
    where
      go : TextView s at o.stop → UnitIs s at (get_or s at 0) (at + 1)
      go (ended i j k) = absurd (f j)
      go (raw i j k t) = record {
        first = get_or s at 0;
        others = [];
        bytes = k;
        low = λ h. (refl, refl);
        high = λ h. (h, tt);
        on_text = on_text_lem s (at + 1) o.stop t;
        past = omega arith;
        upto = omega (arith, t.order, t.upto);
      }
      go (written v b i j k t l) = absurd (g i)

  pub unit_bad : {A : Type 0} (r : Refusal) → get_or s at 0 ≡ 92 → escapes.escaped (drop (at + 1) s) ≡ refused r → A
  unit_bad {A} r e q = go (text_view s at o.stop o.text)
    where
      go : TextView s at o.stop → A
      go (ended i j k) = absurd (omega arith)
      go (raw i j k t) = absurd (not_raw e j)
      go (written v b i j k t l) = absurd (impossible (cc))

  spelled : (v p : ℕ) → text_at s at ≡ encode v ++ text_at s p → Text s p o.stop → at + 2 ≤ p → UnitIs s at v p
  unfolding High
  spelled v p k t l = go (leb 128 v) refl
    where
      many : (n b : ℕ) → 128 ≤ v → 128 ≤ b → encode v ≡ b ∷ tails n v → UnitIs s at v p
      many n b g h e = record {
        first = b;
        others = tails n v;
        bytes = k ∙ ap (λ (x : Bytes). x ++ text_at s p) e;
        low = λ h'. absurd (omega arith);
        high = λ h'. (h, high_tails n v);
        on_text = on_text_lem s p o.stop t;
        past = omega arith;
        upto = omega (arith, t.order, t.upto);
      }

      wide : 128 ≤ v → (x y : Bool) → leb 2048 v ≡ x → leb 65536 v ≡ y → UnitIs s at v p
      wide g false y q r = many 1 (192 + v / 64) g (omega arith) (encode_2 v g (leb-false 2048 v q))
      wide g true false q r = many 2 (224 + v / 4096) g (omega arith) (encode_3 v (leb-true 2048 v q) (leb-false 65536 v r))
      wide g true true q r = many 3 (240 + v / 262144) g (omega arith) (encode_4 v (leb-true 65536 v r))

      go : (x : Bool) → leb 128 v ≡ x → UnitIs s at v p
      go true q = wide (leb-true 128 v q) (leb 2048 v) (leb 65536 v) refl refl
      go false q = let h = leb-false 128 v q in record {
        first = v;
        others = [];
        bytes = k ∙ ap (λ (x : Bytes). x ++ text_at s p) (encode_1 v h);
        low = λ h'. (refl, refl);
        high = λ h'. absurd (omega arith);
        on_text = on_text_lem s p o.stop t;
        past = omega arith;
        upto = omega (arith, t.order, t.upto);
      }

  pub unit_escape : (v p : ℕ) → get_or s at 0 ≡ 92 → escapes.escaped (drop (at + 1) s) ≡ ok (record { got = v; rest = drop p s }) → p ≤ length s → UnitIs s at v p
  unit_escape v p e q h = go (text_view s at o.stop o.text)
    where
      go : TextView s at o.stop → UnitIs s at v p
      go (ended i j k) = absurd (omega arith)
      go (raw i j k t) = absurd (not_raw e j)
      go (written v' p' i j k t l) =
          let r = ok_injective (sym j ∙ q) in
          let x : v' ≡ v = ap (λ (y : Read ℕ). y.got) r in
          let y : p' ≡ p = omega (arith, ap length (ap (λ (y : Read ℕ). y.rest) r), length-drop p s, length-drop p' s, t.order, t.upto) in
          spelled v p (cc (k, x, y)) (subst (λ (z : ℕ). Text s z o.stop) y t) (omega arith)

  pub unit_escaped : get_or s at 0 ≡ 92 → {r : Option Scalar} → EscapedTold s (at + 1) (escapes.escaped (drop (at + 1) s)) r → UnitTold s at r
  unfolding UnitTold
  unit_escaped q {r} h = go r refl
    where
      go : (x : Option Scalar) → r ≡ x → UnitTold s at x
      go None e = unit_bad not_json q (escape_was_bad h e)
      go (Some x) e = let w = escape_was x h e in unit_escape x.unit x.next q w.0 w.3

-- a `$` at the start
module _ {s : Bytes} {at u next : ℕ} (x : UnitIs s at u next) where
  first_is : (c : ℕ) → c < 128 → (x.first ≡ c) → u ≡ c
  first_is c h e = go (leb 128 u) refl
    where
      go : (b : Bool) → leb 128 u ≡ b → u ≡ c
      go true q = absurd (omega (arith, (x.high (leb-true 128 u q)).0))
      go false q = sym (x.low (leb-false 128 u q)).0 ∙ e

  one_byte : (c : ℕ) → c < 128 → u ≡ c → text_at s at ≡ c ∷ text_at s next
  one_byte c h e = let l = x.low (omega arith) in x.bytes ∙ cc (l.0, ap (λ (b : Bytes). b ++ text_at s next) l.1)

  pub not_dollar : (u ≡ 36 → ⊥) → read_text (text_at s at) ≡ plain
  not_dollar f = rw (x.bytes, ne_eqb x.first 36 (λ e. f (first_is 36 (omega arith) e)), read_text)

  pub behind_dollar : u ≡ 36 → Behind s at next
  behind_dollar e = record { dollar = one_byte 36 (omega arith) e; on_text = x.on_text; upto = x.upto }

module _ {s : Bytes} {at next : ℕ} (b : Behind s at next) where
  pub alone : text_at s next ≡ [] → read_text (text_at s at) ≡ expression (text_at s next)
  alone e = rw (b.dollar, e)

  pub twice : {u q : ℕ} → UnitIs s next u q → u ≡ 36 → read_text (text_at s at) ≡ escaped (text_at s next)
  twice x e = rw (b.dollar, one_byte x 36 (omega arith) e)

  pub once : {u q : ℕ} → UnitIs s next u q → (u ≡ 36 → ⊥) → read_text (text_at s at) ≡ expression (text_at s next)
  once x f = rw (b.dollar, x.bytes, ne_eqb x.first 36 (λ e. f (first_is x 36 (omega arith) e)), after_dollar)

-- the first dot
high_further : (hs t : Bytes) → High hs → further (hs ++ t) ≡ further t
unfolding High further
high_further [] t h = refl
high_further (c ∷ hs) t h = let n : (c ≡ 46 → ⊥) = (λ e. omega (arith, h.0)) in rw (ne_eqb c 46 n, further) (high_further hs t h.1)

module _ {s : Bytes} {at u next : ℕ} (x : UnitIs s at u next) where
  pub dot_here : u ≡ 46 → further (text_at s at) ≡ Some (text_at s next)
  unfolding further
  dot_here e = rw (one_byte x 46 (omega arith) e)

  pub dot_further : (u ≡ 46 → ⊥) → further (text_at s at) ≡ further (text_at s next)
  unfolding further
  dot_further f = rw (x.bytes, ne_eqb x.first 46 (λ e. f (first_is x 46 (omega arith) e)), further) (rest (leb 128 u) refl)
    where
      rest : (b : Bool) → leb 128 u ≡ b → further (x.others ++ text_at s next) ≡ further (text_at s next)
      rest true q = high_further x.others (text_at s next) (x.high (leb-true 128 u q)).1
      rest false q = rw (x.low (leb-false 128 u q)).1

-- a path's parts, by its first dot
abbrev pub parts_after : Option Bytes → List Bytes
parts_after None = []
parts_after (Some r) = parts r

pub parts_by : (e : Bytes) → parts e ≡ part e ∷ parts_after (further e)
unfolding parts part further
parts_by [] = refl
parts_by (c ∷ s) = go (eqb c 46) refl (parts_by s)
  where
    go : (b : Bool) → eqb c 46 ≡ b → parts s ≡ part s ∷ parts_after (further s) → parts (c ∷ s) ≡ part (c ∷ s) ∷ parts_after (further (c ∷ s))
    go true q below = rw (q, parts, part, further)
    go false q below = rw (q, parts, part, further) (ap (push c) below)

-- what an answer of the code said
pub unit_was : {s : Bytes} {at : ℕ} {r : Option Scalar} (x : Scalar) → UnitTold s at r → r ≡ Some x → UnitIs s at x.unit x.next
unfolding UnitTold
unit_was {s} {at} x h e = subst (UnitTold s at) e h

pub unit_ended : (s : Bytes) (at : ℕ) {r : Option Scalar} → UnitTold s at r → r ≡ None → text_at s at ≡ []
unfolding UnitTold
unit_ended s at h e = subst (UnitTold s at) e h

pub rest_was : {path : Bytes} {r : Option ℕ} (p : ℕ) → RestTold path r → r ≡ Some p →
    (further (text_at path 0) ≡ Some (text_at path p)) × OnText path p 0 × (0 < p) × (p ≤ length path)
unfolding RestTold
rest_was {path} p h e = subst (RestTold path) e h

pub rest_none : (path : Bytes) {r : Option ℕ} → RestTold path r → r ≡ None → further (text_at path 0) ≡ None
unfolding RestTold
rest_none path h e = subst (RestTold path) e h

-- no dot up to the end
pub rest_stops : (path : Bytes) (at : ℕ) → further (text_at path 0) ≡ further (text_at path at) → text_at path at ≡ [] → RestTold path None
unfolding RestTold further
rest_stops path at q e = q ∙ rw e

-- of a text that starts at a
module _ (s : Bytes) {a b : ℕ} {r : writtens.Written} (h : WrittenTold s a r) (q : a ≡ b) where
  pub was_plain : r ≡ writing.Plain → read_text (text_at s b) ≡ plain
  unfolding WrittenTold
  was_plain e = rw (sym q) (subst (WrittenTold s a) e h)

  pub was_escaped : (p : ℕ) → r ≡ writing.Escaped p → (read_text (text_at s b) ≡ escaped (text_at s p)) × Behind s b p
  unfolding WrittenTold
  was_escaped p e = rw (sym q) (subst (WrittenTold s a) e h)

  pub was_expression : (p : ℕ) → r ≡ writing.Expression p → (read_text (text_at s b) ≡ expression (text_at s p)) × Behind s b p
  unfolding WrittenTold
  was_expression p e = rw (sym q) (subst (WrittenTold s a) e h)
