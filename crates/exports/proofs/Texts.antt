-- The texts of a tree, and what they come to in quotes: at most three bytes for each that spells the tree.
-- Assumes nothing.
use mathlib.Core.Bool.{Bool, false, true}
use mathlib.Core.List.{List, [], ◌++◌, ◌∷◌}
use mathlib.Core.Path.{ap, refl, ◌≡◌}
use Prim.Native.Nat.{Ordering, ℕ, ◌%◌, ◌*◌, ◌+◌, ◌/◌, ◌-◌, ◌≤◌}
use native.Mathlib.Omega.{arith}
use borrow.Author.Tests.{leb-true, ltb-true}
use lib.Dec.{eqb, leb, ltb}
use lib.ListN.{length, length-append}
use Rattle.answers.specs.Line.{hex_of, quoted_byte, quoted_bytes, quoted}
use Rattle.json_text.proofs.Complete.{read_exactly}
use Rattle.json_text.proofs.Laws.{both_true, eqb_true}
use Rattle.json_text.specs.Bytes.{Bytes, ascii, choose, order_bytes}
use Rattle.json_text.specs.Grammar.{Chars, Elements, Escape, Hex, MembersOf, MoreElements, MoreMembers, Spells, String, Structural, Ws, is_unescaped}
use Rattle.json_text.specs.Json.{Members, Value, Values, array, bool, cons, empty, member, nil, null, number, object, text}
use Rattle.json_text.specs.Reader.{json}
use Rattle.json_text.specs.Refusal.{ok}
use Rattle.json_text.specs.Sorted.{insert, sorted, sorted_in, sorted_of}
use Rattle.json_text.specs.Utf8.{encode}

-- the texts that are values, not names, in order
unfoldable mutual
  pub texts : Value → List Bytes
  texts null = []
  texts (bool b) = []
  texts (number s) = []
  texts (text s) = s ∷ []
  texts (array vs) = texts_in vs
  texts (object ms) = texts_of ms

  pub texts_in : Values → List Bytes
  texts_in nil = []
  texts_in (cons v vs) = texts v ++ texts_in vs

  pub texts_of : Members → List Bytes
  texts_of empty = []
  texts_of (member k v ms) = texts v ++ texts_of ms

-- their bytes in quotes, each with a space
unfoldable pub weight : List Bytes → ℕ
unfolding quoted_bytes
weight [] = 0
weight (t ∷ ts) = length (quoted t) + 1 + weight ts

pub weight_append : (ts us : List Bytes) → weight (ts ++ us) ≡ weight ts + weight us
unfolding weight
weight_append [] us = omega arith
weight_append (t ∷ ts) us = omega (arith, weight_append ts us)

-- a text in quotes
byte_short : (c : ℕ) → length (quoted_byte c) ≤ 6
byte_short c = go (eqb c 34) (eqb c 92) (ltb c 32)
  where
    go : (q b l : Bool) → length (choose ((q, 92 ∷ 34 ∷ []) ∷ (b, 92 ∷ 92 ∷ []) ∷ (l, ascii "\\u00" ++ (hex_of (c / 16) ∷ hex_of (c % 16) ∷ [])) ∷ []) (c ∷ [])) ≤ 6
    go true b l = omega arith
    go false true l = omega arith
    go false false true = omega arith
    go false false false = omega arith

-- a byte that is written as it stands
unescaped_short : (c : ℕ) → is_unescaped c ≡ true → length (quoted_byte c) ≤ 3
unescaped_short c h = go (eqb c 34) (eqb c 92) (ltb c 32) refl
  where
    go : (q b l : Bool) → ltb c 32 ≡ l →
        length (choose ((q, 92 ∷ 34 ∷ []) ∷ (b, 92 ∷ 92 ∷ []) ∷ (l, ascii "\\u00" ++ (hex_of (c / 16) ∷ hex_of (c % 16) ∷ [])) ∷ []) (c ∷ []))
        ≤ 3
    go true b l e = omega arith
    go false true l e = omega arith
    go false false true e = omega (arith, ltb-true c 32 e, leb-true 32 c (both_true (leb 32 c) _ h).0)
    go false false false e = omega arith

high_short : (c : ℕ) → 128 ≤ c → length (quoted_byte c) ≤ 1
high_short c h = go (eqb c 34) (eqb c 92) (ltb c 32) refl refl refl
  where
    go : (q b l : Bool) → eqb c 34 ≡ q → eqb c 92 ≡ b → ltb c 32 ≡ l →
        length (choose ((q, 92 ∷ 34 ∷ []) ∷ (b, 92 ∷ 92 ∷ []) ∷ (l, ascii "\\u00" ++ (hex_of (c / 16) ∷ hex_of (c % 16) ∷ [])) ∷ []) (c ∷ []))
        ≤ 1
    go true b l e f g = omega (arith, eqb_true c 34 e)
    go false true l e f g = omega (arith, eqb_true c 92 f)
    go false false true e f g = omega (arith, ltb-true c 32 g)
    go false false false e f g = omega arith

-- what a `\u` escape stands for
encode_short : (u : ℕ) (z : Bytes) → length (quoted_bytes (encode u ++ z)) ≤ 6 + length (quoted_bytes z)
unfolding encode quoted_bytes
encode_short u z = go (ltb u 128) (ltb u 2048) (ltb u 65536)
  where
    go : (a b c : Bool) →
        length
        (quoted_bytes
        (choose
        ((a, u ∷ []) ∷ (b, (192 + u / 64) ∷ (128 + u % 64) ∷ []) ∷
        (c, (224 + u / 4096) ∷ (128 + u / 64 % 64) ∷ (128 + u % 64) ∷ []) ∷ [])
        ((240 + u / 262144) ∷ (128 + u / 4096 % 64) ∷ (128 + u / 64 % 64) ∷ (128 + u % 64) ∷ []) ++ z)) ≤ 6 + length (quoted_bytes z)
    go true b c = simp length-append (omega (arith, byte_short u))
    go false true c = simp length-append (omega (arith, high_short (192 + u / 64) (omega arith), high_short (128 + u % 64) (omega arith)))
    go false false true = simp length-append (omega (arith, high_short (224 + u / 4096) (omega arith), high_short (128 + u / 64 % 64) (omega arith), high_short (128 + u % 64) (omega arith)))
    go false false false =
        simp length-append
        (omega (
          arith,
          high_short (240 + u / 262144) (omega arith),
          high_short (128 + u / 4096 % 64) (omega arith),
          high_short
              (128 + u / 64 % 64) (omega arith),
          high_short (128 + u % 64) (omega arith),
        ))

-- lengths of what the rules pass over
ws_length : {s r : Bytes} → Ws s r → length r ≤ length s
ws_length Ws.no_space = omega arith
ws_length (Ws.space e w) = omega (arith, ws_length w)

structural_length : {c : ℕ} {s r : Bytes} → Structural c s r → length r + 1 ≤ length s
structural_length (Structural.structural a b) = omega (arith, ws_length a, ws_length b)

hex_length : {n u v : ℕ} {s r : Bytes} → Hex n u v s r → length s ≡ n + length r
hex_length Hex.no_hex = omega arith
hex_length (Hex.one_hex e h) = omega (arith, hex_length h)

-- a text takes at most three bytes in quotes for each that spells it
escape_short : {y s t : Bytes} → Escape y s t → (z : Bytes) → length (quoted_bytes (y ++ z)) + 3 * length t ≤ length (quoted_bytes z) + 3 * length s + 3
unfolding quoted_bytes
escape_short (Escape.simple {d = d} e) z = simp length-append (omega (arith, byte_short d))
escape_short (Escape.unit {u = u} e h b q) z = rw q (omega (arith, encode_short u z, hex_length h))
escape_short (Escape.pair {high = high} {low = low} {t = t} {u = u} e h b q g c p) z =
    rw p (omega (arith, encode_short (65536 + (high - 55296) * 1024 + (low - 56320)) z, hex_length h, hex_length g, ap length q))

chars_short : {x s r : Bytes} → Chars x s r → length (quoted_bytes x) + 3 * length r ≤ 3 * length s
unfolding quoted_bytes
chars_short (Chars.close e) = omega arith
chars_short (Chars.unescaped {c = c} e h) = simp length-append (omega (arith, unescaped_short c e, chars_short h))
chars_short (Chars.escape {z = z} e y h q) = rw q (omega (arith, escape_short y z, chars_short h))

string_short : {x s r : Bytes} → String x s r → length (quoted x) + 1 + 3 * length r ≤ 3 * length s
string_short (String.string e h) = omega (arith, chars_short h)

-- and so do the texts of a tree together
mutual
  unfolding texts weight

  pub spelled_short : {v : Value} {s r : Bytes} → Spells v s r → weight (texts v) + 3 * length r ≤ 3 * length s
  spelled_short (Spells.is_null {r = r} e) = omega (arith, ap length e, length-append (ascii "null") r)
  spelled_short (Spells.is_true {r = r} e) = omega (arith, ap length e, length-append (ascii "true") r)
  spelled_short (Spells.is_false {r = r} e) = omega (arith, ap length e, length-append (ascii "false") r)
  spelled_short (Spells.is_number {x = x} {r = r} n e) = omega (arith, ap length e, length-append x r)
  spelled_short (Spells.is_text h) = omega (arith, string_short h)
  spelled_short (Spells.is_array a h b) = omega (arith, structural_length a, structural_length b, elements_short h)
  spelled_short (Spells.is_object a h b) = omega (arith, structural_length a, structural_length b, members_short h)

  elements_short : {vs : Values} {s r : Bytes} → Elements vs s r → weight (texts_in vs) + 3 * length r ≤ 3 * length s
  elements_short Elements.no_element = omega arith
  elements_short (Elements.elements {v = v} {vs = vs} h k) = omega (arith, weight_append (texts v) (texts_in vs), spelled_short h, more_elements_short k)

  more_elements_short : {vs : Values} {s r : Bytes} → MoreElements vs s r → weight (texts_in vs) + 3 * length r ≤ 3 * length s
  more_elements_short MoreElements.last_element = omega arith
  more_elements_short (MoreElements.next_element {v = v} {vs = vs} a h k) = omega (arith, weight_append (texts v) (texts_in vs), structural_length a, spelled_short h, more_elements_short k)

  members_short : {ms : Members} {s r : Bytes} → MembersOf ms s r → weight (texts_of ms) + 3 * length r ≤ 3 * length s
  members_short MembersOf.no_member = omega arith
  members_short (MembersOf.members {v = v} {ms = ms} n a h k) =
      omega (arith, weight_append (texts v) (texts_of ms), string_short n, structural_length a, spelled_short h, more_members_short k)

  more_members_short : {ms : Members} {s r : Bytes} → MoreMembers ms s r → weight (texts_of ms) + 3 * length r ≤ 3 * length s
  more_members_short MoreMembers.last_member = omega arith
  more_members_short (MoreMembers.next_member {v = v} {ms = ms} a n b h k) =
      omega (
        arith,
        weight_append (texts v) (texts_of ms),
        structural_length a,
        string_short n,
        structural_length b,
        spelled_short h,
        more_members_short k,
      )

-- sorting adds no text
insert_light : (k : Bytes) (v : Value) (ms : Members) → weight (texts_of (insert k v ms)) ≤ weight (texts v) + weight (texts_of ms)
unfolding texts weight order_bytes
insert_light k v empty = omega (arith, weight_append (texts v) [])
insert_light k v (member l w ms) = go (insert_light k v ms) (order_bytes k l) refl
  where
    go : weight (texts_of (insert k v ms)) ≤ weight (texts v) + weight (texts_of ms) → (o : Ordering) → order_bytes k l ≡ o →
        weight (texts_of (insert k v (member l w ms))) ≤ weight (texts v) + weight (texts_of (member l w ms))
    go rest Ordering.lt q = rw (q, insert) (omega (arith, weight_append (texts v) (texts_of (member l w ms))))
    go rest Ordering.eq q = rw (q, insert) (omega arith)
    go rest Ordering.gt q = rw (q, insert) (omega (arith, weight_append (texts w) (texts_of (insert k v ms)), weight_append (texts w) (texts_of ms)))

mutual
  unfolding texts weight sorted

  pub sorted_light : (v : Value) → weight (texts (sorted v)) ≤ weight (texts v)
  sorted_light null = omega arith
  sorted_light (bool b) = omega arith
  sorted_light (number s) = omega arith
  sorted_light (text s) = omega arith
  sorted_light (array vs) = sorted_in_light vs
  sorted_light (object ms) = sorted_of_light ms

  sorted_in_light : (vs : Values) → weight (texts_in (sorted_in vs)) ≤ weight (texts_in vs)
  sorted_in_light nil = omega arith
  sorted_in_light (cons v vs) = omega (arith, weight_append (texts (sorted v)) (texts_in (sorted_in vs)), weight_append (texts v) (texts_in vs), sorted_light v, sorted_in_light vs)

  sorted_of_light : (ms : Members) → weight (texts_of (sorted_of ms)) ≤ weight (texts_of ms)
  sorted_of_light empty = omega arith
  sorted_of_light (member k v ms) = omega (arith, insert_light k (sorted v) (sorted_of ms), weight_append (texts v) (texts_of ms), sorted_light v, sorted_of_light ms)

-- the texts of a sheet that is read
pub read_light : (s : Bytes) (v : Value) → json s ≡ ok v → weight (texts (sorted v)) ≤ 98304
read_light s v e =
    let w = (read_exactly s v).0 e in
    omega (arith, sorted_light v, spelled_short w.is_json.spelled, ws_length w.is_json.before, w.bytes)
