-- How long quotes, forms, lists and decoded texts can be, for a sheet of at most 32,768 bytes. The bounds are wide of the mark.
-- Assumes nothing.
use mathlib.Core.Bool.{Bool, false, true}
use mathlib.Core.List.{List, [], ◌++◌, ◌∷◌}
use Rattle.std.specs.Prelude.{Option, None, Some}
use Prim.Native.Nat.{Ordering, suc, zero, ℕ, ◌%◌, ◌*◌, ◌+◌, ◌/◌, ◌-◌, ◌≤◌}
use native.Mathlib.Omega.{arith}
use lib.Dec.{eqb, ltb}
use lib.ListN.{drop, length, length-append, length-drop}
use Rattle.answers.specs.Line.{hex_of, decimal_digits, digits_of, each_quoted, form, listed, names, number_line, quoted_byte, quoted_bytes, spaced}
use Rattle.semantics.specs.Names.{Names, ascending, insert_name}
use Rattle.json_text.specs.Bytes.{Bytes, ascii, between, choose, order_bytes}
use Rattle.json_text.specs.Marks.{is_marked, marked, marked_from}
use Rattle.json_text.specs.Refusal.{Result, not_json, ok, refused, ◌>>=◌}
use Rattle.json_text.specs.Scan.{Read, word}
use Rattle.json_text.specs.Spans.{Node, Nodes, arr, erase, erase_in, got_of, is_false, is_null, is_number, is_text, is_true, leaf, no_node, node, obj, plain, size, size_in, text_at}
use Rattle.json_text.specs.Strings.{
  Char,
  Unit16,
  backslash,
  char,
  chars,
  control,
  escape,
  hex,
  high_half,
  high_unit,
  low_half,
  low_unit,
  of_unit,
  other,
  plain_unit,
  quote,
  simple_escape,
  unicode,
  unit16,
}
use Rattle.json_text.specs.Table.{start_at, value_at}
use Rattle.json_text.specs.Utf8.{encode}
use Rattle.writer.proofs.Once.{all_marked}
use Rattle.writer.specs.Texts.{TextsHeld, or_none, texts_in}
use Rattle.json_text.proofs.Decoded.{size_pos}
use Rattle.json_text.proofs.Walk.{value_is}
use Rattle.json_text.specs.Json.{elements}
use Rattle.json_text.specs.Limits.{max_nodes}
use Rattle.members.specs.Kinds.{a_text, each_of, some_texts}

-- a text in quotes
byte_short : (c : ℕ) → length (quoted_byte c) ≤ 6
byte_short c = go (eqb c 34) (eqb c 92) (ltb c 32)
  where
    go : (q b l : Bool) → length (choose ((q, 92 ∷ 34 ∷ []) ∷ (b, 92 ∷ 92 ∷ []) ∷ (l, ascii "\\u00" ++ (hex_of (c / 16) ∷ hex_of (c % 16) ∷ [])) ∷ []) (c ∷ [])) ≤ 6
    go true b l = omega arith
    go false true l = omega arith
    go false false true = omega arith
    go false false false = omega arith

pub quoted_short : (t : Bytes) → length (quoted_bytes t) ≤ 6 * length t + 1
unfolding quoted_bytes
quoted_short [] = omega arith
quoted_short (c ∷ t) = simp length-append (omega (arith, byte_short c, quoted_short t))

pub digits_short : (f n : ℕ) (s : Bytes) → length (digits_of f n s) ≤ f + length s
unfolding digits_of
digits_short zero n s = omega arith
digits_short (suc f) n s = go (ltb n 10) (digits_short f (n / 10) ((48 + n % 10) ∷ s))
  where
    go : (b : Bool) → length (digits_of f (n / 10) ((48 + n % 10) ∷ s)) ≤ f + length {A = ℕ} ((48 + n % 10) ∷ s) → length {A = ℕ}
        (elim b [ true ↦ (48 + n) ∷ s | false ↦ digits_of f (n / 10) ((48 + n % 10) ∷ s) ]) ≤ suc f + length s
    go true h = omega arith
    go false h = omega arith

-- words with a space after each
abbrev total : List Bytes → ℕ
total [] = 0
total (w ∷ ws) = length w + 1 + total ws

spaced_short : (ws : List Bytes) → length (spaced ws) ≤ total ws
unfolding spaced
spaced_short [] = omega arith
spaced_short (w ∷ []) = omega arith
spaced_short (w ∷ v ∷ ws) = simp length-append (omega (arith, spaced_short (v ∷ ws)))

pub form_short : (ws : List Bytes) → length (form ws) ≤ total ws + 2
form_short ws = simp length-append (omega (arith, spaced_short ws))

pub number_short : (n : ℕ) → length (number_line n) ≤ 32
number_short n =
    let ws : List Bytes = ascii "refused" ∷ decimal_digits n ∷ [] in
    omega (arith, length-append (form ws) (10 ∷ []), form_short ws, digits_short 20 n [])

abbrev weight : List Bytes → ℕ
weight [] = 0
weight (t ∷ ts) = 6 * length t + 3 + weight ts

each_short : (ts : List Bytes) → total (each_quoted ts) ≤ weight ts
unfolding each_quoted
each_short [] = omega arith
each_short (t ∷ ts) = omega (arith, quoted_short t, each_short ts)

-- names, each once
insert_short : (n : Bytes) (ms : Names) → weight (insert_name n ms) ≤ 6 * length n + 3 + weight ms
unfolding insert_name
insert_short n [] = omega arith
insert_short n (m ∷ ms) = go (order_bytes n m) (insert_short n ms)
  where
    go : (o : Ordering) → weight (insert_name n ms) ≤ 6 * length n + 3 + weight ms →
        weight (elim o [ Ordering.lt ↦ n ∷ m ∷ ms | Ordering.eq ↦ m ∷ ms | Ordering.gt ↦ m ∷ insert_name n ms ]) ≤ 6 * length n + 3 + weight
        (m ∷ ms)
    go Ordering.lt h = omega arith
    go Ordering.eq h = omega arith
    go Ordering.gt h = omega arith

ascending_short : (ns : Names) → weight (ascending ns) ≤ weight ns
unfolding ascending
ascending_short [] = omega arith
ascending_short (n ∷ ns) = omega (arith, insert_short n (ascending ns), ascending_short ns)

-- a decoded text: each unit stands for at most four bytes
abbrev Short : Result (Read Bytes) → ℕ → Type 0
Short (ok x) n = length x.got ≤ n
Short (refused r) n = Unit {0}

encode_short : (u : ℕ) → length (encode u) ≤ 4
unfolding encode
encode_short u = go (ltb u 128) (ltb u 2048) (ltb u 65536)
  where
    go : (a b c : Bool) →
        length
        (choose
        ((a, u ∷ []) ∷ (b, (192 + u / 64) ∷ (128 + u % 64) ∷ []) ∷ (c, (224 + u / 4096) ∷ (128 + u / 64 % 64) ∷ (128 + u % 64) ∷ []) ∷
        []) ((240 + u / 262144) ∷ (128 + u / 4096 % 64) ∷ (128 + u / 64 % 64) ∷ (128 + u % 64) ∷ [])) ≤ 4
    go true b c = omega arith
    go false true c = omega arith
    go false false true = omega arith
    go false false false = omega arith

then_short : {A : Type 0} (x : Result A) (f : A → Result (Read Bytes)) → ((a : A) → Short (f a) 4) → Short (x >>= f) 4
then_short (ok a) f h = h a
then_short (refused r) f h = tt

low_short : (high : ℕ) (low : Read ℕ) → Short (low_half high low) 4
unfolding low_half
low_short high low = go (between 56320 57343 low.got)
  where
    go : (b : Bool) → Short (elim b [ true ↦ ok (record { got = encode (65536 + (high - 55296) * 1024 + (low.got - 56320)); rest = low.rest }) | false ↦ refused not_json ]) 4
    go true = encode_short (65536 + (high - 55296) * 1024 + (low.got - 56320))
    go false = tt

unit_short : (u : Read ℕ) → Short (of_unit u) 4
unfolding of_unit high_half
unit_short u = go (unit16 u.got)
  where
    go : (k : Unit16) → Short (elim k [ plain_unit ↦ ok (record { got = encode u.got; rest = u.rest }) | high_unit ↦ high_half u.got u.rest | low_unit ↦ refused not_json ]) 4
    go plain_unit = encode_short u.got
    go high_unit =
        then_short (word (ascii "\\u") u.rest) (λ t. hex 4 0 t >>= (λ low. low_half u.got low))
        (λ t. then_short (hex 4 0 t) (λ low. low_half u.got low) (λ low. low_short u.got low))
    go low_unit = tt

escape_short : (s : Bytes) → Short (escape s) 4
unfolding escape unicode
escape_short [] = tt
escape_short (c ∷ s) = go (simple_escape c) (eqb c 117)
  where
    go : (d : Option ℕ) (b : Bool) → Short (elim d [ Some d ↦ ok (record { got = d ∷ []; rest = s }) | None ↦ elim b [ true ↦ unicode s | false ↦ refused not_json ] ]) 4
    go (Some d) b = omega arith
    go None true = then_short (hex 4 0 s) of_unit unit_short
    go None false = tt

chars_short : (n : ℕ) (s : Bytes) → Short (chars n s) (4 * n)
unfolding chars
chars_short zero s = tt
chars_short (suc n) [] = tt
chars_short (suc n) (c ∷ s) = go (char c) (λ t. chars_short n t)
  where
    more : (e : Read Bytes) → length e.got ≤ 4 → (x : Result (Read Bytes)) → Short x (4 * n) →
        Short (x >>= (λ r. ok (record { got = e.got ++ r.got; rest = r.rest }))) (4 * suc n)
    more e h (ok r) k = simp length-append (omega arith)
    more e h (refused r) k = tt

    escaped : (x : Result (Read Bytes)) → Short x 4 → ((t : Bytes) → Short (chars n t) (4 * n)) →
        Short (x >>= (λ e. chars n e.rest >>= (λ r. ok (record { got = e.got ++ r.got; rest = r.rest })))) (4 * suc n)
    escaped (ok e) h k = more e h (chars n e.rest) (k e.rest)
    escaped (refused r) h k = tt

    plainly : (x : Result (Read Bytes)) → Short x (4 * n) → Short (x >>= (λ r. ok (record { got = c ∷ r.got; rest = r.rest }))) (4 * suc n)
    plainly (ok r) k = omega arith
    plainly (refused r) k = tt

    go : (k : Char) → ((t : Bytes) → Short (chars n t) (4 * n)) → Short (elim k [
      | quote ↦ ok (record { got = []; rest = s })
      | backslash ↦ (do
        e ← escape s
        r ← chars n e.rest
        ok (record { got = e.got ++ r.got; rest = r.rest }))
      | control ↦ refused not_json
      | other ↦ (do
        r ← chars n s
        ok (record { got = c ∷ r.got; rest = r.rest }))
    ]) (4 * suc n)
    go quote k = omega arith
    go backslash k = escaped (escape s) (escape_short s) k
    go control k = tt
    go other k = plainly (chars n s) (k s)

got_short : (x : Result (Read Bytes)) (n : ℕ) → Short x n → length (got_of x) ≤ n
unfolding got_of
got_short (ok r) n h = h
got_short (refused r) n h = omega arith

pub text_short : (s : Bytes) (a : ℕ) → length s ≤ 32768 → length (text_at s a) ≤ 131072
unfolding text_at
text_short s a h = omega (arith, got_short (chars (length (drop a s)) (drop a s)) (4 * length (drop a s)) (chars_short (length (drop a s)) (drop a s)), length-drop a s)

marked_short : (s : Bytes) (w : List ℕ) → length s ≤ 32768 → (m k : ℕ) → weight (marked_from s w m k) ≤ 786435 * m
unfolding marked_from
marked_short s w h zero k = omega arith
marked_short s w h (suc m) k = go (is_marked w k) (text_short s (start_at w k) h) (marked_short s w h m (k + 1))
  where
    go : (b : Bool) → length (text_at s (start_at w k)) ≤ 131072 → weight (marked_from s w m (k + 1)) ≤ 786435 * m →
        weight (elim b [ true ↦ text_at s (start_at w k) ∷ marked_from s w m (k + 1) | false ↦ marked_from s w m (k + 1) ]) ≤ 786435 * suc m
    go true p q = omega arith
    go false p q = omega arith

listed_short : (w : Bytes) (ts : List Bytes) → length w ≤ 5 → weight ts ≤ 3221237760 → length (listed w ts) ≤ 3221237800
listed_short w ts h k = omega (arith, form_short (w ∷ each_quoted ts), each_short ts)

pub names_short : (s : Bytes) (w : List ℕ) → length s ≤ 32768 → length (names (ascending (marked s w))) ≤ 3221237800
names_short s w h = listed_short (ascii "names") (ascending (marked s w)) (omega arith) (omega (arith, ascending_short (marked s w), rw all_marked at (marked_short s w h max_nodes 0)))

-- a move's sources: no more texts than nodes
abbrev TextShort : Result Bytes → Type 0
TextShort (ok t) = length t ≤ 131072
TextShort (refused r) = Unit {0}

abbrev Weighs : Result (List Bytes) → ℕ → Type 0
Weighs (ok ts) n = weight ts ≤ 786435 * n
Weighs (refused r) n = Unit {0}

module _ (s : Bytes) (h : length s ≤ 32768) where
  one_short : (t : Node) → TextShort (a_text (erase s t))
  unfolding erase plain
  one_short (leaf is_null a e) = tt
  one_short (leaf is_true a e) = tt
  one_short (leaf is_false a e) = tt
  one_short (leaf is_number a e) = tt
  one_short (leaf is_text a e) = text_short s a h
  one_short (arr a e ts) = tt
  one_short (obj a e fs) = tt

  each_weighs : (ts : Nodes) → Weighs (each_of a_text (elements (erase_in s ts))) (size_in ts)
  unfolding erase each_of size
  each_weighs no_node = omega arith
  each_weighs (node t ts) = go (a_text (erase s t)) (one_short t) (each_of a_text (elements (erase_in s ts))) (each_weighs ts)
    where
      go : (x : Result Bytes) → TextShort x → (y : Result (List Bytes)) → Weighs y (size_in ts) → Weighs (x >>= (λ a. y >>= (λ as'. ok (a ∷ as')))) (size t + size_in ts)
      go (ok x) p (ok xs) q = omega (arith, size_pos t)
      go (ok x) p (refused r) q = tt
      go (refused r) p y q = tt

  some_weighs : (t : Node) → Weighs (some_texts (erase s t)) (size t)
  unfolding erase plain each_of size
  some_weighs (leaf is_null a e) = tt
  some_weighs (leaf is_true a e) = tt
  some_weighs (leaf is_false a e) = tt
  some_weighs (leaf is_number a e) = tt
  some_weighs (leaf is_text a e) = omega (arith, text_short s a h)
  some_weighs (arr a e ts) = go (each_of a_text (elements (erase_in s ts))) (each_weighs ts)
    where
      go : (x : Result (List Bytes)) → Weighs x (size_in ts) → Weighs x (1 + size_in ts)
      go (ok xs) q = omega arith
      go (refused r) q = tt
  some_weighs (obj a e fs) = tt

or_none_short : (x : Result (List Bytes)) (n : ℕ) → Weighs x n → weight (or_none x) ≤ 786435 * n
or_none_short (ok ts) n q = q
or_none_short (refused r) n q = omega arith

pub sources_short : {s : Bytes} {w : List ℕ} {n : ℕ} → length s ≤ 32768 → TextsHeld s w n → length (listed (ascii "from") (texts_in (value_at s w n))) ≤ 3221237800
unfolding texts_in
sources_short {s} {w} {n} h k =
    let i = k.has_node.is_node in
    listed_short (ascii "from") (or_none (some_texts (value_at s w n))) (omega arith)
    (rw (value_is s w i.depth i.held)
    (omega (arith, or_none_short (some_texts (erase s i.tree)) (size i.tree) (some_weighs s h i.tree), i.most)))
