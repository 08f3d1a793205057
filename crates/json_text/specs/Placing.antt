-- Reading by place: `read_at` walks the sheet by index, as code does. `Agree` proves it to be `Reader.json`.
-- Assumes nothing.
use Rattle.std.specs.Prelude.{false, true, List, [], ◌∷◌, suc, zero, ℕ, ◌+◌, ◌-◌, eqb, leb, drop, get_or, length}
use Rattle.json_text.specs.Bytes.{Bytes, ascii, choose}
use Rattle.json_text.specs.Limits.{max_bytes, max_depth, max_number}
use Rattle.json_text.specs.Numerals.{digits, first}
use Rattle.json_text.specs.Reader.{new_name, one_node, start, start_array, start_false, start_nothing, start_null, start_number, start_object, start_text, start_true}
use Rattle.json_text.specs.Refusal.{Result, not_json, not_utf8, ok, refused, too_deep, too_long, ◌>>=◌}
use Rattle.json_text.specs.Scan.{skip, word}
use Rattle.json_text.specs.Spans.{Fields, Node, Nodes, Plain, arr, field, is_false, is_null, is_number, is_text, is_true, leaf, no_field, no_node, node, obj, text_at}
use Rattle.json_text.specs.Strings.{chars}
use Rattle.json_text.specs.Utf8.{scalar, utf8}

-- ---- reading by place
-- where a rest of the sheet begins
unfoldable pub place_of : Bytes → Bytes → ℕ
place_of s r = length s - length r

unfoldable pub skip_at : Bytes → ℕ → ℕ
unfolding place_of skip
skip_at s at = place_of s (skip (drop at s))

-- the place behind a word, behind the closing quote of a text, and behind a number
unfoldable pub word_at : Bytes → Bytes → ℕ → Result ℕ
unfolding place_of word
word_at w s at = do
  r ← word w (drop at s)
  ok (place_of s r)

unfoldable pub chars_at : Bytes → ℕ → Result ℕ
unfolding place_of chars
chars_at s at = do
  x ← chars (length (drop at s)) (drop at s)
  ok (place_of s x.rest)

unfoldable pub digits_at : Bytes → ℕ → Result ℕ
unfolding place_of digits
digits_at s at = do
  x ← digits (first (get_or s at 0)) (max_number - 1) (drop (at + 1) s)
  ok (place_of s x.rest)

-- the place behind one given byte; past the sheet's end stands 0, which is no byte of JSON
unfoldable pub byte_at : ℕ → Bytes → ℕ → Result ℕ
byte_at c s at = elim (eqb c (get_or s at 0)) [ true ↦ ok (at + 1) | false ↦ refused not_json ]

-- what is read, the place behind it, and how many nodes there are so far
pub record Placed (A : Type 0) : Type 0 where
  pub tree : A
  pub place : ℕ
  pub count : ℕ

-- how many nodes there are before, and the place
abbrev pub Placer : Type 0 → Type 0
Placer A = ℕ → ℕ → Result (Placed A)

-- a `,` goes on and a closing bracket ends
pub data Sep : Type 0 where
  goes_on ends neither : Sep

abbrev pub sep : ℕ → ℕ → Sep
sep close c = choose ((eqb c 44, goes_on) ∷ (eqb c close, ends) ∷ []) neither

unfoldable pub items_at : Bytes → Placer Node → ℕ → Placer Nodes
unfolding skip_at
items_at s val zero n at = refused not_json
items_at s val (suc f) n at = do
  v ← val n at
  elim
      (sep 93 (get_or s (skip_at s v.place) 0)) [
        | goes_on ↦
            (do
              vs ← items_at s val f v.count (skip_at s (skip_at s v.place + 1))
              ok (record { tree = node v.tree vs.tree; place = vs.place; count = vs.count }))
        | ends ↦
            ok (record { tree = node v.tree no_node; place = skip_at s v.place + 1; count = v.count })
        | neither ↦
            refused not_json
      ]

unfoldable pub fields_at : Bytes → Placer Node → ℕ → List Bytes → Placer Fields
unfolding skip_at byte_at one_node chars_at new_name text_at
fields_at s val zero names n at = refused not_json
fields_at s val (suc f) names n at = do
  a ← byte_at 34 s at
  m ← one_node n
  e ← chars_at s a
  _ ← new_name (text_at s a) names []
  u ← byte_at 58 s (skip_at s e)
  v ← val m (skip_at s u)
  elim
      (sep 125 (get_or s (skip_at s v.place) 0)) [
        | goes_on ↦
            (do
              fs ← fields_at s val f (text_at s a ∷ names) v.count (skip_at s (skip_at s v.place + 1))
              ok (record { tree = field a (e - 1) v.tree fs.tree; place = fs.place; count = fs.count }))
        | ends ↦
            ok (record { tree = field a (e - 1) v.tree no_field; place = skip_at s v.place + 1; count = v.count })
        | neither ↦
            refused not_json
      ]

-- an array from its opening bracket on, and an object
unfoldable pub arr_at : Bytes → Placer Node → Placer Node
unfolding skip_at one_node items_at
arr_at s val n at = do
  m ← one_node n
  elim
      (eqb (get_or s (skip_at s (at + 1)) 0) 93) [
        | true ↦
            ok (record { tree = arr at (skip_at s (at + 1) + 1) no_node; place = skip_at s (at + 1) + 1; count = m })
        | false ↦
            (do
              vs ← items_at s val (length (drop (at + 1) s)) m (skip_at s (at + 1))
              ok (record { tree = arr at vs.place vs.tree; place = vs.place; count = vs.count }))
      ]

unfoldable pub obj_at : Bytes → Placer Node → Placer Node
unfolding skip_at one_node fields_at
obj_at s val n at = do
  m ← one_node n
  elim
      (eqb (get_or s (skip_at s (at + 1)) 0) 125) [
        | true ↦
            ok (record { tree = obj at (skip_at s (at + 1) + 1) no_field; place = skip_at s (at + 1) + 1; count = m })
        | false ↦
            (do
              fs ← fields_at s val (length (drop (at + 1) s)) [] m (skip_at s (at + 1))
              ok (record { tree = obj at fs.place fs.tree; place = fs.place; count = fs.count }))
      ]

-- a leaf that starts at `a` and ends where its scan says
abbrev pub leaf_at : Plain → ℕ → ℕ → Result ℕ → Result (Placed Node)
leaf_at k m a scan = do
  e ← scan
  ok (record { tree = leaf k a e; place = e; count = m })

abbrev pub string_at : ℕ → ℕ → Result ℕ → Result (Placed Node)
string_at m a scan = do
  e ← scan
  ok (record { tree = leaf is_text a (e - 1); place = e; count = m })

unfoldable pub read_with : Bytes → Placer Node → Placer Node → Placer Node
unfolding word_at chars_at digits_at one_node
read_with s ar ob n at =
    elim
    (start (get_or s at 0)) [
      | start_null ↦
          (do
            m ← one_node n
            leaf_at is_null m at (word_at (ascii "null") s at))
      | start_true ↦
          (do
            m ← one_node n
            leaf_at is_true m at (word_at (ascii "true") s at))
      | start_false ↦
          (do
            m ← one_node n
            leaf_at is_false m at (word_at (ascii "false") s at))
      | start_text ↦
          (do
            m ← one_node n
            string_at m (at + 1) (chars_at s (at + 1)))
      | start_number ↦
          (do
            m ← one_node n
            leaf_at is_number m at (digits_at s at))
      | start_array ↦
          ar n at
      | start_object ↦
          ob n at
      | start_nothing ↦
          refused not_json
    ]

abbrev pub none_at : Placer Node
none_at n at = refused too_deep

-- the value at a place, with so many brackets left and n nodes before it
unfoldable pub read_at : ℕ → Bytes → Placer Node
unfolding read_with arr_at obj_at
read_at zero s n at = read_with s none_at none_at n at
read_at (suc left) s n at = read_with s (arr_at s (λ m a. read_at left s m a)) (obj_at s (λ m a. read_at left s m a)) n at

-- the sheet's whole tree, or the first refusal of 2 to 8
unfoldable pub whole_at : Bytes → Placed Node → Result Node
unfolding skip_at
whole_at s p = elim (eqb (skip_at s p.place) (length s)) [ true ↦ ok p.tree | false ↦ refused not_json ]

unfoldable pub spanned : Bytes → Result Node
unfolding utf8 read_at whole_at skip_at
spanned s =
    elim
    (leb (length s) max_bytes) [
      | false ↦
          refused too_long
      | true ↦
          elim (utf8 scalar s) [ false ↦ refused not_utf8 | true ↦ (read_at max_depth s 0 (skip_at s 0) >>= whole_at s) ]
    ]
