-- Reading a text: the tree, or the first refusal of 2 to 8. One definition for each rule of RFC 8259; `Grammar` has the rules themselves.
-- Assumes nothing.
use Rattle.std.specs.Prelude.{false, true, List, [], ◌∷◌, suc, zero, ℕ, ◌+◌, ◌-◌, eqb, leb, ltb, length}
use Rattle.std.specs.Prelude.{Option, None, Some}
use Rattle.json_text.specs.Bytes.{Bytes, ascii, between, choose, is_one_of}
use Rattle.json_text.specs.Json.{Members, Value, Values, array, bool, cons, empty, member, nil, null, number, object, text}
use Rattle.json_text.specs.Limits.{max_bytes, max_depth, max_nodes, max_number}
use Rattle.json_text.specs.Numerals.{digits, first}
use Rattle.json_text.specs.Refusal.{Result, not_json, not_utf8, ok, refused, repeated_name, too_deep, too_long, too_many_nodes, ◌>>=◌}
use Rattle.json_text.specs.Scan.{expect, skip, word}
use Rattle.json_text.specs.Strings.{chars}
use Rattle.json_text.specs.Utf8.{scalar, utf8}

-- how a value begins
pub data Start : Type 0 where
  start_null start_true start_false start_text start_number start_array start_object start_nothing : Start

abbrev pub start : ℕ → Start
start c =
    choose
    ((eqb c 34, start_text) ∷
    (eqb c 45, start_number) ∷
    (between 48 57 c, start_number) ∷
    (eqb c 91, start_array) ∷
    (eqb c 123, start_object) ∷
    (eqb c 110, start_null) ∷
    (eqb c 116, start_true) ∷
    (eqb c 102, start_false) ∷
    [])
    start_nothing

-- a node more, if there may be one
unfoldable pub one_node : ℕ → Result ℕ
one_node n = elim (ltb n max_nodes) [ true ↦ ok (n + 1) | false ↦ refused too_many_nodes ]

unfoldable pub new_name : Bytes → List Bytes → Bytes → Result Bytes
unfolding is_one_of
new_name k names s = elim (is_one_of k names) [ true ↦ refused repeated_name | false ↦ ok s ]

-- what is read, the rest with no space before it, and how many nodes there are so far
pub record Parsed (A : Type 0) : Type 0 where
  pub tree : A
  pub rest : Bytes
  pub count : ℕ

-- a `,` goes on and a closing bracket ends
pub data Next : Type 0 where
  more : Bytes → Next
  closed : Bytes → Next
  neither : Next

abbrev pub next : ℕ → Bytes → Next
next close [] = neither
next close (c ∷ s) = choose ((eqb c 44, more s) ∷ (eqb c close, closed s) ∷ []) neither

abbrev pub is_closed : ℕ → Bytes → Option Bytes
is_closed close [] = None
is_closed close (c ∷ s) = elim (eqb c close) [ true ↦ Some s | false ↦ None ]

abbrev pub literal : Bytes → Value → ℕ → Bytes → Result (Parsed Value)
literal w v n s = do
  t ← word w s
  ok (record { tree = v; rest = skip t; count = n })

-- what a value is read by: how many nodes there are before it, and the text, which begins with no space
abbrev pub Parser : Type 0 → Type 0
Parser A = ℕ → Bytes → Result (Parsed A)

-- the elements of an array up to its closing bracket, and the members of an object; the first number bounds how many there are
unfoldable pub items : Parser Value → ℕ → Parser Values
unfolding skip
items val zero n s = refused not_json
items val (suc f) n s = do
  v ← val n s
  elim
      (next 93 v.rest) [
        | more t ↦
            (do
              vs ← items val f v.count (skip t)
              ok (record { tree = cons v.tree vs.tree; rest = vs.rest; count = vs.count }))
        | closed t ↦
            ok (record { tree = cons v.tree nil; rest = skip t; count = v.count })
        | neither ↦
            refused not_json
      ]

unfoldable pub fields : Parser Value → ℕ → List Bytes → Parser Members
unfolding skip expect one_node chars new_name
fields val zero names n s = refused not_json
fields val (suc f) names n s = do
  t ← expect 34 s
  m ← one_node n
  k ← chars (length t) t
  r ← new_name k.got names k.rest
  u ← expect 58 (skip r)
  v ← val m (skip u)
  elim
      (next 125 v.rest) [
        | more w ↦
            (do
              ms ← fields val f (k.got ∷ names) v.count (skip w)
              ok (record { tree = member k.got v.tree ms.tree; rest = ms.rest; count = ms.count }))
        | closed w ↦
            ok (record { tree = member k.got v.tree empty; rest = skip w; count = v.count })
        | neither ↦
            refused not_json
      ]

-- an array behind its opening bracket, and an object
unfoldable pub array_rest : Parser Value → Parser Value
unfolding skip one_node items
array_rest val n s = do
  m ← one_node n
  elim
      (is_closed 93 (skip s)) [
        | Some t ↦
            ok (record { tree = array nil; rest = skip t; count = m })
        | None ↦
            (do
              vs ← items val (length s) m (skip s)
              ok (record { tree = array vs.tree; rest = vs.rest; count = vs.count }))
      ]

unfoldable pub object_rest : Parser Value → Parser Value
unfolding skip one_node fields
object_rest val n s = do
  m ← one_node n
  elim
      (is_closed 125 (skip s)) [
        | Some t ↦
            ok (record { tree = object empty; rest = skip t; count = m })
        | None ↦
            (do
              ms ← fields val (length s) [] m (skip s)
              ok (record { tree = object ms.tree; rest = ms.rest; count = ms.count }))
      ]

-- a value, over what follows an opening bracket
unfoldable pub value_with : Parser Value → Parser Value → Parser Value
unfolding word skip chars digits one_node
value_with arr obj n [] = refused not_json
value_with arr obj n (c ∷ s) =
    elim
    (start c) [
      | start_null ↦
          (do
            m ← one_node n
            literal (ascii "null") null m (c ∷ s))
      | start_true ↦
          (do
            m ← one_node n
            literal (ascii "true") (bool true) m (c ∷ s))
      | start_false ↦
          (do
            m ← one_node n
            literal (ascii "false") (bool false) m (c ∷ s))
      | start_text ↦
          (do
            m ← one_node n
            t ← chars (length s) s
            ok (record { tree = text t.got; rest = skip t.rest; count = m }))
      | start_number ↦
          (do
            m ← one_node n
            t ← digits (first c) (max_number - 1) s
            ok (record { tree = number (c ∷ t.got); rest = skip t.rest; count = m }))
      | start_array ↦
          arr n s
      | start_object ↦
          obj n s
      | start_nothing ↦
          refused not_json
    ]

abbrev pub no_bracket : Parser Value
no_bracket n s = refused too_deep

-- a value in which so many brackets may be open at once
unfoldable pub value : ℕ → Parser Value
unfolding value_with array_rest object_rest
value zero n s = value_with no_bracket no_bracket n s
value (suc left) n s = value_with (array_rest (λ m t. value left m t)) (object_rest (λ m t. value left m t)) n s

unfoldable pub whole_text : Parsed Value → Result Value
whole_text p = elim p.rest [ [] ↦ ok p.tree | c ∷ s ↦ refused not_json ]

-- the tree of a text, or the first refusal of 4 to 8
unfoldable pub parse : Bytes → Result Value
unfolding value whole_text skip
parse s = value max_depth 0 (skip s) >>= whole_text

-- the tree of a text, or the first refusal of 2 to 8
unfoldable pub json : Bytes → Result Value
unfolding utf8 parse
json s =
    elim
    (leb (length s) max_bytes) [
      | false ↦
          refused too_long
      | true ↦
          elim (utf8 scalar s) [ false ↦ refused not_utf8 | true ↦ parse s ]
    ]
