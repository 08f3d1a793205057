-- A small text read by place, its rows, and the table read back.
-- Assumes nothing.
use mathlib.Core.List.{[], ◌∷◌}
use mathlib.Core.Path.{refl, ◌≡◌}
use Rattle.json_text.specs.Bytes.{Bytes, ascii}
use Rattle.json_text.specs.Json.{array, cons, empty, member, nil, number, object, text}
use Rattle.json_text.specs.Placing.{spanned}
use Rattle.json_text.specs.Refusal.{ok, refused, repeated_name}
use Rattle.json_text.specs.Spans.{Node, arr, field, is_number, is_text, leaf, no_field, no_node, node, obj}
use Rattle.json_text.specs.Table.{rows, value_at}

abbrev sheet : Bytes
sheet = ascii "{\"a\" : [1, \"\\u00e9\"] }"

abbrev tree : Node
tree = obj 0 22 (field 2 3 (arr 7 20 (node (leaf is_number 8 9) (node (leaf is_text 12 18) no_node))) no_field)

read : spanned sheet ≡ ok tree
unfolding spanned
read = refl

words : rows tree 0 ≡ 6 ∷ 22 ∷ 5 ∷ 20 ∷ 3 ∷ 2 ∷ 61 ∷ 20 ∷ 5 ∷ 67 ∷ 9 ∷ 4 ∷ 100 ∷ 18 ∷ 5 ∷ []
unfolding rows
words = refl

back : value_at sheet (6 ∷ 22 ∷ 5 ∷ 20 ∷ 3 ∷ 2 ∷ 61 ∷ 20 ∷ 5 ∷ 67 ∷ 9 ∷ 4 ∷ 100 ∷ 18 ∷ 5 ∷ []) 0 ≡
    object (member (ascii "a") (array (cons (number (ascii "1")) (cons (text (195 ∷ 169 ∷ [])) nil))) empty)
unfolding value_at
back = refl

twice : spanned (ascii "{\"a\":1,\"\\u0061\"") ≡ refused repeated_name
unfolding spanned
twice = refl
