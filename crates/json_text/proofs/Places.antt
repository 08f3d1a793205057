-- Refusals by computation: 6 and 7 stand at the number's byte and at the node's first byte themselves, and a refusal that shows earlier or is lower goes first.
-- Assumes nothing.
use mathlib.Core.List.{List, [], ◌++◌, ◌∷◌}
use mathlib.Core.Path.{refl, ◌≡◌}
use Prim.Native.Nat.{suc, zero, ℕ}
use Rattle.json_text.specs.Bytes.{Bytes, ascii}
use Rattle.json_text.specs.Reader.{parse}
use Rattle.json_text.specs.Refusal.{Refusal, not_json, number_too_long, refused, repeated_name, too_deep, too_many_nodes}

-- a word so many times, and then the rest
abbrev times : ℕ → Bytes → Bytes → Bytes
times zero w s = s
times (suc n) w s = w ++ times n w s

-- each text is refused so
abbrev Answers : List (Bytes × Refusal) → Type 0
Answers [] = Unit {0}
Answers (x ∷ xs) = (parse x.0 ≡ refused x.1) × Answers xs

-- 4,096 nodes, and what comes next
abbrev full : Bytes → Bytes
full s = ascii "[" ++ times 4095 (ascii "0,") s

-- the first byte of node 4,097 shows it, whether the node can be finished or not; where none begins, it is 4
nodes : Answers
    ((full (ascii "tx"), too_many_nodes) ∷ (full (ascii "-x"), too_many_nodes) ∷ (full (ascii "\""), too_many_nodes) ∷
    (full (ascii "\"\\ud800\""), too_many_nodes) ∷ (full (ascii "x"), not_json) ∷ (full (ascii "]"), not_json) ∷ [])
unfolding parse
nodes = (refl, (refl, (refl, (refl, (refl, (refl, tt))))))

-- so does byte 256 of a number, even where the number never ends
numbers : Answers
    ((times 255 (ascii "1") (ascii "."), number_too_long) ∷ (times 255 (ascii "1") (ascii "e"), number_too_long) ∷
    (times 254 (ascii "1") (ascii "e+"), number_too_long) ∷ (times 254 (ascii "1") (ascii ".x"), not_json) ∷
    (times 254 (ascii "1") (ascii "ex"), not_json) ∷ (times 255 (ascii "1") (ascii "-"), not_json) ∷
    (times 255 (ascii "1") (ascii "x"), not_json) ∷ (ascii "0" ++ times 300 (ascii "1") [], not_json) ∷ [])
unfolding parse
numbers = (refl, (refl, (refl, (refl, (refl, (refl, (refl, (refl, tt))))))))

-- bracket 65 that is node 4,097, bracket 65 where no value may stand, a repeated name that is node 4,097
ties : Answers
    ((times 65 (ascii "[") [], too_deep) ∷ (times 64 (ascii "[") (times 4032 (ascii "0,") (ascii "[")), too_deep) ∷
    (times 64 (ascii "[") (times 4032 (ascii "0,") (ascii "0")), too_many_nodes) ∷ (times 64 (ascii "[") (ascii "1["), not_json) ∷
    (ascii "{\"a\":[" ++ times 4092 (ascii "0,") (ascii "0],\"a\""), too_many_nodes) ∷
    (ascii "{\"a\":[" ++ times 4091 (ascii "0,") (ascii "0],\"a\""), repeated_name) ∷ [])
unfolding parse
ties = (refl, (refl, (refl, (refl, (refl, (refl, tt))))))

-- a repeated name needs its closing quote, and nothing behind it; names compare as decoded
names : Answers
    ((ascii "{\"a\":1,\"a\"", repeated_name) ∷ (ascii "{\"a\":1,\"\\u0061\":1}", repeated_name) ∷ (ascii "{\"a\":1,\"a", not_json) ∷
    (ascii "{\"a\":1,\"a\\ud800\":1}", not_json) ∷ (ascii "{\"a\":1 \"a\":2}", not_json) ∷ [])
unfolding parse
names = (refl, (refl, (refl, (refl, (refl, tt)))))
