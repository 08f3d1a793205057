-- Counting over the beginning of a text, one byte after the other and without reading it: how many nodes have begun, how many brackets are
-- open, and how many bytes the number has that it ends in.
-- Assumes nothing.
use Rattle.std.specs.Prelude.{Bool, ◌||◌, [], ◌∷◌, ℕ, ◌+◌, ◌-◌, eqb}
use Rattle.json_text.specs.Bytes.{Bytes, between, choose}

-- what a beginning ends in: a text or a name, the backslash of an escape in one, null, true or false, a number of so many bytes, or none of these
pub data Ending : Type 0 where
  outside quoted escaped word : Ending
  numeral : ℕ → Ending

-- the nodes that have begun, the brackets that are open, and what the beginning ends in
pub data Tally : Type 0 where
  tally : ℕ → ℕ → Ending → Tally

-- the bytes between tokens, and those that begin one
pub data Mark : Type 0 where
  opens closes quotes figure letter other : Mark

abbrev pub is_letter : ℕ → Bool
is_letter c = between 97 122 c

abbrev pub in_number : ℕ → Bool
in_number c = between 48 57 c || eqb c 45 || eqb c 43 || eqb c 46 || eqb c 69 || eqb c 101

abbrev pub mark : ℕ → Mark
mark c =
    choose
    ((eqb c 91, opens) ∷
    (eqb c 123, opens) ∷
    (eqb c 93, closes) ∷
    (eqb c 125, closes) ∷
    (eqb c 34, quotes) ∷
    (eqb c 45, figure) ∷
    (between 48 57 c, figure) ∷
    (is_letter c, letter) ∷
    [])
    other

-- a byte behind the tokens before it: each value and each member name is a node, and begins here
abbrev pub begin : ℕ → ℕ → Mark → Tally
begin nodes depth opens = tally (nodes + 1) (depth + 1) outside
begin nodes depth closes = tally nodes (depth - 1) outside
begin nodes depth quotes = tally (nodes + 1) depth quoted
begin nodes depth figure = tally (nodes + 1) depth (numeral 1)
begin nodes depth letter = tally (nodes + 1) depth word
begin nodes depth other = tally nodes depth outside

-- one byte more
abbrev pub further : Tally → ℕ → Tally
further (tally nodes depth outside) c = begin nodes depth (mark c)
further (tally nodes depth quoted) c = tally nodes depth (choose ((eqb c 34, outside) ∷ (eqb c 92, escaped) ∷ []) quoted)
further (tally nodes depth escaped) c = tally nodes depth quoted
further (tally nodes depth word) c = choose ((is_letter c, tally nodes depth word) ∷ []) (begin nodes depth (mark c))
further (tally nodes depth (numeral bytes)) c = choose ((in_number c, tally nodes depth (numeral (bytes + 1))) ∷ []) (begin nodes depth (mark c))

abbrev pub tallied : Tally → Bytes → Tally
tallied t [] = t
tallied t (c ∷ s) = tallied (further t c) s

-- before the first byte
abbrev pub nothing : Tally
nothing = tally 0 0 outside

-- its parts
abbrev pub ends_in : Tally → Ending
ends_in (tally nodes depth e) = e

abbrev pub nodes_begun : Tally → ℕ
nodes_begun (tally nodes depth e) = nodes

abbrev pub brackets_open : Tally → ℕ
brackets_open (tally nodes depth e) = depth

abbrev pub number_bytes : Ending → ℕ
number_bytes outside = 0
number_bytes quoted = 0
number_bytes escaped = 0
number_bytes word = 0
number_bytes (numeral bytes) = bytes

abbrev pub bytes_of_number : Tally → ℕ
bytes_of_number (tally nodes depth e) = number_bytes e
