-- Spaces, one byte, one word: what is read, and the rest.
-- Assumes nothing.
use Rattle.std.specs.Prelude.{Bool, false, true, ◌||◌, [], ◌∷◌, ℕ, eqb}
use Rattle.json_text.specs.Bytes.{Bytes}
use Rattle.json_text.specs.Refusal.{Result, not_json, ok, refused}

-- ws
abbrev pub is_space : ℕ → Bool
is_space c = eqb c 32 || eqb c 9 || eqb c 10 || eqb c 13

unfoldable pub skip : Bytes → Bytes
skip [] = []
skip (c ∷ s) = elim (is_space c) [ true ↦ skip s | false ↦ c ∷ s ]

-- the rest after one given byte, or after a given word
unfoldable pub expect : ℕ → Bytes → Result Bytes
expect c [] = refused not_json
expect c (d ∷ s) = elim (eqb c d) [ true ↦ ok s | false ↦ refused not_json ]

unfoldable pub word : Bytes → Bytes → Result Bytes
word [] s = ok s
word (c ∷ w) [] = refused not_json
word (c ∷ w) (d ∷ s) = elim (eqb c d) [ true ↦ word w s | false ↦ refused not_json ]

-- what was read, and the rest
pub record Read (A : Type 0) : Type 0 where
  pub got : A
  pub rest : Bytes
