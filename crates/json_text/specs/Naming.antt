-- A member's name, read by place, and the marks by which a new name is told without comparing it with the earlier ones.
-- Assumes nothing.
use Rattle.std.specs.Prelude.{Bool, false, true, List, [], ◌∷◌, ◌≡◌, ℕ, ◌%◌, ◌*◌, ◌+◌, ◌-◌, get_or}
use Rattle.json_text.specs.Bytes.{Bytes, is_one_of}
use Rattle.json_text.specs.Placing.{byte_at, chars_at, skip_at}
use Rattle.json_text.specs.Reader.{new_name, one_node}
use Rattle.json_text.specs.Refusal.{Result, ok, ◌>>=◌}
use Rattle.json_text.specs.Spans.{text_at}

-- where a name's text ends, and where its value begins
pub record NameSpan : Type 0 where
  pub stop : ℕ
  pub value : ℕ

-- the name at a place, after the names before it and n nodes: what `fields_at` reads before the value
unfoldable pub name_at : Bytes → List Bytes → ℕ → ℕ → Result NameSpan
unfolding byte_at one_node chars_at new_name text_at skip_at
name_at s names n at = do
  a ← byte_at 34 s at
  _ ← one_node n
  e ← chars_at s a
  _ ← new_name (text_at s a) names []
  u ← byte_at 58 s (skip_at s e)
  ok (record { stop = e - 1; value = skip_at s u })

-- a number for a name and what it is in: each byte of the name after the other
unfoldable pub hashed : ℕ → Bytes → ℕ
hashed h [] = h
hashed h (c ∷ s) = hashed ((h * 31 + c) % 32749) s

-- every name of an object has its mark; marks are only added
abbrev pub Noted : List Bool → ℕ → List Bytes → Type 0
Noted seen object names = (k : Bytes) → is_one_of k names ≡ true → get_or seen (hashed object k) false ≡ true

abbrev pub Grown : List Bool → List Bool → Type 0
Grown seen seen' = (i : ℕ) → get_or seen i false ≡ true → get_or seen' i false ≡ true
