-- A list of words as code has it.
-- Assumes nothing.
use Rattle.std.specs.Prelude.{List, [], ◌∷◌}
use Rattle.std.specs.Borrow.{Bor}
use Rattle.json_text.specs.Bytes.{Bytes}

-- the words that a slice of words points to
abbrev pub words : List (Bor Bytes) → List Bytes
words [] = []
words (w ∷ ws) = w.now ∷ words ws
