-- The lines of an input, and the answers to them. A line ends with LF; what stands behind the last LF is a line too, unless it is empty.
-- Assumes nothing.
use Rattle.std.specs.Prelude.{cond, List, [], ◌++◌, ◌∷◌, suc, ℕ, eqb}
use Rattle.json_text.specs.Bytes.{Bytes}
use Rattle.printing.specs.Printed.{intake}

abbrev pub last_line : Bytes → List Bytes
last_line [] = []
last_line (c ∷ l) = (c ∷ l) ∷ []

-- after the bytes of a line that were read before
unfoldable pub lines_from : Bytes → Bytes → List Bytes
lines_from l [] = last_line l
lines_from l (c ∷ s) = cond (eqb c 10) (l ∷ lines_from [] s) (lines_from (l ++ (c ∷ [])) s)

unfoldable pub lines : Bytes → List Bytes
unfolding lines_from
lines s = lines_from [] s

unfoldable pub each : List Bytes → Bytes
unfolding intake
each [] = []
each (l ∷ ls) = intake l ++ each ls

-- the answers to all lines of an input, however long it is
unfoldable pub answers : Bytes → Bytes
unfolding each lines
answers s = each (lines s)

-- how many bytes stand before the first LF, or all of them where there is none
unfoldable pub line_length : Bytes → ℕ
line_length [] = 0
line_length (c ∷ s) = cond (eqb c 10) 0 (suc (line_length s))
