-- A path by its first dot: the part before it, and the text behind it.
-- Assumes nothing.
use Rattle.std.specs.Prelude.{false, true, [], ◌∷◌, eqb}
use Rattle.std.specs.Prelude.{Option, None, Some}
use Rattle.json_text.specs.Bytes.{Bytes}

unfoldable pub part : Bytes → Bytes
part [] = []
part (c ∷ s) = elim (eqb c 46) [ true ↦ [] | false ↦ c ∷ part s ]

unfoldable pub further : Bytes → Option Bytes
further [] = None
further (c ∷ s) = elim (eqb c 46) [ true ↦ Some s | false ↦ further s ]
