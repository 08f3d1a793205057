-- What an escape stands for, as a scalar value and not yet as bytes: what code keeps of one.
-- Assumes nothing.
use Rattle.std.specs.Prelude.{false, true, [], ◌∷◌, ℕ, ◌*◌, ◌+◌, ◌-◌, eqb}
use Rattle.std.specs.Prelude.{None, Some}
use Rattle.json_text.specs.Bytes.{Bytes, ascii, between}
use Rattle.json_text.specs.Refusal.{Result, not_json, ok, refused, ◌>>=◌}
use Rattle.json_text.specs.Scan.{Read, word}
use Rattle.json_text.specs.Strings.{hex, high_unit, low_unit, plain_unit, simple_escape, unit16}

unfoldable pub low_scalar : ℕ → Read ℕ → Result (Read ℕ)
low_scalar high low = elim (between 56320 57343 low.got) [ true ↦ ok (record { got = 65536 + (high - 55296) * 1024 + (low.got - 56320); rest = low.rest }) | false ↦ refused not_json ]

unfoldable pub high_scalar : ℕ → Bytes → Result (Read ℕ)
unfolding word hex low_scalar
high_scalar high s = do
  t ← word (ascii "\\u") s
  low ← hex 4 0 t
  low_scalar high low

unfoldable pub unit_scalar : Read ℕ → Result (Read ℕ)
unfolding high_scalar
unit_scalar u = elim (unit16 u.got) [ plain_unit ↦ ok u | high_unit ↦ high_scalar u.got u.rest | low_unit ↦ refused not_json ]

unfoldable pub escaped : Bytes → Result (Read ℕ)
unfolding hex unit_scalar
escaped [] = refused not_json
escaped (c ∷ s) = elim (simple_escape c) [ Some d ↦ ok (record { got = d; rest = s }) | None ↦ elim (eqb c 117) [ true ↦ (hex 4 0 s >>= unit_scalar) | false ↦ refused not_json ] ]
