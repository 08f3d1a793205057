-- Reading a string: its characters and escapes up to the closing quote, decoded. One definition for each rule of RFC 8259.
-- Assumes nothing.
use Rattle.std.specs.Prelude.{false, true, [], ◌++◌, ◌∷◌, suc, zero, ℕ, ◌*◌, ◌+◌, ◌-◌, eqb, ltb}
use Rattle.std.specs.Prelude.{Option, None, Some}
use Rattle.json_text.specs.Bytes.{Bytes, ascii, between, choose}
use Rattle.json_text.specs.Refusal.{Result, not_json, ok, refused, ◌>>=◌}
use Rattle.json_text.specs.Scan.{Read, word}
use Rattle.json_text.specs.Utf8.{encode}

abbrev pub hex_digit : ℕ → Option ℕ
hex_digit c = choose ((between 48 57 c, Some (c - 48)) ∷ (between 65 70 c, Some (c - 55)) ∷ (between 97 102 c, Some (c - 87)) ∷ []) None

-- four hexadecimal digits
unfoldable pub hex : ℕ → ℕ → Bytes → Result (Read ℕ)
hex zero u s = ok (record { got = u; rest = s })
hex (suc n) u [] = refused not_json
hex (suc n) u (c ∷ s) = elim (hex_digit c) [ None ↦ refused not_json | Some d ↦ hex n (u * 16 + d) s ]

abbrev pub simple_escape : ℕ → Option ℕ
simple_escape c =
    choose
    ((eqb c 34, Some 34) ∷
    (eqb c 92, Some 92) ∷
    (eqb c 47, Some 47) ∷
    (eqb c 98, Some 8) ∷
    (eqb c 102, Some 12) ∷
    (eqb c 110, Some 10) ∷
    (eqb c 114, Some 13) ∷
    (eqb c 116, Some 9) ∷
    [])
    None

-- after `\u`: a scalar value, or a high surrogate with its partner
pub data Unit16 : Type 0 where
  plain_unit high_unit low_unit : Unit16

abbrev pub unit16 : ℕ → Unit16
unit16 u = choose ((between 55296 56319 u, high_unit) ∷ (between 56320 57343 u, low_unit) ∷ []) plain_unit

unfoldable pub low_half : ℕ → Read ℕ → Result (Read Bytes)
unfolding encode
low_half high low =
    elim (between 56320 57343 low.got)
    [ true ↦ ok (record { got = encode (65536 + (high - 55296) * 1024 + (low.got - 56320)); rest = low.rest }) | false ↦ refused not_json ]

unfoldable pub high_half : ℕ → Bytes → Result (Read Bytes)
unfolding word hex low_half
high_half high s = do
  t ← word (ascii "\\u") s
  low ← hex 4 0 t
  low_half high low

unfoldable pub of_unit : Read ℕ → Result (Read Bytes)
unfolding high_half encode
of_unit u = elim (unit16 u.got) [ plain_unit ↦ ok (record { got = encode u.got; rest = u.rest }) | high_unit ↦ high_half u.got u.rest | low_unit ↦ refused not_json ]

unfoldable pub unicode : Bytes → Result (Read Bytes)
unfolding hex of_unit
unicode s = hex 4 0 s >>= of_unit

unfoldable pub escape : Bytes → Result (Read Bytes)
unfolding unicode
escape [] = refused not_json
escape (c ∷ s) = elim (simple_escape c) [ Some d ↦ ok (record { got = d ∷ []; rest = s }) | None ↦ elim (eqb c 117) [ true ↦ unicode s | false ↦ refused not_json ] ]

pub data Char : Type 0 where
  quote backslash control other : Char

abbrev pub char : ℕ → Char
char c = choose ((eqb c 34, quote) ∷ (eqb c 92, backslash) ∷ (ltb c 32, control) ∷ []) other

-- the characters up to the closing quote, decoded; the number bounds how many there are
unfoldable pub chars : ℕ → Bytes → Result (Read Bytes)
unfolding escape
chars zero s = refused not_json
chars (suc n) [] = refused not_json
chars (suc n) (c ∷ s) =
    elim
    (char c) [
      | quote ↦
          ok (record { got = []; rest = s })
      | backslash ↦
          (do
            e ← escape s
            r ← chars n e.rest
            ok (record { got = e.got ++ r.got; rest = r.rest }))
      | control ↦
          refused not_json
      | other ↦
          (do
            r ← chars n s
            ok (record { got = c ∷ r.got; rest = r.rest }))
    ]
