-- What each answer of the code says of the sheet and the table.
-- Assumes nothing.
use Rattle.std.specs.Prelude.{Result as Fallible}
use Rattle.std.specs.Prelude.{false, true, List, [], ◌∷◌, ◌≡◌, drop, length, Ok, Err}
use Rattle.std.specs.Prelude.{Option, None, Some}
use Prim.Native.Nat.{ℕ, ◌+◌, ◌<◌, ◌≤◌}
use Rattle.json_text.specs.Bytes.{Bytes, between}
use Rattle.json_text.specs.Cursor.{tails}
use Rattle.json_text.specs.Held.{HasNode}
use Rattle.json_text.specs.Json.{Value}
use Rattle.json_text.specs.Refusal.{Refusal, Result, not_json, not_utf8, number_too_long, ok, refused, repeated_name, too_deep, too_long, too_many_nodes, work_too_small}
use Rattle.json_text.specs.Scan.{Read}
use Rattle.json_text.specs.Strings.{hex}
use Rattle.json_text.specs.Table.{value_at}
use Rattle.json_text.specs.Utf8.{Expect, after, encode, lead, never, scalar, tail}
use Rattle.strings.specs.declared.rows.Kind.{Kind}
use Rattle.strings.specs.declared.rows.Kind.TheVariants as kinds
use Rattle.strings.specs.declared.answer.Refusal.{Refusal as Why}
use Rattle.strings.specs.declared.escape.Scalar.{Scalar}
use Rattle.strings.specs.declared.utf8.Expect.{Expect as Expected}
use Rattle.strings.specs.declared.utf8.Expect.TheVariants as expects
use Rattle.strings.specs.declared.answer.Refusal.TheVariants as whys

-- a refusal of the code is one of the paper's
abbrev pub refusal_of : Why → Refusal
refusal_of whys.WorkTooSmall = work_too_small
refusal_of whys.TooLong = too_long
refusal_of whys.NotUtf8 = not_utf8
refusal_of whys.NotJson = not_json
refusal_of whys.TooDeep = too_deep
refusal_of whys.NumberTooLong = number_too_long
refusal_of whys.TooManyNodes = too_many_nodes
refusal_of whys.RepeatedName = repeated_name

-- a refusal's number
abbrev pub number_of : Why → ℕ
number_of whys.WorkTooSmall = 1
number_of whys.TooLong = 2
number_of whys.NotUtf8 = 3
number_of whys.NotJson = 4
number_of whys.TooDeep = 5
number_of whys.NumberTooLong = 6
number_of whys.TooManyNodes = 7
number_of whys.RepeatedName = 8

-- four hexadecimal digits from a place on
unfoldable pub hex_of : Bytes → ℕ → Option ℕ → Result (Read ℕ)
hex_of s at None = refused not_json
hex_of s at (Some u) = ok (record { got = u; rest = drop (at + 4) s })

unfoldable pub HexIn : Bytes → ℕ → Option ℕ → Type 0
HexIn s at None = Unit {0}
HexIn s at (Some u) = (u < 65536) × (at + 4 ≤ length s)

pub record HexTold (s : Bytes) (at : ℕ) (r : Option ℕ) : Type 0 where
  pub answers : hex 4 0 (drop at s) ≡ hex_of s at r
  pub bounds : HexIn s at r

-- an escape, behind its backslash
unfoldable pub escaped_of : Bytes → Option Scalar → Result (Read ℕ)
escaped_of s None = refused not_json
escaped_of s (Some x) = ok (record { got = x.unit; rest = drop x.next s })

unfoldable pub EscapedIn : Bytes → ℕ → Option Scalar → Type 0
EscapedIn s at None = Unit {0}
EscapedIn s at (Some x) = (x.unit < 1114112) × (at < x.next) × (x.next ≤ length s)

pub record EscapedTold (s : Bytes) (at : ℕ) (whole : Result (Read ℕ)) (r : Option Scalar) : Type 0 where
  pub answers : whole ≡ escaped_of s r
  pub bounds : EscapedIn s at r

-- the characters up to the closing quote
unfoldable pub scan_of : Fallible ℕ Why → Result ℕ
scan_of (Err r) = refused (refusal_of r)
scan_of (Ok p) = ok p

-- what may come next in UTF-8
abbrev pub expect_of : Option Expected → Expect
expect_of None = never
expect_of (Some expects.Scalar) = scalar
expect_of (Some expects.One) = tail 128 191 0
expect_of (Some expects.Two) = tail 128 191 1
expect_of (Some expects.Three) = tail 128 191 2
expect_of (Some expects.TwoFromA0) = tail 160 191 1
expect_of (Some expects.TwoTo9F) = tail 128 159 1
expect_of (Some expects.ThreeFrom90) = tail 144 191 2
expect_of (Some expects.ThreeTo8F) = tail 128 143 2

-- what a byte makes of it
abbrev pub step : Expect → ℕ → Expect
step scalar c = lead c
step (tail low high n) c = elim (between low high c) [ true ↦ after n | false ↦ never ]
step never c = never

-- the code of a kind in its row
abbrev pub code_of : Kind → ℕ
code_of kinds.Null = 0
code_of kinds.True = 1
code_of kinds.False = 2
code_of kinds.Number = 3
code_of kinds.Text = 4
code_of kinds.Array = 5
code_of kinds.Object = 6
code_of kinds.Free = 7

-- a row that fits the table
pub record RowFits (words node kind start end after : ℕ) : Type 0 where
  pub long : 12288 ≤ words
  pub room : node < 4096
  pub kind_fits : kind < 8
  pub start_fits : start ≤ 32768
  pub end_fits : end ≤ 32768
  pub after_fits : after ≤ 4096

-- a scalar value's first byte, and how many follow it
pub record FirstOf (unit byte left : ℕ) : Type 0 where
  pub bytes : encode unit ≡ byte ∷ tails left unit
  pub few : left ≤ 3

-- a member that was found, by its node
unfoldable pub found_of : Bytes → List ℕ → Option ℕ → Option Value
found_of s w None = None
found_of s w (Some n) = Some (value_at s w n)

unfoldable pub FoundIn : Bytes → List ℕ → Option ℕ → Type 0
FoundIn s w None = Unit {0}
FoundIn s w (Some n) = HasNode s w n

pub record FoundTold (s : Bytes) (w : List ℕ) (whole : Option Value) (r : Option ℕ) : Type 0 where
  pub answers : whole ≡ found_of s w r
  pub bounds : FoundIn s w r
