-- `strings::text::first` meets its contract: by the scalar value's range.
-- Assumes nothing.
use native.Mathlib.Omega.{arith}
use Rattle.json_text.proofs.Cursor.{encode_1, encode_2, encode_3, encode_4}
use Rattle.strings.proofs.text.first.Goals.{in-0-to-127, in-128-to-2047, in-2048-to-65535, in_default}
use Rattle.strings.proofs.text.first.Goals as goal

pub returns : goal.returns
returns c = elim c.if-unit-lt128.branch [
  | in-0-to-127 w ↦ rw w.byte-is (record { bytes = encode_1 c.args.unit (omega arith); few = omega arith })
  | in-128-to-2047 w ↦ rw w.byte-is (record { bytes = encode_2 c.args.unit (omega arith) (omega arith); few = omega arith })
  | in-2048-to-65535 w ↦ rw w.byte-is (record { bytes = encode_3 c.args.unit (omega arith) (omega arith); few = omega arith })
  | in_default w ↦ rw w.byte-is (record { bytes = encode_4 c.args.unit (omega arith); few = omega arith })
]
