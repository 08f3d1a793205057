-- What a caller sees of a call: its number, and its line in the output.
-- Assumes nothing.
use Rattle.std.specs.Prelude.{Option, None, Some}
use Rattle.std.specs.Prelude.{suc, zero, ℕ, take}
use Rattle.json_text.specs.Bytes.{Bytes}
use Rattle.answers.specs.Reply.{Reply}

-- the line of a size at the start of an output; a size of 0 says that there is none
unfoldable pub line_in : ℕ → Bytes → Option Bytes
line_in zero out = None
line_in (suc n) out = Some (take (suc n) out)

abbrev pub seen : ℕ → ℕ → Bytes → Reply
seen number size out = record { number = number; line = line_in size out }
