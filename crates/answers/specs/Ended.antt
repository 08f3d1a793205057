-- How a call ends, as the paper's table has it: an answer with its line, a refusal with its line, or a refusal without.
-- Assumes nothing.
use Rattle.std.specs.Prelude.{None, Some}
use Rattle.std.specs.Prelude.{ℕ, ◌≤◌}
use Rattle.answers.specs.Reply.{Reply}
use Rattle.json_text.specs.Bytes.{Bytes}

pub data Ended : Reply → Type 0 where
  answered : (line : Bytes) → Ended (record { number = 0; line = Some line })
  with_line : (n : ℕ) (line : Bytes) → 13 ≤ n → n ≤ 22 → Ended (record { number = n; line = Some line })
  without_line : (n : ℕ) → 1 ≤ n → n ≤ 12 → Ended (record { number = n; line = None })
  line_too_long : Ended (record { number = 23; line = None })
