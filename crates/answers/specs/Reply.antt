-- What a call gives back of its answer or refusal: a number, 0 where nothing is refused, and a line or none; and what stands in the output then.
-- Assumes nothing.
use Rattle.std.specs.Prelude.{false, true, [], ◌++◌, ℕ, leb, drop, length}
use Rattle.std.specs.Prelude.{Option, None, Some}
use Rattle.answers.specs.Line.{refusal_form, refusal_line, refusal_number, verdict_form, verdict_line}
use Rattle.answers.specs.Verdict.{Verdict}
use Rattle.json_text.specs.Bytes.{Bytes}
use Rattle.json_text.specs.Refusal.{Result, line_too_long, ok, refused}

-- the number and the form of an answer or a refusal
unfoldable pub number_of : Result Verdict → ℕ
unfolding refusal_number
number_of (ok v) = 0
number_of (refused r) = refusal_number r

unfoldable pub form_of : Result Verdict → Option Bytes
unfolding verdict_form refusal_form
form_of (ok v) = Some (verdict_form v)
form_of (refused r) = refusal_form r

abbrev pub or_empty : Option Bytes → Bytes
or_empty None = []
or_empty (Some f) = f

pub record Reply : Type 0 where
  pub number : ℕ
  pub line : Option Bytes

-- a number with its line, or 23 where the line is longer than the output
abbrev pub fitted : ℕ → ℕ → Option Bytes → Reply
fitted output n None = record { number = n; line = None }
fitted output n (Some line) = elim (leb (length line) output) [ true ↦ record { number = n; line = Some line } | false ↦ record { number = refusal_number line_too_long; line = None } ]

unfoldable pub reply : ℕ → Result Verdict → Reply
unfolding refusal_number verdict_line refusal_line
reply output (ok v) = fitted output 0 (Some (verdict_line v))
reply output (refused r) = fitted output (refusal_number r) (refusal_line r)

-- the line stands at the start, and the rest is as it was
abbrev pub output_after : Reply → Bytes → Bytes
output_after r out = elim r.line [ None ↦ out | Some line ↦ line ++ drop (length line) out ]

-- the bytes of the line, 0 where there is none
abbrev pub line_size : Reply → ℕ
line_size r = elim r.line [ None ↦ 0 | Some line ↦ length line ]
