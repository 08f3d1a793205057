-- The third demand of what the program prints for two inputs.
-- Assumes nothing.
use Rattle.std.specs.Prelude.{◌≢◌, ◌≡◌}
use Rattle.answers.specs.Demand.{Comparable, Promised}
use Rattle.answers.specs.Line.{number_line, refusal_line}
use Rattle.answers.specs.Reply.{or_empty}
use Rattle.printing.specs.Printed.{intake}
use Rattle.json_text.specs.Bytes.{Bytes}
use Rattle.json_text.specs.Refusal.{Refusal, ok}
use Rattle.members.specs.Condition.{Condition}
use Rattle.members.specs.Sheet.{Sheet, read_sheet}

-- both inputs are sheets that are accepted, with enough output: `(refused 23)` is not printed
pub record PrintPremises (old new : Sheet Condition) (s s' : Bytes) : Type 0 where
  pub accepted : read_sheet s ≡ ok old
  pub accepted_again : read_sheet s' ≡ ok new
  pub enough_output : intake s ≢ number_line 23
  pub enough_output_again : intake s' ≢ number_line 23
  pub comparable : Comparable old new

-- the line of a refusal
abbrev pub line_of : Refusal → Bytes
line_of r = or_empty (refusal_line r)

-- what is printed for the new one is what was printed for the old one, or the line of such a refusal
unfoldable pub PrintsRepeat : Type 0
PrintsRepeat = (s s' : Bytes) (old new : Sheet Condition) → PrintPremises old new s s' → Promised old new line_of (intake s) (intake s')
