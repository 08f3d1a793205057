-- `search::each::each_start` meets its contract: from each start on the part is looked for in the rest of the text.
-- Assumes nothing.
use mathlib.Core.Path.{◌≡◌}
use lib.ListN.{length}
use Rattle.json_text.specs.Spans.{text_at}
use Rattle.semantics.specs.Forms.{is_part}
use Rattle.strings.specs.Decoded.{left_of}
use Rattle.search.proofs.each.each_start.Given as goal

abbrev pub invariant-loop-sought : goal.invariant-loop-sought
invariant-loop-sought l = is_part (text_at l.s l.part) (text_at l.s l.text) ≡ is_part (text_at l.s l.part) (left_of l.rest)

abbrev pub decreases-loop-sought : goal.decreases-loop-sought
decreases-loop-sought l = length (left_of l.rest)
