-- `search::part::copy` meets its contract: the bytes copied and what is left of the text are the text.
-- Assumes nothing.
use mathlib.Core.Path.{◌≡◌}
use lib.ListN.{length}
use Rattle.json_text.specs.Spans.{text_at}
use Rattle.strings.specs.Decoded.{left_of}
use Rattle.search.proofs.Reading.{Copying}
use Rattle.search.proofs.part.copy.Given as goal

abbrev pub invariant-loop-n : goal.invariant-loop-n
invariant-loop-n l = (length l.out ≡ length l.initial.out) × Copying (text_at l.s l.text) l.out (left_of l.rest) l.n
