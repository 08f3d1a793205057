-- `operands::path::rest_at` meets its contract: no dot stands before the place, so the text from it on goes on as the whole does.
-- Assumes nothing.
use mathlib.Core.Path.{◌≡◌}
use Prim.Native.Nat.{◌-◌}
use lib.ListN.{length}
use Rattle.paths.specs.Path.{further}
use Rattle.json_text.specs.Cursor.{OnText}
use Rattle.json_text.specs.Spans.{text_at}
use Rattle.paths.proofs.path.rest_at.Given as goal

abbrev pub invariant-loop-x : goal.invariant-loop-x
invariant-loop-x l = OnText l.path l.at 0 × (further (text_at l.path 0) ≡ further (text_at l.path l.at))

abbrev pub decreases-loop-x : goal.decreases-loop-x
decreases-loop-x l = length l.path - l.at
