-- `search::part::search` meets its contract: every start before this one is refuted, and k bytes match from it on.
-- Assumes nothing.
use Prim.Native.Nat.{◌*◌, ◌+◌, ◌≤◌}
use lib.ListN.{length}
use Rattle.json_text.specs.Spans.{text_at}
use Rattle.strings.specs.Decoded.{left_of}
use Rattle.search.proofs.Reading.{Reading}
use Rattle.search.proofs.part.search.Given as goal

abbrev pub invariant-loop-k : goal.invariant-loop-k
invariant-loop-k l =
    Reading l.part (text_at l.s l.text) (left_of l.rest) l.k ×
    (2 * length (left_of l.rest) + l.k ≤ 2 * length (left_of l.initial.rest) + l.initial.k)

abbrev pub decreases-loop-k : goal.decreases-loop-k
decreases-loop-k l = 2 * length (left_of l.rest) + l.k

abbrev pub invariant-search : goal.invariant-search
invariant-search l = Reading l.part (text_at l.s l.text) (left_of l.rest) l.k

abbrev pub decreases-search : goal.decreases-search
decreases-search l = 2 * length (left_of l.rest) + l.k
