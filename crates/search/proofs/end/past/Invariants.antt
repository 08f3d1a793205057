-- `search::end::past` meets its contract: as much is read of both, until the first ends.
-- Assumes nothing.
use Rattle.strings.specs.Decoded.{left_of}
use Rattle.search.proofs.Reading.{Paired}
use Rattle.search.proofs.end.past.Given as goal

abbrev pub invariant-loop : goal.invariant-loop
invariant-loop l = Paired (left_of l.fn.long) (left_of l.fn.text) (left_of l.iterator') (left_of l.text)
