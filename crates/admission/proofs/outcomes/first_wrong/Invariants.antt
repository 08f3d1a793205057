-- `admission::outcomes::first_wrong` meets its contract: the loop says that the search from its node on is the whole search.
-- Assumes nothing.
use Rattle.std.specs.Iterator.Adapters.{enumerate_count, enumerate_source}
use Rattle.admission.proofs.Seeking.{Passing}
use Rattle.strings.proofs.Nodes.{Along}
use Rattle.strings.specs.Leads.{of_array}
use Rattle.strings.specs.Nodes.{elements_left}
use Rattle.admission.proofs.outcomes.first_wrong.Given as goal

abbrev pub invariant-loop-place : goal.invariant-loop-place
invariant-loop-place l =
    Along l.work of_array l.end (Passing l.s l.work l.from l.end (enumerate_count l.place-iterator)) (elements_left (enumerate_source l.place-iterator))
