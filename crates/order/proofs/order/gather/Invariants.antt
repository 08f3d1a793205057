-- `order::order::gather` meets its contract: the nodes gathered and those still to be are all.
-- Assumes nothing.
use mathlib.Core.Path.{◌≡◌}
use lib.ListN.{length}
use Rattle.strings.proofs.Nodes.{Along}
use Rattle.strings.specs.Leads.{of_object}
use Rattle.strings.specs.Nodes.{keys_left}
use Rattle.order.proofs.Gathering.{Gathering}
use Rattle.order.proofs.order.gather.Given as goal

abbrev pub invariant-loop-k : goal.invariant-loop-k
invariant-loop-k l =
    (length l.names ≡ length l.initial.names) × Along l.work of_object l.end (Gathering l.work l.from l.end l.names l.count) (keys_left l.k-iterator)
