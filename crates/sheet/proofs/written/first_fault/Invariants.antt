-- `sheet::written::first_fault` meets its contract: the loop says that the first fault from here on is the first of all.
-- Assumes nothing.
use Rattle.json_text.specs.Table.{members_at}
use Rattle.members.proofs.Soundness.{soundness_of}
use Rattle.members.proofs.Walks.{OverMembers}
use Rattle.strings.proofs.Nodes.{Along}
use Rattle.strings.specs.Leads.{of_object}
use Rattle.strings.specs.Nodes.{keys_left}
use Rattle.sheet.proofs.written.first_fault.Given as goal

abbrev pub invariant-loop-k : goal.invariant-loop-k
invariant-loop-k l =
    Along l.work of_object l.end (OverMembers l.s l.work l.end (soundness_of (members_at l.s l.work l.from l.end)) soundness_of) (keys_left l.k-iterator)
