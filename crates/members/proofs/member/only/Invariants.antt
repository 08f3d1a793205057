-- `sheet::member::only` meets its contract: the loop says that all names are known where those from here on are.
-- Assumes nothing.
use Rattle.json_text.specs.Table.{members_at}
use Rattle.members.proofs.Names.{Knowing, all_known}
use Rattle.members.specs.Words.{words}
use Rattle.strings.proofs.Nodes.{Along}
use Rattle.strings.specs.Leads.{of_object}
use Rattle.strings.specs.Nodes.{keys_left}
use Rattle.members.proofs.member.only.Given as goal

abbrev pub invariant-loop-k : goal.invariant-loop-k
invariant-loop-k l =
    Along l.work of_object l.end (Knowing l.s l.work l.end (words l.names) (all_known (words l.names) (members_at l.s l.work l.from l.end))) (keys_left l.k-iterator)
