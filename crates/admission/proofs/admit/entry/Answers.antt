-- `admission::admit::entry` meets its contract: from the node that is found under `name`.
-- Assumes nothing.
use Rattle.admission.proofs.Admitting.{entered, name_room}
use Rattle.admission.proofs.admit.entry.Goals as goal

pub start_at-requires : goal.start_at-requires
start_at-requires c = name_room c.members_at-m.ensures c.node_of.ensures c.requires

pub returns : goal.returns
returns c = entered c.members_at-m.ensures c.node_of.ensures c.args.p.place c.start_at.ensures
