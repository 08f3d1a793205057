-- `admission::outcomes::members_at` meets its contract: from the members behind its node.
-- Assumes nothing.
use Rattle.members.proofs.Walks.{room}
use Rattle.rules.proofs.Starting.{members_behind, outcome_here, outcome_members}
use Rattle.admission.proofs.outcomes.members_at.Goals as goal

pub after_at-end-requires : goal.after_at-end-requires
after_at-end-requires c = room c.requires.known.node

pub members-requires : goal.members-requires
members-requires c = members_behind (outcome_here c.requires.known) c.after_at-end.ensures

pub returns : goal.returns
returns c = λ o g. outcome_members c.after_at-end.ensures c.members.ensures g
