-- `admission::sources::of_move` meets its contract: from the node that is found under `from`.
-- Assumes nothing.
use Rattle.sheet.proofs.Given.{move_given}
use Rattle.members.proofs.Walks.{room}
use Rattle.rules.proofs.Starting.{members_behind, move_sources}
use Rattle.admission.proofs.sources.of_move.Goals as goal

pub after_at-end-requires : goal.after_at-end-requires
after_at-end-requires c = room c.requires.known.node

pub move_members-requires : goal.move_members-requires
move_members-requires c =
    members_behind (move_given c.requires.known).0 c.after_at-end.ensures

pub returns : goal.returns
returns c =
    move_sources c.args.s.now c.args.work.now c.move_members.result c.after_at-end.ensures
    c.move_members.ensures
