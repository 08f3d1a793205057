-- `admission::admit::for_wrong_state` meets its contract: by whether there is an outcome for the wrong state.
-- Assumes nothing.
use Rattle.admission.proofs.Admitting.{chosen_node, told_chosen, told_wrong}
use Rattle.admission.proofs.Seeking.{first_wrong}
use Rattle.admission.proofs.admit.for_wrong_state.Goals as goal

pub entry-requires : goal.entry-requires
entry-requires c =
    chosen_node c.args.s.now c.args.work.now (first_wrong 0 c.requires.0.given)
    c.in-Some.p c.in-Some.is
    (c.first_wrong.ensures c.requires.0.given c.requires.0.known)

pub returns-in-None : goal.returns-in-None
returns-in-None c =
    λ os g. told_wrong c.args.s.now c.args.work.now (first_wrong 0 os) c.args.state
    c.requires.1 c.in-None.is
    (c.first_wrong.ensures os g)

pub returns-in-Some : goal.returns-in-Some
returns-in-Some c =
    λ os g. told_chosen c.args.s.now c.args.work.now (first_wrong 0 os) c.in-Some.p
    c.in-Some.is (c.first_wrong.ensures os g) c.args.state c.entry.ensures
