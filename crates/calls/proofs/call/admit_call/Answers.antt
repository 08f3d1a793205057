-- `calls::call::admit_call` meets its contract: by whether there is such a place, then a state.
-- Assumes nothing.
use Rattle.members.proofs.Walks.{room}
use Rattle.calls.proofs.Calls.{admits, each_outcome, state_room, told_admission, told_stateless, told_unplaced}
use Rattle.calls.proofs.call.admit_call.Goals as goal

pub after_at-end-requires : goal.after_at-end-requires
after_at-end-requires c = room c.requires.known.outcomes.node

pub outcome_at-requires : goal.outcome_at-requires
outcome_at-requires c =
    record {
      given = c.args.s.now;
      known =
          record {
            given = c.requires.given.outcomes;
            known = each_outcome c.args.s.now c.args.work.now c.args.m c.requires.given c.requires.known c.after_at-end.ensures;
          };
    }

pub start_at-requires : goal.start_at-requires
start_at-requires c =
    state_room c.args.s.now c.args.work.now c.args.m c.requires.given c.requires.known c.args.place _
    (c.outcome_at.ensures c.args.s.now c.requires.given.outcomes
    (each_outcome c.args.s.now c.args.work.now c.args.m c.requires.given c.requires.known c.after_at-end.ensures)) c.in-Some-Some.p c.in-Some-Some.is-0
    c.in-Some-Some.n c.in-Some-Some.is-1

pub admit-requires : goal.admit-requires
admit-requires c =
    admits c.args.s.now c.args.work.now c.args.m c.requires.given c.requires.known c.args.place _
    (c.outcome_at.ensures c.args.s.now c.requires.given.outcomes
    (each_outcome c.args.s.now c.args.work.now c.args.m c.requires.given c.requires.known c.after_at-end.ensures)) c.in-Some-Some.p c.in-Some-Some.is-0
    c.in-Some-Some.n c.in-Some-Some.is-1 _ c.start_at.ensures

pub returns-in_default-2 : goal.returns-in_default-2
returns-in_default-2 c =
    λ sheet a. told_unplaced c.args.s.now c.args.work.now c.args.m sheet a c.args.place _
    (c.outcome_at.ensures c.args.s.now sheet.outcomes (each_outcome c.args.s.now c.args.work.now c.args.m sheet a c.after_at-end.ensures)) c.in_default.is-0

pub returns-in_default : goal.returns-in_default
returns-in_default c =
    λ sheet a. told_stateless c.args.s.now c.args.work.now c.args.m sheet a c.args.place _
    (c.outcome_at.ensures c.args.s.now sheet.outcomes (each_outcome c.args.s.now c.args.work.now c.args.m sheet a c.after_at-end.ensures)) c.in_default.field-0-0 c.in_default.is-0
    c.in_default.is-1

pub returns : goal.returns
returns c =
    λ sheet a. told_admission c.args.s.now c.args.work.now c.args.m sheet a c.args.place _
    (c.outcome_at.ensures c.args.s.now sheet.outcomes (each_outcome c.args.s.now c.args.work.now c.args.m sheet a c.after_at-end.ensures)) c.in-Some-Some.p c.in-Some-Some.is-0
    c.in-Some-Some.n c.in-Some-Some.is-1 _ c.start_at.ensures c.admit.ensures
