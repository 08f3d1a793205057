-- `calls::call::decide_call` meets its contract: by whether there is a state, then by whether the preconditions passed.
-- Assumes nothing.
use Rattle.members.specs.Kinds.{a_text}
use native.Mathlib.Omega.{arith}
use Rattle.evaluation.proofs.After.{accepted_rows}
use Rattle.writer.specs.Meaning.{rules_of}
use Rattle.calls.proofs.Deciding.{decides_on, decides_refused, decides_stateless}
use Rattle.rules.proofs.Eligibility.{state_on_text, there_room}
use Rattle.calls.proofs.call.decide_call.Goals as goal

pub start_at-state-requires : goal.start_at-state-requires
start_at-state-requires c =
    there_room a_text c.args.s.now _ c.in-Some.n c.in-Some.is (record { given = c.requires.1.given.state; known = c.requires.1.known.state })

pub check-requires : goal.check-requires
check-requires c = (c.requires.0, c.requires.1, record { given = c.requires.1.given.preconditions; known = c.requires.1.known.preconditions })

pub admit_selected-requires : goal.admit_selected-requires
admit_selected-requires c =
    let h = c.check.ensures c.requires.1.given c.requires.1.given.preconditions c.requires.1.known c.requires.1.known.preconditions in (
      omega (arith, c.requires.0, h.only.long),
      record { given = c.requires.1.given; known = accepted_rows h.only.rows c.requires.1.known },
      state_on_text c.args.s.now c.args.work.now c.in-Some.n c.in-Some.is (record { given = c.requires.1.given.state; known = c.requires.1.known.state })
          c.start_at-state.ensures,
    )

pub returns-in_default : goal.returns-in_default
returns-in_default c = λ sheet a. decides_stateless c.args.s.now c.args.work.now c.args.m sheet a c.in_default.is

pub returns-in-Err : goal.returns-in-Err
unfolding rules_of
returns-in-Err c =
    λ sheet a. decides_refused c.args.s.now c.args.work.now c.args.m sheet a c.in-Some.n c.in-Some.is c.start_at-state.ensures
    (c.check.ensures sheet sheet.preconditions a a.preconditions) c.in-Err.a c.in-Err.is

pub returns : goal.returns
unfolding rules_of
returns c =
    λ sheet a. decides_on c.args.s.now c.args.work.now c.args.m sheet a c.in-Some.n c.in-Some.is c.start_at-state.ensures
    (c.check.ensures sheet sheet.preconditions a a.preconditions) c.in_default-check.is c.admit_selected.ensures
