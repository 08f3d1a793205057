-- `admission::eligible::fits` meets its contract: by which of the two states are there.
-- Assumes nothing.
use Rattle.members.specs.Kinds.{a_text}
use Rattle.rules.proofs.Eligibility.{both_states, no_own, no_state, state_on_text, there_room}
use Rattle.admission.proofs.eligible.fits.Goals as goal

pub start_at-requires : goal.start_at-requires
start_at-requires c = there_room a_text c.args.s.now _ c.in-Some-Some.m c.in-Some-Some.is-0 c.requires.0

pub start_at-requires-in-Some-Some : goal.start_at-requires-in-Some-Some
start_at-requires-in-Some-Some c = there_room a_text c.args.s.now _ c.in-Some-Some.n c.in-Some-Some.is-1 c.requires.1

pub same-requires : goal.same-requires
same-requires c = (
  state_on_text c.args.s.now c.args.work.now c.in-Some-Some.m c.in-Some-Some.is-0 c.requires.0 c.start_at.ensures,
  state_on_text c.args.s.now c.args.work.now c.in-Some-Some.n c.in-Some-Some.is-1 c.requires.1 c.start_at-in-Some-Some.ensures,
)

pub returns-in-Some-Some : goal.returns-in-Some-Some
returns-in-Some-Some c =
    both_states c.args.s.now c.args.work.now c.in-Some-Some.m c.in-Some-Some.is-0 c.in-Some-Some.is-1 c.start_at.ensures c.start_at-in-Some-Some.ensures _ c.same.ensures

pub returns-in_default : goal.returns-in_default
returns-in_default c = no_state c.args.s.now c.args.work.now c.in_default.field-0-0 c.in_default.is-0 c.in_default.is-1

pub returns-in_default-2 : goal.returns-in_default-2
returns-in_default-2 c = λ i t g h. no_own c.args.s.now c.args.work.now c.in_default.is-0 i t g
