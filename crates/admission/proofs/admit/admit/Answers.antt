-- `admission::admit::admit` meets its contract: by the effect, then the sources, then the wrong state.
-- Assumes nothing.
use Rattle.members.proofs.Walks.{room}
use Rattle.members.specs.Condition.{condition}
use Rattle.members.specs.Outcome.{an_outcome}
use Rattle.answers.specs.Admission.{sources}
use Rattle.admission.proofs.Admitting.{has_no_source, keeps_moving, keeps_staying, sources_of, turns_wrong}
use Rattle.rules.proofs.Starting.{effect_known, sources_here}
use Rattle.rules.proofs.Walking.{behind_array}
use Rattle.admission.proofs.admit.admit.Goals as goal

pub of_effect-requires : goal.of_effect-requires
of_effect-requires c = effect_known (c.members_at-effect.ensures c.requires.3.given c.requires.3.known)

pub is_one_of-requires : goal.is_one_of-requires
is_one_of-requires c = (
  record {
    given = sources c.requires.3.given.effect;
    known = sources_here c.args.s.now c.args.work.now c.requires.3.given.effect
        (sources_of c.args.s.now c.args.work.now c.members_at-effect.ensures _ c.of_effect.ensures c.requires.3.given c.requires.3.known) c.in-Some.n c.in-Some.is;
  },
  c.requires.2,
)

pub returns-in_default : goal.returns-in_default
returns-in_default c =
    λ ts os o g h k. keeps_moving c.args.s.now c.args.work.now ts os c.args.state c.args.p.place o _
    (sources_of c.args.s.now c.args.work.now c.members_at-effect.ensures _ c.of_effect.ensures o k)
    c.in-Some.n c.in-Some.is _ c.is_one_of.ensures
    c.if-not-is_one_of.false (c.entry-outcome.ensures o k)

pub after_at-end-requires : goal.after_at-end-requires
after_at-end-requires c = room c.requires.1.known.node

pub is_wrong-requires : goal.is_wrong-requires
is_wrong-requires c = (
  c.requires.0,
  record { given = c.requires.1.given; known = behind_array (an_outcome condition) c.requires.1.known c.after_at-end.ensures },
  c.requires.2,
)

pub for_wrong_state-requires : goal.for_wrong_state-requires
for_wrong_state-requires c =
    (record { given = c.requires.1.given; known = behind_array (an_outcome condition) c.requires.1.known c.after_at-end.ensures }, c.requires.2)

pub returns-then-is_wrong : goal.returns-then-is_wrong
returns-then-is_wrong c =
    λ ts os o g h k. turns_wrong c.args.s.now c.args.work.now ts os c.args.state c.args.p.place o _
    (sources_of c.args.s.now c.args.work.now c.members_at-effect.ensures _ c.of_effect.ensures o k)
    c.in-Some.n c.in-Some.is _ c.is_one_of.ensures
    c.if-not-is_one_of.true _
    (c.is_wrong.ensures ts os g (behind_array (an_outcome condition) h c.after_at-end.ensures))
    c.if-is_wrong.true
    (c.for_wrong_state.ensures os (behind_array (an_outcome condition) h c.after_at-end.ensures))

pub returns-in_default-2 : goal.returns-in_default-2
returns-in_default-2 c =
    λ ts os o g h k. keeps_staying c.args.s.now c.args.work.now ts os c.args.state c.args.p.place o _
    (sources_of c.args.s.now c.args.work.now c.members_at-effect.ensures _ c.of_effect.ensures o k) c.in_default.is (c.entry-outcome.ensures o k)

pub returns : goal.returns
returns c =
    λ ts os o g h k. has_no_source c.args.s.now c.args.work.now ts os c.args.state c.args.p.place o _
    (sources_of c.args.s.now c.args.work.now c.members_at-effect.ensures _ c.of_effect.ensures o k)
    c.in-Some.n c.in-Some.is _ c.is_one_of.ensures
    c.if-not-is_one_of.true _
    (c.is_wrong.ensures ts os g (behind_array (an_outcome condition) h c.after_at-end.ensures)) c.if-is_wrong.false
    c.requires.2 (c.entry-outcome.ensures o k)
