-- `calls::select::try_outcome` meets its contract: by whether the outcome is eligible.
-- Assumes nothing.
use Rattle.members.proofs.Verdicts.{handed_on}
use Rattle.calls.proofs.Trying.{by_its_guard, passed_over}
use Rattle.calls.proofs.select.try_outcome.Goals as goal

pub eligible-requires : goal.eligible-requires
eligible-requires c = (
  record { given = c.requires.2.given; known = c.members_at-o.ensures c.requires.2.given c.requires.2.known },
  record { given = c.requires.1.given.state; known = c.requires.1.known.state },
)

pub try_guard-requires : goal.try_guard-requires
try_guard-requires c = (
  c.requires.0,
  c.requires.1,
  record { given = c.requires.2.given.when; known = (c.members_at-o.ensures c.requires.2.given c.requires.2.known).when },
  c.requires.2,
)

pub returns-in_ok-try_guard : goal.returns-in_ok-try_guard
returns-in_ok-try_guard c =
    λ sheet o a g. let x = c.members_at-o.ensures o g in
    by_its_guard c.args.s.now c.args.work.now sheet c.args.p.place o _ (c.eligible.ensures o sheet.state x a.state) c.if-eligible.true
    (c.in_ok-try_guard.ensures sheet o.when o a x.when g)

pub returns-in_err-try_guard : goal.returns-in_err-try_guard
returns-in_err-try_guard c =
    λ sheet o a g. let x = c.members_at-o.ensures o g in
    by_its_guard c.args.s.now c.args.work.now sheet c.args.p.place o _ (c.eligible.ensures o sheet.state x a.state) c.if-eligible.true
    (rw (handed_on _ c.from_residual.ensures.1) (c.in_err-try_guard.ensures sheet o.when o a x.when g))

pub returns-else-eligible : goal.returns-else-eligible
returns-else-eligible c =
    λ sheet o a g. rw c.if-eligible.false (passed_over c.args.s.now c.args.work.now sheet c.args.p.place o _
    (c.eligible.ensures o sheet.state (c.members_at-o.ensures o g) a.state) c.if-eligible.false)
