-- `calls::select::select` meets its contract: the loop says that the selection from its node on is the whole selection.
-- Assumes nothing.
use native.Mathlib.Omega.{arith}
use mathlib.Core.Path.{refl}
use Rattle.members.proofs.Walks.{room}
use Rattle.calls.proofs.Trying.{falls_after, none_left, outcome_known, refuses, room_after, takes, tries_on, trying}
use Rattle.calls.proofs.select.select.Goals as goal

pub after_at-end-requires : goal.after_at-end-requires
after_at-end-requires c = room c.requires.1.known.outcomes.node

pub loop-here-init : goal.loop-here-init
loop-here-init c = trying c.requires.0 c.requires.1 c.after_at-end.ensures

pub try_outcome-requires : goal.try_outcome-requires
try_outcome-requires c = outcome_known c.loop-here.invariant c.loop-here-test.true

pub returns-in-Err : goal.returns-in-Err
returns-in-Err c = refuses c.loop-here.invariant c.loop-here-test.true c.try_outcome.ensures c.in-Err.a c.in-Err.is _ refl

pub returns-in-Ok-true : goal.returns-in-Ok-true
returns-in-Ok-true c = takes c.loop-here.invariant c.loop-here-test.true c.try_outcome.ensures (cc)

pub next-here-requires : goal.next-here-requires
next-here-requires c = room_after c.loop-here.invariant c.loop-here-test.true c.try_outcome.ensures

pub loop-here-smaller : goal.loop-here-smaller
loop-here-smaller c =
    let f = falls_after c.loop-here.invariant c.loop-here-test.true c.try_outcome.ensures c.next-here.ensures in
    omega (arith, f.0, f.1)

pub loop-here-preserved : goal.loop-here-preserved
loop-here-preserved c =
    tries_on c.loop-here.invariant c.loop-here-test.true c.try_outcome.ensures c.next-here.ensures (cc)

pub returns : goal.returns
returns c = none_left c.loop-here.invariant c.loop-here-test.false
