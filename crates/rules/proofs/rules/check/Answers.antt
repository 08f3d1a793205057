-- `rules::rules::check` meets its contract: the loop says that the rules from its node on settle the whole.
-- Assumes nothing.
use native.Mathlib.Omega.{arith}
use Rattle.members.proofs.Walks.{room}
use Rattle.rules.proofs.Checking.{all_hold, checking, rule_behind, rule_falls, rule_next, rule_room, rule_settles}
use Rattle.rules.proofs.rules.check.Goals as goal

pub after_at-end-requires : goal.after_at-end-requires
after_at-end-requires c = room c.requires.2.known.node

pub loop-at-init : goal.loop-at-init
loop-at-init c = checking c.args.rules c.requires c.after_at-end.ensures

pub judge-requires : goal.judge-requires
judge-requires c = rule_next c.loop-at.invariant c.loop-at-test.true

pub returns-in_err-judge : goal.returns-in_err-judge
returns-in_err-judge c = rule_settles c.loop-at.invariant c.loop-at-test.true c.judge.ensures c.in_err-judge.field-0.0 c.in_err-judge.was _ c.from_residual.ensures.1

pub next-at-requires : goal.next-at-requires
next-at-requires c = rule_room c.loop-at.invariant c.loop-at-test.true c.judge.ensures

pub loop-at-smaller : goal.loop-at-smaller
loop-at-smaller c =
    let f = rule_falls c.loop-at.invariant c.loop-at-test.true c.judge.ensures c.next-at.ensures in
    omega (arith, f.0, f.1)

pub loop-at-preserved : goal.loop-at-preserved
loop-at-preserved c = rule_behind c.loop-at.invariant c.loop-at-test.true c.judge.ensures c.next-at.ensures c.in_ok-judge.was

pub returns : goal.returns
returns c = all_hold c.loop-at.invariant c.loop-at-test.false
