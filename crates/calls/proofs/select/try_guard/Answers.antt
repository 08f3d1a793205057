-- `calls::select::try_guard` meets its contract: no guard, or what it gives alone.
-- Assumes nothing.
use Rattle.calls.proofs.Trying.{by_judged, guard_refused, guard_there, no_guard}
use Rattle.rules.proofs.Unmarking.{still_given}
use Rattle.calls.proofs.select.try_guard.Goals as goal

pub evaluate_alone-requires : goal.evaluate_alone-requires
evaluate_alone-requires c =
    (c.requires.0, c.requires.1, guard_there c.args.s.now c.args.work.now c.in-Some.node c.in-Some.is c.requires.2)

pub by_truth-requires : goal.by_truth-requires
by_truth-requires c =
    let g = guard_there c.args.s.now c.args.work.now c.in-Some.node c.in-Some.is c.requires.2 in
    still_given (c.evaluate_alone.ensures c.requires.1.given g.given c.requires.1.known g.known).only c.requires.3

pub returns-in_default : goal.returns-in_default
returns-in_default c = λ sheet d o a g h. no_guard c.args.s.now c.args.work.now sheet d c.args.p.place o g c.in_default.is

pub returns-in_err-t : goal.returns-in_err-t
returns-in_err-t c =
    λ sheet d o a g h. guard_refused c.args.s.now c.args.work.now sheet d c.args.p.place o g c.in-Some.node c.in-Some.is (λ e i. c.evaluate_alone.ensures sheet e a i)
    c.in_err-t.field-0.0 c.in_err-t.was _ c.from_residual.ensures.1

pub returns : goal.returns
returns c =
    λ sheet d o a g h. by_judged c.args.s.now c.args.work.now sheet d c.args.p.place o g c.in-Some.node c.in-Some.is (λ e i. c.evaluate_alone.ensures sheet e a i) h
    c.in_ok-t.t c.in_ok-t.was c.by_truth.ensures
