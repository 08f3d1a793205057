-- `check_all` meets its contract: what is left of the text decides what is counted in the end.
-- Assumes nothing.
use Rattle.std.proofs.Common.{arith, drop, length, length-drop, refl, rules, ◌+◌, ◌-◌}
use borrow.Author.Tests.{tests}
use Rattle.std.proofs.lemmas.Iterator.{YieldsList-from_slice}
use Rattle.std.proofs.lemmas.Iterator.Search.{position_from_yields_List}
use Rattle.std.specs.Result.{is_err}
use Rattle.records.proofs.Tallies.{all_of, next_at, none_at, nothing_more, one_more, still_at_most}
use Rattle.records.specs.Records.{is_line_feed}
use Rattle.records.proofs.check_all.Goals as goal

pub loop-at-init : goal.loop-at-init
loop-at-init g c = (omega arith, omega arith, λ h. h, λ p t a h. h)

pub returns-clause-counts : goal.returns-clause-counts
returns-clause-counts g c =
    λ p t. c.loop-at.invariant.3 p t _
    (rw (none_at c.loop-at.rest.now c.position.result
    (position_from_yields_List is_line_feed _ _ c.position.result c.position.ensures.ran (YieldsList-from_slice c.loop-at.rest.now cc) (λ x b k h. search (rules, tests)))
    c.in_default.is) (nothing_more p _ c.loop-at.invariant.0 c.loop-at.invariant.1))

pub loop-at-preserved : goal.loop-at-preserved
loop-at-preserved g c = (
  omega (arith, c.counted-all.ensures.ran),
  omega (arith, c.counted-all.ensures.differ),
  λ h. still_at_most _ _ (is_err c.check.result) (c.loop-at.invariant.2 h) c.counted-all.ensures.ran c.counted-all.ensures.differ,
  λ p t after h. c.loop-at.invariant.3 p t after
      (rw (next_at c.loop-at.rest.now c.position.result
      (position_from_yields_List is_line_feed _ _ c.position.result c.position.ensures.ran (YieldsList-from_slice c.loop-at.rest.now cc) (λ x b k h. search (rules, tests)))
      c.in-Some.at _ _ c.in-Some.is refl
      (all_of (drop (c.in-Some.at + 1) c.loop-at.rest.now) (length c.loop-at.rest.now - (c.in-Some.at + 1)) (omega (arith, length-drop (c.in-Some.at + 1) c.loop-at.rest.now))))
      (one_more p _ _ after _ _ _ c.counted-all.ensures.ran c.counted-all.ensures.differ (t _ _ c.check.ensures) h)),
)
