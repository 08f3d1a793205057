-- `admission::outcomes::first_wrong` meets its contract: the loop says that the search from its node on is the whole search.
-- Assumes nothing.
use mathlib.Core.Path.{ap, ◌∙◌}
use Rattle.std.specs.Iterator.Adapters.{enumerate_count, enumerate_source}
use Rattle.admission.proofs.Seeking.{flag_known, none_wrong, outcome_known, passing, wrong_here, wrong_later}
use Rattle.rules.proofs.Walking.{next}
use Rattle.strings.proofs.Members.{elements_lead}
use Rattle.strings.proofs.Nodes.{Turn, begun, over, turn}
use Rattle.strings.specs.Nodes.{elements_left}
use Rattle.admission.proofs.outcomes.first_wrong.Goals.{In-Some}
use Rattle.admission.proofs.outcomes.first_wrong.Goals as goal

pub new-requires : goal.new-requires
new-requires c = elements_lead c.requires.known.nodes

pub loop-place-init : goal.loop-place-init
loop-place-init c =
    let i = c.into_iter-place-iterator.ensures.into_iter_gives in
    let r = c.enumerate-place-items.ensures in
    begun (ap (λ it. elements_left (enumerate_source it)) i ∙ ap elements_left r.source ∙ c.new.ensures)
    (passing (ap enumerate_count i ∙ r.count) c.requires)

this : (c : In-Some) → Turn c.loop-place.invariant (elements_left (enumerate_source c.next.new.self)) c.in-Some.node
this c = turn c.loop-place.invariant c.in-Some.ensures.steps.0

pub members_at-requires : goal.members_at-requires
members_at-requires c = let t = this (goal.at.members_at-requires c).In-Some in outcome_known t.here.walking t.more

pub is_true-requires : goal.is_true-requires
is_true-requires c =
    let t = this (goal.at.is_true-requires c).In-Some in
    let n = next t.here.walking t.more in
    flag_known (c.members_at.ensures n.first n.here)

pub returns-then-is_true : goal.returns-then-is_true
returns-then-is_true c =
    let t = this (goal.at.returns-then-is_true c).In-Some in
    wrong_here t.here t.more c.members_at.ensures _ c.is_true.ensures c.if-is_true.true c.in-Some.ensures.steps.1

pub loop-place-preserved : goal.loop-place-preserved
loop-place-preserved c =
    let t = this (goal.at.loop-place-preserved c).In-Some in
    t.on (wrong_later t.here t.more c.members_at.ensures _ c.is_true.ensures c.if-is_true.false c.in-Some.ensures.steps.2)

pub returns : goal.returns
returns c = none_wrong c.loop-place.invariant.rest (over c.loop-place.invariant c.in-None.ensures.steps.0)
