-- `all_of` meets its contract: the loop says that the nodes from here on decide.
-- Assumes nothing.
use mathlib.Core.Path.{ap, refl, sym, ◌∙◌}
use Rattle.members.proofs.Elements.{all_right, right_here, testing, this_node, wrong_here}
use Rattle.strings.proofs.Members.{elements_lead}
use Rattle.strings.proofs.Nodes.{Turn, begun, over, turn}
use Rattle.strings.specs.Nodes.{elements_left}
use Rattle.members.proofs.kinds.all_of.Goals.{In-Some}
use Rattle.members.proofs.kinds.all_of.Goals as goal

pub new-k-items-requires : goal.new-k-items-requires
new-k-items-requires g c = elements_lead c.requires.nodes

pub loop-k-init : goal.loop-k-init
loop-k-init g c = begun (ap elements_left c.into_iter-k-iterator.ensures.into_iter_gives ∙ c.new-k-items.ensures) (testing c.requires.nodes)

this : (g : _) (c : In-Some g) → Turn c.loop-k.invariant (elements_left c.next.new.self) c.in-Some.k
this g c = turn c.loop-k.invariant c.in-Some.ensures.steps

pub test-requires : goal.test-requires
test-requires g c = let t = this g (goal.at.test-requires g c).In-Some in c.requires.test _ _ _ (this_node t.here t.more)

pub returns-then-not-test : goal.returns-then-not-test
returns-then-not-test g c =
    let t = this g (goal.at.returns-then-not-test g c).In-Some in
    λ p h. wrong_here t.here t.more p h (sym c.if-not-test.true ∙ h _ _ _ _ c.test.ensures)

pub loop-k-preserved : goal.loop-k-preserved
loop-k-preserved g c =
    let t = this g (goal.at.loop-k-preserved g c).In-Some in
    t.on (right_here t.here t.more (λ p h. sym c.if-not-test.false ∙ h _ _ _ _ c.test.ensures) _ refl)

pub returns : goal.returns
returns g c = all_right c.loop-k.invariant.rest (over c.loop-k.invariant c.in-None.ensures.steps)
