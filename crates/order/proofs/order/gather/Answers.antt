-- `order::order::gather` meets its contract: the nodes gathered and those still to be are all.
-- Assumes nothing.
use native.Mathlib.Omega.{arith}
use mathlib.Core.Path.{ap, refl, ◌∙◌}
use lib.ListN.{length-set}
use Rattle.strings.proofs.Members.{members_lead}
use Rattle.strings.proofs.Nodes as nodes
use Rattle.strings.proofs.Nodes.{Turn, begun, over}
use Rattle.strings.specs.Nodes.{keys_left}
use Rattle.order.proofs.Gathering.{gathered_all, gathered_one, gathering, turn}
use Rattle.order.proofs.order.gather.Goals.{In-Some}
use Rattle.order.proofs.order.gather.Goals as goal

pub new-k-items-requires : goal.new-k-items-requires
new-k-items-requires c = members_lead c.requires.members.members

pub loop-k-init : goal.loop-k-init
loop-k-init c = (
  refl,
  begun (ap keys_left c.into_iter-k-iterator.ensures.into_iter_gives ∙ c.new-k-items.ensures) (gathering c.args.names.now c.requires),
)

this : (c : In-Some) → Turn c.loop-k.invariant.1 (keys_left c.next.new.self) c.in-Some.k
this c = nodes.turn c.loop-k.invariant.1 c.in-Some.ensures.steps

pub overflow_cast-names : goal.overflow_cast-names
overflow_cast-names c = let t = this (goal.at.overflow_cast-names c).In-Some in omega (arith, turn t.here t.more)

pub offset_bounds-names-count : goal.offset_bounds-names-count
offset_bounds-names-count c = let t = this (goal.at.offset_bounds-names-count c).In-Some in omega (arith, turn t.here t.more, t.here.passed)

pub bounds-names-count : goal.bounds-names-count
bounds-names-count c = let t = this (goal.at.bounds-names-count c).In-Some in (turn t.here t.more).within

pub overflow_add-count : goal.overflow_add-count
overflow_add-count c = let t = this (goal.at.overflow_add-count c).In-Some in omega (arith, turn t.here t.more, t.here.passed)

pub loop-k-preserved : goal.loop-k-preserved
loop-k-preserved c =
    let t = this (goal.at.loop-k-preserved c).In-Some in (length-set c.loop-k.names _ _ ∙ c.loop-k.invariant.0, t.on (gathered_one t.here t.more))

pub shape_of-names : goal.shape_of-names
shape_of-names c = c.loop-k.invariant.0

pub returns : goal.returns
returns c = gathered_all c.loop-k.invariant.1.rest (over c.loop-k.invariant.1 c.in-None.ensures.steps)
