-- `only` meets its contract: the loop says that all names are known where those from here on are.
-- Assumes nothing.
use mathlib.Core.Path.{ap, refl, sym, ◌∙◌}
use Rattle.members.proofs.Names.{known_here, unknown_here}
use Rattle.members.proofs.Walks.{name_room, no_member, on_name}
use Rattle.members.specs.Kinds.{only}
use Rattle.strings.proofs.Members.{members_lead}
use Rattle.strings.proofs.Nodes.{Turn, begun, over, turn}
use Rattle.strings.specs.Nodes.{keys_left}
use Rattle.members.proofs.member.only.Goals.{In-Some}
use Rattle.members.proofs.member.only.Goals as goal

pub new-k-items-requires : goal.new-k-items-requires
new-k-items-requires c = members_lead c.requires

pub loop-k-init : goal.loop-k-init
loop-k-init c = begun (ap keys_left c.into_iter-k-iterator.ensures.into_iter_gives ∙ c.new-k-items.ensures) (record { members = c.requires; rest = refl })

this : (c : In-Some) → Turn c.loop-k.invariant (keys_left c.next.new.self) c.in-Some.k
this c = turn c.loop-k.invariant c.in-Some.ensures.steps

pub start_at-requires : goal.start_at-requires
start_at-requires c = let t = this (goal.at.start_at-requires c).In-Some in name_room t.here t.more

pub is_one_of-requires : goal.is_one_of-requires
is_one_of-requires c = let t = this (goal.at.is_one_of-requires c).In-Some in on_name t.here t.more _ c.start_at.ensures

pub returns-then-not-is_one_of : goal.returns-then-not-is_one_of
returns-then-not-is_one_of c =
    let t = this (goal.at.returns-then-not-is_one_of c).In-Some in
    unknown_here t.more _ c.start_at.ensures _ t.here c.is_one_of.ensures c.if-not-is_one_of.true

pub loop-k-preserved : goal.loop-k-preserved
loop-k-preserved c =
    let t = this (goal.at.loop-k-preserved c).In-Some in
    t.on (known_here t.more _ c.start_at.ensures _ t.here c.is_one_of.ensures c.if-not-is_one_of.false _ refl)

pub returns : goal.returns
unfolding only
returns c = sym (no_member c.loop-k.invariant.rest (over c.loop-k.invariant c.in-None.ensures.steps))
