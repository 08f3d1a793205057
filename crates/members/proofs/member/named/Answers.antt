-- `members::member::named` meets its contract: the loop says that the search from here on is the whole search.
-- Assumes nothing.
use native.Mathlib.Omega.{arith}
use mathlib.Core.Path.{ap, refl, sym, ◌∙◌}
use Rattle.members.proofs.Names.{seek, sought_here, sought_nowhere, sought_on}
use Rattle.members.proofs.Walks.{name_room, on_name, value_room}
use Rattle.strings.proofs.Members.{members_lead}
use Rattle.strings.proofs.Nodes.{Turn, begun, over, turn}
use Rattle.strings.specs.Nodes.{keys_left}
use Rattle.members.proofs.member.named.Goals.{In-Some}
use Rattle.members.proofs.member.named.Goals as goal

pub new-k-items-requires : goal.new-k-items-requires
new-k-items-requires c = members_lead c.requires

pub loop-k-init : goal.loop-k-init
loop-k-init c =
    begun (ap keys_left c.into_iter-k-iterator.ensures.into_iter_gives ∙ c.new-k-items.ensures)
    (seek c.args.s.now c.args.work.now c.args.from c.args.end c.args.word.now c.requires)

this : (c : In-Some) → Turn c.loop-k.invariant (keys_left c.next.new.self) c.in-Some.k
this c = turn c.loop-k.invariant c.in-Some.ensures.steps

pub start_at-requires : goal.start_at-requires
start_at-requires c = let t = this (goal.at.start_at-requires c).In-Some in name_room t.here.over t.more

pub is_word-requires : goal.is_word-requires
is_word-requires c = let t = this (goal.at.is_word-requires c).In-Some in on_name t.here.over t.more _ c.start_at.ensures

pub overflow_add-result : goal.overflow_add-result
overflow_add-result c = let t = this (goal.at.overflow_add-result c).In-Some in omega (arith, (value_room t.here.over t.more).1)

pub returns-then-is_word : goal.returns-then-is_word
returns-then-is_word c =
    let t = this (goal.at.returns-then-is_word c).In-Some in
    sought_here t.more _ c.start_at.ensures t.here (sym c.if-is_word.true ∙ c.is_word.ensures)

pub loop-k-preserved : goal.loop-k-preserved
loop-k-preserved c =
    let t = this (goal.at.loop-k-preserved c).In-Some in
    t.on (sought_on t.more _ c.start_at.ensures t.here (sym c.if-is_word.false ∙ c.is_word.ensures) _ refl)

pub returns : goal.returns
returns c = sought_nowhere c.loop-k.invariant.rest (over c.loop-k.invariant c.in-None.ensures.steps)
