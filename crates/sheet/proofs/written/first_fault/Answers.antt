-- `sheet::written::first_fault` meets its contract: the loop says that the first fault from here on is the first of all.
-- Assumes nothing.
use native.Mathlib.Omega.{arith}
use mathlib.Core.Path.{ap, refl, ◌∙◌}
use Rattle.members.proofs.Soundness.{all_sound, held_fault, held_on}
use Rattle.members.proofs.Verdicts.{handed_on}
use Rattle.members.proofs.Walks.{name_room, on_name, value_node, value_room}
use Rattle.members.specs.Answers.{fault_is}
use Rattle.strings.proofs.Members.{members_lead}
use Rattle.strings.proofs.Nodes.{Turn, begun, over, turn}
use Rattle.strings.specs.Nodes.{keys_left}
use Rattle.sheet.proofs.written.first_fault.Goals.{In-Some}
use Rattle.sheet.proofs.written.first_fault.Goals as goal

pub new-k-items-requires : goal.new-k-items-requires
new-k-items-requires c = members_lead c.requires

pub loop-k-init : goal.loop-k-init
loop-k-init c =
    begun (ap keys_left c.into_iter-k-iterator.ensures.into_iter_gives ∙ c.new-k-items.ensures)
    (record { members = c.requires; rest = refl })

this : (c : In-Some) → Turn c.loop-k.invariant (keys_left c.next.new.self) c.in-Some.k
this c = turn c.loop-k.invariant c.in-Some.ensures.steps

pub start_at-requires : goal.start_at-requires
start_at-requires c = let t = this (goal.at.start_at-requires c).In-Some in name_room t.here t.more

pub overflow_add-k : goal.overflow_add-k
overflow_add-k c = let t = this (goal.at.overflow_add-k c).In-Some in omega (arith, (value_room t.here t.more).1)

pub held-requires : goal.held-requires
held-requires c =
    let t = this (goal.at.held-requires c).In-Some in (
      on_name t.here t.more _ c.start_at.ensures,
      value_node t.here t.more,
    )

pub loop-k-preserved : goal.loop-k-preserved
unfolding fault_is
loop-k-preserved c =
    let t = this (goal.at.loop-k-preserved c).In-Some in
    t.on (held_on t.here t.more _ c.start_at.ensures c.held.ensures (ap fault_is c.in_ok-held.was) _ refl)

pub returns-in_err-held : goal.returns-in_err-held
unfolding fault_is
returns-in_err-held c =
    let t = this (goal.at.returns-in_err-held c).In-Some in
    rw (handed_on _ c.from_residual.ensures.1)
    (held_fault t.here t.more _ c.start_at.ensures c.held.ensures _ (ap fault_is c.in_err-held.was))

pub returns : goal.returns
unfolding fault_is
returns c = all_sound c.loop-k.invariant.rest (over c.loop-k.invariant c.in-None.ensures.steps)
