-- `sheet::written::under_each` meets its contract: the loop says that the first fault from here on is the first of all.
-- Assumes nothing.
use Rattle.strings.specs.declared.rows.Kind.TheVariants as kinds
use Rattle.members.proofs.Shapes.{alike, unlike}
use native.Mathlib.Omega.{arith}
use mathlib.Core.Path.{ap, refl, ◌∙◌}
use Rattle.members.proofs.Soundness.{each_fault, each_none, each_on, each_sound, over_each}
use Rattle.members.proofs.Verdicts.{handed_on}
use Rattle.members.proofs.Walks.{element_node, room}
use Rattle.members.specs.Answers.{fault_is}
use Rattle.strings.proofs.Members.{elements_lead}
use Rattle.strings.proofs.Nodes.{Turn, begun, over, turn}
use Rattle.strings.specs.Nodes.{elements_left}
use Rattle.sheet.proofs.written.under_each.Goals.{In-Some}
use Rattle.sheet.proofs.written.under_each.Goals as goal

pub kind_at-requires : goal.kind_at-requires
kind_at-requires c = room c.requires

pub returns-then-ne : goal.returns-then-ne
unfolding fault_is
returns-then-ne c =
    each_none c.requires _ c.kind_at.ensures
    c.args.word.now (unlike _ kinds.Array c.if-ne.ensures)

pub after_at-end-requires : goal.after_at-end-requires
after_at-end-requires c = room c.requires

pub overflow_add-node : goal.overflow_add-node
overflow_add-node c = omega (arith, (room c.requires).1)

pub new-k-items-requires : goal.new-k-items-requires
new-k-items-requires c =
    elements_lead
    (over_each c.requires _ c.kind_at.ensures c.args.word.now
    (alike _ kinds.Array c.if-ne.ensures) _ c.after_at-end.ensures).nodes

pub loop-k-init : goal.loop-k-init
loop-k-init c =
    begun (ap elements_left c.into_iter-k-iterator.ensures.into_iter_gives ∙ c.new-k-items.ensures)
    (over_each c.requires _ c.kind_at.ensures c.args.word.now
    (alike _ kinds.Array c.if-ne.ensures) _ c.after_at-end.ensures)

this : (c : In-Some) → Turn c.loop-k.invariant (elements_left c.next.new.self) c.in-Some.k
this c = turn c.loop-k.invariant c.in-Some.ensures.steps

pub under-requires : goal.under-requires
under-requires c = let t = this (goal.at.under-requires c).In-Some in element_node t.here t.more

pub loop-k-preserved : goal.loop-k-preserved
unfolding fault_is
loop-k-preserved c =
    let t = this (goal.at.loop-k-preserved c).In-Some in
    t.on (each_on c.args.word.now t.here t.more c.under.ensures (ap fault_is c.in_ok-under.was) _ refl)

pub returns-in_err-under : goal.returns-in_err-under
unfolding fault_is
returns-in_err-under c =
    let t = this (goal.at.returns-in_err-under c).In-Some in
    rw (handed_on _ c.from_residual.ensures.1)
    (each_fault c.args.word.now t.here t.more c.under.ensures _ (ap fault_is c.in_err-under.was))

pub returns : goal.returns
unfolding fault_is
returns c = each_sound c.args.word.now c.loop-k.invariant.rest (over c.loop-k.invariant c.in-None.ensures.steps)
