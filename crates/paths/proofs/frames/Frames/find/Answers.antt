-- `paths::frames::Frames::find` meets its contract: what is found among the slots left is the answer.
-- Assumes nothing.
use borrow.Author.Rules.{rules}
use lib.ListN.{length, take}
use mathlib.Core.Path.{ap, refl, subst, sym, ◌∙◌, ◌≡◌}
use Rattle.std.specs.Prelude.{Some}
use Rattle.paths.specs.Stack.{Named, bound_in}
use Rattle.paths.proofs.Stack.{frames_front, frames_in, length_mapped, sought_here, sought_name, sought_none, sought_on}
use native.Mathlib.Omega.{arith}
use Rattle.paths.proofs.frames.Frames.find.Goals as goal

pub loop-slot-init : goal.loop-slot-init
loop-slot-init c =
    let long : length c.args.self.now.slots ≡ 32 = search (rules, length_mapped) in
    let left : c.into_iter-slot-iterator.result.iter.rest.now ≡ take c.args.self.now.depth c.args.self.now.slots = search rules in
    let same = ap frames_in left ∙ frames_front c.args.self.now.depth c.args.self.now.slots (omega (arith, long)) in
    record { named = subst (Named c.args.s.now) (sym same) c.requires.1; found = ap (bound_in c.args.s.now _) (sym same) }

pub part_is-requires : goal.part_is-requires
part_is-requires c = (c.requires.2, rw c.from.ensures (sought_name _ c.in-Some.slot.now c.loop-slot.invariant c.in-Some.ensures.steps))

pub returns-then-part_is : goal.returns-then-part_is
returns-then-part_is c =
    ap Some c.operand.ensures ∙
    sym (sought_here _ c.in-Some.slot.now c.loop-slot.invariant c.in-Some.ensures.steps (sym c.if-part_is.true ∙ (rw c.from.ensures at c.part_is.ensures)))

pub loop-slot-preserved : goal.loop-slot-preserved
loop-slot-preserved c =
    sought_on _ c.in-Some.slot.now c.loop-slot.invariant c.in-Some.ensures.steps (sym c.if-part_is.false ∙ (rw c.from.ensures at c.part_is.ensures))

pub returns : goal.returns
returns c = sym (sought_none c.loop-slot.invariant c.in-None.ensures.steps.0)
