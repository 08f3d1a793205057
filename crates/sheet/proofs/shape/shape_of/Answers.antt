-- `sheet::shape::shape_of` meets its contract: 9 by the members, 10 and 11 by the first fault, and else the sheet, member by member.
-- Assumes nothing.
use Rattle.strings.specs.declared.rows.Kind.TheVariants as kinds
use Rattle.members.proofs.Shapes.{alike, unlike}
use mathlib.Core.Path.{ap, ◌∙◌}
use Rattle.sheet.proofs.Accepted.{accepted_at, shape_fault, shape_is, shape_no_object, shape_wrong}
use Rattle.sheet.proofs.Rules.{object_members}
use Rattle.members.proofs.Verdicts.{handed_on}
use Rattle.sheet.specs.Accepted.{misshapen_by}
use Rattle.members.proofs.Walks.{room}
use Rattle.members.specs.Answers.{fault_is}
use Rattle.sheet.proofs.shape.shape_of.Goals as goal

pub kind_at-requires : goal.kind_at-requires
kind_at-requires c = room c.requires.node

pub returns-then-ne : goal.returns-then-ne
returns-then-ne c = shape_no_object c.requires _ c.kind_at.ensures (unlike _ kinds.Object c.if-ne.ensures)

pub after_at-end-requires : goal.after_at-end-requires
after_at-end-requires c = room c.requires.node

pub members-m-requires : goal.members-m-requires
members-m-requires c =
    object_members c.requires.node _
    c.kind_at.ensures (alike _ kinds.Object c.if-ne.ensures) _ c.after_at-end.ensures

pub are_sheet-requires : goal.are_sheet-requires
are_sheet-requires c = (
  object_members c.requires.node _
      c.kind_at.ensures (alike _ kinds.Object c.if-ne.ensures) _
      c.after_at-end.ensures,
  c.members-m.ensures,
)

pub returns-then-not-are_sheet : goal.returns-then-not-are_sheet
returns-then-not-are_sheet c =
    shape_wrong c.requires _ c.kind_at.ensures
    (alike _ kinds.Object c.if-ne.ensures) _ c.after_at-end.ensures _ c.are_sheet.ensures
    c.if-not-are_sheet.true

pub first_fault-requires : goal.first_fault-requires
first_fault-requires c =
    object_members c.requires.node _ c.kind_at.ensures
    (alike _ kinds.Object c.if-ne.ensures) _ c.after_at-end.ensures

pub returns-in_err-first_fault : goal.returns-in_err-first_fault
unfolding fault_is
returns-in_err-first_fault c =
    rw (handed_on _ {e = misshapen_by c.in_err-first_fault.field-0.0} c.from_residual.ensures.1)
    (shape_fault c.requires _ c.kind_at.ensures (alike _ kinds.Object c.if-ne.ensures) _ c.after_at-end.ensures _
    c.are_sheet.ensures _ c.if-not-are_sheet.false (c.first_fault.ensures ∙ ap fault_is c.in_err-first_fault.was))

pub returns : goal.returns
unfolding fault_is
returns c =
    accepted_at _ _ c.placed.ensures
    (shape_is c.requires _ c.kind_at.ensures
    (alike _ kinds.Object c.if-ne.ensures) _ c.after_at-end.ensures _
    c.are_sheet.ensures c.if-not-are_sheet.false
    (c.first_fault.ensures ∙ ap fault_is c.in_ok-first_fault.was) _
    c.members-m.ensures)
