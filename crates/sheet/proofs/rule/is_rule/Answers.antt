-- `sheet::rule::is_rule` meets its contract: its names are known and each member is what it must be.
-- Assumes nothing.
use Rattle.strings.specs.declared.rows.Kind.TheVariants as kinds
use Rattle.members.proofs.Shapes.{alike, unlike}
use Rattle.sheet.proofs.Rules.{is_rule, not_rule, object_members}
use Rattle.members.proofs.Walks.{room}
use Rattle.members.specs.Kinds.{a_text, not_null}
use Rattle.members.specs.Verdicts.{is_ok}
use Rattle.sheet.proofs.rule.is_rule.Goals as goal

pub kind_at-requires : goal.kind_at-requires
kind_at-requires c = room c.requires

pub returns-then-ne : goal.returns-then-ne
returns-then-ne c = not_rule c.requires _ c.kind_at.ensures (unlike _ kinds.Object c.if-ne.ensures)

pub after_at-end-requires : goal.after_at-end-requires
after_at-end-requires c = room c.requires

pub members-m-requires : goal.members-m-requires
members-m-requires c =
    object_members c.requires _ c.kind_at.ensures
    (alike _ kinds.Object c.if-ne.ensures) _ c.after_at-end.ensures

pub only-requires : goal.only-requires
only-requires c =
    object_members c.requires _ c.kind_at.ensures
    (alike _ kinds.Object c.if-ne.ensures) _ c.after_at-end.ensures

pub returns : goal.returns
returns c =
    is_rule c.requires _ c.kind_at.ensures
    (alike _ kinds.Object c.if-ne.ensures) _ c.after_at-end.ensures _ c.members-m.ensures _ _ _ _
    c.only.ensures
    (c.needs.ensures (λ v. is_ok (not_null v)) (λ s w n b h. h))
    (c.allows.ensures (λ v. is_ok (a_text v)) (λ s w n b h. h))
    (c.allows-2.ensures (λ v. is_ok (a_text v)) (λ s w n b h. h))
