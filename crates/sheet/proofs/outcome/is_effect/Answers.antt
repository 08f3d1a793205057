-- `is_effect` meets its contract: one of three words, or an object whose only member is a move.
-- Assumes nothing.
use mathlib.Core.Path.{ap}
use Rattle.sheet.proofs.Rules.{a_word, effect_moved, not_effect, object_members, on_text_lem}
use Rattle.members.proofs.Shapes.{other_code}
use Rattle.members.proofs.Walks.{room}
use Rattle.members.specs.Outcome.{a_move}
use Rattle.members.specs.Verdicts.{is_ok}
use Rattle.strings.specs.Answers.{code_of}
use Rattle.strings.specs.declared.rows.Kind.TheVariants as kinds
use Rattle.sheet.proofs.outcome.is_effect.Goals as goal

pub kind_at-requires : goal.kind_at-requires
kind_at-requires c = room c.requires

pub start_at-requires : goal.start_at-requires
start_at-requires c = room c.requires

pub is_one_of-requires : goal.is_one_of-requires
is_one_of-requires c = on_text_lem c.requires _ c.kind_at.ensures (ap code_of c.in-Text.is) _ c.start_at.ensures

pub returns-in-Text : goal.returns-in-Text
returns-in-Text c = a_word c.requires _ c.kind_at.ensures (ap code_of c.in-Text.is) _ c.start_at.ensures c.is_one_of.ensures

pub after_at-end-requires : goal.after_at-end-requires
after_at-end-requires c = room c.requires

pub only-requires : goal.only-requires
only-requires c = object_members c.requires _ c.kind_at.ensures (ap code_of c.in-Object.is) _ c.after_at-end.ensures

pub named-requires : goal.named-requires
named-requires c = object_members c.requires _ c.kind_at.ensures (ap code_of c.in-Object.is) _ c.after_at-end.ensures

pub returns-in-Object : goal.returns-in-Object
returns-in-Object c =
    effect_moved c.requires _ c.kind_at.ensures (ap code_of c.in-Object.is) _ c.after_at-end.ensures _ c.named.ensures.told.answers _ _ c.only.ensures
    (c.needs.ensures (λ v. is_ok (a_move v)) (λ s w n b h. h))

pub returns-in_default : goal.returns-in_default
returns-in_default c =
    not_effect c.requires _ c.kind_at.ensures (other_code _ kinds.Text c.in_default.not-Text) (other_code _ kinds.Object c.in_default.not-Object)
