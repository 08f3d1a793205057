-- `are_sheet` meets its contract: its names are known and each member is what it must be.
-- Assumes nothing.
use Rattle.sheet.proofs.Sheets.{is_sheet}
use Rattle.members.specs.Kinds.{a_text, a_version, an_array_of, an_object, not_null}
use Rattle.members.specs.Outcome.{an_outcome}
use Rattle.members.specs.Rule.{a_rule}
use Rattle.members.specs.Verdicts.{is_ok}
use Rattle.sheet.proofs.sheet.are_sheet.Goals as goal

pub only-requires : goal.only-requires
only-requires c = c.requires.0

pub returns : goal.returns
returns c =
    is_sheet _ _ c.requires.1 _ _ _ _ _ _ _ _ _ _ _ _ _ _ _ c.only.ensures
    (c.allows.ensures (λ v. is_ok (a_text v)) (λ s w n b h. h))
    (c.needs.ensures (λ v. is_ok (a_text v)) (λ s w n b h. h))
    (c.needs-2.ensures (λ v. is_ok (a_version v)) (λ s w n b h. h))
    (c.needs-3.ensures (λ v. is_ok (an_object v)) (λ s w n b h. h))
    (c.needs-4.ensures (λ v. is_ok (an_object v)) (λ s w n b h. h))
    (c.needs-5.ensures (λ v. is_ok (an_object v)) (λ s w n b h. h))
    (c.allows-2.ensures (λ v. is_ok (a_text v)) (λ s w n b h. h))
    (c.needs-6.ensures (λ v. is_ok (a_text v)) (λ s w n b h. h))
    (c.allows-3.ensures (λ v. is_ok (a_text v)) (λ s w n b h. h))
    (c.needs-7.ensures (λ v. is_ok (an_array_of a_text v)) (λ s w n b h. h))
    (c.allows-4.ensures (λ v. is_ok (not_null v)) (λ s w n b h. h))
    (c.needs-8.ensures (λ v. is_ok (an_array_of (a_rule not_null) v)) (λ s w n b h. h))
    (c.needs-9.ensures (λ v. is_ok (an_array_of (a_rule not_null) v)) (λ s w n b h. h))
    (c.needs-10.ensures (λ v. is_ok (an_array_of (an_outcome not_null) v)) (λ s w n b h. h))
