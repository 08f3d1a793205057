-- `field` meets its contract: std splits the record at its tabs.
-- Assumes nothing.
use Rattle.std.proofs.Common.{ap, refl, rules, ◌∙◌}
use borrow.Author.Tests.{tests}
use denote.Ref.{Bor}
use Rattle.std.proofs.lemmas.Iterator.Consumers.{nth_from_yields_List}
use Rattle.std.proofs.lemmas.Iterator.Splits.{YieldsList-from_slice_split}
use Rattle.records.proofs.Records.{field_is}
use Rattle.records.specs.Records.{Bytes, is_tab}
use Rattle.records.proofs.field.Goals as goal

pub returns : goal.returns
returns c =
    ap (λ (x : Bor Bytes). x.now) c.unwrap_or.ensures
    ∙ field_is c.args.record.now c.args.place c.nth.result _ refl
    (nth_from_yields_List c.nth.result _ c.args.place c.nth.ensures.ran
    (YieldsList-from_slice_split _ is_tab c.args.record.now c.split.ensures.rest c.split.ensures.done c.split.ensures.closure (λ x b q k. search (rules, tests))))
