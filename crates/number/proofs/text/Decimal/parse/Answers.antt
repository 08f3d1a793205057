-- `Decimal::parse` meets its contract.
-- Assumes nothing.
use Rattle.std.proofs.Common.{◌≡◌, ◌++◌, ◌≤◌, arith, length, refl, rules}
use Rattle.std.proofs.lemmas.Grind.{common_steps}
use borrow.Author.Tests.{tests}
use Rattle.number.specs.Compare.{trim}
use Rattle.number.specs.Decimal.{before, is_e}
use Rattle.number.specs.Parts.{ends_whole}
use Rattle.number.proofs.Parts.{parsed, trim_first, trim_through, trim_upto, upper_is, upper_length, whole_length, whole_splits}
use Rattle.number.proofs.text.Decimal.parse.Goals.{else-is_empty, then-is_empty}
use Rattle.number.proofs.text.Decimal.parse.Goals as goal

pub overflow_sub-result : goal.overflow_sub-result
overflow_sub-result c =
    omega (arith, trim_upto _ _ c.trim-digits.ensures, upper_length _ _ _ _ c.trim-digits.ensures (c.split.ensures ends_whole (λ x b h. search (rules, tests))))

pub overflow_sub-result-2 : goal.overflow_sub-result-2
overflow_sub-result-2 c = trim_upto _ _ c.trim-digits.ensures

pub overflow_sub-result-3 : goal.overflow_sub-result-3
overflow_sub-result-3 c =
    elim c.if-is_empty.branch [
      | then-is_empty w ↦ rw w.behind-is (trim_upto _ _ w.trim-behind.ensures)
      | else-is_empty w ↦ rw w.behind-is (omega arith)
    ]

pub returns : goal.returns
returns c =
    let u = c.split_sign-negative.result.1.now in
    let upper = c.split.result.0.now in
    let fraction = c.behind_point-fraction.result.now in
    let behind = c.if-is_empty.behind.now in
    let splits = c.split.ensures ends_whole (λ x b h. search (rules, tests)) in
    let whole = before ends_whole u in
    let is = upper_is u _ upper _ c.trim-digits.ensures splits in
    let both : upper ++ behind ≡ trim (whole ++ fraction) =
    elim c.if-is_empty.branch [
      | then-is_empty w ↦ rw w.behind-is (trim_through whole fraction _ _ is w.trim-behind.ensures (grind (arith, common_steps)))
      | else-is_empty w ↦ rw w.behind-is (trim_first whole fraction _ is (grind (arith, common_steps)))
    ] in
    let upto : length behind ≤ length fraction =
    elim c.if-is_empty.branch [
      | then-is_empty w ↦ rw w.behind-is (trim_upto _ _ w.trim-behind.ensures)
      | else-is_empty w ↦ rw w.behind-is (omega arith)
    ] in
    parsed c.args.s.now u whole c.split.result.1.now c.split_sign-negative.ensures.rest (whole_splits u _ upper _ c.trim-digits.ensures splits)
    fraction upper behind c.split-2.result.0.now c.split-2.result.1.now c.behind_point-fraction.ensures.fraction c.behind_point-fraction.ensures.exponent is both
    (c.split-2.ensures is_e (λ x b h. h)) _ c.split_sign-negative.ensures.negative refl
    (omega (arith, whole_length u _ upper _ c.trim-digits.ensures splits))
    (omega (arith, whole_length u _ upper _ c.trim-digits.ensures splits, upper_length u _ upper _ c.trim-digits.ensures splits, trim_upto _ _ c.trim-digits.ensures, upto))
    c.behind_first.ensures
