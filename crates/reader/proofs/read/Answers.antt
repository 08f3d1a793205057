-- `reader::read` meets its contract: each refusal and the table as the whole sheet's laws say.
-- Assumes nothing.
use Rattle.reader.proofs.Whole.{refused_is, spanned_bytes, spanned_long, spanned_more, spanned_refused, still_laid, told_refused, told_table, too_small}
use Rattle.leaves.proofs.Values.{handed_on, read_places}
use Rattle.leaves.proofs.MemberName.{skip_past}
use Rattle.reader.proofs.ArrayLoop.{was_done}
use Rattle.strings.specs.declared.answer.Refusal.TheVariants as whys
use Rattle.json_text.specs.Limits.{max_depth}
use mathlib.Core.Path.{refl, sym, ◌∙◌}
use native.Mathlib.Omega.{arith}
use Rattle.reader.proofs.read.Goals as goal

pub returns-then-work-lt16384 : goal.returns-then-work-lt16384
returns-then-work-lt16384 c =
    too_small c.args.sheet.now c.args.work.now c.if-work-lt16384.true

pub returns-then-sheet-gt32768 : goal.returns-then-sheet-gt32768
returns-then-sheet-gt32768 c =
    told_refused c.args.sheet.now c.args.work.now c.if-work-lt16384.false _ refl whys.TooLong
    (spanned_long c.args.sheet.now c.if-sheet-gt32768.true)

pub returns-then-not-utf8 : goal.returns-then-not-utf8
returns-then-not-utf8 c =
    told_refused c.args.sheet.now c.args.work.now c.if-work-lt16384.false _ refl whys.NotUtf8
    (spanned_bytes c.args.sheet.now c.if-sheet-gt32768.false
    (sym c.utf8-2.ensures ∙ c.if-not-utf8.true))

pub root-requires : goal.root-requires
root-requires c =
    record {
      bytes = c.if-sheet-gt32768.false;
      upto = (skip_past c.args.sheet.now 0 c.skip-at.result
          (omega arith) c.skip-at.ensures).1;
      long = omega (arith, c.if-work-lt16384.false);
      nodes = omega arith;
    }

pub skip-requires : goal.skip-requires
skip-requires c =
    let r = was_done c.in_ok-tree.ensures in
    (read_places max_depth c.args.sheet.now 0 c.skip-at.result _
    (skip_past c.args.sheet.now 0 c.skip-at.result (omega arith) c.skip-at.ensures).1 r.read).1

pub returns : goal.returns
returns c =
    let r = was_done c.in_ok-tree.ensures in
    told_table c.args.sheet.now c.args.work.now c.if-work-lt16384.false _
    (still_laid c.args.sheet.now _ _ c.skip-at.result c.in_ok-tree.tree
    (skip_past c.args.sheet.now 0 c.skip-at.result (omega arith) c.skip-at.ensures).1 r) c.in_ok-tree.tree
    c.skip-at.result c.skip.result c.if-sheet-gt32768.false
    (sym c.utf8-2.ensures ∙ c.if-not-utf8.false)
    c.skip-at.ensures r c.skip.ensures c.if-skip-sheet.false

pub returns-in_err-tree : goal.returns-in_err-tree
returns-in_err-tree c =
    let b = refused_is _ _ _ _ c.in_err-tree.field-0.0 c.in_err-tree.ensures in
    rw
    (handed_on _ c.from_residual.ensures.1)
    (told_refused c.args.sheet.now c.args.work.now c.if-work-lt16384.false _ b.1 c.in_err-tree.field-0.0
    (spanned_refused c.args.sheet.now c.if-sheet-gt32768.false
    (sym c.utf8-2.ensures ∙ c.if-not-utf8.false)
    c.skip-at.result c.skip-at.ensures _ b.0))

pub returns-then-skip-sheet : goal.returns-then-skip-sheet
returns-then-skip-sheet c =
    let r = was_done c.in_ok-tree.ensures in
    told_refused c.args.sheet.now c.args.work.now c.if-work-lt16384.false _
    (still_laid c.args.sheet.now _ _ c.skip-at.result c.in_ok-tree.tree
    (skip_past c.args.sheet.now 0 c.skip-at.result (omega arith) c.skip-at.ensures).1 r) whys.NotJson
    (spanned_more c.args.sheet.now c.if-sheet-gt32768.false
    (sym c.utf8-2.ensures ∙ c.if-not-utf8.false) c.skip-at.result
    c.skip-at.ensures _ c.skip.result r.read c.skip.ensures
    c.if-skip-sheet.true)
