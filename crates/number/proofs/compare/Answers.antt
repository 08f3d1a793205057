-- `compare` meets its contract: by the signs, then by the magnitudes.
-- Assumes nothing.
use Rattle.std.proofs.Common.{ap, ◌∙◌}
use Rattle.json_text.specs.Orders.{order_of}
use Rattle.number.specs.Compare.{is_negative, is_nought, is_positive}
use Rattle.number.proofs.Parts.{parsed_trimmed}
use Rattle.number.proofs.Steps.{alike, apart, left_long, right_long}
use Rattle.number.proofs.compare.Goals.{then-left-gt-LONGEST-via-else-left-gt-LONGEST+then-right-gt-LONGEST, then-left-gt-LONGEST-via-then-left-gt-LONGEST}
use Rattle.number.proofs.compare.Goals as goal

pub returns-then-left-gt-LONGEST : goal.returns-then-left-gt-LONGEST
returns-then-left-gt-LONGEST c =
    elim c.then-left-gt-LONGEST.branch [
      | then-left-gt-LONGEST-via-then-left-gt-LONGEST w ↦ left_long c.args.left.now c.args.right.now w.if-left-gt-LONGEST.true
      | then-left-gt-LONGEST-via-else-left-gt-LONGEST+then-right-gt-LONGEST w ↦ right_long c.args.left.now c.args.right.now w.if-left-gt-LONGEST.false w.if-right-gt-LONGEST.true
    ]

pub sign-x-requires : goal.sign-x-requires
sign-x-requires c = parsed_trimmed c.args.left.now _ c.parse-a.ensures

pub sign-y-requires : goal.sign-y-requires
sign-y-requires c = parsed_trimmed c.args.right.now _ c.parse-b.ensures

pub returns-then-ne : goal.returns-then-ne
returns-then-ne c =
    ap order_of c.cmp.ensures ∙ apart c.args.left.now c.args.right.now _ _ c.parse-a.ensures c.parse-b.ensures c.if-left-gt-LONGEST.false c.if-right-gt-LONGEST.false
    _ _ c.sign-x.ensures c.sign-y.ensures c.if-ne.ensures

pub returns-in-Less : goal.returns-in-Less
returns-in-Less c =
    c.magnitude.ensures ∙ alike c.args.left.now c.args.right.now _ _ c.parse-a.ensures c.parse-b.ensures c.if-left-gt-LONGEST.false c.if-right-gt-LONGEST.false
    _ _ c.sign-x.ensures c.sign-y.ensures c.if-ne.ensures is_negative c.in-Less.is

pub returns-in-Equal : goal.returns-in-Equal
returns-in-Equal c =
    alike c.args.left.now c.args.right.now _ _ c.parse-a.ensures c.parse-b.ensures c.if-left-gt-LONGEST.false c.if-right-gt-LONGEST.false
    _ _ c.sign-x.ensures c.sign-y.ensures c.if-ne.ensures is_nought c.in-Equal.is

pub returns-in-Greater : goal.returns-in-Greater
returns-in-Greater c =
    c.magnitude-in-Greater.ensures ∙ alike c.args.left.now c.args.right.now _ _ c.parse-a.ensures c.parse-b.ensures c.if-left-gt-LONGEST.false c.if-right-gt-LONGEST.false
    _ _ c.sign-x.ensures c.sign-y.ensures c.if-ne.ensures is_positive c.in-Greater.is
