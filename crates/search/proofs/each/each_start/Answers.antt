-- `search::each::each_start` meets its contract: from each start on the part is looked for in the rest of the text.
-- Assumes nothing.
use mathlib.Core.Path.{ap, sym, ◌∙◌, ◌≡◌}
use mathlib.Core.Bool.{Bool}
use native.Mathlib.Omega.{arith}
use lib.ListN.{length}
use Rattle.json_text.specs.Bytes.{Bytes, begins}
use Rattle.json_text.specs.Spans.{text_at}
use Rattle.strings.specs.Decoded.{left_of}
use Rattle.search.proofs.Reading.{gave_none, gave_one}
use Rattle.search.proofs.Searching.{part_here, part_later, part_over}
use Rattle.search.proofs.each.each_start.Goals.{After-begins}
use Rattle.search.proofs.each.each_start.Goals as goal

-- what `begins` told of this start
told : (c : After-begins) {b : Bool} → b ≡ begins (left_of c.new-sought.result) (left_of c.loop-sought.rest) →
    begins (text_at c.args.s.now c.args.part) (left_of c.loop-sought.rest) ≡ b
told c e = ap (λ (p : Bytes). begins p (left_of c.loop-sought.rest)) (sym c.new-sought.ensures) ∙ sym e

pub loop-sought-init : goal.loop-sought-init
loop-sought-init c = rw c.new-rest.ensures

pub returns-then-begins : goal.returns-then-begins
returns-then-begins c =
    sym
    (c.loop-sought.invariant ∙ part_here (text_at c.args.s.now c.args.part) _
    (told (goal.at.returns-then-begins c).After-begins c.if-begins.ensures))

pub returns-then-is_none : goal.returns-then-is_none
returns-then-is_none c =
    sym
    (c.loop-sought.invariant ∙ part_over (text_at c.args.s.now c.args.part)
    (told (goal.at.returns-then-is_none c).After-begins c.if-begins.ensures)
    (gave_none _ _ c.next.result c.next.ensures.steps c.if-is_none.ensures))

pub loop-sought-smaller : goal.loop-sought-smaller
loop-sought-smaller c = let e = ap length (gave_one _ _ c.next.result c.next.ensures.steps c.if-is_none.ensures).1 in omega arith

pub loop-sought-preserved : goal.loop-sought-preserved
loop-sought-preserved c =
    c.loop-sought.invariant ∙ part_later (text_at c.args.s.now c.args.part)
    (told (goal.at.loop-sought-preserved c).After-begins c.if-begins.ensures)
    (gave_one _ _ c.next.result c.next.ensures.steps c.if-is_none.ensures).1
