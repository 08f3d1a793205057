-- `operator_in` meets its contract: the loop says that the rows from here on decide.
-- Assumes nothing.
use lib.ListN.{drop_of_length-le}
use mathlib.Core.Path.{refl}
use Rattle.json_text.specs.Spans.{text_at}
use Rattle.syntax.proofs.Operators.{no_row, row_found, row_here, row_passed}
use Rattle.syntax.proofs.condition.operator_in.Goals as goal

pub loop-word-init : goal.loop-word-init
loop-word-init c = λ n h. (n, h, refl)

pub returns-then-is_word_by_first : goal.returns-then-is_word_by_first
returns-then-is_word_by_first c =
    row_found (text_at c.args.s.now c.args.at) c.args.table.now (row_here c.args.table.now c.loop-word.word-index _ c.loop-word-test.true)
    c.loop-word.invariant c.if-is_word_by_first.true c.is_word_by_first.ensures

pub loop-word-preserved : goal.loop-word-preserved
loop-word-preserved c =
    row_passed (text_at c.args.s.now c.args.at) c.args.table.now (row_here c.args.table.now c.loop-word.word-index _ c.loop-word-test.true)
    c.loop-word.invariant c.if-is_word_by_first.false c.is_word_by_first.ensures

pub returns : goal.returns
returns c = no_row (text_at c.args.s.now c.args.at) c.args.table.now (drop_of_length-le c.args.table.now c.loop-word-test.false) c.loop-word.invariant
