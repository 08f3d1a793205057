-- `printing::lines::answer_last` meets its contract: nothing where nothing is left, or else the answer to the line.
-- Assumes nothing.
use Rattle.std.proofs.Common.{rules}
use borrow.Author.Tests.{tests}
use Rattle.printing.proofs.Answering.{no_last, one_last}
use Rattle.printing.proofs.lines.answer_last.Goals as goal

pub returns-then-is_empty : goal.returns-then-is_empty
returns-then-is_empty c = no_last c.args.line.now (search (rules, tests, c.is_empty.ensures, c.if-is_empty.true))

pub returns : goal.returns
returns c =
    one_last c.args.line.now (search (rules, tests, c.is_empty.ensures, c.if-is_empty.false))
    c.answer.ensures
