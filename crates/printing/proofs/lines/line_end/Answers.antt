-- `printing::lines::line_end` meets its contract: std finds the LF.
-- Assumes nothing.
use Rattle.std.proofs.Common.{arith, drop, length-drop, rules, ◌∙◌, ◌≡◌}
use borrow.Author.Tests.{tests}
use Rattle.std.specs.List.{position}
use Rattle.std.proofs.lemmas.Iterator.{YieldsList-from_slice}
use Rattle.std.proofs.lemmas.Iterator.Search.{position_from_yields_List}
use Rattle.std.proofs.lemmas.List.{take_rest}
use Rattle.printing.proofs.Splitting.{found_at, found_nowhere, is_lf}
use Rattle.printing.proofs.lines.line_end.Goals as goal
use Rattle.printing.proofs.lines.line_end.Goals.{After-position}

found : (c : After-position) → c.position.result ≡ position is_lf (drop c.args.from c.args.text.now)
found c =
    position_from_yields_List is_lf _ _ c.position.result c.position.ensures.ran
    (YieldsList-from_slice (drop c.args.from c.args.text.now) (c.iter.ensures.rest ∙ take_rest c.args.text.now c.args.from))
    (λ x b k h. search (rules, tests))

pub returns-in-Some : goal.returns-in-Some
returns-in-Some c = omega (arith, found_at (drop c.args.from c.args.text.now) (found ((goal.at.returns-in-Some c).After-position)) c.in-Some.is)

pub returns-in-None : goal.returns-in-None
returns-in-None c =
    omega (arith, found_nowhere (drop c.args.from c.args.text.now) (found ((goal.at.returns-in-None c).After-position)) c.in-None.is, length-drop c.args.from c.args.text.now, c.requires)
