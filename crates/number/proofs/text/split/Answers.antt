-- `split` meets its contract: std finds the place.
-- Assumes nothing.
use Rattle.std.proofs.Common.{refl, rules}
use borrow.Author.Tests.{tests}
use Rattle.std.proofs.lemmas.Iterator.{YieldsList-from_slice}
use Rattle.std.proofs.lemmas.Iterator.Search.{position_from_yields_List}
use Rattle.number.proofs.Parts.{split_none, split_some}
use Rattle.number.proofs.text.split.Goals as goal

pub returns-in-Some : goal.returns-in-Some
returns-in-Some g c p q =
    split_some p c.args.s.now c.position.result
    (position_from_yields_List p _ _ c.position.result c.position.ensures.ran (YieldsList-from_slice c.args.s.now cc) (λ x b k h. search (rules, tests, q)))
    c.in-Some.at _ _ c.in-Some.is c.split_at.ensures.front c.split_at.ensures.back

pub returns : goal.returns
returns g c p q =
    split_none p c.args.s.now c.position.result
    (position_from_yields_List p _ _ c.position.result c.position.ensures.ran (YieldsList-from_slice c.args.s.now cc) (λ x b k h. search (rules, tests, q)))
    _ _ c.in-None.is refl refl
