-- `strings::text::compare_decoded` meets its contract: std compares what the two iterators give.
-- Assumes nothing.
use mathlib.Core.Path.{◌≡◌, ◌∙◌, ap, refl, sym}
use Rattle.std.specs.Ordering.{nat_cmp}
use Rattle.std.proofs.lemmas.Iterator.Consumers.{YieldsList-from_first}
use Rattle.std.proofs.lemmas.Iterator.Search.{cmp_from_yields_List}
use Rattle.json_text.proofs.Compared.{order_list}
use Rattle.json_text.specs.Orders.{order_of}
use Rattle.strings.specs.Decoded.{left_of}
use Rattle.strings.proofs.text.compare_decoded.Goals as goal

pub returns : goal.returns
returns c =
    sym
    (ap order_of
    (cmp_from_yields_List (λ x y. y ≡ x) _ nat_cmp _ c.cmp.ensures.ran (YieldsList-from_first (λ x. x) left_of _ c.new.ensures)
    (λ it e. YieldsList-from_first (λ x. x) left_of _ (ap left_of e ∙ c.new-2.ensures)) (λ x y. refl)) ∙ order_list _ _)
