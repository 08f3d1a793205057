-- `Decimal::order_digits` meets its contract: std compares the digits before the point and those behind it.
-- Assumes nothing.
use Rattle.std.proofs.Common.{◌≡◌, ◌++◌, refl, ap, ap₂, ◌∙◌}
use Rattle.std.specs.Slice.Iter.{iter_rest}
use Rattle.std.specs.Ordering.{nat_cmp}
use Rattle.std.proofs.lemmas.Iterator.{YieldsList-from_slice}
use Rattle.std.proofs.lemmas.Iterator.Consumers.{YieldsList-from_chain}
use Rattle.std.proofs.lemmas.Iterator.Search.{cmp_from_yields_List}
use Rattle.json_text.specs.Bytes.{order_bytes}
use Rattle.json_text.specs.Orders.{order_of}
use Rattle.json_text.proofs.Compared.{order_list}
use Rattle.number.proofs.text.Decimal.order_digits.Goals as goal

pub returns : goal.returns
returns c =
    ap order_of
    (cmp_from_yields_List {ys = c.trim_both_ends-2.result.0.now ++ c.trim_both_ends-2.result.1.now} (λ x y. y ≡ x) _ nat_cmp _ c.cmp.ensures.ran
    (YieldsList-from_chain
    (YieldsList-from_slice _ (ap iter_rest c.chain.ensures.first ∙ c.iter.ensures.rest))
    (YieldsList-from_slice _ (ap iter_rest c.chain.ensures.second ∙ c.iter-2.ensures.rest))
    c.chain.ensures.first_done
    c.chain.ensures.second_done)
    (λ it e. rw e (YieldsList-from_chain
    (YieldsList-from_slice _ (ap iter_rest c.chain-2.ensures.first ∙ c.iter-3.ensures.rest))
    (YieldsList-from_slice _ (ap iter_rest c.chain-2.ensures.second ∙ c.iter-4.ensures.rest))
    c.chain-2.ensures.first_done
    c.chain-2.ensures.second_done))
    (λ x y. refl))
    ∙ order_list _ _
    ∙ ap₂ order_bytes c.trim_both_ends.ensures c.trim_both_ends-2.ensures
