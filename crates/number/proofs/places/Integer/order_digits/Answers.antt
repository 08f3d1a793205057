-- `Integer::order_digits` meets its contract: std compares the digits in use, the highest first.
-- Assumes nothing.
use Rattle.std.proofs.Common.{◌≡◌, arith, refl, ap, ◌∙◌, take}
use Rattle.std.specs.Ordering.{nat_cmp}
use Rattle.std.proofs.lemmas.Iterator.Adapters.{YieldsList-from_rev_slice}
use Rattle.std.proofs.lemmas.Iterator.Search.{cmp_from_yields_List}
use Rattle.json_text.specs.Orders.{order_of}
use Rattle.number.proofs.Columns.{rows_order}
use Rattle.json_text.proofs.Compared.{order_list}
use Rattle.number.proofs.places.Integer.order_digits.Goals as goal

pub returns : goal.returns
returns c =
    let n = c.max-count.result in
    let a = take n c.args.self.now.digits in
    let b = take n c.args.other.now.digits in
    ap order_of
    (cmp_from_yields_List (λ x y. y ≡ x) _ nat_cmp _ c.cmp.ensures.ran (YieldsList-from_rev_slice a cc) (λ it e. YieldsList-from_rev_slice b cc) (λ x y. refl))
    ∙ order_list _ _
    ∙ rows_order c.args.self.now.digits c.args.other.now.digits _ _ n c.args.self.now.fits c.args.other.now.fits
    (omega arith) (omega arith) (omega (arith, c.args.self.now.fits.few, c.args.other.now.fits.few))
