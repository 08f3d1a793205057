-- The order of std, as definitions have it: `Less` is `lt`, and so on.
-- Assumes nothing.
use Prim.Native.Nat.{Ordering}
use Rattle.std.specs.declared.cmp.Ordering.{Ordering as Ordered}
use Rattle.std.specs.declared.cmp.Ordering.TheVariants as orders

abbrev pub order_of : Ordered → Ordering
order_of orders.Less = Ordering.lt
order_of orders.Equal = Ordering.eq
order_of orders.Greater = Ordering.gt
