-- An integer held in decimal digits with a sign; its order.
-- Assumes nothing.
use Rattle.std.specs.Prelude.{true, ◌≡◌}
use Prim.Native.Nat.{Ordering, compare, ◌+◌, ◌<◌}
use Rattle.number.specs.Decimal.{Integer, signed}
use Rattle.number.specs.Row.{value}
use Rattle.number.specs.declared.places.Integer.{Integer as Held}

abbrev pub integer : Held → Integer
integer h = signed h.negative (value h.digits)

-- 0 has no sign
pub record Tidy (h : Held) : Type 0 where
  pub sign : h.negative ≡ true → 0 < value h.digits

-- one integer as two differences
abbrev pub Same : Integer → Integer → Type 0
Same i j = i.up + j.down ≡ j.up + i.down

abbrev pub added : Integer → Integer → Integer
added i j = record { up = i.up + j.up; down = i.down + j.down }

abbrev pub order_integers : Integer → Integer → Ordering
order_integers i j = compare (i.up + j.down) (j.up + i.down)
