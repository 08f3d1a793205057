-- `Decimal::places` meets its contract: the exponent, the whole's length and the leading zeros are summed.
-- Assumes nothing.
use Rattle.std.proofs.Common.{arith, ap, length}
use Rattle.number.proofs.Parts.{unsigned_upto}
use Rattle.number.proofs.text.Decimal.places.Goals as goal

pub sum-requires-clause-in_bounds : goal.sum-requires-clause-in_bounds
sum-requires-clause-in_bounds c = omega (arith, unsigned_upto c.args.self.now.exponent.now, ap length c.split_sign-negative.ensures.rest)

pub sum-requires-2-clause-in_bounds : goal.sum-requires-2-clause-in_bounds
sum-requires-2-clause-in_bounds c = omega (arith, unsigned_upto c.args.self.now.exponent.now, ap length c.split_sign-negative.ensures.rest)
