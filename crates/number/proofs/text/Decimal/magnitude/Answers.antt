-- `Decimal::magnitude` meets its contract: by the places, then by the digits.
-- Assumes nothing.
use Rattle.std.proofs.Common.{◌∙◌}
use Rattle.number.specs.Parts.{held}
use Rattle.number.proofs.Steps.{by_digits, by_places}
use Rattle.number.proofs.text.Decimal.magnitude.Goals as goal

pub returns-in-Equal : goal.returns-in-Equal
returns-in-Equal c = c.order_digits.ensures ∙ by_digits (held c.args.self.now) (held c.args.other.now) c.in-Equal.ensures

pub returns-in_default : goal.returns-in_default
returns-in_default c = by_places (held c.args.self.now) (held c.args.other.now) c.order_places.result c.in_default.not-Equal c.order_places.ensures
