-- `digits` meets its contract: by the first byte that is no digit.
-- Assumes nothing.
use Rattle.std.proofs.Common.{rules, tests}
use Rattle.std.proofs.lemmas.Iterator.{IsFirst-from_position, YieldsList-from_slice}
use Rattle.tokens.proofs.Numbers.{digits_first}
use Rattle.tokens.specs.Numbering.{IsDigit}
use Rattle.tokens.proofs.numeral.digits.Goals as goal

pub returns : goal.returns
returns c =
    rw c.unwrap_or.ensures
    (digits_first c.args.s.now c.position.result
    (IsFirst-from_position _ _ c.position.result (λ x. Unit {0}) IsDigit c.position.ensures.ran (YieldsList-from_slice c.args.s.now cc)
    (λ x q k. tt) (λ x q k. search (rules, tests))))
