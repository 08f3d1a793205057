-- `Decimal::sign` meets its contract.
-- Assumes nothing.
use Rattle.std.proofs.Common.{arith}
use Rattle.std.proofs.lemmas.Grind.{common_steps}
use Rattle.number.proofs.Parts.{side_above, side_below, side_none}
use Rattle.number.proofs.text.Decimal.sign.Goals.{else-is_empty-via-else-is_empty, else-is_empty-via-then-is_empty+else-is_empty-2}
use Rattle.number.proofs.text.Decimal.sign.Goals as goal

pub returns-then-is_empty-2 : goal.returns-then-is_empty-2
returns-then-is_empty-2 c = side_none c.args.self.now (grind (arith, common_steps)) (grind (arith, common_steps))

pub returns-then-self : goal.returns-then-self
returns-then-self c =
    elim c.else-is_empty.branch [
      | else-is_empty-via-then-is_empty+else-is_empty-2 w ↦ side_below c.args.self.now c.requires (grind (arith, common_steps)) c.if-self.true
      | else-is_empty-via-else-is_empty w ↦ side_below c.args.self.now c.requires (grind (arith, common_steps)) c.if-self.true
    ]

pub returns-else-self : goal.returns-else-self
returns-else-self c =
    elim c.else-is_empty.branch [
      | else-is_empty-via-then-is_empty+else-is_empty-2 w ↦ side_above c.args.self.now c.requires (grind (arith, common_steps)) c.if-self.false
      | else-is_empty-via-else-is_empty w ↦ side_above c.args.self.now c.requires (grind (arith, common_steps)) c.if-self.false
    ]
