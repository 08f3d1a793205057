-- `trim_both_ends` meets its contract.
-- Assumes nothing.
use Rattle.std.proofs.Common.{arith}
use Rattle.std.proofs.lemmas.Grind.{common_steps}
use Rattle.number.proofs.Parts.{end_first, end_through}
use Rattle.number.proofs.text.trim_both_ends.Goals as goal

pub returns-then-is_empty : goal.returns-then-is_empty
returns-then-is_empty c = end_through c.args.upper.now c.args.lower.now _ _ c.trim_end.ensures c.trim_end-rest.ensures (grind (arith, common_steps))

pub returns : goal.returns
returns c = end_first c.args.upper.now c.args.lower.now _ c.trim_end-rest.ensures (grind (arith, common_steps))
