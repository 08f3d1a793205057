-- `behind_point` meets its contract.
-- Assumes nothing.
use Rattle.std.proofs.Common.{arith, length-drop}
use Rattle.number.proofs.Parts.{all_of, no_fraction, past_point}
use Rattle.number.proofs.text.behind_point.Goals as goal

pub returns-in-46-clause-fraction : goal.returns-in-46-clause-fraction
returns-in-46-clause-fraction c = (past_point c.args.s.now _ (omega arith) (omega arith) (all_of _ _ (omega (arith, length-drop 1 c.args.s.now)))).0

pub returns-in-46-clause-exponent : goal.returns-in-46-clause-exponent
returns-in-46-clause-exponent c = (past_point c.args.s.now _ (omega arith) (omega arith) (all_of _ _ (omega (arith, length-drop 1 c.args.s.now)))).1

pub returns-in_default-clause-fraction : goal.returns-in_default-clause-fraction
returns-in_default-clause-fraction c = no_fraction c.args.s.now c.requires (omega arith)

pub returns-in_default-2-clause-fraction : goal.returns-in_default-2-clause-fraction
returns-in_default-2-clause-fraction c = no_fraction c.args.s.now c.requires (omega arith)
