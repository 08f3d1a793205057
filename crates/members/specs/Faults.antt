-- The faults of a pair form and of a quantifier, by what they hold: which form or which quantifier it is makes no difference.
-- Assumes nothing.
use Rattle.std.specs.Prelude.{Option}
use Rattle.json_text.specs.Json.{Value}
use Rattle.json_text.specs.Refusal.{Refusal, ◌>>=◌}
use Rattle.members.specs.Condition.{condition_object, eq, every, quantifier, two_of}
use Rattle.members.specs.Verdicts.{fault_of}

unfoldable pub pair_fault : Value → Option Refusal
pair_fault v = fault_of (two_of eq v)

unfoldable pub quantifier_fault : Value → Option Refusal
unfolding condition_object quantifier
quantifier_fault v = fault_of (condition_object v >>= quantifier every)
