-- `writer::answer::Rules::unknown_number` meets its contract: each number of an Unknown rule comes after that of a False one.
-- Assumes nothing.
use mathlib.Core.Path.{refl, ◌≡◌}
use Prim.Native.Nat.{◌+◌}
use Rattle.answers.specs.Line.{false_number, unknown_number}
use Rattle.json_text.specs.Refusal.{Rules, invariants, preconditions}
use Rattle.writer.specs.Meaning.{rules_of}
use Rattle.writer.proofs.answer.Rules.unknown_number.Goals as goal

one_more : (k : Rules) → false_number k + 1 ≡ unknown_number k
one_more preconditions = refl
one_more invariants = refl

pub returns : goal.returns
returns c = rw c.false_number.ensures (one_more (rules_of c.args.self))
