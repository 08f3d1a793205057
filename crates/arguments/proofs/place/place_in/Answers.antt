-- `arguments::place::place_in` meets its contract: by how many bytes there are, and by the first.
-- Assumes nothing.
use mathlib.Core.Path.{◌∙◌}
use native.Mathlib.Omega.{arith}
use Rattle.std.proofs.lemmas.Grind.{common_steps}
use Rattle.arguments.proofs.First.{no_place, no_zero_in_front, zero_in_front}
use Rattle.arguments.proofs.place.place_in.Goals as goal
use Rattle.arguments.proofs.place.place_in.Goals.{in_default-via-then-text-lt2, in_default-via-else-text-lt2+in_default-1}

pub returns-in-empty : goal.returns-in-empty
returns-in-empty c = no_place c.args.text.now (omega arith)

pub returns-in-empty-2 : goal.returns-in-empty-2
returns-in-empty-2 c = zero_in_front c.args.text.now (omega arith) (omega arith)

pub returns-in_default : goal.returns-in_default
returns-in_default c =
    c.number.ensures ∙ elim c.in_default.branch [
      | in_default-via-then-text-lt2 w ↦ no_zero_in_front c.args.text.now (grind (arith, common_steps)) (grind (arith, common_steps))
      | in_default-via-else-text-lt2+in_default-1 w ↦ no_zero_in_front c.args.text.now (grind (arith, common_steps)) (grind (arith, common_steps))
    ]
