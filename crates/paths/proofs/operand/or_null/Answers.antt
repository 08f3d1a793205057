-- `paths::operand::or_null` meets its contract: by what was found.
-- Assumes nothing.
use borrow.Author.Rules.{rules}
use mathlib.Core.Path.{◌≡◌}
use Rattle.std.specs.Prelude.{Ok, Some}
use Rattle.paths.proofs.Reaching.{null_at, null_other}
use Rattle.paths.proofs.operand.or_null.Goals as goal
use Rattle.paths.proofs.operand.or_null.Goals.{in_default-via-in-Ok+in_default, in_default-via-in_default}

pub returns-in-Ok-Some : goal.returns-in-Ok-Some
returns-in-Ok-Some c = let q : c.args.found ≡ Ok (Some c.in-Ok-Some.o) = search rules in null_at q

pub returns-in_default : goal.returns-in_default
returns-in_default c =
    elim c.in_default.branch [
      | in_default-via-in-Ok+in_default w ↦ null_other (λ p e. search rules) c.nothing.ensures
      | in_default-via-in_default w ↦ null_other (λ p e. search rules) c.nothing.ensures
    ]
