-- `settles` meets its contract: by the mode and the truth.
-- Assumes nothing.
use mathlib.Core.Path.{refl, ◌∙◌, ◌≡◌}
use denote.Enum.Bare.{sameb}
use Rattle.members.specs.Answers.{mode_of}
use Rattle.members.specs.Condition.{any, every}
use Rattle.semantics.specs.Told.{truth_of}
use Rattle.semantics.specs.Truth.{settles}
use Rattle.semantics.specs.contracts.truth.Truth.{the_type}
use Rattle.semantics.specs.declared.truth.Truth.{Truth}
use Rattle.semantics.specs.declared.truth.Truth.TheVariants as truths
use Rattle.evaluation.proofs.condition.settles.Goals as goal

every_settles : (t : Truth) → sameb the_type t truths.False ≡ settles every (truth_of t)
every_settles truths.True = refl
every_settles truths.False = refl
every_settles truths.Unknown = refl

any_settles : (t : Truth) → sameb the_type t truths.True ≡ settles any (truth_of t)
any_settles truths.True = refl
any_settles truths.False = refl
any_settles truths.Unknown = refl

pub returns-in-Every : goal.returns-in-Every
unfolding mode_of
returns-in-Every c = rw c.in-Every.is (c.eq.ensures ∙ every_settles c.args.t)

pub returns-in-Any : goal.returns-in-Any
unfolding mode_of
returns-in-Any c = rw c.in-Any.is (c.eq-in-Any.ensures ∙ any_settles c.args.t)
