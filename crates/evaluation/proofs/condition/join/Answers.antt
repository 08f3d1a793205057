-- `join` meets its contract: by the mode.
-- Assumes nothing.
use Rattle.members.specs.Answers.{mode_of}
use Rattle.evaluation.proofs.condition.join.Goals as goal

pub returns-in-Every : goal.returns-in-Every
unfolding mode_of
returns-in-Every c = rw c.in-Every.is c.and.ensures

pub returns-in-Any : goal.returns-in-Any
unfolding mode_of
returns-in-Any c = rw c.in-Any.is c.or.ensures
