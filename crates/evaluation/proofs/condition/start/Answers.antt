-- `start` meets its contract: by the mode.
-- Assumes nothing.
use borrow.Author.Rules.{rules}
use Rattle.members.specs.Answers.{mode_of}
use Rattle.evaluation.proofs.condition.start.Goals as goal

pub returns-in-Every : goal.returns-in-Every
unfolding mode_of
returns-in-Every c = search rules

pub returns-in-Any : goal.returns-in-Any
unfolding mode_of
returns-in-Any c = search rules
