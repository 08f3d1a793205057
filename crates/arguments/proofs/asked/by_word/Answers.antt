-- `arguments::asked::by_word` meets its contract: by the word.
-- Assumes nothing.
use Rattle.arguments.specs.Asked.{asks}
use Rattle.arguments.proofs.asked.by_word.Goals as goal

pub returns-in-Evaluate : goal.returns-in-Evaluate
unfolding asks
returns-in-Evaluate c = rw c.in-Evaluate.is c.with_file.ensures

pub returns-in-Preconditions : goal.returns-in-Preconditions
unfolding asks
returns-in-Preconditions c = rw c.in-Preconditions.is c.with_file-in-Preconditions.ensures

pub returns-in-Invariants : goal.returns-in-Invariants
unfolding asks
returns-in-Invariants c = rw c.in-Invariants.is c.with_file-in-Invariants.ensures

pub returns-in-Select : goal.returns-in-Select
unfolding asks
returns-in-Select c = rw c.in-Select.is c.with_file-in-Select.ensures

pub returns-in-Admit : goal.returns-in-Admit
unfolding asks
returns-in-Admit c = rw c.in-Admit.is c.admit.ensures

pub returns-in-Decide : goal.returns-in-Decide
unfolding asks
returns-in-Decide c = rw c.in-Decide.is c.with_file-in-Decide.ensures

pub returns-in-Lines : goal.returns-in-Lines
unfolding asks
returns-in-Lines c = rw c.in-Lines.is c.with_file-in-Lines.ensures

pub returns-in-Help : goal.returns-in-Help
unfolding asks
returns-in-Help c = rw c.in-Help.is c.alone.ensures

pub returns-in-Version : goal.returns-in-Version
unfolding asks
returns-in-Version c = rw c.in-Version.is c.alone-in-Version.ensures

pub returns-in-UnknownOption : goal.returns-in-UnknownOption
unfolding asks
returns-in-UnknownOption c = rw c.in-UnknownOption.is

pub returns-in-File : goal.returns-in-File
unfolding asks
returns-in-File c = rw c.in-File.is c.with_file-in-File.ensures
