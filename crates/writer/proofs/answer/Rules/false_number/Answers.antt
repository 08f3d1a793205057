-- `writer::answer::Rules::false_number` meets its contract: by its two cases.
-- Assumes nothing.
use mathlib.Core.Path.{ap, sym}
use Rattle.answers.specs.Line.{false_number}
use Rattle.writer.specs.Meaning.{rules_of}
use Rattle.writer.proofs.answer.Rules.false_number.Goals as goal

pub returns-in-Preconditions : goal.returns-in-Preconditions
unfolding rules_of
returns-in-Preconditions c = sym (ap (λ k. false_number (rules_of k)) c.in-Preconditions.is)

pub returns-in-Invariants : goal.returns-in-Invariants
unfolding rules_of
returns-in-Invariants c = sym (ap (λ k. false_number (rules_of k)) c.in-Invariants.is)
