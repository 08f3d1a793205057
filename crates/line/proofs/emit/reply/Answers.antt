-- `line::emit::reply` meets its contract: by the case of the answer.
-- Assumes nothing.
use mathlib.Core.Path.{refl}
use Rattle.answers.specs.Line.{refusal_form, refusal_number}
use Rattle.answers.specs.Reply.{form_of}
use Rattle.answers.specs.Reply.{number_of as verdict_number}
use Rattle.line.proofs.Answers.{cased, granted}
use Rattle.line.specs.Replies.{length_of, number_of}
use Rattle.writer.specs.Meaning.{meaning, rules_of}
use Rattle.line.proofs.emit.reply.Goals as goal

pub returns-in-True : goal.returns-in-True
returns-in-True c = granted c.in-True.is

pub returns-in-NoInput : goal.returns-in-NoInput
unfolding meaning verdict_number refusal_number form_of refusal_form number_of length_of
returns-in-NoInput c = cased c.in-NoInput.is (λ s w. record { number = refl; length = refl })

pub returns-in-UnknownExpression : goal.returns-in-UnknownExpression
unfolding meaning verdict_number refusal_number form_of refusal_form number_of length_of
returns-in-UnknownExpression c = cased c.in-UnknownExpression.is (λ s w. record { number = refl; length = refl })

pub returns-in-NoId : goal.returns-in-NoId
unfolding meaning verdict_number refusal_number form_of refusal_form number_of length_of
returns-in-NoId c = cased c.in-NoId.is (λ s w. record { number = refl; length = refl })

pub returns-in-NoOutcome : goal.returns-in-NoOutcome
unfolding meaning verdict_number refusal_number form_of refusal_form number_of length_of
returns-in-NoOutcome c = cased c.in-NoOutcome.is (λ s w. record { number = refl; length = refl })

pub returns-in-GuardUnknown : goal.returns-in-GuardUnknown
unfolding meaning verdict_number refusal_number form_of refusal_form number_of length_of
returns-in-GuardUnknown c = cased c.in-GuardUnknown.is (λ s w. record { number = refl; length = refl })

pub returns-in-WrongState : goal.returns-in-WrongState
unfolding meaning verdict_number refusal_number form_of refusal_form number_of length_of
returns-in-WrongState c = cased c.in-WrongState.is (λ s w. record { number = refl; length = refl })

pub returns-in-NotASource : goal.returns-in-NotASource
unfolding meaning verdict_number refusal_number form_of refusal_form number_of length_of
returns-in-NotASource c = cased c.in-NotASource.is (λ s w. record { number = refl; length = refl })

pub returns-in-Preconditions : goal.returns-in-Preconditions
unfolding meaning rules_of verdict_number refusal_number form_of refusal_form number_of length_of
returns-in-Preconditions c = cased c.in-RuleFalse.is (λ s w. record { number = rw c.in-Preconditions.is refl; length = refl })

pub returns-in-Invariants : goal.returns-in-Invariants
unfolding meaning rules_of verdict_number refusal_number form_of refusal_form number_of length_of
returns-in-Invariants c = cased c.in-RuleFalse.is (λ s w. record { number = rw c.in-Invariants.is refl; length = refl })

pub returns-in-Preconditions-rules : goal.returns-in-Preconditions-rules
unfolding meaning rules_of verdict_number refusal_number form_of refusal_form number_of length_of
returns-in-Preconditions-rules c = cased c.in-RuleUnknown.is (λ s w. record { number = rw c.in-Preconditions-rules.is refl; length = refl })

pub returns-in-Invariants-rules : goal.returns-in-Invariants-rules
unfolding meaning rules_of verdict_number refusal_number form_of refusal_form number_of length_of
returns-in-Invariants-rules c = cased c.in-RuleUnknown.is (λ s w. record { number = rw c.in-Invariants-rules.is refl; length = refl })
