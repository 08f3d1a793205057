-- `line::emit::form` meets its contract: by the case of the answer.
-- Assumes nothing.
use Rattle.line.proofs.Answers.{formed, held}
use Rattle.writer.proofs.Laying.{nothing}
use Rattle.answers.specs.Line.{refusal_form, verdict_form}
use Rattle.writer.specs.Meaning.{Held, meaning}
use Rattle.answers.specs.Reply.{form_of}
use Rattle.line.proofs.emit.form.Goals as goal

pub truth-requires : goal.truth-requires
unfolding Held
truth-requires c = held c.args.s.now c.args.work.now c.requires c.in-True.is

pub truth-requires-in-False : goal.truth-requires-in-False
unfolding Held
truth-requires-in-False c = held c.args.s.now c.args.work.now c.requires c.in-False.is

pub truth-requires-in-Unknown : goal.truth-requires-in-Unknown
unfolding Held
truth-requires-in-Unknown c = held c.args.s.now c.args.work.now c.requires c.in-Unknown.is

pub kept-requires : goal.kept-requires
unfolding Held
kept-requires c = held c.args.s.now c.args.work.now c.requires c.in-Selected.is

pub kept-requires-in-Admitted : goal.kept-requires-in-Admitted
unfolding Held
kept-requires-in-Admitted c = held c.args.s.now c.args.work.now c.requires c.in-Admitted.is

pub refused_text-requires : goal.refused_text-requires
unfolding Held
refused_text-requires c = held c.args.s.now c.args.work.now c.requires c.in-UnknownExpression.is

pub rule_false-requires : goal.rule_false-requires
unfolding Held
rule_false-requires c = held c.args.s.now c.args.work.now c.requires c.in-RuleFalse.is

pub rule_unknown-requires : goal.rule_unknown-requires
unfolding Held
rule_unknown-requires c =
    let h = held c.args.s.now c.args.work.now c.requires c.in-RuleUnknown.is in
    (h.0, h.1)

pub guard_unknown-requires : goal.guard_unknown-requires
unfolding Held
guard_unknown-requires c =
    let h = held c.args.s.now c.args.work.now c.requires c.in-GuardUnknown.is in
    (h.0, h.1)

pub refused_text-requires-in-WrongState : goal.refused_text-requires-in-WrongState
unfolding Held
refused_text-requires-in-WrongState c = held c.args.s.now c.args.work.now c.requires c.in-WrongState.is

pub not_a_source-requires : goal.not_a_source-requires
unfolding Held
not_a_source-requires c =
    let h = held c.args.s.now c.args.work.now c.requires c.in-NotASource.is in
    (h.0, h.1, h.2)

pub returns-in-True : goal.returns-in-True
unfolding meaning form_of verdict_form refusal_form
returns-in-True c =
    formed c.args.s.now c.args.work.now c.in-True.is c.truth.ensures

pub returns-in-False : goal.returns-in-False
unfolding meaning form_of verdict_form refusal_form
returns-in-False c =
    formed c.args.s.now c.args.work.now c.in-False.is c.truth-in-False.ensures

pub returns-in-Unknown : goal.returns-in-Unknown
unfolding meaning form_of verdict_form refusal_form
returns-in-Unknown c =
    formed c.args.s.now c.args.work.now c.in-Unknown.is c.truth-in-Unknown.ensures

pub returns-in-Passed : goal.returns-in-Passed
unfolding meaning form_of verdict_form refusal_form
returns-in-Passed c =
    formed c.args.s.now c.args.work.now c.in-Passed.is c.bytes.ensures

pub returns-in-Selected : goal.returns-in-Selected
unfolding meaning form_of verdict_form refusal_form
returns-in-Selected c =
    formed c.args.s.now c.args.work.now c.in-Selected.is c.kept.ensures

pub returns-in-Admitted : goal.returns-in-Admitted
unfolding meaning form_of verdict_form refusal_form
returns-in-Admitted c =
    formed c.args.s.now c.args.work.now c.in-Admitted.is c.kept-in-Admitted.ensures

pub returns-in-NoInput : goal.returns-in-NoInput
unfolding meaning form_of verdict_form refusal_form
returns-in-NoInput c =
    formed c.args.s.now c.args.work.now c.in-NoInput.is (nothing c.args.out.now)

pub returns-in-UnknownExpression : goal.returns-in-UnknownExpression
unfolding meaning form_of verdict_form refusal_form
returns-in-UnknownExpression c =
    formed c.args.s.now c.args.work.now c.in-UnknownExpression.is c.refused_text.ensures

pub returns-in-NoId : goal.returns-in-NoId
unfolding meaning form_of verdict_form refusal_form
returns-in-NoId c =
    formed c.args.s.now c.args.work.now c.in-NoId.is c.bytes-in-NoId.ensures

pub returns-in-RuleFalse : goal.returns-in-RuleFalse
unfolding meaning form_of verdict_form refusal_form
returns-in-RuleFalse c =
    formed c.args.s.now c.args.work.now c.in-RuleFalse.is c.rule_false.ensures

pub returns-in-RuleUnknown : goal.returns-in-RuleUnknown
unfolding meaning form_of verdict_form refusal_form
returns-in-RuleUnknown c =
    formed c.args.s.now c.args.work.now c.in-RuleUnknown.is c.rule_unknown.ensures

pub returns-in-NoOutcome : goal.returns-in-NoOutcome
unfolding meaning form_of verdict_form refusal_form
returns-in-NoOutcome c =
    formed c.args.s.now c.args.work.now c.in-NoOutcome.is c.bytes-in-NoOutcome.ensures

pub returns-in-GuardUnknown : goal.returns-in-GuardUnknown
unfolding meaning form_of verdict_form refusal_form
returns-in-GuardUnknown c =
    formed c.args.s.now c.args.work.now c.in-GuardUnknown.is c.guard_unknown.ensures

pub returns-in-WrongState : goal.returns-in-WrongState
unfolding meaning form_of verdict_form refusal_form
returns-in-WrongState c =
    formed c.args.s.now c.args.work.now c.in-WrongState.is c.refused_text-in-WrongState.ensures

pub returns-in-NotASource : goal.returns-in-NotASource
unfolding meaning form_of verdict_form refusal_form
returns-in-NotASource c =
    formed c.args.s.now c.args.work.now c.in-NotASource.is c.not_a_source.ensures
