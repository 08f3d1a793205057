-- `calls::call::rules_call` meets its contract: the rules of the member that is asked.
-- Assumes nothing.
use mathlib.Core.Path.{ap, subst, sym, ◌∙◌, ◌≡◌}
use Rattle.answers.specs.Verdict.{Verdict}
use Rattle.calls.proofs.Deciding.{check_refused, checked, its_rules, member, rules_call_is, rules_given}
use Rattle.json_text.specs.Refusal.{Result}
use Rattle.rules.specs.Told.{Answered}
use Rattle.writer.specs.declared.answer.Answer.TheVariants as answers
use Rattle.writer.specs.declared.answer.Rules.{Rules}
use Rattle.calls.proofs.call.rules_call.Goals as goal
use Rattle.calls.proofs.call.rules_call.Goals.{in-Invariants, in-Preconditions}

pub check-requires : goal.check-requires
check-requires c =
    let q : c.match-rules.node ≡ member c.args.rules c.args.m =
    elim c.match-rules.branch [
      | in-Preconditions w ↦ w.node-is ∙ sym (ap (λ (k : Rules). member k c.args.m) w.in-Preconditions.is)
      | in-Invariants w ↦ w.node-is ∙ sym (ap (λ (k : Rules). member k c.args.m) w.in-Invariants.is)
    ] in
    (c.requires.0, c.requires.1, record { given = its_rules c.args.rules c.requires.1.given; known = rules_given c.args.rules c.requires.1.known q })

pub returns-in-Ok : goal.returns-in-Ok
returns-in-Ok c =
    let q : c.match-rules.node ≡ member c.args.rules c.args.m =
    elim c.match-rules.branch [
      | in-Preconditions w ↦ w.node-is ∙ sym (ap (λ (k : Rules). member k c.args.m) w.in-Preconditions.is)
      | in-Invariants w ↦ w.node-is ∙ sym (ap (λ (k : Rules). member k c.args.m) w.in-Invariants.is)
    ] in
    λ sheet a. subst (λ (x : Result Verdict). Answered c.args.s.now c.args.work.now c.check.new.work x answers.Passed) (rules_call_is c.args.rules sheet)
    (checked (c.check.ensures sheet (its_rules c.args.rules sheet) a (rules_given c.args.rules a q)) c.in-Ok.is)

pub returns-in-Err : goal.returns-in-Err
returns-in-Err c =
    let q : c.match-rules.node ≡ member c.args.rules c.args.m =
    elim c.match-rules.branch [
      | in-Preconditions w ↦ w.node-is ∙ sym (ap (λ (k : Rules). member k c.args.m) w.in-Preconditions.is)
      | in-Invariants w ↦ w.node-is ∙ sym (ap (λ (k : Rules). member k c.args.m) w.in-Invariants.is)
    ] in
    λ sheet a. subst (λ (x : Result Verdict). Answered c.args.s.now c.args.work.now c.check.new.work x c.in-Err.a) (rules_call_is c.args.rules sheet)
    (check_refused (c.check.ensures sheet (its_rules c.args.rules sheet) a (rules_given c.args.rules a q)) c.in-Err.a c.in-Err.is)
