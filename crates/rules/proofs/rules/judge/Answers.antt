-- `rules::rules::judge` meets its contract: by what its condition gives alone.
-- Assumes nothing.
use Rattle.std.specs.Prelude.{Ok}
use mathlib.Core.Path.{ap, ◌∙◌}
use Rattle.members.proofs.Walks.{room}
use Rattle.rules.proofs.Settling.{rule_false_lem, rule_here, rule_holds, rule_known, rule_members, rule_refused, rule_unknown_lem}
use Rattle.rules.proofs.Starting.{given_node, members_behind}
use Rattle.rules.proofs.rules.judge.Goals as goal

pub after_at-end-requires : goal.after_at-end-requires
after_at-end-requires c = room c.requires.2.known.node

pub members-r-requires : goal.members-r-requires
members-r-requires c = members_behind (rule_here c.requires.2.known) c.after_at-end.ensures

pub entry-named-requires : goal.entry-named-requires
entry-named-requires c = rule_known c.after_at-end.ensures c.members-r.ensures c.requires.2

pub evaluate_alone-requires : goal.evaluate_alone-requires
evaluate_alone-requires c = (
  c.requires.0,
  c.requires.1,
  record {
    given = c.requires.2.given.assert;
    known = given_node (rule_members c.after_at-end.ensures c.members-r.ensures c.requires.2.known).assert c.node_of.ensures;
  },
)

pub returns-in_err-evaluate_alone : goal.returns-in_err-evaluate_alone
returns-in_err-evaluate_alone c =
    λ sheet x a g. let m = rule_members c.after_at-end.ensures c.members-r.ensures g in
    rule_refused c.args.rules c.args.at.place x (c.evaluate_alone.ensures sheet x.assert a (given_node m.assert c.node_of.ensures)) c.in_err-evaluate_alone.field-0.0 c.in_err-evaluate_alone.was _
    c.from_residual.ensures.1

pub returns-in-True : goal.returns-in-True
returns-in-True c =
    λ sheet x a g. let m = rule_members c.after_at-end.ensures c.members-r.ensures g in
    rule_holds c.args.rules c.args.at.place x (c.evaluate_alone.ensures sheet x.assert a (given_node m.assert c.node_of.ensures)) (c.in_ok-evaluate_alone.was ∙ ap Ok c.in-True.is)

pub returns-in-False : goal.returns-in-False
returns-in-False c =
    λ sheet x a g. let m = rule_members c.after_at-end.ensures c.members-r.ensures g in
    rule_false_lem c.args.rules c.args.at.place x (c.evaluate_alone.ensures sheet x.assert a (given_node m.assert c.node_of.ensures))
    (c.entry-named.ensures c.args.s.now x m) (c.in_ok-evaluate_alone.was ∙ ap Ok c.in-False.is)

pub returns-in-Unknown : goal.returns-in-Unknown
returns-in-Unknown c =
    λ sheet x a g. let m = rule_members c.after_at-end.ensures c.members-r.ensures g in
    rule_unknown_lem c.args.rules c.args.at.place x (c.evaluate_alone.ensures sheet x.assert a (given_node m.assert c.node_of.ensures))
    (c.entry-named.ensures c.args.s.now x m) (c.in_ok-evaluate_alone.was ∙ ap Ok c.in-Unknown.is)
