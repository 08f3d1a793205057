-- `rules::alone::refused` meets its contract: by the case of the refusal.
-- Assumes nothing.
use Rattle.std.specs.Prelude.{Err}
use mathlib.Core.Path.{subst}
use Rattle.comparison.specs.Answers.{EvaluatedAs}
use Rattle.paths.specs.declared.operand.EvalError.{EvalError}
use Rattle.rules.specs.Alone.{RefusedAt}
use Rattle.rules.proofs.Unmarking.{expression_room, stops_no_id, stops_unknown}
use Rattle.rules.proofs.alone.refused.Goals as goal

pub start_at-requires : goal.start_at-requires
start_at-requires c = expression_room c.requires.0 (subst (RefusedAt c.requires.1.given c.args.work.now) c.in-UnknownExpression.is c.requires.1.known)

pub returns-in-UnknownExpression : goal.returns-in-UnknownExpression
returns-in-UnknownExpression c =
    λ s w x a. stops_unknown c.in-UnknownExpression.n (subst (λ (y : EvalError). EvaluatedAs s w c.args.work.now (Err y) x) c.in-UnknownExpression.is a)
    c.start_at.ensures

pub returns-in-NoId : goal.returns-in-NoId
returns-in-NoId c = λ s w x a. stops_no_id (subst (λ (y : EvalError). EvaluatedAs s w c.args.work.now (Err y) x) c.in-NoId.is a)
