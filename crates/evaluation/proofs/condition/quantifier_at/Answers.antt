-- The parts of a quantifier meet their contract: each is the node of the member that its word names.
-- Assumes nothing.
use Rattle.evaluation.proofs.Quantifiers.{binder_room, quantifier_members, quantifier_parts}
use Rattle.evaluation.proofs.condition.quantifier_at.Goals as goal

pub named-requires-3 : goal.named-requires-3
named-requires-3 c = quantifier_members c.args.work.now c.requires.1.known.known c.after_at-end.ensures

pub named-requires : goal.named-requires
named-requires c = quantifier_members c.args.work.now c.requires.1.known.known c.after_at-end.ensures

pub named-requires-2 : goal.named-requires-2
named-requires-2 c = quantifier_members c.args.work.now c.requires.1.known.known c.after_at-end.ensures

pub start_at-requires : goal.start_at-requires
start_at-requires c =
    record {
      rows = c.requires.0.rows;
      node = binder_room c.args.work.now c.requires.1.known.known c.after_at-end.ensures c.named.ensures c.unwrap_or-bind.ensures;
    }

pub returns-clause-parts : goal.returns-clause-parts
returns-clause-parts c = λ m d h. quantifier_parts c.args.work.now h c.after_at-end.ensures _ c.named-2.ensures c.named.ensures c.named-3.ensures
    c.unwrap_or.ensures c.unwrap_or-bind.ensures c.start_at.ensures c.unwrap_or-2.ensures
