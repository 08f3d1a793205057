-- `admission::sources::of_effect` meets its contract: a word leaves the state, and an object has its move under `moves`.
-- Assumes nothing.
use mathlib.Core.Path.{subst, sym, ◌∙◌}
use native.Mathlib.Omega.{arith}
use Rattle.strings.proofs.KindCodes.{is_kind, is_other}
use Rattle.strings.specs.declared.rows.Kind.TheVariants as kinds
use Rattle.members.specs.Outcome.{an_effect, or_stays}
use Rattle.rules.specs.Given.{SourcesAt}
use Rattle.rules.proofs.Eligibility.{there_room}
use Rattle.rules.proofs.Starting.{as_move, members_behind, move_node, no_move, none_stays, object_moving, word_stays}
use Rattle.admission.proofs.sources.of_effect.Goals as goal

pub kind_at-requires : goal.kind_at-requires
kind_at-requires c = there_room an_effect c.args.s.now _ c.in_ok-n.n c.in_ok-n.was c.requires

pub returns-in_err-n : goal.returns-in_err-n
returns-in_err-n c =
    λ f g. subst (SourcesAt c.args.s.now c.args.work.now (or_stays f)) (sym c.from_residual.ensures) (none_stays c.args.s.now c.args.work.now c.in_err-n.was f g)

pub returns-then-eq : goal.returns-then-eq
returns-then-eq c =
    word_stays c.args.s.now c.args.work.now c.in_ok-n.n c.in_ok-n.was (is_kind _ kinds.Text c.kind_at.ensures (sym c.if-eq.true ∙ c.eq.ensures))

pub after_at-end-requires : goal.after_at-end-requires
after_at-end-requires c = there_room an_effect c.args.s.now _ c.in_ok-n.n c.in_ok-n.was c.requires

pub overflow_add-n : goal.overflow_add-n
overflow_add-n c = omega (arith, (there_room an_effect c.args.s.now c.args.work.now c.in_ok-n.n c.in_ok-n.was c.requires).1)

pub named-requires : goal.named-requires
named-requires c =
    members_behind
    (object_moving c.args.s.now c.args.work.now c.in_ok-n.n c.in_ok-n.was (is_other _ kinds.Text c.kind_at.ensures (sym c.if-eq.false ∙ c.eq.ensures)) c.requires)
    c.after_at-end.ensures

pub returns-in_err-moves : goal.returns-in_err-moves
returns-in_err-moves c =
    no_move c.args.s.now c.args.work.now c.in_ok-n.n c.in_ok-n.was (is_other _ kinds.Text c.kind_at.ensures (sym c.if-eq.false ∙ c.eq.ensures))
    c.after_at-end.ensures c.named.ensures.told c.in_err-moves.was _

pub of_move-requires : goal.of_move-requires
of_move-requires c =
    move_node c.args.s.now c.args.work.now c.in_ok-n.n c.in_ok-n.was (is_other _ kinds.Text c.kind_at.ensures (sym c.if-eq.false ∙ c.eq.ensures))
    c.after_at-end.ensures c.named.ensures.told c.requires c.in_ok-moves.moves c.in_ok-moves.was

pub returns : goal.returns
returns c =
    as_move c.args.s.now c.args.work.now c.in_ok-n.n c.in_ok-n.was (is_other _ kinds.Text c.kind_at.ensures (sym c.if-eq.false ∙ c.eq.ensures))
    c.after_at-end.ensures c.named.ensures.told c.in_ok-moves.moves c.in_ok-moves.was _ c.of_move.ensures
