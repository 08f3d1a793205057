-- `sheet::written::under` meets its contract: from what `condition` says of the member that was found.
-- Assumes nothing.
use Rattle.strings.specs.declared.rows.Kind.TheVariants as kinds
use mathlib.Core.Path.{refl, ◌≡◌}
use Rattle.std.specs.Prelude.{None}
use borrow.Author.Rules.{rules}
use Rattle.strings.proofs.KindCodes.{is_kind, is_other}
use Rattle.sheet.proofs.Rules.{object_members}
use Rattle.members.proofs.Soundness.{under_found, under_missing, under_none}
use Rattle.members.proofs.Walks.{room}
use Rattle.members.proofs.Wanted.{found_node}
use Rattle.members.specs.Answers.{fault_is}
use Rattle.sheet.proofs.written.under.Goals.{else-eq-via-else-eq, else-eq-via-then-eq+in-None-1}
use Rattle.sheet.proofs.written.under.Goals as goal

pub kind_at-requires : goal.kind_at-requires
kind_at-requires c = room c.requires

pub after_at-requires : goal.after_at-requires
after_at-requires c = room c.requires

pub named-requires : goal.named-requires
named-requires c =
    object_members c.requires _
    c.kind_at.ensures (is_kind _ kinds.Object refl c.if-eq.ensures) _ c.after_at.ensures

pub condition-requires : goal.condition-requires
condition-requires c =
    found_node c.in-Some.n c.in-Some.is
    c.named.ensures.told.bounds

pub returns-in-Some : goal.returns-in-Some
returns-in-Some c =
    under_found c.requires _ c.kind_at.ensures
    c.args.word.now (is_kind _ kinds.Object refl c.if-eq.ensures) _
    c.after_at.ensures _ c.named.ensures.told.answers
    c.in-Some.n c.in-Some.is c.condition.ensures

pub returns-else-eq : goal.returns-else-eq
unfolding fault_is
returns-else-eq c =
    elim c.else-eq.branch [
      | else-eq-via-else-eq w ↦
          under_none c.requires _ c.kind_at.ensures c.args.word.now (is_other _ kinds.Object refl w.if-eq.ensures)
      | else-eq-via-then-eq+in-None-1 w ↦
          let none : w.named.result ≡ None = search rules in
          under_missing c.requires _ c.kind_at.ensures c.args.word.now (is_kind _ kinds.Object refl w.if-eq.ensures) _
          w.after_at.ensures _ w.named.ensures.told.answers none
    ]
