-- `admission::texts::is_one_of` meets its contract: one text is compared, and the texts of an array are searched.
-- Assumes nothing.
use mathlib.Core.Path.{sym, ◌∙◌}
use Rattle.strings.proofs.KindCodes.{is_kind, is_other}
use Rattle.strings.specs.declared.rows.Kind.TheVariants as kinds
use Rattle.members.proofs.Walks.{room}
use Rattle.admission.proofs.Among.{alone_on_text, alone_same, behind}
use Rattle.admission.proofs.texts.is_one_of.Goals as goal

pub kind_at-requires : goal.kind_at-requires
kind_at-requires c = room c.requires.0.known.node

pub start_at-requires : goal.start_at-requires
start_at-requires c = room c.requires.0.known.node

pub same-requires : goal.same-requires
same-requires c = (
  c.requires.1,
  alone_on_text c.requires.0.known (is_kind _ kinds.Text c.kind_at.ensures (sym c.if-eq.true ∙ c.eq.ensures))
      c.start_at.ensures,
)

pub returns-then-eq : goal.returns-then-eq
returns-then-eq c =
    λ ts g. alone_same g (is_kind _ kinds.Text c.kind_at.ensures (sym c.if-eq.true ∙ c.eq.ensures))
    c.start_at.ensures _ _ c.same.ensures

pub after_at-requires : goal.after_at-requires
after_at-requires c = room c.requires.0.known.node

pub is_among-requires : goal.is_among-requires
is_among-requires c = (
  record {
    given = c.requires.0.given;
    known = behind c.requires.0.known (is_other _ kinds.Text c.kind_at.ensures (sym c.if-eq.false ∙ c.eq.ensures))
        c.after_at.ensures;
  },
  c.requires.1,
)

pub returns-else-eq : goal.returns-else-eq
returns-else-eq c =
    λ ts g. c.is_among.ensures ts
    (behind g (is_other _ kinds.Text c.kind_at.ensures (sym c.if-eq.false ∙ c.eq.ensures))
    c.after_at.ensures)
