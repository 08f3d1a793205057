-- `is_version` meets its contract: a number, by its characters.
-- Assumes nothing.
use mathlib.Core.Path.{sym, ◌∙◌}
use mathlib.Core.Path.{refl}
use Rattle.strings.proofs.KindCodes.{is_kind, is_other}
use Rattle.strings.specs.declared.rows.Kind.TheVariants as kinds
use Rattle.members.proofs.Shapes.{no_version, tagged}
use Rattle.members.proofs.Walks.{room}
use Rattle.members.proofs.Wanted.{version_places, version_told}
use Rattle.members.proofs.kinds.is_version.Goals as goal

pub kind_at-requires : goal.kind_at-requires
kind_at-requires c = room c.requires

pub returns-else-eq : goal.returns-else-eq
returns-else-eq c =
    c.if-eq.false ∙ no_version _ (λ e. is_other _ kinds.Number refl c.if-eq.ensures (tagged c.requires _ c.kind_at.ensures ∙ e))

pub start_at-requires : goal.start_at-requires
start_at-requires c = room c.requires

pub end_at-requires : goal.end_at-requires
end_at-requires c = room c.requires

pub slice_bounds-is_version_number-count : goal.slice_bounds-is_version_number-count
slice_bounds-is_version_number-count c =
    (version_places c.requires (sym (is_kind _ kinds.Number refl c.if-eq.ensures) ∙ c.kind_at.ensures) _ _ c.start_at.ensures c.end_at.ensures).0

pub slice_bounds-is_version_number-start : goal.slice_bounds-is_version_number-start
slice_bounds-is_version_number-start c =
    (version_places c.requires (sym (is_kind _ kinds.Number refl c.if-eq.ensures) ∙ c.kind_at.ensures) _ _ c.start_at.ensures c.end_at.ensures).0

pub slice_bounds-is_version_number-end : goal.slice_bounds-is_version_number-end
slice_bounds-is_version_number-end c =
    (version_places c.requires (sym (is_kind _ kinds.Number refl c.if-eq.ensures) ∙ c.kind_at.ensures) _ _ c.start_at.ensures c.end_at.ensures).1

pub returns-then-eq : goal.returns-then-eq
returns-then-eq c =
    version_told c.requires (sym (is_kind _ kinds.Number refl c.if-eq.ensures) ∙ c.kind_at.ensures) _ _ c.start_at.ensures c.end_at.ensures
    c.is_version_number.ensures
