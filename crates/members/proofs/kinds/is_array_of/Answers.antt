-- `is_array_of` meets its contract: an array, by its elements.
-- Assumes nothing.
use Rattle.strings.proofs.KindCodes.{is_kind, is_other}
use Rattle.strings.specs.declared.rows.Kind.TheVariants as kinds
use Rattle.members.proofs.Elements.{array_told}
use Rattle.members.proofs.Shapes.{no_array, tagged}
use Rattle.members.proofs.Walks.{room}
use Rattle.members.proofs.Wanted.{array_nodes}
use mathlib.Core.Path.{refl, ◌∙◌}
use Rattle.members.proofs.kinds.is_array_of.Goals as goal

pub kind_at-requires : goal.kind_at-requires
kind_at-requires g c = room c.requires.node

pub returns-else-eq : goal.returns-else-eq
returns-else-eq g c =
    λ p h. c.if-eq.false ∙
    no_array p _ (λ e. is_other _ kinds.Array refl c.if-eq.ensures (tagged c.requires.node _ c.kind_at.ensures ∙ e))

pub after_at-requires : goal.after_at-requires
after_at-requires g c = room c.requires.node

pub all_of-requires-clause-nodes : goal.all_of-requires-clause-nodes
all_of-requires-clause-nodes g c =
    array_nodes c.requires.node _ c.kind_at.ensures (is_kind _ kinds.Array refl c.if-eq.ensures) _ c.after_at.ensures

pub all_of-requires-clause-test : goal.all_of-requires-clause-test
all_of-requires-clause-test g c = c.requires.test

pub returns-then-eq : goal.returns-then-eq
returns-then-eq g c =
    λ p h. array_told c.requires.node _ c.kind_at.ensures (is_kind _ kinds.Array refl c.if-eq.ensures) _ c.after_at.ensures p
    (c.all_of.ensures p h)
