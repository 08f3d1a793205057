-- `order::order::link_names` meets its contract: what is chained is what the sort left.
-- Assumes nothing.
use mathlib.Core.List.{List}
use mathlib.Core.Path.{ap, subst, sym, ◌∙◌}
use Prim.Native.Nat.{ℕ}
use Rattle.order.proofs.ByText.{text_nodes_sorted}
use Rattle.order.proofs.Linking.{all_small}
use Rattle.order.specs.ByText.{by_key, key_at}
use Rattle.order.specs.Chained.{AllSmall, chained}
use Rattle.order.proofs.order.link_names.Goals as goal

pub chain-requires : goal.chain-requires
chain-requires c = (
  c.requires.0,
  subst AllSmall (sym c.sort.ensures)
      (all_small c.args.s.now c.args.work.now (by_key (key_at c.args.s.now c.args.work.now) c.args.names.now) (text_nodes_sorted c.args.s.now c.args.work.now c.args.names.now c.requires.1)),
)

pub returns : goal.returns
returns c =
    c.chain.ensures ∙ ap
    (λ (l : List ℕ). chained c.args.work.now c.args.node l c.args.end)
    c.sort.ensures
