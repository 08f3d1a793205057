-- `order::order::order_at` meets its contract: what is linked are the names that were gathered.
-- Assumes nothing.
use mathlib.Core.List.{List}
use mathlib.Core.Path.{ap, subst, sym, ◌∙◌}
use Prim.Native.Nat.{ℕ, ◌+◌}
use native.Mathlib.Omega.{arith}
use lib.ListN.{length}
use lib.Seq.{length-take-le}
use Rattle.json_text.specs.Held.{HasMembers}
use Rattle.json_text.specs.KeyOrder.{names_at, nodes_of}
use Rattle.order.proofs.Linking.{members_within, names_text}
use Rattle.order.proofs.Names.{names_few}
use Rattle.order.specs.ByText.{TextNodes, by_key, key_at}
use Rattle.order.specs.Chained.{chained}
use Rattle.order.proofs.order.order_at.Goals as goal

pub gather-count-requires : goal.gather-count-requires
gather-count-requires c =
    record {
      long = c.requires.long;
      sheet = c.args.s.now;
      members = rw c.after_at-end.ensures c.requires.members;
      enough = omega (arith, c.after_at-end.ensures, c.requires.members.members.most, c.requires.room);
    }

pub slice_bounds-link_names-end-2 : goal.slice_bounds-link_names-end-2
slice_bounds-link_names-end-2 c =
    sym (length-take-le c.gather-count.result _ c.gather-count.ensures.few)

pub link_names-requires : goal.link_names-requires
link_names-requires c =
    let nodes = c.gather-count.ensures.nodes c.args.s.now in
    let members : HasMembers c.args.s.now c.args.work.now (c.args.node + 1) c.after_at-end.result = rw c.after_at-end.ensures
    c.requires.members in (
      record {
        long = c.requires.long;
        here = omega (arith, members_within members);
        there = (members_within members).1;
      },
      subst (λ (l : List ℕ). TextNodes c.args.s.now c.args.work.now l) (sym nodes) (names_text members),
      omega (arith, ap length nodes, names_few c.args.s.now c.args.work.now members, members_within members, c.requires.more),
    )

pub returns : goal.returns
returns c =
    c.link_names.ensures ∙ ap
    (λ (l : List ℕ). chained c.args.work.now c.args.node (by_key (key_at c.args.s.now c.args.work.now) l) c.after_at-end.result)
    (c.gather-count.ensures.nodes c.args.s.now) ∙ ap
    (λ (e : ℕ). chained c.args.work.now c.args.node (by_key (key_at c.args.s.now c.args.work.now) (nodes_of (names_at c.args.s.now c.args.work.now (c.args.node + 1) e))) e)
    c.after_at-end.ensures
