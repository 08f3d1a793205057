-- `sheet::shape::placed` meets its contract: each required member by its node.
-- Assumes nothing.
use Rattle.sheet.proofs.Accepted.{same_members}
use Rattle.sheet.proofs.shape.placed.Goals as goal

pub returns : goal.returns
returns c =
    same_members c.args.m _ _ _ _ _ _ _ _ _ _
    c.node_of.ensures c.node_of-2.ensures
    c.node_of-3.ensures c.node_of-4.ensures
    c.node_of-5.ensures
    c.node_of-6.ensures c.node_of-7.ensures
    c.node_of-8.ensures c.node_of-9.ensures c.node_of-10.ensures
