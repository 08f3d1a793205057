-- `chain` meets its contract: the links that are written, and those still to be, are the whole chain.
-- Assumes nothing.
use native.Mathlib.Omega.{arith}
use mathlib.Core.Path.{ap, refl, ◌∙◌}
use lib.ListN.{length, length-set}
use Rattle.order.proofs.Chains.{chained_end, chained_step}
use Rattle.order.proofs.links.chain.Goals as goal

pub loop-name-init : goal.loop-name-init
loop-name-init c = record { long = refl; here = c.requires.0.here; within = omega arith; same = refl }

pub link-requires : goal.link-requires
link-requires c =
    record {
      long = omega (arith, c.loop-name.invariant.long, c.requires.0.long);
      here = c.loop-name.invariant.here;
      there = omega (arith, c.requires.1 c.loop-name.name-index c.loop-name-test.true);
    }

pub loop-name-preserved : goal.loop-name-preserved
loop-name-preserved c =
    rw (c.link.ensures, c.from-next.ensures)
    (chained_step c.loop-name.invariant c.loop-name-test.true
    c.requires.1)

pub link-requires-2 : goal.link-requires-2
link-requires-2 c =
    record {
      long = omega (arith, c.loop-name.invariant.long, c.requires.0.long);
      here = c.loop-name.invariant.here;
      there = c.requires.0.there;
    }

pub shape_of-work : goal.shape_of-work
shape_of-work c =
    ap length c.link-2.ensures ∙ length-set c.loop-name.work _ _ ∙ c.loop-name.invariant.long

pub returns : goal.returns
returns c =
    c.link-2.ensures ∙ chained_end c.loop-name.invariant
    c.loop-name-test.false
