-- The cycle of touching, looking up, stepping and walking on meets its contracts: each return is a law of the definition's own step. What falls is the
-- number of expressions left, and within one the length of the path. Assumes nothing.
use Prim.Native.Nat.{◌+◌, ◌*◌}
use lib.ListN.{length}
use Rattle.resolving.proofs.reach.+look_up_step_to_touch_at_walk_on.Given as goal

abbrev pub decreases-look_up : goal.decreases-look_up
decreases-look_up l = 40000 * l.left + length l.path.now + 3

abbrev pub decreases-step_to : goal.decreases-step_to
decreases-step_to l = 40000 * l.left + 1

abbrev pub decreases-touch_at : goal.decreases-touch_at
decreases-touch_at l = 40000 * l.left

abbrev pub decreases-walk_on : goal.decreases-walk_on
decreases-walk_on l = 40000 * l.left + length l.path.now + 2
