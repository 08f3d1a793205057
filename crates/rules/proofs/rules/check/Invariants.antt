-- `rules::rules::check` meets its contract: the loop says that the rules from its node on settle the whole.
-- Assumes nothing.
use Prim.Native.Nat.{◌-◌}
use Rattle.rules.proofs.Checking.{Checking}
use Rattle.rules.proofs.rules.check.Given as goal

abbrev pub invariant-loop-at : goal.invariant-loop-at
invariant-loop-at l = Checking l.s l.initial.work l.m l.rules l.node l.end l.work l.at.place l.at.node

abbrev pub decreases-loop-at : goal.decreases-loop-at
decreases-loop-at l = l.end - l.at.node
