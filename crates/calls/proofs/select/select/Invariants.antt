-- `calls::select::select` meets its contract: the loop says that the selection from its node on is the whole selection.
-- Assumes nothing.
use Prim.Native.Nat.{◌-◌}
use Rattle.calls.proofs.Trying.{Trying}
use Rattle.calls.proofs.select.select.Given as goal

abbrev pub invariant-loop-here : goal.invariant-loop-here
invariant-loop-here l = Trying l.s l.m l.initial.work l.end l.work l.here.place l.here.node

abbrev pub decreases-loop-here : goal.decreases-loop-here
decreases-loop-here l = l.end - l.here.node
