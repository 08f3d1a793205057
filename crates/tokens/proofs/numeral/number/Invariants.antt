-- `number` meets its contract: the rest of the number decides the whole.
-- Assumes nothing.
use Prim.Native.Nat.{◌-◌}
use lib.ListN.{length}
use Rattle.tokens.proofs.Numbers.{Numbering}
use Rattle.tokens.proofs.numeral.number.Given as goal

abbrev pub invariant-loop-here : goal.invariant-loop-here
invariant-loop-here l = Numbering l.s l.at l.place l.here

abbrev pub decreases-loop-here : goal.decreases-loop-here
decreases-loop-here l = length l.s - l.here
