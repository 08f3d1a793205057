-- `strings::text::compare` meets its contract: up to the first escape or difference the bytes of both texts are those of the sheet, and the same.
-- Assumes nothing.
use Prim.Native.Nat.{◌-◌}
use lib.ListN.{length}
use Rattle.json_text.proofs.Cursor.{Abreast}
use Rattle.strings.proofs.text.compare.Given as goal

abbrev pub invariant-loop-a : goal.invariant-loop-a
invariant-loop-a l = Abreast l.s l.a l.b l.n

abbrev pub decreases-loop-a : goal.decreases-loop-a
decreases-loop-a l = length l.s - l.n
