-- `search::borders::fill` meets its contract: the part is looked for in itself, and each place reached has its entry.
-- Assumes nothing.
use mathlib.Core.Path.{◌≡◌}
use Prim.Native.Nat.{◌*◌, ◌+◌, ◌-◌, ◌≤◌}
use lib.ListN.{length}
use Rattle.search.proofs.Laws.{Filling}
use Rattle.search.proofs.borders.fill.Given as goal

abbrev pub invariant-loop-start : goal.invariant-loop-start
invariant-loop-start l =
    (length l.part ≤ 65536) × (l.n ≡ length l.part) × (length l.table ≡ length l.initial.table) × Filling l.part l.table l.start l.k

abbrev pub decreases-loop-start : goal.decreases-loop-start
decreases-loop-start l = 2 * length l.part - (2 * l.start + l.k)
