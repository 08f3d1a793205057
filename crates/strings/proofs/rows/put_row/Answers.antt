-- `reader::rows::put_row` meets its contract: three stores are the run of the row.
-- Assumes nothing.
use lib.ListN.{length-set}
use Prim.Native.Nat.{suc, ◌+◌, ◌*◌}
use mathlib.Core.Path.{◌≡◌}
use native.Mathlib.Omega.{arith}
use Rattle.strings.proofs.rows.put_row.Goals as goal

pub bounds-work-at-2 : goal.bounds-work-at-2
bounds-work-at-2 c = simp length-set (omega arith)

pub bounds-work-at-3 : goal.bounds-work-at-3
bounds-work-at-3 c = simp length-set (omega arith)

pub returns : goal.returns
returns c =
    let n = 3 * c.args.node in
    let e : suc n ≡ n + 1 = omega arith in
    let f : suc (n + 1) ≡ n + 2 = omega arith in
    rw (e, f, c.code.ensures)
