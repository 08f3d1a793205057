-- `opening::work::clear_rows` meets its contract: what it does not write is zero.
-- Assumes nothing.
use lib.ListN.{drop, length, length-append, length-drop}
use lib.Seq.{length-take-le}
use native.Mathlib.Omega.{arith}
use mathlib.Core.List.{◌++◌}
use mathlib.Core.Path.{ap, ◌∙◌, ◌≡◌}
use Prim.Native.Nat.{◌*◌, ◌≤◌}
use Rattle.opening.proofs.Clearing.{cleared_rows, filled}
use Rattle.opening.proofs.work.clear_rows.Goals as goal

pub returns : goal.returns
returns c =
    let n = 3 * c.after_at-count.result in
    let w = c.args.work.now in
    let few : n ≤ 12288 = omega (arith, c.after_at-count.ensures, c.requires.1.few) in
    let short = length-take-le n w (omega (arith, few, c.requires.0)) in
    let l = c.fill.new.self ++ drop n w in
    let long : length l ≡ length w = length-append c.fill.new.self (drop n w) ∙ omega (arith, length-drop n w, c.fill.ensures.len, short, few, c.requires.0) in
    let room : 4096 ≤ length (drop 12288 l) = omega (arith, length-drop 12288 l, long, c.requires.0) in
    cleared_rows c.requires.0 c.requires.1 n (ap (λ x. 3 * x) c.after_at-count.ensures) (filled n _ short c.fill.ensures.after)
    (filled 4096 _ (length-take-le 4096 (drop 12288 l) room) c.fill-2.ensures.after)
