-- `order::sort::sort` meets its contract: a few are inserted one by one; else each half is shorter than the whole, and the two are sorted and joined.
-- Assumes nothing.
use mathlib.Core.Path.{sym}
use Prim.Native.Nat.{◌-◌, ◌/◌, ◌<◌, ◌≤◌}
use native.Mathlib.Omega.{arith}
use lib.ListN.{length}
use lib.Seq.{length-take-le}
use borrow.Author.Rules.{rules}
use Rattle.order.proofs.ByText.{text_take}
use Rattle.order.proofs.Joining.{all_sorted, joinable, second_long, second_texts}
use Rattle.order.proofs.sort.+sort.Goals as goal

pub insert_each-requires : goal.insert_each-requires
insert_each-requires t c =
    (c.requires.0, c.requires.1)

pub returns-then-n-lt9 : goal.returns-then-n-lt9
returns-then-n-lt9 t c = c.insert_each.ensures

pub slice_bounds-sort-end-2 : goal.slice_bounds-sort-end-2
slice_bounds-sort-end-2 t c =
    sym (length-take-le (length c.args.nodes.now / 2) c.args.nodes.now (omega arith))

pub sort-requires : goal.sort-requires
sort-requires t c =
    let mid = length c.args.nodes.now / 2 in
    let l = length-take-le mid c.args.nodes.now (omega arith) in
    let falls : mid < t = omega arith in
    let fits : mid ≤ length c.args.spare.now = omega arith in
    (rw l falls, (c.requires.0, text_take c.args.s.now c.args.work.now c.args.nodes.now mid c.requires.1, rw l fits))

pub sort-requires-2 : goal.sort-requires-2
sort-requires-2 t c =
    let mid = length c.args.nodes.now / 2 in
    let l = second_long c.args.s.now c.args.work.now c.args.nodes.now c.sort.new.nodes mid (omega arith)
    c.sort.ensures in
    let falls : length c.args.nodes.now - mid < t = omega arith in (
      rw l falls,
      (
        c.requires.0,
        second_texts c.args.s.now c.args.work.now c.args.nodes.now c.sort.new.nodes mid (omega arith)
            c.sort.ensures c.requires.1,
        rw l (search rules),
      ),
    )

pub join-requires : goal.join-requires
join-requires t c =
    let mid = length c.args.nodes.now / 2 in (
      joinable c.args.s.now c.args.work.now c.args.nodes.now c.sort.new.nodes mid (omega arith)
          c.sort.ensures c.sort-2.new.nodes c.sort-2.ensures c.requires.0 c.requires.1
          (omega arith) (omega arith),
      search rules,
    )

pub returns : goal.returns
returns t c =
    let mid = length c.args.nodes.now / 2 in
    all_sorted c.args.s.now c.args.work.now c.args.nodes.now c.sort.new.nodes mid (omega arith)
    c.sort.ensures c.sort-2.new.nodes c.sort-2.ensures _
    c.join.ensures
