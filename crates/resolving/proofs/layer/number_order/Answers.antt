-- `resolving::layer::number_order` meets its contract: a number of the sheet is short enough to be compared.
-- Assumes nothing.
use mathlib.Core.Path.{◌∙◌}
use Rattle.resolving.proofs.Layered.{digits_bounds, digits_short, digits_sliced, within_limit}
use Rattle.paths.proofs.Ordered.{node_below}
use Rattle.paths.specs.Stored.{table}
use native.Mathlib.Omega.{arith}
use Rattle.resolving.proofs.layer.number_order.Goals as goal

pub start_at-requires : goal.start_at-requires
start_at-requires c =
    record {
      rows = c.requires.0.rows;
      node = node_below c.args.s.now (table c.args.work.now)
          c.requires.1.node;
    }

pub end_at-requires : goal.end_at-requires
end_at-requires c =
    record {
      rows = c.requires.0.rows;
      node = node_below c.args.s.now (table c.args.work.now) c.requires.1.node;
    }

pub start_at-requires-2 : goal.start_at-requires-2
start_at-requires-2 c =
    record {
      rows = c.requires.0.rows;
      node = node_below c.args.s.now (table c.args.work.now) c.requires.2.node;
    }

pub end_at-requires-2 : goal.end_at-requires-2
end_at-requires-2 c =
    record {
      rows = c.requires.0.rows;
      node = node_below c.args.s.now (table c.args.work.now) c.requires.2.node;
    }

pub slice_bounds-a-count : goal.slice_bounds-a-count
slice_bounds-a-count c =
    let b = digits_bounds c.requires.1
    c.start_at.ensures c.end_at.ensures in
    omega (arith, b.0, b.1)

pub slice_bounds-a-start : goal.slice_bounds-a-start
slice_bounds-a-start c =
    let b = digits_bounds c.requires.1
    c.start_at.ensures c.end_at.ensures in
    omega (arith, b.0, b.1)

pub slice_bounds-a-end : goal.slice_bounds-a-end
slice_bounds-a-end c =
    let b = digits_bounds c.requires.1
    c.start_at.ensures c.end_at.ensures in
    omega (arith, b.0, b.1)

pub slice_bounds-b-count : goal.slice_bounds-b-count
slice_bounds-b-count c =
    let b = digits_bounds c.requires.2
    c.start_at-2.ensures c.end_at-2.ensures in
    omega (arith, b.0, b.1)

pub slice_bounds-b-start : goal.slice_bounds-b-start
slice_bounds-b-start c =
    let b = digits_bounds c.requires.2
    c.start_at-2.ensures c.end_at-2.ensures in
    omega (arith, b.0, b.1)

pub slice_bounds-b-end : goal.slice_bounds-b-end
slice_bounds-b-end c =
    let b = digits_bounds c.requires.2
    c.start_at-2.ensures c.end_at-2.ensures in
    omega (arith, b.0, b.1)

pub returns : goal.returns
returns c =
    let x = digits_sliced c.requires.1 c.start_at.ensures c.end_at.ensures in
    let y = digits_sliced c.requires.2 c.start_at-2.ensures c.end_at-2.ensures in
    (rw (x, y) at c.compare.ensures) ∙ within_limit _ _
    (digits_short c.requires.1 c.start_at.ensures c.end_at.ensures)
    (digits_short c.requires.2 c.start_at-2.ensures c.end_at-2.ensures)
