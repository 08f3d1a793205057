-- `opening::open::open` meets its contract: by what reading says, then by the shape of the linked table.
-- Assumes nothing.
use Rattle.opening.proofs.Opening.{opened_sheet, stopped_reading, stopped_shape, stored, unordered}
use Rattle.opening.proofs.open.open.Goals as goal

pub order-requires : goal.order-requires
order-requires c = unordered c.read.ensures c.in_ok-read.field-0 c.in_ok-read.was c.read.auto.work

pub shape_of-requires : goal.shape_of-requires
shape_of-requires c = stored c.read.ensures c.in_ok-read.field-0 c.in_ok-read.was c.order.ensures

pub returns-in_err-read : goal.returns-in_err-read
returns-in_err-read c = stopped_reading c.read.ensures c.in_err-read.field-0.0 c.in_err-read.was _ c.from_residual.ensures.1

pub returns-in_err-shape_of : goal.returns-in_err-shape_of
returns-in_err-shape_of c =
    stopped_shape c.read.ensures c.in_ok-read.field-0 c.in_ok-read.was c.order.ensures c.shape_of.ensures c.in_err-shape_of.field-0.0 c.in_err-shape_of.was _
    c.from_residual-in_err-shape_of.ensures.1

pub returns : goal.returns
returns c =
    opened_sheet c.read.ensures c.in_ok-read.field-0 c.in_ok-read.was c.order.ensures c.shape_of.ensures c.in_ok-shape_of.field-0 c.in_ok-shape_of.was
