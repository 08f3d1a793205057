-- `printing::lines::answer_lines` meets its contract: the answers put so far stand for what was used.
-- Assumes nothing.
use mathlib.Core.Path.{refl, ◌∙◌}
use Prim.Native.Nat.{◌+◌, ◌-◌, ◌≤◌}
use native.Mathlib.Omega.{arith}
use lib.ListN.{length, length-drop, length-take}
use Rattle.printing.proofs.Answering.{all_lines, answering, full, line_inside, one_line, part_back}
use Rattle.printing.proofs.Printing.{shown_fits}
use Rattle.printing.proofs.lines.answer_lines.Goals as goal

pub loop-out-init : goal.loop-out-init
loop-out-init c =
    (refl, refl, answering c.args.input.now c.args.out.now)

pub returns-then-stop-input : goal.returns-then-stop-input
returns-then-stop-input c = all_lines c.loop-out.invariant.2 c.line_end-stop.ensures c.if-stop-input.true

pub slice_bounds-answer-end : goal.slice_bounds-answer-end
slice_bounds-answer-end c =
    omega (arith, line_inside c.loop-out.invariant.2 c.line_end-stop.ensures c.if-stop-input.false)

pub answer-put-requires : goal.answer-put-requires
answer-put-requires c = (
  c.loop-out.invariant.0 ∙ c.requires.0,
  simp (length-take, length-drop)
      (omega (
        arith,
        c.loop-out.invariant.2.fits,
        c.loop-out-test.true,
      )),
)

pub overflow_add-put : goal.overflow_add-put
overflow_add-put c =
    let room : c.loop-out.put + (c.loop-out.put + 65536 - c.loop-out.put) ≤ length c.loop-out.out =
    omega (arith, c.loop-out.invariant.2.fits, c.loop-out-test.true) in
    omega (
      arith,
      shown_fits c.answer-put.ensures,
      (part_back c.loop-out.out c.loop-out.put (c.loop-out.put + 65536 - c.loop-out.put) c.answer-put.new.out room
          c.answer-put.auto.out).0,
      room,
      c.loop-out.invariant.1,
    )

pub loop-out-preserved : goal.loop-out-preserved
loop-out-preserved c =
    let room : c.loop-out.put + (c.loop-out.put + 65536 - c.loop-out.put) ≤ length c.loop-out.out =
    omega (arith, c.loop-out.invariant.2.fits, c.loop-out-test.true) in (
      c.answer-put.auto.work ∙ c.loop-out.invariant.0,
      (part_back c.loop-out.out c.loop-out.put (c.loop-out.put + 65536 - c.loop-out.put) c.answer-put.new.out room
          c.answer-put.auto.out).1 ∙ c.loop-out.invariant.1,
      one_line c.loop-out.invariant.2 c.line_end-stop.ensures c.if-stop-input.false (c.loop-out.put + 65536 - c.loop-out.put)
          c.answer-put.ensures c.answer-put.auto.out room,
    )

pub returns : goal.returns
returns c =
    full c.loop-out.invariant.2
    (omega (arith, c.loop-out.invariant.1, c.requires.1))
    c.loop-out-test.false
