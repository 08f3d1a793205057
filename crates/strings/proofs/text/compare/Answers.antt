-- `strings::text::compare` meets its contract: up to the first escape or difference the bytes of both texts are those of the sheet, and the same.
-- Assumes nothing.
use mathlib.Core.Path.{◌∙◌}
use native.Mathlib.Omega.{arith}
use Rattle.json_text.proofs.Cursor.{abreast, abreast_end, abreast_in_a, abreast_in_b, abreast_on, text_begins}
use Rattle.strings.proofs.Leaves.{order_differ}
use Rattle.strings.proofs.text.compare.Goals as goal

pub loop-a-init : goal.loop-a-init
loop-a-init c =
    abreast c.args.s.now c.args.a c.args.b c.requires.0 c.requires.1

pub overflow_add-c : goal.overflow_add-c
overflow_add-c c = omega (arith, abreast_in_a c.loop-a.invariant)

pub bounds-s-a : goal.bounds-s-a
bounds-s-a c = abreast_in_a c.loop-a.invariant

pub overflow_add-d : goal.overflow_add-d
overflow_add-d c = omega (arith, abreast_in_b c.loop-a.invariant)

pub bounds-s-b : goal.bounds-s-b
bounds-s-b c = abreast_in_b c.loop-a.invariant

pub overflow_add-a : goal.overflow_add-a
overflow_add-a c = omega (arith, abreast_in_a c.loop-a.invariant)

pub overflow_add-b : goal.overflow_add-b
overflow_add-b c = omega (arith, abreast_in_b c.loop-a.invariant)

pub compare_decoded-requires : goal.compare_decoded-requires
compare_decoded-requires c =
    (c.loop-a.invariant.on_a, c.loop-a.invariant.on_b)

pub returns-then-c-eq34 : goal.returns-then-c-eq34
returns-then-c-eq34 c = c.loop-a.invariant.same ∙ c.compare_decoded.ensures

pub returns-then-c-d : goal.returns-then-c-d
returns-then-c-d c =
    rw c.cmp.ensures
    (c.loop-a.invariant.same ∙
    order_differ (text_begins c.loop-a.invariant.on_a c.if-c-eq34.false c.if-c-eq92.false) (text_begins c.loop-a.invariant.on_b c.if-d-eq34.false c.if-d-eq92.false)
    c.if-c-d.true)

pub returns-then-c-eq34-2 : goal.returns-then-c-eq34-2
returns-then-c-eq34-2 c = abreast_end c.loop-a.invariant c.if-c-d.false c.if-c-eq34-2.true

pub overflow_add-a-then-c-eq92-2 : goal.overflow_add-a-then-c-eq92-2
overflow_add-a-then-c-eq92-2 c = omega (arith, abreast_in_a c.loop-a.invariant)

pub overflow_add-b-then-c-eq92-2 : goal.overflow_add-b-then-c-eq92-2
overflow_add-b-then-c-eq92-2 c = omega (arith, abreast_in_b c.loop-a.invariant)

pub compare_decoded-requires-then-c-eq92-2 : goal.compare_decoded-requires-then-c-eq92-2
compare_decoded-requires-then-c-eq92-2 c =
    (c.loop-a.invariant.on_a, c.loop-a.invariant.on_b)

pub returns-then-c-eq92-2 : goal.returns-then-c-eq92-2
returns-then-c-eq92-2 c = c.loop-a.invariant.same ∙ c.compare_decoded-then-c-eq92-2.ensures

pub overflow_add-n : goal.overflow_add-n
overflow_add-n c = omega (arith, abreast_in_a c.loop-a.invariant)

pub loop-a-smaller : goal.loop-a-smaller
loop-a-smaller c = omega (arith, abreast_in_a c.loop-a.invariant)

pub loop-a-preserved : goal.loop-a-preserved
loop-a-preserved c =
    abreast_on c.loop-a.invariant c.if-c-eq34-2.false c.if-c-eq92-2.false
    c.if-c-d.false
