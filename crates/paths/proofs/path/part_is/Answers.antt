-- `paths::path::part_is` meets its contract: up to the first escape or difference the bytes of the part and the text are those that stand there, and
-- the same.
-- Assumes nothing.
use mathlib.Core.Path.{sym, ◌∙◌}
use native.Mathlib.Omega.{arith}
use borrow.Author.Tests.{ne_eqb}
use Rattle.paths.proofs.Matching.{alongside, alongside_apart, alongside_dot, alongside_dots, alongside_end, alongside_in_name, alongside_in_path, alongside_on}
use Rattle.paths.proofs.path.part_is.Goals as goal

pub loop-name-init : goal.loop-name-init
loop-name-init c =
    alongside c.args.path.now c.args.s.now c.args.name c.requires.0 c.requires.1

pub bounds-path-n : goal.bounds-path-n
bounds-path-n c = alongside_in_path c.loop-name.invariant

pub overflow_add-d : goal.overflow_add-d
overflow_add-d c = omega (arith, alongside_in_name c.loop-name.invariant)

pub bounds-s-name : goal.bounds-s-name
bounds-s-name c = alongside_in_name c.loop-name.invariant

pub overflow_add-name : goal.overflow_add-name
overflow_add-name c = omega (arith, alongside_in_name c.loop-name.invariant)

pub part_decoded-requires : goal.part_decoded-requires
part_decoded-requires c =
    (c.loop-name.invariant.on_path, c.loop-name.invariant.on_name)

pub returns-then-c-eq92 : goal.returns-then-c-eq92
returns-then-c-eq92 c = c.part_decoded.ensures ∙ sym c.loop-name.invariant.same

pub returns-then-c-eq46 : goal.returns-then-c-eq46
returns-then-c-eq46 c =
    alongside_dot c.loop-name.invariant c.if-c-eq46.true
    c.if-d-eq92.false

pub returns-else-c-eq46 : goal.returns-else-c-eq46
returns-else-c-eq46 c =
    ne_eqb _ 46 c.if-c-eq46.false ∙ alongside_apart
    c.loop-name.invariant c.if-c-d.true
    c.if-c-eq92.false c.if-d-eq92.false c.if-c-eq46.false

pub overflow_add-name-then-c-eq92-2 : goal.overflow_add-name-then-c-eq92-2
overflow_add-name-then-c-eq92-2 c = omega (arith, alongside_in_name c.loop-name.invariant)

pub part_decoded-requires-then-c-eq92-2 : goal.part_decoded-requires-then-c-eq92-2
part_decoded-requires-then-c-eq92-2 c =
    (c.loop-name.invariant.on_path, c.loop-name.invariant.on_name)

pub returns-then-c-eq92-2 : goal.returns-then-c-eq92-2
returns-then-c-eq92-2 c = c.part_decoded-then-c-eq92-2.ensures ∙ sym c.loop-name.invariant.same

pub returns-then-c-eq34 : goal.returns-then-c-eq34
returns-then-c-eq34 c =
    alongside_end c.loop-name.invariant c.if-c-d.false
    c.if-c-eq34.true

pub returns-then-c-eq46-2 : goal.returns-then-c-eq46-2
returns-then-c-eq46-2 c =
    alongside_dots c.loop-name.invariant
    c.if-c-d.false c.if-c-eq46-2.true

pub overflow_add-n : goal.overflow_add-n
overflow_add-n c = omega (arith, alongside_in_path c.loop-name.invariant)

pub loop-name-smaller : goal.loop-name-smaller
loop-name-smaller c = omega (arith, alongside_in_path c.loop-name.invariant)

pub loop-name-preserved : goal.loop-name-preserved
loop-name-preserved c =
    alongside_on c.loop-name.invariant
    c.if-c-d.false c.if-c-eq92-2.false c.if-c-eq34.false
    c.if-c-eq46-2.false
