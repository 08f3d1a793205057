-- `paths::member::member_of` meets its contract: what is found further on, or else what was found before, is the member.
-- Assumes nothing.
use native.Mathlib.Omega.{arith}
use Rattle.paths.proofs.Lookup.{found_none, found_some, name_there, pick_falls, pick_next, picked, picking, room_there}
use Rattle.paths.proofs.member.member_of.Goals as goal

pub overflow_add-k : goal.overflow_add-k
overflow_add-k c = omega (arith, c.requires.0.node)

pub loop-k-init : goal.loop-k-init
loop-k-init c = picking c.requires.1 _ c.after_at-end.ensures

pub start_at-name-requires : goal.start_at-name-requires
start_at-name-requires c =
    let h = room_there c.loop-k.invariant c.loop-k-test.true in
    record { rows = c.requires.0.rows; node = omega arith }

pub chosen-found-requires : goal.chosen-found-requires
chosen-found-requires c = (c.requires.2, name_there c.loop-k.invariant c.loop-k-test.true c.start_at-name.ensures)

pub after_at-k-requires : goal.after_at-k-requires
after_at-k-requires c = record { rows = c.requires.0.rows; node = room_there c.loop-k.invariant c.loop-k-test.true }

pub loop-k-smaller : goal.loop-k-smaller
loop-k-smaller c = let f = pick_falls c.loop-k.invariant c.loop-k-test.true c.after_at-k.ensures in omega (arith, f.0, f.1)

pub loop-k-preserved : goal.loop-k-preserved
loop-k-preserved c = pick_next c.loop-k.found c.loop-k.invariant c.loop-k-test.true c.start_at-name.ensures c.chosen-found.ensures c.after_at-k.ensures

pub returns-then-found-eq0 : goal.returns-then-found-eq0
returns-then-found-eq0 c = rw (found_none c.loop-k.found c.if-found-eq0.true) (picked c.loop-k.invariant c.loop-k-test.false)

pub returns-else-found-eq0 : goal.returns-else-found-eq0
returns-else-found-eq0 c = rw (found_some c.loop-k.found c.if-found-eq0.false) (picked c.loop-k.invariant c.loop-k-test.false)
