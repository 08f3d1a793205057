-- The cycle of `reader::tree::value`, `array` and `object` meets its contracts: the measures are the brackets left, doubled; each loop says what its separator decides.
-- Assumes nothing.
use mathlib.Core.Path.{refl, subst, sym, ◌∙◌, ◌≡◌}
use native.Mathlib.Omega.{arith}
use mathlib.Core.Bool.{Bool, false, true}
use mathlib.Core.List.{List}
use lib.ListN.{get_or}
use Rattle.json_text.specs.Placing.{read_at}
use Rattle.strings.specs.declared.answer.Refusal.TheVariants as whys
use Rattle.leaves.specs.declared.bracket.Sep.TheVariants as seps
use Rattle.reader.proofs.ArrayLoop.{array_end, array_here, array_laid, array_long, array_neither, array_on, array_past, array_refused, array_starts, array_turn, reach_falls, was_done}
use Rattle.leaves.proofs.Loops.{array_full, object_full, past_end}
use Rattle.reader.proofs.ObjectLoop.{
  name_was_bad,
  name_was,
  object_end,
  object_here,
  object_laid,
  object_long,
  object_members,
  object_name_bad,
  object_neither,
  object_noted,
  object_on,
  object_past,
  object_starts,
  object_turn,
  object_value_bad,
  object_value_here,
  object_value_long,
}
use Rattle.leaves.proofs.Values.{handed_on, told_bad, value_array, value_leaf, value_object}
use Rattle.reader.proofs.tree.+array_object_value.Goals as goal

pub array-returns-then-node-ge4096 : goal.array-returns-then-node-ge4096
array-returns-then-node-ge4096 t c =
    record {
      parsed = told_bad _ c.args.work.now _ c.args.node whys.TooManyNodes
          (array_full c.args.s.now (read_at c.args.left c.args.s.now) c.args.node c.args.at c.if-node-ge4096.true) refl;
      grown = λ i e. e;
    }

pub array-loop-sep-init : goal.array-loop-sep-init
array-loop-sep-init t c =
    record {
      state = array_starts c.args.s.now c.args.left c.args.at c.args.node c.args.work.now c.opening-sep.result
          c.requires.1 c.if-node-ge4096.false c.opening-sep.ensures;
      grown = λ i e. e;
      marks = refl;
    }

pub array-lay-requires : goal.array-lay-requires
array-lay-requires t c =
    let h = array_end c.args.s.now c.args.left c.args.at c.args.node
    (array_turn (seps.Shut c.in-Shut.end) c.loop-sep.invariant
    c.in-Shut.is) in
    record {
      long = omega (arith, c.requires.0.ready.long, array_long c.args.s.now c.args.left c.args.at c.args.node c.loop-sep.invariant.state);
      room = c.if-node-ge4096.false;
      kind_fits = omega arith;
      start_fits = omega (arith, c.requires.0.ready.upto, c.requires.0.ready.bytes);
      end_fits = omega (arith, h, c.requires.0.ready.bytes);
      after_fits = c.loop-sep.invariant.state.below;
    }

pub array-returns-in-Shut : goal.array-returns-in-Shut
array-returns-in-Shut t c =
    record {
      parsed = array_laid c.args.s.now c.args.left c.args.at c.args.node
          (array_turn (seps.Shut c.in-Shut.end) c.loop-sep.invariant c.in-Shut.is)
          c.lay.ensures;
      grown = c.loop-sep.invariant.grown;
    }

pub array-value-requires : goal.array-value-requires
array-value-requires t c =
    let h = array_here c.args.s.now c.args.left c.args.at c.args.node
    (array_turn (seps.On c.in-On.here) c.loop-sep.invariant c.in-On.is) in (
      omega (arith, c.decreases),
      record {
        ready =
            record {
              bytes = c.requires.0.ready.bytes;
              upto = h;
              long = omega (arith, c.requires.0.ready.long, array_long c.args.s.now c.args.left c.args.at c.args.node c.loop-sep.invariant.state);
              nodes = c.loop-sep.invariant.state.below;
            };
        marks = omega (arith, c.requires.0.marks, c.loop-sep.invariant.marks);
        depth = c.requires.0.depth;
      },
    )

pub array-returns-in_err-element-in-On : goal.array-returns-in_err-element-in-On
array-returns-in_err-element-in-On t c =
    rw
    (handed_on _ c.from_residual.ensures.1)
    (record {
      parsed = array_refused c.args.s.now c.args.left c.args.at c.args.node
          (array_turn (seps.On c.in-On.here) c.loop-sep.invariant c.in-On.is) _ _ c.in_err-element-in-On.ensures.parsed;
      grown = λ i e. c.value.ensures.grown i (c.loop-sep.invariant.grown i e);
    })

pub array-following-requires : goal.array-following-requires
array-following-requires t c = (
  (array_past c.args.s.now c.args.left c.args.at c.args.node
      (array_turn (seps.On c.in-On.here) c.loop-sep.invariant c.in-On.is)
      (was_done c.in_ok-element-in-On.ensures.parsed)).1,
  omega arith,
)

pub array-returns-in_err-sep-in-On : goal.array-returns-in_err-sep-in-On
array-returns-in_err-sep-in-On t c =
    rw
    (handed_on _ c.from_residual-in_err-sep-in-On.ensures.1)
    (record {
      parsed = array_neither c.args.s.now c.args.left c.args.at c.args.node
          (array_on c.args.s.now c.args.left c.args.at c.args.node
          (array_turn (seps.On c.in-On.here) c.loop-sep.invariant c.in-On.is)
          (was_done c.in_ok-element-in-On.ensures.parsed) _ c.in_err-sep-in-On.ensures);
      grown = λ i e. c.value.ensures.grown i (c.loop-sep.invariant.grown i e);
    })

pub array-loop-sep-smaller : goal.array-loop-sep-smaller
array-loop-sep-smaller t c =
    let q = array_past c.args.s.now c.args.left c.args.at c.args.node
    (array_turn (seps.On c.in-On.here) c.loop-sep.invariant
    c.in-On.is)
    (was_done c.in_ok-element-in-On.ensures.parsed) in
    rw c.in-On.is
    (reach_falls c.args.s.now c.in_ok-element-in-On.element.at 93 c.in-On.here
    _ q.0 q.1 c.in_ok-sep-in-On.ensures)

pub array-loop-sep-preserved : goal.array-loop-sep-preserved
array-loop-sep-preserved t c =
    record {
      state = array_on c.args.s.now c.args.left c.args.at c.args.node
          (array_turn (seps.On c.in-On.here) c.loop-sep.invariant c.in-On.is)
          (was_done c.in_ok-element-in-On.ensures.parsed) _ c.in_ok-sep-in-On.ensures;
      grown = λ i e. c.value.ensures.grown i (c.loop-sep.invariant.grown i e);
      marks = c.value.auto.seen ∙ c.loop-sep.invariant.marks;
    }

pub object-returns-then-node-ge4096 : goal.object-returns-then-node-ge4096
object-returns-then-node-ge4096 t c =
    record {
      parsed = told_bad _ c.args.work.now _ c.args.node whys.TooManyNodes
          (object_full c.args.s.now (read_at c.args.left c.args.s.now) c.args.node c.args.at c.if-node-ge4096.true) refl;
      grown = λ i e. e;
    }

pub object-loop-sep-init : goal.object-loop-sep-init
object-loop-sep-init t c =
    record {
      state = object_starts c.args.s.now c.args.left c.args.at c.args.node c.args.work.now c.args.seen.now
          c.opening-sep.result c.requires.1 c.if-node-ge4096.false
          c.opening-sep.ensures;
      grown = λ i e. e;
      marks = refl;
    }

pub object-lay-requires : goal.object-lay-requires
object-lay-requires t c =
    let h = object_end c.args.s.now c.args.left c.args.at c.args.node
    (object_turn (seps.Shut c.in-Shut.end) c.loop-sep.invariant
    c.in-Shut.is) in
    record {
      long = omega (arith, c.requires.0.ready.long, object_long c.args.s.now c.args.left c.args.at c.args.node c.loop-sep.invariant.state);
      room = c.if-node-ge4096.false;
      kind_fits = omega arith;
      start_fits = omega (arith, c.requires.0.ready.upto, c.requires.0.ready.bytes);
      end_fits = omega (arith, h, c.requires.0.ready.bytes);
      after_fits = c.loop-sep.invariant.state.below;
    }

pub object-returns-in-Shut : goal.object-returns-in-Shut
object-returns-in-Shut t c =
    record {
      parsed = object_laid c.args.s.now c.args.left c.args.at c.args.node
          (object_turn (seps.Shut c.in-Shut.end) c.loop-sep.invariant c.in-Shut.is)
          c.lay.ensures;
      grown = c.loop-sep.invariant.grown;
    }

pub object-name-requires : goal.object-name-requires
object-name-requires t c =
    let l = object_turn (seps.On c.in-On.here) c.loop-sep.invariant
    c.in-On.is in
    record {
      bytes = c.requires.0.ready.bytes;
      upto = object_here c.args.s.now c.args.left c.args.at c.args.node l c.requires.0.ready.long c.requires.0.depth;
      long = omega (arith, c.requires.0.ready.long, object_long c.args.s.now c.args.left c.args.at c.args.node l);
      marks = omega (arith, c.requires.0.marks, c.loop-sep.invariant.marks);
      nodes = l.below;
      under = c.if-node-ge4096.false;
      members = object_members c.args.s.now c.args.left c.args.at c.args.node l c.requires.0.ready.long c.requires.0.depth;
      noted = object_noted c.args.s.now c.args.left c.args.at c.args.node l c.requires.0.ready.long c.requires.0.depth;
    }

pub object-returns-in_err-from-in-On : goal.object-returns-in_err-from-in-On
object-returns-in_err-from-in-On t c =
    let l = object_turn (seps.On c.in-On.here) c.loop-sep.invariant c.in-On.is in
    let b = name_was_bad _ _ _ _ _ _ _ _ _ c.in_err-from-in-On.ensures in
    rw
    (handed_on _ c.from_residual.ensures.1)
    (record {
      parsed = object_name_bad c.args.s.now c.args.left c.args.at c.args.node l c.requires.0.ready.long c.requires.0.depth _ _ b.0 b.1;
      grown = λ i e. subst (λ (x : List Bool). get_or x i false ≡ true) (sym b.2) (c.loop-sep.invariant.grown i e);
    })

pub object-value-requires : goal.object-value-requires
object-value-requires t c =
    let l = object_turn (seps.On c.in-On.here) c.loop-sep.invariant c.in-On.is in
    let a = name_was _ _ _ _ _ _ _ _ _ c.in_ok-from-in-On.ensures in
    let h = object_value_here c.args.s.now c.args.left c.args.at c.args.node l c.requires.0.ready.long c.requires.0.depth a in (
      omega (arith, c.decreases),
      record {
        ready =
            record {
              bytes = c.requires.0.ready.bytes;
              upto = h.0;
              long =
                  omega (
                    arith,
                    c.requires.0.ready.long,
                    object_value_long c.args.s.now c.args.left c.args.at c.args.node l c.requires.0.ready.long c.requires.0.depth a,
                  );
              nodes = h.1;
            };
        marks = omega (arith, c.requires.0.marks, c.loop-sep.invariant.marks, c.name.auto.seen);
        depth = c.requires.0.depth;
      },
    )

pub object-returns-in_err-member-in-On : goal.object-returns-in_err-member-in-On
object-returns-in_err-member-in-On t c =
    let l = object_turn (seps.On c.in-On.here) c.loop-sep.invariant c.in-On.is in
    let a = name_was _ _ _ _ _ _ _ _ _ c.in_ok-from-in-On.ensures in
    rw
    (handed_on _ c.from_residual-in_err-member-in-On.ensures.1)
    (record {
      parsed = object_value_bad c.args.s.now c.args.left c.args.at c.args.node l c.requires.0.ready.long c.requires.0.depth a _ _ c.in_err-member-in-On.ensures.parsed;
      grown = λ i e. c.value.ensures.grown i (a.grown i (c.loop-sep.invariant.grown i e));
    })

pub object-following-requires : goal.object-following-requires
object-following-requires t c =
    let l = object_turn (seps.On c.in-On.here) c.loop-sep.invariant c.in-On.is in
    let a = name_was _ _ _ _ _ _ _ _ _ c.in_ok-from-in-On.ensures in
    ((object_past c.args.s.now c.args.left c.args.at c.args.node l c.requires.0.ready.long c.requires.0.depth a (was_done c.in_ok-member-in-On.ensures.parsed)).1, omega arith)

pub object-returns-in_err-sep-in-On : goal.object-returns-in_err-sep-in-On
object-returns-in_err-sep-in-On t c =
    let l = object_turn (seps.On c.in-On.here) c.loop-sep.invariant c.in-On.is in
    let a = name_was _ _ _ _ _ _ _ _ _ c.in_ok-from-in-On.ensures in
    rw
    (handed_on _ c.from_residual-in_err-sep-in-On.ensures.1)
    (record {
      parsed = object_neither c.args.s.now c.args.left c.args.at c.args.node
          (object_on c.args.s.now c.args.left c.args.at c.args.node l c.requires.0.ready.long c.requires.0.depth a (was_done c.in_ok-member-in-On.ensures.parsed) _ c.value.ensures.grown _
          c.in_err-sep-in-On.ensures);
      grown = λ i e. c.value.ensures.grown i (a.grown i (c.loop-sep.invariant.grown i e));
    })

pub object-loop-sep-smaller : goal.object-loop-sep-smaller
object-loop-sep-smaller t c =
    let l = object_turn (seps.On c.in-On.here) c.loop-sep.invariant c.in-On.is in
    let a = name_was _ _ _ _ _ _ _ _ _ c.in_ok-from-in-On.ensures in
    let q = object_past c.args.s.now c.args.left c.args.at c.args.node l c.requires.0.ready.long c.requires.0.depth a (was_done c.in_ok-member-in-On.ensures.parsed) in
    rw c.in-On.is (reach_falls c.args.s.now c.in_ok-member-in-On.member.at 125 c.in-On.here _ q.0 q.1 c.in_ok-sep-in-On.ensures)

pub object-loop-sep-preserved : goal.object-loop-sep-preserved
object-loop-sep-preserved t c =
    let l = object_turn (seps.On c.in-On.here) c.loop-sep.invariant c.in-On.is in
    let a = name_was _ _ _ _ _ _ _ _ _ c.in_ok-from-in-On.ensures in
    record {
      state = object_on c.args.s.now c.args.left c.args.at c.args.node l c.requires.0.ready.long c.requires.0.depth a (was_done c.in_ok-member-in-On.ensures.parsed) _ c.value.ensures.grown _
          c.in_ok-sep-in-On.ensures;
      grown = λ i e. c.value.ensures.grown i (a.grown i (c.loop-sep.invariant.grown i e));
      marks = c.value.auto.seen ∙ c.name.auto.seen ∙ c.loop-sep.invariant.marks;
    }

pub value-returns-then-left-eq0 : goal.value-returns-then-left-eq0
value-returns-then-left-eq0 t c =
    record {
      parsed = rw c.if-left-eq0.true c.leaf.ensures;
      grown = λ i e. e;
    }

pub value-returns-in_default : goal.value-returns-in_default
value-returns-in_default t c =
    record {
      parsed = told_bad _ c.args.work.now _ c.args.node whys.NotJson
          (past_end c.args.left c.args.s.now c.args.node c.args.at c.in_default.ensures.lookup.3) refl;
      grown = λ i e. e;
    }

pub value-returns-in-91 : goal.value-returns-in-91
value-returns-in-91 t c =
    rw (value_array c.args.s.now c.args.node c.args.at c.args.left c.if-left-eq0.false (sym (c.in-Some.ensures.lookup.3.1 0) ∙ c.in-91.is)) c.array.ensures

pub value-returns-in-123 : goal.value-returns-in-123
value-returns-in-123 t c =
    rw (value_object c.args.s.now c.args.node c.args.at c.args.left c.if-left-eq0.false (sym (c.in-Some.ensures.lookup.3.1 0) ∙ c.in-123.is)) c.object.ensures

pub value-returns-in_default-c : goal.value-returns-in_default-c
value-returns-in_default-c t c =
    let b = c.in-Some.ensures.lookup.3.1 0 in
    record {
      parsed = rw
          (value_leaf c.args.s.now c.args.node c.args.at c.args.left (λ q. omega (arith, b)) (λ q. omega (arith, b)))
          c.leaf-in_default-c.ensures;
      grown = λ i e. e;
    }
