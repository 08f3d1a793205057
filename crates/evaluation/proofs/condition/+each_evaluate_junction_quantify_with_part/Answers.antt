-- A condition, a junction, a quantifier, the walk over what it binds and its body for one part meet their contracts. What falls is the brackets left.
-- Assumes nothing.
use mathlib.Core.Path.{ap, subst, sym, ◌∙◌, ◌≡◌}
use native.Mathlib.Omega.{arith}
use borrow.Author.Rules.{rules}
use Rattle.std.specs.Prelude.{Option, Ok, Err, Result as Fallible, option_map}
use Rattle.sheet.proofs.GivenConditions.{given_carried, given_known}
use Rattle.members.specs.Answers.{mode_of, operator_of}
use Rattle.resolving.proofs.Alike.{begin_room, holder_class}
use Rattle.resolving.proofs.Marking.{ready_after}
use Rattle.resolving.proofs.Slices.{node_room}
use Rattle.paths.proofs.Trees.{text_row}
use Rattle.members.specs.Sheet.{sheet_in}
use Rattle.paths.specs.Layered.{Flat, class_of}
use Rattle.paths.specs.Stored.{frames_of, table}
use Rattle.paths.specs.declared.operand.EvalError.{EvalError}
use Rattle.paths.specs.declared.operand.Operand.{Operand}
use Rattle.evaluation.proofs.Junctions.{
  a_junction,
  a_negation,
  a_pair,
  child,
  child_below,
  child_falls,
  child_shallow,
  collect_begin,
  collect_end,
  collect_less,
  collect_long,
  collect_on,
  collect_one,
  collect_refused,
  element_falls,
  inner_falls,
  inner_node,
  inner_shallow,
  judged_exists,
  judged_false,
  judged_junction,
  judged_negation,
  judged_pair,
  judged_quantifier,
  judged_true,
  known_quantifier,
  operands_shallow,
  refused_negation,
  the_member,
}
use Rattle.evaluation.proofs.Quantifiers.{
  body_known,
  body_shallow,
  body_under,
  each_falls,
  each_holds,
  each_unknown,
  over_fits,
  part_falls,
  part_small,
  pushed,
  quantify_each,
  quantify_falls,
  quantify_missing,
  quantify_stops,
  turn_begin,
  turn_below,
  turn_end,
  turn_given,
  turn_gives,
  turn_node,
  turn_on,
  turn_refused,
  turn_settled,
}
use Rattle.evaluation.proofs.condition.+each_evaluate_junction_quantify_with_part.Goals as goal
use Rattle.evaluation.proofs.condition.+each_evaluate_junction_quantify_with_part.Goals.{each-in-Array, each-in-Object}

abbrev found : Option Operand → Fallible (Option Operand) EvalError
found o = Ok o

pub each-returns-in_default : goal.each-returns-in_default
each-returns-in_default t c = each_unknown c.args.s.now c.args.work.now (sheet_in c.args.s.now) c.args.scope.now.frames (mode_of c.args.q.mode) c.args.q.name c.args.q.body c.args.o
    (subst Flat c.class.ensures (record { no_array = c.in_default.not-Array; no_object = c.in_default.not-Object }))

pub each-of-c-requires : goal.each-of-c-requires
each-of-c-requires t c =
    let k : class_of c.args.o.kind ≡ holder_class c.match-class.named = elim c.match-class.branch [
      | each-in-Array w ↦ rw w.named-is (sym c.class.ensures ∙ w.in-Array.is)
      | each-in-Object w ↦ rw w.named-is (sym c.class.ensures ∙ w.in-Object.is)
    ] in
    begin_room c.args.s.now c.args.work.now c.match-class.named c.requires.0.rows
    (each_holds c.args.s.now (table c.args.work.now) c.args.o c.match-class.named k c.requires.2)

pub each-loop-x-init : goal.each-loop-x-init
each-loop-x-init t c =
    let k : class_of c.args.o.kind ≡ holder_class c.match-class.named = elim c.match-class.branch [
      | each-in-Array w ↦ rw w.named-is (sym c.class.ensures ∙ w.in-Array.is)
      | each-in-Object w ↦ rw w.named-is (sym c.class.ensures ∙ w.in-Object.is)
    ] in
    turn_begin c.args.s.now c.args.work.now (sheet_in c.args.s.now) c.args.scope.now.frames (mode_of c.args.q.mode) c.args.q.name c.args.q.body c.args.o c.match-class.named k c.requires.2
    c.requires.0.linked c.requires.4 c.start-truth.ensures c.of-c.ensures

pub each-next-requires : goal.each-next-requires
each-next-requires t c = (record { rows = (ready_after c.requires.0 c.loop-x.invariant.left).rows; node = omega arith }, c.loop-x.invariant.walk.within)

pub each-returns : goal.each-returns
each-returns t c = turn_end c.loop-x.invariant c.next.ensures c.in_default-next.is

pub each-value_node-requires : goal.each-value_node-requires
each-value_node-requires t c = turn_below c.loop-x.invariant (turn_given c.loop-x.invariant c.next.ensures c.in-Some.x c.in-Some.is)

pub each-with_part-requires : goal.each-with_part-requires
each-with_part-requires t c = (
  each_falls c.args.left c.decreases,
  (
    ready_after c.requires.0 c.loop-x.invariant.left,
    c.requires.1,
    turn_node c.loop-x.invariant (turn_given c.loop-x.invariant c.next.ensures c.in-Some.x c.in-Some.is) c.value_node.ensures,
    c.requires.3,
    turn_gives c.loop-x.invariant,
    rw c.loop-x.invariant.left.rows c.requires.5,
  ),
)

pub each-returns-in_err-t : goal.each-returns-in_err-t
each-returns-in_err-t t c =
    let r : c.from_residual.result ≡ Err c.in_err-t.field-0.0 = search rules in
    rw r (turn_refused c.loop-x.invariant (turn_given c.loop-x.invariant c.next.ensures c.in-Some.x c.in-Some.is) c.value_node.ensures c.with_part.ensures _ c.in_err-t.was)

pub each-returns-then-settles : goal.each-returns-then-settles
each-returns-then-settles t c = turn_settled c.loop-x.invariant (turn_given c.loop-x.invariant c.next.ensures c.in-Some.x c.in-Some.is) c.value_node.ensures
    c.with_part.ensures _ c.in_ok-t.was c.join-truth.result c.join-truth.ensures c.settles.ensures c.if-settles.true

pub each-loop-x-smaller : goal.each-loop-x-smaller
each-loop-x-smaller t c = (turn_given c.loop-x.invariant c.next.ensures c.in-Some.x c.in-Some.is).falls

pub each-loop-x-preserved : goal.each-loop-x-preserved
each-loop-x-preserved t c = turn_on c.loop-x.invariant (turn_given c.loop-x.invariant c.next.ensures c.in-Some.x c.in-Some.is) c.value_node.ensures
    c.with_part.ensures _ c.in_ok-t.was c.join-truth.result c.join-truth.ensures c.settles.ensures c.if-settles.false

pub evaluate-kind_at-requires : goal.evaluate-kind_at-requires
evaluate-kind_at-requires t c = node_room c.requires.0 (record { left = 64; is_node = c.requires.2.known.node })

pub evaluate-returns-in-True : goal.evaluate-returns-in-True
evaluate-returns-in-True t c = λ d g. judged_true (sheet_in c.args.s.now) (frames_of c.args.s.now (table c.args.work.now) c.args.scope.now.frames) g c.kind_at.ensures c.in-True.is

pub evaluate-returns-in-False : goal.evaluate-returns-in-False
evaluate-returns-in-False t c = λ d g. judged_false (sheet_in c.args.s.now) (frames_of c.args.s.now (table c.args.work.now) c.args.scope.now.frames) g c.kind_at.ensures c.in-False.is

pub evaluate-overflow_add-node : goal.evaluate-overflow_add-node
evaluate-overflow_add-node t c = omega (arith, (the_member c.requires.2.known c.kind_at.ensures c.in_default.not-True c.in_default.not-False).name_place.1)

pub evaluate-start_at-name-requires : goal.evaluate-start_at-name-requires
evaluate-start_at-name-requires t c = record { rows = c.requires.0.rows; node = (the_member c.requires.2.known c.kind_at.ensures c.in_default.not-True c.in_default.not-False).name_place.1 }

pub evaluate-overflow_add-inner : goal.evaluate-overflow_add-inner
evaluate-overflow_add-inner t c = omega (arith, (the_member c.requires.2.known c.kind_at.ensures c.in_default.not-True c.in_default.not-False).name_place.1)

pub evaluate-overflow_sub-left : goal.evaluate-overflow_sub-left
evaluate-overflow_sub-left t c = (inner_shallow c.requires.2.known c.kind_at.ensures c.in_default.not-True c.in_default.not-False c.requires.3).0

pub evaluate-operator_at-requires : goal.evaluate-operator_at-requires
evaluate-operator_at-requires t c = rw c.start_at-name.ensures (the_member c.requires.2.known c.kind_at.ensures c.in_default.not-True c.in_default.not-False).name

pub evaluate-junction-requires : goal.evaluate-junction-requires
evaluate-junction-requires t c = (
  child_falls c.args.left 1 c.decreases (inner_shallow c.requires.2.known c.kind_at.ensures c.in_default.not-True c.in_default.not-False c.requires.3).0 (omega arith),
  (
    c.requires.0,
    omega (arith, c.requires.1),
    (a_junction c.requires.2.known c.kind_at.ensures c.in_default.not-True c.in_default.not-False c.start_at-name.ensures c.operator_at.ensures c.in-Some.is _ c.in-Junction.is).0,
    (a_junction c.requires.2.known c.kind_at.ensures c.in_default.not-True c.in_default.not-False c.start_at-name.ensures c.operator_at.ensures c.in-Some.is _ c.in-Junction.is).1,
    (inner_shallow c.requires.2.known c.kind_at.ensures c.in_default.not-True c.in_default.not-False c.requires.3).1,
  ),
)

pub evaluate-evaluate-requires : goal.evaluate-evaluate-requires
evaluate-evaluate-requires t c = (
  inner_falls c.args.left c.decreases (inner_shallow c.requires.2.known c.kind_at.ensures c.in_default.not-True c.in_default.not-False c.requires.3).0,
  (
    c.requires.0,
    omega (arith, c.requires.1),
    a_negation c.requires.2.known c.kind_at.ensures c.in_default.not-True c.in_default.not-False c.start_at-name.ensures
        c.operator_at.ensures c.in-Some.is c.in-Negation.is,
    (inner_shallow c.requires.2.known c.kind_at.ensures c.in_default.not-True c.in_default.not-False c.requires.3).1,
  ),
)

pub evaluate-exists_at-requires : goal.evaluate-exists_at-requires
evaluate-exists_at-requires t c = (
  c.requires.0,
  inner_node c.requires.2.known c.kind_at.ensures c.in_default.not-True c.in_default.not-False,
  (inner_shallow
      c.requires.2.known c.kind_at.ensures c.in_default.not-True c.in_default.not-False c.requires.3).1,
)

pub evaluate-overflow_add-inner-in-Pair : goal.evaluate-overflow_add-inner-in-Pair
evaluate-overflow_add-inner-in-Pair t c = omega (arith, (the_member c.requires.2.known c.kind_at.ensures c.in_default.not-True c.in_default.not-False).name_place.1)

pub evaluate-after_at-second-requires : goal.evaluate-after_at-second-requires
evaluate-after_at-second-requires t c = node_room c.requires.0 (a_pair c.requires.2.known c.kind_at.ensures c.in_default.not-True c.in_default.not-False
    c.start_at-name.ensures c.operator_at.ensures c.in-Some.is _ c.in-Pair.is).0

pub evaluate-overflow_add-inner-in-Pair-2 : goal.evaluate-overflow_add-inner-in-Pair-2
evaluate-overflow_add-inner-in-Pair-2 t c = omega (arith, (the_member c.requires.2.known c.kind_at.ensures c.in_default.not-True c.in_default.not-False).name_place.1)

pub evaluate-pair_at-requires : goal.evaluate-pair_at-requires
evaluate-pair_at-requires t c = (
  c.requires.0,
  (a_pair c.requires.2.known c.kind_at.ensures c.in_default.not-True c.in_default.not-False c.start_at-name.ensures
      c.operator_at.ensures c.in-Some.is _ c.in-Pair.is).0,
  rw c.after_at-second.ensures (a_pair c.requires.2.known c.kind_at.ensures c.in_default.not-True c.in_default.not-False
      c.start_at-name.ensures c.operator_at.ensures c.in-Some.is _ c.in-Pair.is).1,
  (operands_shallow c.requires.2.known c.kind_at.ensures c.in_default.not-True
      c.in_default.not-False c.start_at-name.ensures c.operator_at.ensures c.in-Some.is _ c.in-Pair.is c.requires.3).0,
  rw c.after_at-second.ensures (operands_shallow
      c.requires.2.known c.kind_at.ensures c.in_default.not-True c.in_default.not-False c.start_at-name.ensures c.operator_at.ensures c.in-Some.is _ c.in-Pair.is c.requires.3).1,
)

pub evaluate-quantify-requires : goal.evaluate-quantify-requires
evaluate-quantify-requires t c = (
  child_falls c.args.left 2 c.decreases (inner_shallow c.requires.2.known c.kind_at.ensures c.in_default.not-True c.in_default.not-False c.requires.3).0 (omega arith),
  (
    c.requires.0,
    omega (arith, c.requires.1, (inner_shallow c.requires.2.known c.kind_at.ensures c.in_default.not-True c.in_default.not-False c.requires.3).0),
    (known_quantifier c.requires.2.known c.kind_at.ensures c.in_default.not-True c.in_default.not-False c.start_at-name.ensures c.operator_at.ensures c.in-Some.is _
        c.in-Quantified.is),
    (inner_shallow c.requires.2.known c.kind_at.ensures c.in_default.not-True c.in_default.not-False c.requires.3).1,
  ),
)

pub evaluate-returns-in-Junction : goal.evaluate-returns-in-Junction
evaluate-returns-in-Junction t c = λ d g. judged_junction g c.kind_at.ensures c.in_default.not-True c.in_default.not-False c.start_at-name.ensures
    c.operator_at.ensures c.in-Some.is (sheet_in c.args.s.now) (frames_of c.args.s.now (table c.args.work.now) c.args.scope.now.frames) _ c.in-Junction.is c.junction.ensures

pub evaluate-returns-in_err-evaluate-in-Negation : goal.evaluate-returns-in_err-evaluate-in-Negation
evaluate-returns-in_err-evaluate-in-Negation t c =
    let r : c.from_residual.result ≡ Err c.in_err-evaluate-in-Negation.field-0.0 = search rules in
    rw r (λ d g. refused_negation g c.kind_at.ensures c.in_default.not-True c.in_default.not-False c.start_at-name.ensures c.operator_at.ensures c.in-Some.is (sheet_in
    c.args.s.now) (frames_of c.args.s.now (table c.args.work.now) c.args.scope.now.frames) c.in-Negation.is c.evaluate.ensures _ c.in_err-evaluate-in-Negation.was)

pub evaluate-returns-in_ok-evaluate-in-Negation : goal.evaluate-returns-in_ok-evaluate-in-Negation
evaluate-returns-in_ok-evaluate-in-Negation t c = λ d g. judged_negation g c.kind_at.ensures c.in_default.not-True c.in_default.not-False c.start_at-name.ensures
    c.operator_at.ensures c.in-Some.is (sheet_in c.args.s.now) (frames_of c.args.s.now (table c.args.work.now) c.args.scope.now.frames) c.in-Negation.is c.evaluate.ensures _
    c.in_ok-evaluate-in-Negation.was c.not.ensures

pub evaluate-returns-in-Exists : goal.evaluate-returns-in-Exists
evaluate-returns-in-Exists t c = λ d g. judged_exists g c.kind_at.ensures c.in_default.not-True c.in_default.not-False c.start_at-name.ensures c.operator_at.ensures c.in-Some.is
    (sheet_in c.args.s.now) (frames_of c.args.s.now (table c.args.work.now) c.args.scope.now.frames) c.in-Exists.is c.exists_at.ensures

pub evaluate-returns-in-Pair : goal.evaluate-returns-in-Pair
evaluate-returns-in-Pair t c = λ d g. judged_pair g c.kind_at.ensures c.in_default.not-True c.in_default.not-False c.start_at-name.ensures c.operator_at.ensures c.in-Some.is
    (sheet_in c.args.s.now) (frames_of c.args.s.now (table c.args.work.now) c.args.scope.now.frames) _ c.in-Pair.is (rw c.after_at-second.ensures at c.pair_at.ensures)

pub evaluate-returns-in-Quantified : goal.evaluate-returns-in-Quantified
evaluate-returns-in-Quantified t c = λ d g. judged_quantifier g c.kind_at.ensures c.in_default.not-True c.in_default.not-False c.start_at-name.ensures
    c.operator_at.ensures c.in-Some.is (sheet_in c.args.s.now) (frames_of c.args.s.now (table c.args.work.now) c.args.scope.now.frames) _ c.in-Quantified.is c.quantify.ensures

pub evaluate-returns-in_default-operator_at : goal.evaluate-returns-in_default-operator_at
evaluate-returns-in_default-operator_at t c =
    λ d g. absurd (given_known (the_member g c.kind_at.ensures c.in_default.not-True c.in_default.not-False) _ c.start_at-name.ensures
    (c.operator_at.ensures ∙ ap (option_map operator_of) c.in_default-operator_at.is))

pub evaluate-returns-in-NotCarried : goal.evaluate-returns-in-NotCarried
evaluate-returns-in-NotCarried t c =
    λ d g. absurd (given_carried (the_member g c.kind_at.ensures c.in_default.not-True c.in_default.not-False) _ c.start_at-name.ensures _
    (c.operator_at.ensures ∙ ap (option_map operator_of) c.in-Some.is) c.in-NotCarried.is)

pub junction-after_at-end-requires : goal.junction-after_at-end-requires
junction-after_at-end-requires t c = node_room c.requires.0 c.requires.2.node

pub junction-overflow_add-k : goal.junction-overflow_add-k
junction-overflow_add-k t c = omega (arith, (node_room c.requires.0 c.requires.2.node).node)

pub junction-loop-k-init : goal.junction-loop-k-init
junction-loop-k-init t c = collect_begin c.args.s.now c.args.work.now (sheet_in c.args.s.now) (frames_of c.args.s.now (table c.args.work.now) c.args.scope.now.frames)
    (mode_of c.args.mode) c.requires.2 c.requires.3 c.requires.4 c.after_at-end.ensures c.start-truth.ensures

pub junction-overflow_sub-left : goal.junction-overflow_sub-left
junction-overflow_sub-left t c = collect_one c.requires.2 c.requires.4

pub junction-evaluate-requires : goal.junction-evaluate-requires
junction-evaluate-requires t c = (
  element_falls c.args.left c.decreases (collect_one c.requires.2 c.requires.4),
  (
    ready_after c.requires.0 c.loop-k.invariant.left,
    omega (arith, c.requires.1),
    rw c.loop-k.invariant.left.rows (record { given = (child c.loop-k.invariant c.loop-k-test.true).first; known = (child c.loop-k.invariant c.loop-k-test.true).here }),
    rw c.loop-k.invariant.left.rows (child_shallow c.loop-k.invariant c.loop-k-test.true),
  ),
)

pub junction-returns-in_err-t : goal.junction-returns-in_err-t
junction-returns-in_err-t t c =
    let r : c.from_residual.result ≡ Err c.in_err-t.field-0.0 = search rules in
    rw r (collect_refused c.loop-k.invariant c.loop-k-test.true (rw c.loop-k.invariant.left.rows at c.evaluate.ensures) _ c.in_err-t.was)

pub junction-after_at-k-requires : goal.junction-after_at-k-requires
junction-after_at-k-requires t c = record {
  rows = omega (
    arith,
    c.requires.0.rows,
    collect_long c.loop-k.invariant c.loop-k-test.true (rw
        c.loop-k.invariant.left.rows at c.evaluate.ensures),
  );
  node = child_below c.loop-k.invariant c.loop-k-test.true;
}

pub junction-loop-k-smaller : goal.junction-loop-k-smaller
junction-loop-k-smaller t c = collect_less c.loop-k.invariant c.loop-k-test.true (rw c.loop-k.invariant.left.rows at c.evaluate.ensures) c.after_at-k.ensures

pub junction-loop-k-preserved : goal.junction-loop-k-preserved
junction-loop-k-preserved t c = collect_on c.loop-k.invariant c.loop-k-test.true (rw c.loop-k.invariant.left.rows at c.evaluate.ensures) c.in_ok-t.was c.join-truth.ensures c.after_at-k.ensures

pub junction-returns : goal.junction-returns
junction-returns t c = collect_end c.loop-k.invariant c.loop-k-test.false

pub quantify-quantifier_at-q-requires : goal.quantify-quantifier_at-q-requires
quantify-quantifier_at-q-requires t c = (node_room c.requires.0 (record { left = 64; is_node = c.requires.2.known.node }), record { given = mode_of c.args.mode; known = c.requires.2 })

pub quantify-overflow_sub-left : goal.quantify-overflow_sub-left
quantify-overflow_sub-left t c = let p = c.quantifier_at-q.ensures.parts _ _ c.requires.2.known in omega (arith, p.over_depth, c.requires.3)

pub quantify-resolve-requires : goal.quantify-resolve-requires
quantify-resolve-requires t c = let p = c.quantifier_at-q.ensures.parts _ _ c.requires.2.known in (c.requires.0, p.over, omega (arith, p.over_depth, c.requires.3))

pub quantify-overflow_sub-left-in-Some : goal.quantify-overflow_sub-left-in-Some
quantify-overflow_sub-left-in-Some t c = let p = c.quantifier_at-q.ensures.parts _ _ c.requires.2.known in omega (arith, p.over_depth, c.requires.3)

pub quantify-each-requires : goal.quantify-each-requires
quantify-each-requires t c =
    let p = c.quantifier_at-q.ensures.parts _ _ c.requires.2.known in
    let sheet = sheet_in c.args.s.now in (
      quantify_falls c.args.left c.decreases (omega (arith, p.over_depth, c.requires.3)),
      (
        ready_after c.requires.0 c.resolve.ensures.left,
        omega (arith, p.over_depth, c.requires.1, c.requires.3),
        over_fits sheet c.args.scope.now.frames p c.resolve.ensures _ (c.in_ok-o.was ∙ ap found c.in-Some.is),
        rw p.name (text_row p.binder).on_text,
        body_known sheet c.args.scope.now.frames p c.resolve.ensures,
        body_shallow sheet c.args.scope.now.frames p c.resolve.ensures c.requires.3,
      ),
    )

pub quantify-returns-in_err-o : goal.quantify-returns-in_err-o
quantify-returns-in_err-o t c =
    let r : c.from_residual.result ≡ Err c.in_err-o.field-0.0 = search rules in
    rw r (λ d h. quantify_stops (sheet_in c.args.s.now) c.args.scope.now.frames (c.quantifier_at-q.ensures.parts _ _ h) c.resolve.ensures _ c.in_err-o.was)

pub quantify-returns-in-Some : goal.quantify-returns-in-Some
quantify-returns-in-Some t c =
    λ d h. quantify_each (sheet_in c.args.s.now) c.args.scope.now.frames (c.quantifier_at-q.ensures.parts _ _ h) c.resolve.ensures _
    (c.in_ok-o.was ∙ ap found c.in-Some.is) (rw c.quantifier_at-q.ensures.joins at c.each.ensures)

pub quantify-returns-in-None : goal.quantify-returns-in-None
quantify-returns-in-None t c =
    λ d h. quantify_missing (sheet_in c.args.s.now) c.args.scope.now.frames (c.quantifier_at-q.ensures.parts _ _ h) c.resolve.ensures (c.in_ok-o.was ∙ ap found c.in-None.is)

pub with_part-part_of-operand-requires : goal.with_part-part_of-operand-requires
with_part-part_of-operand-requires t c = (c.requires.0, c.requires.2)

pub with_part-push-inner-requires : goal.with_part-push-inner-requires
with_part-push-inner-requires t c = (omega (arith, c.requires.1), part_small c.requires.0.short c.requires.3 c.part_of-operand.ensures.fits)

pub with_part-evaluate-requires : goal.with_part-evaluate-requires
with_part-evaluate-requires t c = (
  part_falls c.args.left c.decreases,
  (
    rw c.push-inner.ensures.0 (pushed c.requires.0 (omega (arith, c.requires.1)) c.requires.3 c.part_of-operand.ensures.fits c.push-inner.ensures.1 c.push-inner.ensures.2),
    omega (arith, c.requires.1, c.push-inner.ensures.1),
    c.requires.4,
    c.requires.5,
  ),
)

pub with_part-returns : goal.with_part-returns
with_part-returns t c = body_under (sheet_in c.args.s.now) c.args.scope.now.frames c.push-inner.result.frames c.part_of-operand.ensures c.push-inner.ensures.2 c.evaluate.ensures
