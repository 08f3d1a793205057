-- The proof of the cycle of calls {condition, conditions, quantifier}: the measure is the brackets left, and each answer is the first fault by what was read of the node.
-- Assumes nothing.
use mathlib.Core.Path.{ap, refl, ◌∙◌}
use native.Mathlib.Omega.{arith}
use Rattle.syntax.proofs.Faults.{
  array_left,
  cond_boolean,
  cond_exists,
  cond_junction,
  cond_negation,
  cond_neither,
  cond_not_carried,
  cond_pair,
  cond_quantified,
  cond_several,
  cond_unknown,
  conditions_fault,
  conditions_on,
  conditions_sound,
  found_left,
  found_so,
  inner_name,
  inner_node,
  known_so,
  members_full,
  members_left,
  missed,
  name_place,
  not_conditions,
  not_quantifier,
  object_left,
  over_conditions,
  quant_body,
  quant_no_as,
  quant_no_in,
  quant_no_name,
  quant_no_that,
  quant_several,
}
use mathlib.Core.Path.{sym}
use Rattle.strings.proofs.Members.{elements_lead}
use Rattle.strings.proofs.Nodes.{Turn, begun, over, turn}
use Rattle.strings.specs.Nodes.{elements_left}
use Rattle.strings.specs.Answers.{code_of}
use Rattle.strings.specs.declared.rows.Kind.TheVariants as kinds
use Rattle.members.proofs.Shapes.{alike, either, is_either, neither, other_code, unlike}
use Rattle.members.proofs.Verdicts.{handed_on}
use Rattle.members.proofs.Walks.{element_node, full, room}
use Rattle.members.proofs.Wanted.{found_node}
use Rattle.std.specs.Prelude.{option_map}
use Rattle.members.specs.Answers.{fault_is, operator_of}
use Rattle.syntax.proofs.condition.+condition_conditions_quantifier.Goals.{conditions-In-Some}
use Rattle.syntax.proofs.condition.+condition_conditions_quantifier.Goals as goal

pub condition-kind_at-requires : goal.condition-kind_at-requires
condition-kind_at-requires t c = room c.requires

pub condition-returns-in-True : goal.condition-returns-in-True
unfolding fault_is is_either
condition-returns-in-True t c = cond_boolean c.requires _ c.kind_at.ensures (sym (either _ c.in-True.is))

pub condition-returns-in_default : goal.condition-returns-in_default
unfolding fault_is is_either
condition-returns-in_default t c =
    cond_neither c.requires _ c.kind_at.ensures (sym (neither _ c.in_default.not-True c.in_default.not-False)) (other_code _ kinds.Object c.in_default.not-Object)

pub condition-overflow_add-from : goal.condition-overflow_add-from
condition-overflow_add-from t c = omega (arith, (room c.requires).1)

pub condition-after_at-end-requires : goal.condition-after_at-end-requires
condition-after_at-end-requires t c = room c.requires

pub condition-count_members-requires : goal.condition-count_members-requires
condition-count_members-requires t c =
    members_full c.requires _
    c.kind_at.ensures (ap code_of c.in-Object.is) _ c.after_at-end.ensures

pub condition-returns-then-count_members-ne1 : goal.condition-returns-then-count_members-ne1
unfolding fault_is
condition-returns-then-count_members-ne1 t c =
    cond_several c.requires _
    c.kind_at.ensures (ap code_of c.in-Object.is) _ c.after_at-end.ensures _
    c.count_members.ensures c.if-count_members-ne1.true

pub condition-overflow_add-inner : goal.condition-overflow_add-inner
condition-overflow_add-inner t c =
    omega (
      arith,
      (name_place c.requires _
          c.kind_at.ensures (ap code_of c.in-Object.is) _ c.after_at-end.ensures
          _ c.count_members.ensures c.if-count_members-ne1.false).1,
    )

pub condition-start_at-requires : goal.condition-start_at-requires
condition-start_at-requires t c =
    name_place c.requires _
    c.kind_at.ensures (ap code_of c.in-Object.is) _ c.after_at-end.ensures _
    c.count_members.ensures c.if-count_members-ne1.false

pub condition-operator_at-requires : goal.condition-operator_at-requires
condition-operator_at-requires t c =
    inner_name c.requires _
    c.kind_at.ensures (ap code_of c.in-Object.is) _
    c.after_at-end.ensures _ c.count_members.ensures
    c.if-count_members-ne1.false _ c.start_at.ensures

pub condition-overflow_sub-left : goal.condition-overflow_sub-left
condition-overflow_sub-left t c =
    object_left c.requires _
    c.kind_at.ensures (ap code_of c.in-Object.is)

pub condition-conditions-requires : goal.condition-conditions-requires
condition-conditions-requires t c = (
  omega (
    arith,
    object_left c.requires _ c.kind_at.ensures (ap code_of c.in-Object.is),
  ),
  inner_node c.requires _ c.kind_at.ensures (ap code_of c.in-Object.is) _
      c.after_at-end.ensures _ c.count_members.ensures
      c.if-count_members-ne1.false,
)

pub condition-overflow_sub-left-in-Negation : goal.condition-overflow_sub-left-in-Negation
condition-overflow_sub-left-in-Negation t c =
    object_left c.requires _
    c.kind_at.ensures (ap code_of c.in-Object.is)

pub condition-condition-requires : goal.condition-condition-requires
condition-condition-requires t c = (
  omega (
    arith,
    object_left c.requires _ c.kind_at.ensures (ap code_of c.in-Object.is),
  ),
  inner_node c.requires _ c.kind_at.ensures (ap code_of c.in-Object.is) _
      c.after_at-end.ensures _ c.count_members.ensures
      c.if-count_members-ne1.false,
)

pub condition-pair_fault-requires : goal.condition-pair_fault-requires
condition-pair_fault-requires t c =
    full
    (record {
      left = _;
      is_node = inner_node c.requires _
          c.kind_at.ensures (ap code_of c.in-Object.is) _
          c.after_at-end.ensures _ c.count_members.ensures
          c.if-count_members-ne1.false;
    })

pub condition-overflow_sub-left-in-Quantified : goal.condition-overflow_sub-left-in-Quantified
condition-overflow_sub-left-in-Quantified t c =
    object_left c.requires _
    c.kind_at.ensures (ap code_of c.in-Object.is)

pub condition-quantifier-requires : goal.condition-quantifier-requires
condition-quantifier-requires t c = (
  omega (
    arith,
    object_left c.requires _ c.kind_at.ensures (ap code_of c.in-Object.is),
  ),
  inner_node c.requires _ c.kind_at.ensures (ap code_of c.in-Object.is) _
      c.after_at-end.ensures _ c.count_members.ensures
      c.if-count_members-ne1.false,
)

pub condition-returns-in-Junction : goal.condition-returns-in-Junction
condition-returns-in-Junction t c =
    cond_junction c.requires _
    c.kind_at.ensures (ap code_of c.in-Object.is) _
    c.after_at-end.ensures _ c.count_members.ensures c.if-count_members-ne1.false
    _ c.start_at.ensures _ (known_so c.operator_at.ensures c.ok_or.ensures.ok_part c.in_ok-ok_or.was) _
    c.in-Junction.is c.conditions.ensures

pub condition-returns-in-Negation : goal.condition-returns-in-Negation
condition-returns-in-Negation t c =
    cond_negation c.requires _
    c.kind_at.ensures (ap code_of c.in-Object.is) _
    c.after_at-end.ensures _ c.count_members.ensures c.if-count_members-ne1.false
    _ c.start_at.ensures _
    (known_so c.operator_at.ensures c.ok_or.ensures.ok_part c.in_ok-ok_or.was) c.in-Negation.is c.condition.ensures

pub condition-returns-in-Exists : goal.condition-returns-in-Exists
unfolding fault_is
condition-returns-in-Exists t c =
    cond_exists c.requires _
    c.kind_at.ensures (ap code_of c.in-Object.is) _
    c.after_at-end.ensures _ c.count_members.ensures c.if-count_members-ne1.false
    _ c.start_at.ensures _ (known_so c.operator_at.ensures c.ok_or.ensures.ok_part c.in_ok-ok_or.was)
    c.in-Exists.is

pub condition-returns-in-Pair : goal.condition-returns-in-Pair
condition-returns-in-Pair t c =
    cond_pair c.requires _
    c.kind_at.ensures (ap code_of c.in-Object.is) _
    c.after_at-end.ensures _ c.count_members.ensures c.if-count_members-ne1.false
    _ c.start_at.ensures _ (known_so c.operator_at.ensures c.ok_or.ensures.ok_part c.in_ok-ok_or.was) _
    c.in-Pair.is c.pair_fault.ensures

pub condition-returns-in-Quantified : goal.condition-returns-in-Quantified
condition-returns-in-Quantified t c =
    cond_quantified c.requires _
    c.kind_at.ensures (ap code_of c.in-Object.is) _
    c.after_at-end.ensures _ c.count_members.ensures c.if-count_members-ne1.false
    _ c.start_at.ensures _ (known_so c.operator_at.ensures c.ok_or.ensures.ok_part c.in_ok-ok_or.was) _
    c.in-Quantified.is c.quantifier.ensures

pub condition-returns-in-NotCarried : goal.condition-returns-in-NotCarried
unfolding fault_is
condition-returns-in-NotCarried t c =
    cond_not_carried c.requires _
    c.kind_at.ensures (ap code_of c.in-Object.is) _
    c.after_at-end.ensures _ c.count_members.ensures c.if-count_members-ne1.false
    _ c.start_at.ensures _ (known_so c.operator_at.ensures c.ok_or.ensures.ok_part c.in_ok-ok_or.was)
    c.in-NotCarried.is

pub condition-returns-in_err-ok_or : goal.condition-returns-in_err-ok_or
condition-returns-in_err-ok_or t c =
    rw (handed_on _ c.from_residual.ensures.1)
    (cond_unknown c.requires _
    c.kind_at.ensures (ap code_of c.in-Object.is) _
    c.after_at-end.ensures _ c.count_members.ensures c.if-count_members-ne1.false
    _ c.start_at.ensures
    (c.operator_at.ensures ∙ ap (option_map operator_of) (missed c.ok_or.ensures.value c.in_err-ok_or.was).0) ∙
    (missed c.ok_or.ensures.value c.in_err-ok_or.was).1)

pub conditions-kind_at-requires : goal.conditions-kind_at-requires
conditions-kind_at-requires t c = room c.requires

pub conditions-returns-then-ne : goal.conditions-returns-then-ne
unfolding fault_is
conditions-returns-then-ne t c =
    not_conditions c.requires _ c.kind_at.ensures (unlike _ kinds.Array c.if-ne.ensures)

pub conditions-after_at-end-requires : goal.conditions-after_at-end-requires
conditions-after_at-end-requires t c = room c.requires

pub conditions-overflow_add-node : goal.conditions-overflow_add-node
conditions-overflow_add-node t c = omega (arith, (room c.requires).1)

pub conditions-new-k-items-requires : goal.conditions-new-k-items-requires
conditions-new-k-items-requires t c =
    elements_lead
    (over_conditions c.requires _
    c.kind_at.ensures (alike _ kinds.Array c.if-ne.ensures) _ c.after_at-end.ensures).nodes

pub conditions-loop-k-init : goal.conditions-loop-k-init
conditions-loop-k-init t c =
    begun (ap elements_left c.into_iter-k-iterator.ensures.into_iter_gives ∙ c.new-k-items.ensures)
    (over_conditions c.requires _
    c.kind_at.ensures (alike _ kinds.Array c.if-ne.ensures) _ c.after_at-end.ensures)

this : (t : _) (c : conditions-In-Some t) → Turn c.loop-k.invariant (elements_left c.next.new.self) c.in-Some.k
this t c = turn c.loop-k.invariant c.in-Some.ensures.steps

pub conditions-overflow_sub-left : goal.conditions-overflow_sub-left
conditions-overflow_sub-left t c =
    array_left c.requires _ c.kind_at.ensures
    (alike _ kinds.Array c.if-ne.ensures) _ c.after_at-end.ensures

pub conditions-condition-requires : goal.conditions-condition-requires
conditions-condition-requires t c =
    let i = this t (goal.at.conditions-condition-requires t c).In-Some in (
      omega (
        arith,
        array_left c.requires _ c.kind_at.ensures (alike _ kinds.Array c.if-ne.ensures) _
            c.after_at-end.ensures,
      ),
      element_node i.here i.more,
    )

pub conditions-loop-k-preserved : goal.conditions-loop-k-preserved
unfolding fault_is
conditions-loop-k-preserved t c =
    let i = this t (goal.at.conditions-loop-k-preserved t c).In-Some in
    i.on (conditions_on i.here i.more c.condition.ensures (ap fault_is c.in_ok-condition.was) _ refl)

pub conditions-returns-in_err-condition : goal.conditions-returns-in_err-condition
unfolding fault_is
conditions-returns-in_err-condition t c =
    let i = this t (goal.at.conditions-returns-in_err-condition t c).In-Some in
    rw (handed_on _ c.from_residual.ensures.1)
    (conditions_fault i.here i.more c.condition.ensures _ (ap fault_is c.in_err-condition.was))

pub conditions-returns : goal.conditions-returns
unfolding fault_is
conditions-returns t c = conditions_sound c.loop-k.invariant.rest (over c.loop-k.invariant c.in-None.ensures.steps)

pub quantifier-kind_at-requires : goal.quantifier-kind_at-requires
quantifier-kind_at-requires t c = room c.requires

pub quantifier-returns-then-ne : goal.quantifier-returns-then-ne
unfolding fault_is
quantifier-returns-then-ne t c =
    not_quantifier c.requires _ c.kind_at.ensures (unlike _ kinds.Object c.if-ne.ensures)

pub quantifier-overflow_add-from : goal.quantifier-overflow_add-from
quantifier-overflow_add-from t c = omega (arith, (room c.requires).1)

pub quantifier-after_at-end-requires : goal.quantifier-after_at-end-requires
quantifier-after_at-end-requires t c = room c.requires

pub quantifier-count_members-requires : goal.quantifier-count_members-requires
quantifier-count_members-requires t c =
    members_full c.requires _ c.kind_at.ensures
    (alike _ kinds.Object c.if-ne.ensures) _ c.after_at-end.ensures

pub quantifier-returns-then-count_members-ne3 : goal.quantifier-returns-then-count_members-ne3
unfolding fault_is
quantifier-returns-then-count_members-ne3 t c =
    quant_several c.requires _ c.kind_at.ensures
    (alike _ kinds.Object c.if-ne.ensures) _ c.after_at-end.ensures _ c.count_members.ensures
    c.if-count_members-ne3.true

pub quantifier-named-requires : goal.quantifier-named-requires
quantifier-named-requires t c =
    members_full c.requires _ c.kind_at.ensures
    (alike _ kinds.Object c.if-ne.ensures) _ c.after_at-end.ensures

pub quantifier-returns-in_err-ok_or : goal.quantifier-returns-in_err-ok_or
quantifier-returns-in_err-ok_or t c =
    rw (handed_on _ c.from_residual.ensures.1)
    (quant_no_in c.requires _ c.kind_at.ensures (alike _ kinds.Object c.if-ne.ensures) _
    c.after_at-end.ensures _ c.count_members.ensures c.if-count_members-ne3.false _ c.named.ensures.told.answers
    (missed c.ok_or.ensures.value c.in_err-ok_or.was).0 ∙ (missed c.ok_or.ensures.value c.in_err-ok_or.was).1)

pub quantifier-named-requires-2 : goal.quantifier-named-requires-2
quantifier-named-requires-2 t c =
    members_full c.requires _
    c.kind_at.ensures (alike _ kinds.Object c.if-ne.ensures) _
    c.after_at-end.ensures

pub quantifier-returns-in_err-bind : goal.quantifier-returns-in_err-bind
quantifier-returns-in_err-bind t c =
    rw (handed_on _ c.from_residual-in_err-bind.ensures.1)
    (quant_no_as c.requires _ c.kind_at.ensures (alike _ kinds.Object c.if-ne.ensures) _
    c.after_at-end.ensures _ c.count_members.ensures c.if-count_members-ne3.false _ c.named.ensures.told.answers
    _ (found_so c.ok_or.ensures.ok_part c.in_ok-ok_or.was) _ c.named-2.ensures.told.answers
    (missed c.ok_or-2.ensures.value c.in_err-bind.was).0 ∙ (missed c.ok_or-2.ensures.value c.in_err-bind.was).1)

pub quantifier-named-requires-3 : goal.quantifier-named-requires-3
quantifier-named-requires-3 t c =
    members_full c.requires _
    c.kind_at.ensures (alike _ kinds.Object c.if-ne.ensures) _
    c.after_at-end.ensures

pub quantifier-returns-in_err-body : goal.quantifier-returns-in_err-body
quantifier-returns-in_err-body t c =
    rw (handed_on _ c.from_residual-in_err-body.ensures.1)
    (quant_no_that c.requires _ c.kind_at.ensures (alike _ kinds.Object c.if-ne.ensures) _
    c.after_at-end.ensures _ c.count_members.ensures c.if-count_members-ne3.false _ c.named.ensures.told.answers
    _ (found_so c.ok_or.ensures.ok_part c.in_ok-ok_or.was) _ c.named-2.ensures.told.answers
    _ (found_so c.ok_or-2.ensures.ok_part c.in_ok-bind.was) _ c.named-3.ensures.told.answers
    (missed c.ok_or-3.ensures.value c.in_err-body.was).0 ∙ (missed c.ok_or-3.ensures.value c.in_err-body.was).1)

pub quantifier-kind_at-requires-2 : goal.quantifier-kind_at-requires-2
quantifier-kind_at-requires-2 t c =
    room
    (found_node _ (found_so c.ok_or-2.ensures.ok_part c.in_ok-bind.was)
    c.named-2.ensures.told.bounds)

pub quantifier-returns-then-ne-2 : goal.quantifier-returns-then-ne-2
unfolding fault_is
quantifier-returns-then-ne-2 t c =
    quant_no_name c.requires _ c.kind_at.ensures
    (alike _ kinds.Object c.if-ne.ensures) _ c.after_at-end.ensures _
    c.count_members.ensures c.if-count_members-ne3.false _
    c.named.ensures.told.answers _
    (found_so c.ok_or.ensures.ok_part c.in_ok-ok_or.was) _ c.named-2.ensures.told.answers _ (found_so c.ok_or-2.ensures.ok_part c.in_ok-bind.was) _
    c.named-3.ensures.told.answers _
    (found_so c.ok_or-3.ensures.ok_part c.in_ok-body.was)
    (found_node _ (found_so c.ok_or-2.ensures.ok_part c.in_ok-bind.was) c.named-2.ensures.told.bounds) _
    c.kind_at-2.ensures (unlike _ kinds.Text c.if-ne-2.ensures)

pub quantifier-overflow_sub-left : goal.quantifier-overflow_sub-left
quantifier-overflow_sub-left t c =
    object_left c.requires _ c.kind_at.ensures
    (alike _ kinds.Object c.if-ne.ensures)

pub quantifier-condition-requires : goal.quantifier-condition-requires
quantifier-condition-requires t c = (
  omega (arith, object_left c.requires _ c.kind_at.ensures (alike _ kinds.Object c.if-ne.ensures)),
  found_left _ c.named-3.ensures
      (found_so c.ok_or-3.ensures.ok_part c.in_ok-body.was)
      (members_left c.requires _ c.kind_at.ensures (alike _ kinds.Object c.if-ne.ensures) _
      c.after_at-end.ensures),
)

pub quantifier-returns : goal.quantifier-returns
quantifier-returns t c =
    quant_body c.requires _ c.kind_at.ensures
    (alike _ kinds.Object c.if-ne.ensures) _ c.after_at-end.ensures _
    c.count_members.ensures c.if-count_members-ne3.false _
    c.named.ensures.told.answers _
    (found_so c.ok_or.ensures.ok_part c.in_ok-ok_or.was) _ c.named-2.ensures.told.answers _ (found_so c.ok_or-2.ensures.ok_part c.in_ok-bind.was) _
    c.named-3.ensures.told.answers _
    (found_so c.ok_or-3.ensures.ok_part c.in_ok-body.was)
    (found_node _ (found_so c.ok_or-2.ensures.ok_part c.in_ok-bind.was) c.named-2.ensures.told.bounds) _
    c.kind_at-2.ensures (alike _ kinds.Text c.if-ne-2.ensures) c.condition.ensures
