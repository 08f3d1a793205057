-- `strings::escape::escape` meets its contract: by what is known of its bytes.
-- Assumes nothing.
use mathlib.Core.Path.{ap, sym, ◌∙◌}
use native.Mathlib.Omega.{arith}
use Prim.Native.Nat.{◌+◌}
use Rattle.json_text.specs.Strings.{simple_escape}
use Rattle.strings.proofs.Leaves.{escape_bad, escape_is, escape_none, escape_simple, escape_other, no_unit, plain_unit_lem, low_unit_lem, high_unit_lem, later, hex_was, hex_was_bad}
use Rattle.strings.proofs.escape.escape.Goals.{in_default-unit-via-then-unit-lt55296, in_default-unit-via-else-unit-lt55296+else-this-lt56320+else-this-lt57344}
use Rattle.strings.proofs.escape.escape.Goals as goal

pub returns-in_err-c : goal.returns-in_err-c
returns-in_err-c c = rw c.from_residual.ensures (escape_bad (escape_none c.args.s.now c.args.at c.in_err-c.ensures.lookup.3))

pub returns-in-Some : goal.returns-in-Some
returns-in-Some c =
    let r = c.in_ok-c.ensures.lookup.3 in
    let b = c.in-Some.ensures.upper_bound in
    rw c.from.ensures
    (escape_is _ _ (escape_simple c.args.s.now c.args.at r.0 _ (ap simple_escape (sym (r.1 0)) ∙ sym c.in-Some.ensures.value)) (omega (arith, b)) (omega arith)
    (omega (arith, r.0)))

pub returns-then-c-ne117 : goal.returns-then-c-ne117
returns-then-c-ne117 c =
    let r = c.in_ok-c.ensures.lookup.3 in
    escape_bad
    (escape_other c.args.s.now c.args.at r.0 (ap simple_escape (sym (r.1 0)) ∙ sym c.in_default.ensures.value) (λ e. c.if-c-ne117.true (r.1 0 ∙ e)))

pub returns-in_err-unit : goal.returns-in_err-unit
returns-in_err-unit c =
    let r = c.in_ok-c.ensures.lookup.3 in
    rw c.from_residual-in_err-unit.ensures
    (escape_bad
    (no_unit c.args.s.now c.args.at r.0 (ap simple_escape (sym (r.1 0)) ∙ sym c.in_default.ensures.value) (sym (r.1 0) ∙ c.if-c-ne117.false)
    (hex_was_bad c.hex4.ensures c.in_err-unit.was)))

pub low_half-requires : goal.low_half-requires
low_half-requires c =
    let w = hex_was c.in_ok-unit.unit (c.args.at + 5) c.hex4.ensures c.in_ok-unit.was (omega arith) in (w.2, omega arith, omega arith)

pub returns-in-55296-to-56319 : goal.returns-in-55296-to-56319
returns-in-55296-to-56319 c =
    let r = c.in_ok-c.ensures.lookup.3 in
    let w = hex_was c.in_ok-unit.unit (c.args.at + 5) c.hex4.ensures c.in_ok-unit.was (omega arith) in
    later
    (high_unit_lem c.args.s.now c.args.at r.0 (ap simple_escape (sym (r.1 0)) ∙ sym c.in_default.ensures.value) (sym (r.1 0) ∙ c.if-c-ne117.false)
    _ _ w.0 (omega arith) (omega arith)) (omega arith) c.low_half.ensures

pub returns-in-56320-to-57343 : goal.returns-in-56320-to-57343
returns-in-56320-to-57343 c =
    let r = c.in_ok-c.ensures.lookup.3 in
    let w = hex_was c.in_ok-unit.unit (c.args.at + 5) c.hex4.ensures c.in_ok-unit.was (omega arith) in
    escape_bad
    (low_unit_lem c.args.s.now c.args.at r.0 (ap simple_escape (sym (r.1 0)) ∙ sym c.in_default.ensures.value) (sym (r.1 0) ∙ c.if-c-ne117.false)
    _ _ w.0 (omega arith) (omega arith))

pub returns-in_default-unit : goal.returns-in_default-unit
returns-in_default-unit c =
    let r = c.in_ok-c.ensures.lookup.3 in
    let w = hex_was c.in_ok-unit.unit (c.args.at + 5) c.hex4.ensures c.in_ok-unit.was (omega arith) in
    escape_is _ _
    (plain_unit_lem c.args.s.now c.args.at r.0 (ap simple_escape (sym (r.1 0)) ∙ sym c.in_default.ensures.value) (sym (r.1 0) ∙ c.if-c-ne117.false)
    _ _ w.0 (elim c.in_default-unit.branch [
      | in_default-unit-via-then-unit-lt55296 v ↦ λ p q. omega arith
      | in_default-unit-via-else-unit-lt55296+else-this-lt56320+else-this-lt57344 v ↦ λ p q. omega arith
    ])) (omega arith) (omega arith) w.2
