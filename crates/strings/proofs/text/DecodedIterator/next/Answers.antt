-- The iterator over a text gives its bytes: by its state, a law for each.
-- Assumes nothing.
use mathlib.Core.Path.{◌≡◌, ap}
use Prim.Native.Nat.{◌-◌}
use native.Mathlib.Omega.{arith}
use lib.ListN.{length}
use Rattle.std.proofs.Common.{rules}
use Rattle.strings.proofs.Decoding.{raw_behind, raw_given}
use Rattle.strings.proofs.Leaves.{escape_was, escape_was_bad}
use Rattle.json_text.proofs.Cursor.{turn_1, turn_2, turn_3, turn_bad, turn_end, turn_escape}
use Rattle.json_text.specs.Cursor.{Took}
use Rattle.json_text.specs.Refusal.{not_json}
use Rattle.strings.specs.Decoded.{left_of}
use Rattle.strings.proofs.text.DecodedIterator.next.Goals.{After-first-byte, in-1, in-2, in_default}
use Rattle.strings.proofs.text.DecodedIterator.next.Goals as goal

pub returns-then-left-gt0-clause-steps : goal.returns-then-left-gt0-clause-steps
unfolding left_of
returns-then-left-gt0-clause-steps c =
    let d = c.args.self.now in
    elim c.match-left.branch [
      | in-1 w ↦
          let e : d.left ≡ 1 = omega arith in
          let f : d.left - 1 ≡ 0 = omega arith in
          rw (w.bits-is, f) (turn_1 d.s.now d.at d.unit d.left d.on_text e).byte
      | in-2 w ↦
          let e : d.left ≡ 2 = omega arith in
          let f : d.left - 1 ≡ 1 = omega arith in
          rw (w.bits-is, f) (turn_2 d.s.now d.at d.unit d.left d.on_text e).byte
      | in_default w ↦
          let e : d.left ≡ 3 = omega (arith, d.on_text.few) in
          let f : d.left - 1 ≡ 2 = omega arith in
          rw (w.bits-is, f) (turn_3 d.s.now d.at d.unit d.left d.on_text e).byte
    ]

pub returns-then-left-gt0-clause-goes : goal.returns-then-left-gt0-clause-goes
returns-then-left-gt0-clause-goes c =
    let shorter = ap length (returns-then-left-gt0-clause-steps c) in search rules

pub returns-in_err-unit-in-92-clause-steps : goal.returns-in_err-unit-in-92-clause-steps
returns-in_err-unit-in-92-clause-steps c =
    let d = c.args.self.now in
    turn_bad d.s.now d.at d.unit d.left d.on_text (omega arith) not_json c.in-92.is
    (escape_was_bad c.escape.ensures c.in_err-unit-in-92.was)

pub first-byte-requires : goal.first-byte-requires
first-byte-requires c = (escape_was c.in_ok-unit-in-92.field-0 c.escape.ensures c.in_ok-unit-in-92.was).1

-- the escape's first byte, and what is behind it
took : (c : After-first-byte) →
    let d = c.args.self.now in
    Took d.s.now d.at d.unit d.left c.first-byte.result.0 c.in_ok-unit-in-92.field-0.next c.in_ok-unit-in-92.field-0.unit c.first-byte.result.1
took c =
    let d = c.args.self.now in
    let w = escape_was c.in_ok-unit-in-92.field-0 c.escape.ensures c.in_ok-unit-in-92.was in
    turn_escape d.s.now d.at d.unit d.left d.on_text (omega arith) _ _ _ _ c.in-92.is w.0 w.3 c.first-byte.ensures.few
    c.first-byte.ensures.bytes

pub invariant_of-self-in-92 : goal.invariant_of-self-in-92
invariant_of-self-in-92 c = record { on_text = (took c).on_text }

pub invariant_of-self-in_default-s : goal.invariant_of-self-in_default-s
invariant_of-self-in_default-s c =
    let d = c.args.self.now in
    record { on_text = raw_behind d.s.now d.at d.unit d.left d.on_text (omega arith) (λ e. omega arith) (λ e. omega arith) }

pub returns-in-34-clause-steps : goal.returns-in-34-clause-steps
unfolding left_of
returns-in-34-clause-steps c =
    let d = c.args.self.now in
    let none = turn_end d.s.now d.at d.unit d.left d.on_text (omega arith) c.in-34.is in
    (none, none)

pub returns-in_ok-unit-in-92-clause-steps : goal.returns-in_ok-unit-in-92-clause-steps
unfolding left_of
returns-in_ok-unit-in-92-clause-steps c = (took (goal.at.returns-in_ok-unit-in-92-clause-steps c).After-first-byte).byte

pub returns-in_ok-unit-in-92-clause-goes : goal.returns-in_ok-unit-in-92-clause-goes
returns-in_ok-unit-in-92-clause-goes c =
    let shorter = ap length (returns-in_ok-unit-in-92-clause-steps c) in search rules

pub returns-in_default-s-clause-steps : goal.returns-in_default-s-clause-steps
unfolding left_of
returns-in_default-s-clause-steps c =
    let d = c.args.self.now in
    raw_given d.s.now d.at d.unit d.left d.on_text (omega arith) (λ e. omega arith) (λ e. omega arith)

pub returns-in_default-s-clause-goes : goal.returns-in_default-s-clause-goes
returns-in_default-s-clause-goes c =
    let shorter = ap length (returns-in_default-s-clause-steps c) in search rules
