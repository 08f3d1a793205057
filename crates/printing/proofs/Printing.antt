-- What is printed for a call: the line that it has written, or the number where it has written none.
-- Assumes nothing.
use mathlib.Core.List.{List}
use Rattle.std.specs.Prelude.{Option, None, Some, option_map}
use mathlib.Core.Path.{ap, sym, ◌∙◌, ◌≡◌}
use Prim.Native.Nat.{ℕ, ◌≤◌}
use native.Mathlib.Omega.{arith}
use lib.ListN.{drop, length, length-append}
use Rattle.answers.specs.Entry.{Reply, output_after}
use Rattle.answers.specs.Line.{number_line}
use Rattle.calling.specs.declared.Call.{Call}
use Rattle.decision.specs.Called.{Called}
use Rattle.decision.specs.Calls.{call_of}
use Rattle.json_text.specs.Bytes.{Bytes}
use Rattle.printing.specs.Printed.{answer_to, printed}
use Rattle.writer.specs.Laid.{Shown}
use Rattle.line.specs.Replies.{length_of, number_of}
use Rattle.line.specs.declared.reply.Reply.{Reply as Case}

module _ {a : Reply} {w w' : List ℕ} {o o' : Bytes} {r : Case} (c : Called a w w' o o' r) where
  pub with_line : {n : ℕ} → length_of r ≡ Some n → Shown (printed a) o o' n
  with_line {n} h = go a.line (sym h ∙ c.lined) c.output
    where
      go : (l : Option Bytes) → Some n ≡ option_map length l → o' ≡ output_after (record { number = a.number; line = l }) o →
          Shown (printed (record { number = a.number; line = l })) o o' n
      go None e q = absurd (cc)
      go (Some l) e q = record { size = cc; bytes = q }

  pub with_number : length_of r ≡ None → {n : ℕ} → n ≡ number_of r → {o₂ : Bytes} {k : ℕ} → Shown (number_line n) o' o₂ k → Shown (printed a) o o₂ k
  with_number h e {o₂} {k} m = go a.line (sym h ∙ c.lined) c.output
    where
      go : (l : Option Bytes) → None ≡ option_map length l → o' ≡ output_after (record { number = a.number; line = l }) o → Shown (printed (record { number = a.number; line = l })) o o₂ k
      go None z q = rw (← c.is_number, ← e, ← q) m
      go (Some l) z q = absurd (cc)

-- a call with the program's own sizes
pub as_answer : (x : Call) (s : Bytes) {words size : ℕ} → words ≡ 16384 → size ≡ 65536 → {o o' : Bytes} {k : ℕ} →
    Shown (printed (call_of x s words size)) o o' k → Shown (answer_to x s) o o' k
as_answer x s p q m = rw (p, q) at m

-- what is shown fits the output
pub shown_fits : {text o o' : Bytes} {k : ℕ} → Shown text o o' k → k ≤ length o'
shown_fits {text} {o} m = omega (arith, m.size, ap length m.bytes ∙ length-append text (drop (length text) o))
