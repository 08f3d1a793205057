-- What is answered to the first 32,769 bytes, and to the lines of an input chunk by chunk, is what the program prints for the whole input.
-- Assumes nothing.
use mathlib.Core.List.{List, ◌++◌}
use Rattle.std.specs.Prelude.{Option, Some, Ok, Result as Fallible}
use mathlib.Core.Path.{ap, sym, ◌∙◌, ◌≡◌}
use Prim.Native.Nat.{ℕ}
use lib.ListN.{take}
use Rattle.arguments.specs.Asked.{ask}
use Rattle.arguments.specs.declared.asked.Asked.{Asked}
use Rattle.arguments.specs.declared.asked.Asked.TheVariants as asked
use Rattle.calling.specs.declared.Call.{Call}
use Rattle.arguments.specs.declared.asked.Misuse.{Misuse}
use Rattle.arguments.specs.declared.asked.Task.TheVariants as tasks
use Rattle.json_text.specs.Bytes.{Bytes}
use Rattle.printing.proofs.Feeding.{all_answered}
use Rattle.printing.proofs.Overlong.{cut_answer}
use Rattle.printing.specs.Lines.{each, last_line}
use Rattle.printing.specs.Printed.{answer_to}
use Rattle.printing.specs.Program.{answer_for, program}
use Rattle.printing.specs.Progress.{Fed, Unended}

module _ (arguments : List Bytes) (file : Option ℕ) (input : Bytes) where
  pub one_sheet : (call : Call) → ask arguments ≡ Ok (asked.Run (tasks.One call) file) → program arguments input ≡ Some (answer_to call (take 32769 input))
  unfolding program answer_for
  one_sheet call e = ap (λ (a : Fallible Asked Misuse). answer_for a input) e ∙ ap {B = Option Bytes} Some (sym (cut_answer call input))

  pub each_line : ask arguments ≡ Ok (asked.Run tasks.Lines file) → {handed kept : Bytes} → Fed input handed kept → Unended kept →
      program arguments input ≡ Some (handed ++ each (last_line kept))
  unfolding program answer_for
  each_line e f h = ap (λ (a : Fallible Asked Misuse). answer_for a input) e ∙ ap {B = Option Bytes} Some (all_answered f h)
