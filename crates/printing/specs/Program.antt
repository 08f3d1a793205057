-- What the program prints for its arguments and the bytes of the input that they name: the answer to a call, or to each line. Where it is asked about
-- itself, or the arguments are wrong, there is no answer.
-- Assumes nothing.
use Rattle.std.specs.Prelude.{List, Option, None, Some, Ok, Err, Result as Fallible}
use Rattle.arguments.specs.Asked.{ask}
use Rattle.arguments.specs.declared.asked.Asked.{Asked}
use Rattle.arguments.specs.declared.asked.Asked.TheVariants as asked
use Rattle.arguments.specs.declared.asked.Misuse.{Misuse}
use Rattle.arguments.specs.declared.asked.Task.{Task}
use Rattle.arguments.specs.declared.asked.Task.TheVariants as tasks
use Rattle.json_text.specs.Bytes.{Bytes}
use Rattle.printing.specs.Lines.{answers}
use Rattle.printing.specs.Printed.{answer_to}

unfoldable pub done : Task → Bytes → Bytes
unfolding answers
done (tasks.One call) input = answer_to call input
done tasks.Lines input = answers input

unfoldable pub answer_for : Fallible Asked Misuse → Bytes → Option Bytes
unfolding done
answer_for (Ok (asked.Run task file)) input = Some (done task input)
answer_for (Ok asked.Help) input = None
answer_for (Ok asked.Version) input = None
answer_for (Err why) input = None

unfoldable pub program : List Bytes → Bytes → Option Bytes
unfolding ask answer_for
program arguments input = answer_for (ask arguments) input
