-- What the arguments ask: `intake [FILE]`, `intake CALL [ARGUMENTS] [FILE]`, `intake lines [FILE]`, an option, or what is wrong with them. An argument is
-- told by its place, 0 the first one behind the program's name. A call that is added has its word in Words and its line in `asks`.
-- Assumes nothing.
use Rattle.std.specs.Prelude.{cond, List, [], ◌∷◌, ℕ, ◌+◌, ◌-◌, eqb, leb, ltb, get_or, length, Option, Some, None, Ok, Err, Result as Fallible}
use Rattle.json_text.specs.Bytes.{Bytes, choose}
use Rattle.arguments.specs.Places.{place_in}
use Rattle.arguments.specs.Words.{word_of}
use Rattle.arguments.specs.declared.asked.Asked.{Asked}
use Rattle.arguments.specs.declared.asked.Asked.TheVariants as asked
use Rattle.arguments.specs.declared.asked.Misuse.{Misuse}
use Rattle.arguments.specs.declared.asked.Misuse.TheVariants as misuses
use Rattle.calling.specs.declared.Call.TheVariants as calls
use Rattle.arguments.specs.declared.asked.Task.{Task}
use Rattle.arguments.specs.declared.asked.Task.TheVariants as tasks
use Rattle.arguments.specs.declared.word.Word.{Word}
use Rattle.arguments.specs.declared.word.Word.TheVariants as words

-- after so many arguments one file may stand, and nothing further
unfoldable pub with_file : Task → ℕ → ℕ → Fallible Asked Misuse
with_file task passed count =
    choose
    ((leb count passed, Ok (asked.Run task None)) ∷
    (eqb (count - passed) 1, Ok (asked.Run task (Some passed))) ∷
    [])
    (Err (misuses.Further (passed + 1)))

-- nothing may stand behind the first argument
unfoldable pub alone : Asked → ℕ → Fallible Asked Misuse
alone a count = cond (ltb 1 count) (Err (misuses.Further 1)) (Ok a)

unfoldable pub admits_at : Option ℕ → ℕ → Fallible Asked Misuse
unfolding with_file
admits_at (Some n) count = with_file (tasks.One (calls.Admit n)) 2 count
admits_at None count = Err misuses.WrongPlace

unfoldable pub admits : ℕ → Bytes → Fallible Asked Misuse
unfolding admits_at place_in
admits count second = cond (ltb count 2) (Err misuses.NoPlace) (admits_at (place_in second) count)

-- by the first argument's word, for so many arguments and the second one
unfoldable pub asks : Word → ℕ → Bytes → Fallible Asked Misuse
unfolding with_file alone admits
asks words.Evaluate count second = with_file (tasks.One calls.Evaluate) 1 count
asks words.Preconditions count second = with_file (tasks.One calls.Preconditions) 1 count
asks words.Invariants count second = with_file (tasks.One calls.Invariants) 1 count
asks words.Select count second = with_file (tasks.One calls.Select) 1 count
asks words.Admit count second = admits count second
asks words.Decide count second = with_file (tasks.One calls.Decide) 1 count
asks words.Lines count second = with_file tasks.Lines 1 count
asks words.Help count second = alone asked.Help count
asks words.Version count second = alone asked.Version count
asks words.UnknownOption count second = Err misuses.UnknownOption
asks words.File count second = with_file (tasks.One calls.Decide) 0 count

-- for so many arguments and the first two; one that is missing is empty
unfoldable pub asks_for : ℕ → Bytes → Bytes → Fallible Asked Misuse
unfolding asks word_of
asks_for count first second = cond (eqb count 0) (Ok (asked.Run (tasks.One calls.Decide) None)) (asks (word_of first) count second)

-- the arguments behind the program's name
unfoldable pub ask : List Bytes → Fallible Asked Misuse
unfolding asks_for
ask ws = asks_for (length ws) (get_or ws 0 []) (get_or ws 1 [])
