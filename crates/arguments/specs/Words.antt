-- What the first argument is: a call's word, an option, or else a file.
-- Assumes nothing.
use Rattle.std.specs.Prelude.{List, [], ◌∷◌}
use Rattle.std.specs.Prelude.{Option, None, Some}
use Rattle.json_text.specs.Bytes.{Bytes, ascii, begins, choose, find, same_bytes}
use Rattle.arguments.specs.declared.word.Word.{Word}
use Rattle.arguments.specs.declared.word.Word.TheVariants as words

abbrev pub call_words : List (Bytes × Word)
call_words =
    (ascii "evaluate", words.Evaluate) ∷
    (ascii "preconditions", words.Preconditions) ∷
    (ascii "invariants", words.Invariants) ∷
    (ascii "select", words.Select) ∷
    (ascii "admit", words.Admit) ∷
    (ascii "decide", words.Decide) ∷
    (ascii "lines", words.Lines) ∷
    []

-- one that begins with `-` is an option; any other that is no call's word is a file
unfoldable pub option_of : Bytes → Word
unfolding same_bytes begins
option_of w =
    choose
    ((same_bytes w (ascii "--help"), words.Help) ∷
    (same_bytes w (ascii "--version"), words.Version) ∷
    (begins (ascii "-") w, words.UnknownOption) ∷
    [])
    words.File

abbrev pub or_else : Option Word → Word → Word
or_else None w = w
or_else (Some v) w = v

unfoldable pub word_of : Bytes → Word
unfolding find option_of
word_of w = or_else (find w call_words) (option_of w)
