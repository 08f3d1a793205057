-- What an exported call promises: one word that holds its number and its line's length, and output and work table as the call leaves them.
-- Assumes nothing.
use Rattle.std.specs.Prelude.{List, ◌≡◌, ℕ, ◌%◌, ◌*◌, ◌+◌, ◌<◌, ◌/◌}
use Rattle.answers.specs.Entry.{Reply, output_after, work_after}
use Rattle.answers.specs.Reply.{line_size}
use Rattle.json_text.specs.Bytes.{Bytes}

-- the number in the upper 32 bits of a word, the length in the lower ones
abbrev pub word_of : ℕ → ℕ → ℕ
word_of number size = number * 4294967296 + size

-- and both as a caller reads them off the word
abbrev pub number_in : ℕ → ℕ
number_in word = word / 4294967296

abbrev pub size_in : ℕ → ℕ
size_in word = word % 4294967296

pub record Exported (answer : Reply) (w w' : List ℕ) (o o' : Bytes) (r : ℕ) : Type 0 where
  pub word : r ≡ word_of answer.number (line_size answer)
  pub short : line_size answer < 4294967296
  pub output : o' ≡ output_after answer o
  pub work : w' ≡ work_after w
