-- What a call on a sheet's bytes promises: its number, its line's size, which fits 32 bits, or that it has no line, its line in the output, and the words that it leaves.
-- Assumes nothing.
use Rattle.std.specs.Prelude.{List, None, ◌≡◌, ℕ, ◌<◌}
use Rattle.answers.specs.Line.{refusal_number}
use Rattle.answers.specs.Reply.{line_size}
use Rattle.json_text.specs.Bytes.{Bytes}
use Rattle.json_text.specs.Refusal.{Refusal}
use Rattle.answers.specs.Entry.{Reply, output_after, work_after}
use Rattle.line.specs.Emitted.{line_length}
use Rattle.line.specs.Replies.{length_of, number_of, size_of}
use Rattle.line.specs.declared.reply.Reply.{Reply as Case}

pub record Called (answer : Reply) (w w' : List ℕ) (o o' : Bytes) (r : Case) : Type 0 where
  pub is_number : number_of r ≡ answer.number
  pub is_size : size_of r ≡ line_size answer
  pub lined : length_of r ≡ line_length answer
  pub short : size_of r < 4294967296
  pub output : o' ≡ output_after answer o
  pub work : w' ≡ work_after w

-- what is seen of a call by its number and its line's size
pub record Replied (answer : Reply) (w w' : List ℕ) (o o' : Bytes) (r : Case) : Type 0 where
  pub is_number : number_of r ≡ answer.number
  pub is_size : size_of r ≡ line_size answer
  pub output : o' ≡ output_after answer o
  pub work : w' ≡ work_after w

-- a refusal without a line
pub record Refuses (why : Refusal) (r : Case) : Type 0 where
  pub is_number : number_of r ≡ refusal_number why
  pub lined : length_of r ≡ None
