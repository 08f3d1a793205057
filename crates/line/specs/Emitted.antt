-- What giving an answer back promises: its case, and its line in the output.
-- Assumes nothing.
use Rattle.std.specs.Prelude.{List, Option, ◌≡◌, ℕ, length, option_map}
use Rattle.answers.specs.Reply.{Reply, form_of, line_size, output_after, reply}
use Rattle.answers.specs.Reply.{number_of as verdict_number}
use Rattle.answers.specs.Verdict.{Verdict}
use Rattle.json_text.specs.Bytes.{Bytes}
use Rattle.json_text.specs.Refusal.{Result}
use Rattle.line.specs.Replies.{length_of, number_of, size_of}
use Rattle.line.specs.declared.reply.Reply.{Reply as Case}
use Rattle.writer.specs.Meaning.{meaning}
use Rattle.writer.specs.declared.answer.Answer.{Answer}

-- the length of a reply's line, where it has one
abbrev pub line_length : Reply → Option ℕ
line_length r = option_map length r.line

-- the case of an answer or a refusal whose line, where it has one, is of this size
pub record Cased (x : Result Verdict) (size : ℕ) (r : Case) : Type 0 where
  pub number : number_of r ≡ verdict_number x
  pub length : length_of r ≡ option_map (λ _. size) (form_of x)

-- an answer given back: its number, its line's size, and its line at the start of the output, or 23 and nothing changed
pub record Emitted (s : Bytes) (w : List ℕ) (a : Answer) (o o' : Bytes) (r : Case) : Type 0 where
  pub number : number_of r ≡ (reply (length o) (meaning s w a)).number
  pub size : size_of r ≡ line_size (reply (length o) (meaning s w a))
  pub lined : length_of r ≡ line_length (reply (length o) (meaning s w a))
  pub output : o' ≡ output_after (reply (length o) (meaning s w a)) o
