-- The word of an exported call, from what the call promises, and number and length read back from the word.
-- Assumes nothing.
use mathlib.Core.List.{List}
use mathlib.Core.Path.{◌≡◌}
use Prim.Native.Nat.{ℕ}
use native.Mathlib.Omega.{arith}
use Rattle.decision.specs.Called.{Called}
use Rattle.answers.specs.Entry.{Reply}
use Rattle.answers.specs.Reply.{line_size}
use Rattle.line.specs.Replies.{number_of, size_of}
use Rattle.line.specs.declared.reply.Reply.{Reply as Case}
use Rattle.json_text.specs.Bytes.{Bytes}
use Rattle.exports.specs.Exported.{Exported, number_in, size_in, word_of}

pub exported :
    {answer : Reply} {w w' : List ℕ} {o o' : Bytes} {r : Case} {n : ℕ} → Called answer w w' o o' r → n ≡ word_of (number_of r) (size_of r) →
    Exported answer w w' o o' n
exported c e = record { word = rw (← c.is_number, ← c.is_size) e; short = rw (← c.is_size) c.short; output = c.output; work = c.work }

-- what a caller reads off the word
pub word_parts : {answer : Reply} {w w' : List ℕ} {o o' : Bytes} {r : ℕ} → Exported answer w w' o o' r → (number_in r ≡ answer.number) × (size_in r ≡ line_size answer)
word_parts x = (omega arith, omega arith)
