-- `exports::word_of` meets its contract: number and length fit a word.
-- Assumes nothing.
use mathlib.Core.Path.{ap, ◌∙◌, ◌≡◌}
use native.Mathlib.Omega.{arith}
use Rattle.std.specs.Prelude.{Option, unwrap_or}
use Prim.Native.Nat.{ℕ}
use Rattle.line.specs.Replies.{size_of}
use Rattle.exports.proofs.word_of.Goals as goal

pub overflow_add-result : goal.overflow_add-result
overflow_add-result c =
    let size : c.unwrap_or.result ≡ size_of c.args.reply = c.unwrap_or.ensures ∙ ap (λ (x : Option ℕ). unwrap_or x 0) c.size.ensures in
    omega (arith, size, c.requires, c.number.ensures.upper_bound)
