-- `line::emit::number_line` meets its contract: the start of a refusal, and its end.
-- Assumes nothing.
use mathlib.Core.List.{[], append_assoc, ◌∷◌}
use mathlib.Core.Path.{sym}
use native.Mathlib.Omega.{arith}
use Rattle.std.proofs.Common.{rules}
use Rattle.writer.proofs.Laying.{shown, then, told}
use Rattle.line.proofs.Lengths.{number_short}
use Rattle.answers.specs.Line.{decimal_digits, opened}
use Rattle.json_text.specs.Bytes.{ascii}
use Rattle.line.proofs.emit.number_line.Goals as goal

pub returns : goal.returns
returns c =
    rw c.count.ensures
    (shown c.new-line.ensures.empty
    (told (sym (append_assoc (opened (ascii "refused" ∷ decimal_digits c.args.n ∷ [])) (41 ∷ []) (10 ∷ []))) (then c.refused.ensures c.bytes.ensures))
    (search rules)
    (omega (arith, number_short c.args.n, c.requires)))
