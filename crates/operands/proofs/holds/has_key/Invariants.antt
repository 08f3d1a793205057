-- `operands::holds::has_key` meets its contract: the key is looked for among the names left.
-- Assumes nothing.
use mathlib.Core.Bool.{true}
use Rattle.json_text.specs.Bytes.{is_one_of}
use Rattle.json_text.specs.Spans.{text_at}
use Rattle.paths.specs.Layered.{kids}
use Rattle.paths.specs.Matched.{names_of}
use Rattle.paths.specs.Stored.{table}
use Rattle.operands.proofs.Pairs.{Looking}
use Rattle.operands.proofs.holds.has_key.Given as goal

abbrev pub invariant-loop-x : goal.invariant-loop-x
invariant-loop-x l =
    Looking l.s (table l.work) true
    (is_one_of (text_at l.s l.key) (names_of l.s (table l.work) (kids l.s (table l.work) l.node true)))
    (λ ks. is_one_of (text_at l.s l.key) (names_of l.s (table l.work) ks)) l.c

abbrev pub decreases-loop-x : goal.decreases-loop-x
decreases-loop-x l = l.c.left
