-- The third demand of any two calls of `intake_decide`, each on its own work table and output, whatever these hold: of the numbers and sizes in the
-- words that they return, and of the lines in the outputs.
-- Assumes nothing.
use mathlib.Core.List.{List}
use Prim.Native.Nat.{ℕ}
use lib.ListN.{length}
use Rattle.answers.proofs.Repeat.{demand_seen}
use Rattle.answers.specs.Demand.{Repeats}
use Rattle.answers.specs.Entry.{decide}
use Rattle.decision.proofs.Twofold.{decide_seen}
use Rattle.decision.specs.Seen.{seen}
use Rattle.exports.proofs.Words.{word_parts}
use Rattle.exports.specs.Exported.{Exported, number_in, size_in}
use Rattle.json_text.specs.Bytes.{Bytes}

pub exports_repeat :
    (old new : Bytes) {w w' v v' : List ℕ} {o o' p p' : Bytes} {a b : ℕ} → Exported (decide old (length w) (length o)) w w' o o' a →
    Exported (decide new (length v) (length p)) v v' p p' b →
    Repeats old new (length w) (length v) (seen (number_in a) (size_in a) o') (seen (number_in b) (size_in b) p')
exports_repeat old new {w} {v = v} {o = o} {p = p} x y =
    demand_seen
    old
    new
    (length w)
    (length v)
    (length o)
    (length p)
    (decide_seen old (length w) o (word_parts x).0 (word_parts x).1 x.output)
    (decide_seen new (length v) p (word_parts y).0 (word_parts y).1 y.output)
