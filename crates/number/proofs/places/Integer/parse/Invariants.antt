-- `Integer::parse` meets its contract: first the text is read from its end, then what is carried over goes into further digits.
-- Assumes nothing.
use Rattle.std.proofs.Common.{length, ◌+◌}
use Rattle.json_text.specs.Bytes.{natural}
use Rattle.number.proofs.Columns.{Carrying, Reading}
use Rattle.number.proofs.places.Integer.parse.Given as goal

abbrev pub invariant-loop-i : goal.invariant-loop-i
invariant-loop-i l =
    (goal.iterator-loop-i).can_next l.i-iterator × (goal.iterator-loop-i).is_finite l.i-iterator × Reading l.s l.more l.digits (length l.yielded) l.carry

abbrev pub invariant-loop-carry : goal.invariant-loop-carry
invariant-loop-carry l = Carrying (natural 0 l.s + l.more) l.digits l.count l.carry

abbrev pub decreases-loop-carry : goal.decreases-loop-carry
decreases-loop-carry l = l.carry
