-- `paths::member::member_of` meets its contract: what is found further on, or else what was found before, is the member.
-- Assumes nothing.
use Prim.Native.Nat.{◌-◌}
use Rattle.paths.proofs.Lookup.{Picking, found_so_far}
use Rattle.paths.specs.Path.{part}
use Rattle.paths.specs.Stored.{table}
use Rattle.json_text.specs.Spans.{text_at}
use Rattle.paths.proofs.member.member_of.Given as goal

abbrev pub invariant-loop-k : goal.invariant-loop-k
invariant-loop-k l = Picking l.s (table l.work) (part (text_at l.path 0)) l.node l.end (found_so_far l.found) l.k

abbrev pub decreases-loop-k : goal.decreases-loop-k
decreases-loop-k l = l.end - l.k
