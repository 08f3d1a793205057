-- `reader::rows::find` meets its contract: the loop says that the search from here on is the whole search.
-- Assumes nothing.
use Prim.Native.Nat.{◌-◌}
use Rattle.strings.proofs.Members.{Searching}
use Rattle.json_text.specs.Bytes.{find}
use Rattle.json_text.specs.Json.{entries}
use Rattle.json_text.specs.Spans.{text_at}
use Rattle.json_text.specs.Table.{members_at}
use Rattle.strings.proofs.rows.find.Given as goal

abbrev pub invariant-loop-k : goal.invariant-loop-k
invariant-loop-k l =
    Searching l.s l.work l.name l.end (find (text_at l.s l.name) (entries (members_at l.s l.work l.from l.end))) l.k

abbrev pub decreases-loop-k : goal.decreases-loop-k
decreases-loop-k l = l.end - l.k
