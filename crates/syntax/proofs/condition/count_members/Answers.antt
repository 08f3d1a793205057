-- `syntax::condition::count_members` meets its contract: so many so far, and those from here on.
-- Assumes nothing.
use mathlib.Core.Path.{refl}
use native.Mathlib.Omega.{arith}
use Rattle.strings.proofs.Members.{members_lead}
use Rattle.strings.proofs.Nodes.{begun, counted, over}
use Rattle.strings.specs.Nodes.{keys_left}
use lib.ListN.{length}
use Rattle.json_text.specs.Json.{entries}
use Rattle.json_text.specs.Table.{members_at}
use Rattle.syntax.proofs.Counts.{MembersCounted, member_counted, members_all, members_counted}
use Rattle.syntax.proofs.condition.count_members.Goals as goal

pub new-requires : goal.new-requires
new-requires c = members_lead c.requires

pub returns : goal.returns
returns c =
    let s = c.args.s.now in
    let w = c.args.work.now in
    let whole = length (entries (members_at s w c.args.from c.args.end)) in
    let ran = c.count.ensures.ran in
    let first = members_counted s w c.args.from c.args.end c.requires in
    let a = counted keys_left (MembersCounted s w c.args.end whole) (λ n k i h. member_counted i h _ refl) 0 ran.0 ran.1.1.1 (begun c.new.ensures first) in
    omega (arith, ran.2, members_all a.rest (over a ran.1.1.2))
