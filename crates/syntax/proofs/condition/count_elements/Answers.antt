-- `syntax::condition::count_elements` meets its contract: so many so far, and those from here on.
-- Assumes nothing.
use mathlib.Core.Path.{refl}
use native.Mathlib.Omega.{arith}
use Rattle.strings.proofs.Members.{elements_lead}
use Rattle.strings.proofs.Nodes.{begun, counted, over}
use Rattle.strings.specs.Nodes.{elements_left}
use lib.ListN.{length}
use Rattle.json_text.specs.Json.{elements}
use Rattle.json_text.specs.Table.{values_at}
use Rattle.syntax.proofs.Counts.{ElementsCounted, element_counted, elements_all, elements_counted}
use Rattle.syntax.proofs.condition.count_elements.Goals as goal

pub new-requires : goal.new-requires
new-requires c = elements_lead c.requires

pub returns : goal.returns
returns c =
    let s = c.args.s.now in
    let w = c.args.work.now in
    let whole = length (elements (values_at s w c.args.from c.args.end)) in
    let ran = c.count.ensures.ran in
    let first = elements_counted s w c.args.from c.args.end c.requires in
    let a = counted elements_left (ElementsCounted s w c.args.end whole) (λ n k i h. element_counted i h _ refl) 0 ran.0 ran.1.1.1 (begun c.new.ensures first) in
    omega (arith, ran.2, elements_all a.rest (over a ran.1.1.2))
