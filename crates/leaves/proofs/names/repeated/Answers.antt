-- `leaves::names::repeated` meets its contract: a name whose mark is not set is none of the earlier ones.
-- Assumes nothing.
use mathlib.Core.Path.{ap, sym, ◌∙◌}
use Prim.Native.Nat.{◌+◌}
use Rattle.std.specs.Option.{is_some}
use Rattle.json_text.specs.Spans.{text_at}
use Rattle.json_text.specs.Table.{members_at}
use Rattle.leaves.proofs.Marks.{found_is, was_found}
use Rattle.leaves.specs.Laid.{earlier}
use Rattle.leaves.proofs.names.repeated.Goals as goal

pub returns-then-marked : goal.returns-then-marked
unfolding earlier
returns-then-marked c =
    c.is_some.ensures ∙
    sym (was_found c.args.s.now c.args.work.now c.find.result) ∙
    ap is_some (sym c.find.ensures.answers) ∙
    found_is (text_at c.args.s.now c.args.name) (members_at c.args.s.now c.args.work.now (c.args.object + 1) c.args.count)
