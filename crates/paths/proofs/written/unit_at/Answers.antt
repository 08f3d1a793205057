-- `paths::written::unit_at` meets its contract: by the byte at the place, a law for each.
-- Assumes nothing.
use borrow.Author.Rules.{rules}
use Rattle.paths.proofs.Units.{unit_end, unit_escaped, unit_raw}
use Rattle.paths.specs.Told.{UnitTold}
use Rattle.paths.proofs.written.unit_at.Goals as goal

pub returns-in-34 : goal.returns-in-34
unfolding UnitTold
returns-in-34 c = unit_end c.args.s.now c.args.at c.requires c.in-34.is

pub returns-in-92 : goal.returns-in-92
returns-in-92 c = unit_escaped c.args.s.now c.args.at c.requires c.in-92.is c.escape.ensures

pub returns-in_default : goal.returns-in_default
unfolding UnitTold
returns-in_default c = rw c.from.ensures (unit_raw c.args.s.now c.args.at c.requires (search rules) (search rules))
