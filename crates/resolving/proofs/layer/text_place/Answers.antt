-- `resolving::layer::text_place` meets its contract: less its first unit, or whole.
-- Assumes nothing.
use borrow.Author.Rules.{rules}
use Rattle.resolving.proofs.Layered.{at_start, place_behind, place_whole}
use Rattle.paths.specs.Stored.{table}
use Rattle.resolving.proofs.layer.text_place.Goals as goal

pub unit_at-requires : goal.unit_at-requires
unit_at-requires c =
    at_start c.args.s.now (table c.args.work.now) c.args.o c.requires.1 c.requires.2
    c.start_at-start.ensures

pub returns-in-Less : goal.returns-in-Less
returns-in-Less c =
    place_behind c.args.s.now (table c.args.work.now) c.args.o c.requires.1 c.requires.2
    c.start_at-start.ensures c.in-Less.is c.unit_at.ensures (λ q. search rules) (λ x q. search rules)

pub returns-in_default : goal.returns-in_default
returns-in_default c =
    place_whole c.args.s.now (table c.args.work.now) c.args.o c.requires.1 c.requires.2
    c.start_at-start.ensures c.in_default.not-Less
