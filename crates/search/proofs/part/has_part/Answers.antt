-- `search::part::has_part` meets its contract: by the room that the part asks for.
-- Assumes nothing.
use Rattle.search.proofs.Reading.{settled}
use Rattle.std.proofs.Common.{rules}
use Rattle.search.proofs.part.has_part.Goals as goal

pub returns : goal.returns
returns c =
    settled _ _ c.part_of.result c.or_else.result c.unwrap_or_else.result c.part_of.ensures c.or_else.ensures (λ a. search rules) c.unwrap_or_else.ensures (λ b. search rules)
