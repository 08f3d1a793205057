-- What is said of an outcome that the code gives by its place and node.
-- Assumes nothing.
use Rattle.std.specs.Prelude.{List, ◌≡◌, ℕ}
use Rattle.std.specs.Prelude.{Option, None, Some}
use Rattle.json_text.specs.Bytes.{Bytes}
use Rattle.sheet.specs.Accepted.{Gives}
use Rattle.members.specs.Condition.{Condition, condition}
use Rattle.members.specs.Outcome.{Outcome, an_outcome}
use Rattle.answers.specs.Outcomes as sought
use Rattle.rules.specs.declared.placed.Placed.{Placed}

-- the outcome that was sought, or that there is none
unfoldable pub PlacedAt : Bytes → List ℕ → Option sought.Placed → Option Placed → Type 0
PlacedAt s w p None = p ≡ None
PlacedAt s w p (Some c) = (o : Outcome Condition) × (p ≡ Some (record { place = c.place; outcome = o })) × Gives (an_outcome condition) s w c.node o
