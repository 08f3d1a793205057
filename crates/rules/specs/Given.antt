-- Where an effect may start from, by node.
-- Assumes nothing.
use Rattle.std.specs.Prelude.{List, ◌≡◌, ℕ, Option, Some, None}
use Rattle.json_text.specs.Bytes.{Bytes}
use Rattle.sheet.specs.Accepted.{Gives}
use Rattle.members.specs.Kinds.{some_texts}
use Rattle.members.specs.Outcome.{Effect, moves, stays}

-- where an effect may start from: the node of a move's texts, and nothing where the state is left
unfoldable pub SourcesAt : Bytes → List ℕ → Effect → Option ℕ → Type 0
SourcesAt s w f None = f ≡ stays
SourcesAt s w f (Some n) = (to : Bytes) × (from : List Bytes) × (f ≡ moves to from) × Gives some_texts s w n from
