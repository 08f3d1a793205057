-- What "the first eligible outcome with no guard or a True one" says, without the search that finds it.
-- Assumes nothing.
use Rattle.std.specs.Prelude.{false, true, ◌⊎◌, ◌≡◌, ℕ, ◌+◌, length}
use mathlib.Core.List.{List, Memᴰ, ◌++◌, ◌∷◌}
use Rattle.std.specs.Prelude.{Option}
use Rattle.answers.specs.Outcomes.{Placed, eligible, guard}
use Rattle.semantics.specs.Evaluate.{Answer}
use Rattle.semantics.specs.Truth.{False, True, Truth}
use Rattle.json_text.specs.Refusal.{ok}
use Rattle.members.specs.Condition.{Condition}
use Rattle.members.specs.Outcome.{Outcome}
use Rattle.members.specs.Sheet.{Sheet}

-- a guard that answers a truth; a missing one answers True
abbrev pub Answers : Sheet Condition → Option Condition → Truth → Type 0
Answers s w t = (a : Answer) × (guard s w ≡ ok a) × (a.truth ≡ t)

-- The outcome selected: the first eligible one whose guard is missing or True, each eligible one before it being False.
pub record FirstTrue (s : Sheet Condition) (i : ℕ) (os : List (Outcome Condition)) (p : Placed) : Type 0 where
  pub before : List (Outcome Condition)
  pub behind : List (Outcome Condition)
  pub parts : os ≡ before ++ (p.outcome ∷ behind)
  pub place : p.place ≡ i + length before
  pub is_eligible : eligible s.state p.outcome ≡ true
  pub is_true : Answers s p.outcome.when True
  pub are_false : (o : Outcome Condition) → Memᴰ o before → (eligible s.state o ≡ false) ⊎ Answers s o.when False
