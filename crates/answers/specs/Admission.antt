-- Admission: whether an outcome is kept in the state in hand.
-- Assumes nothing.
use Rattle.std.specs.Prelude.{Bool, ◌&&◌, false, not, true, List, [], ◌∷◌}
use Rattle.answers.specs.Outcomes.{Placed, first_from}
use Rattle.json_text.specs.Bytes.{Bytes, is_one_of}
use Rattle.json_text.specs.Refusal.{Result, not_a_source, ok, or_else, refused, wrong_state}
use Rattle.members.specs.Condition.{Condition}
use Rattle.members.specs.Outcome.{Effect, Outcome, moves, stays}

-- the states that a move starts from
abbrev pub sources : Effect → List Bytes
sources stays = []
sources (moves to from) = from

unfoldable pub is_source : Bytes → List (Outcome Condition) → Bool
unfolding is_one_of
is_source s [] = false
is_source s (o ∷ os) = elim (is_one_of s (sources o.effect)) [ true ↦ true | false ↦ is_source s os ]

-- a declared state that no outcome starts from
abbrev pub is_wrong : List Bytes → List (Outcome Condition) → Bytes → Bool
is_wrong states os s = is_one_of s states && not (is_source s os)

-- the outcome that is kept in a state, or the first for the wrong state
unfoldable pub admit : List Bytes → List (Outcome Condition) → Bytes → Placed → Result Placed
unfolding is_one_of is_source first_from
admit states os s p =
    elim
    p.outcome.effect [
      | stays ↦
          ok p
      | moves to from ↦
          elim
          (is_one_of s from) [
            | true ↦
                ok p
            | false ↦
                elim
                (is_wrong states os s) [
                  | true ↦
                      or_else (first_from (λ o. o.wrong_state) 0 os) (wrong_state s)
                  | false ↦
                      refused (not_a_source p.place p.outcome.name s from)
                ]
          ]
    ]
