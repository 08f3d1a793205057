-- The outcomes: which are eligible, their guards, and the one selected.
-- Assumes nothing.
use Rattle.std.specs.Prelude.{Bool, ◌&&◌, not, ◌+◌, suc, ℕ}
use Rattle.std.proofs.Math.Bool.{false, true}
use mathlib.Core.List.{List, [], ◌∷◌}
use Rattle.std.specs.Prelude.{Option, None, Some}
use Rattle.semantics.specs.Evaluate.{Answer, certain, evaluate}
use Rattle.semantics.specs.Names.{ascending}
use Rattle.semantics.specs.Semantics.{kernel}
use Rattle.semantics.specs.Truth.{False, True, Unknown}
use Rattle.json_text.specs.Bytes.{Bytes, same_bytes}
use Rattle.json_text.specs.Refusal.{Result, ◌>>=◌, guard_unknown, no_outcome, ok, refused}
use Rattle.members.specs.Condition.{Condition}
use Rattle.members.specs.Outcome.{Outcome}
use Rattle.members.specs.Sheet.{Sheet}

-- an outcome at its place
pub record Placed : Type 0 where
  pub place : ℕ
  pub outcome : Outcome Condition

-- the first outcome that a test takes, counting places from a number on
unfoldable pub first_from : (Outcome Condition → Bool) → ℕ → List (Outcome Condition) → Option Placed
first_from p i [] = None
first_from p i (o ∷ os) = elim (p o) [ true ↦ Some (record { place = i; outcome = o }) | false ↦ first_from p (i + 1) os ]

-- the outcome at a place, places counted from i on
unfoldable pub at : ℕ → ℕ → List (Outcome Condition) → Option Placed
at i n [] = None
at i ℕ.zero (o ∷ os) = Some (record { place = i; outcome = o })
at i (suc n) (o ∷ os) = at (i + 1) n os

-- eligible: not for the wrong state, and no state of its own, no state in hand, or both equal
abbrev pub fits : Option Bytes → Option Bytes → Bool
fits None s = true
fits (Some i) None = true
fits (Some i) (Some s) = same_bytes i s

unfoldable pub eligible : Option Bytes → Outcome Condition → Bool
unfolding same_bytes
eligible state o = not o.wrong_state && fits o.in_state state

module _ (sheet : Sheet Condition) where
  -- a guard's answer; a missing guard is True
  unfoldable pub guard : Option Condition → Result Answer
  unfolding evaluate
  guard None = ok (certain true)
  guard (Some c) = evaluate kernel sheet [] c

  -- the first eligible outcome with no guard or a True one
  unfoldable pub select : ℕ → List (Outcome Condition) → Result Placed
  unfolding guard ascending eligible
  select i [] = refused no_outcome
  select i (o ∷ os) =
      elim
      (eligible sheet.state o) [
        | false ↦
            select (i + 1) os
        | true ↦
            (do
              a ← guard o.when
              elim
                  a.truth [
                    | True ↦
                        ok (record { place = i; outcome = o })
                    | False ↦
                        select (i + 1) os
                    | Unknown ↦
                        refused (guard_unknown i o.name (ascending a.names))
                  ])
      ]
