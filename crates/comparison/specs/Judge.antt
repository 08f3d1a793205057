-- Conditions over operands that are not copied: truth with its names.
-- Assumes nothing.
use Rattle.std.specs.Prelude.{List, [], ◌∷◌, ◌++◌, false, true, None, Some}
use Rattle.semantics.specs.Evaluate.{Answer, certain, is_present, joined, unknown}
use Rattle.semantics.specs.Operand.{Resolved, missing, present}
use Rattle.semantics.specs.Truth.{negate, settles, start}
use Rattle.json_text.specs.Refusal.{Result, ◌>>=◌, ok}
use Rattle.members.specs.Condition.{Condition, Conditions, Form, Mode, also, exists, junction, literal, negation, no_more, pair, quantified}
use Rattle.members.specs.Sheet.{Sheet}
use Rattle.paths.specs.Comparing.{holds_of, shape}
use Rattle.paths.specs.Lazy.{Frames, Operand, operand}
use Rattle.paths.specs.Shape.{collected}

-- the elements in order, stopping once settled
unfoldable pub in_turn : Mode → (Operand → Result Answer) → List Operand → Result Answer
in_turn m body [] = ok (record { truth = start m; names = [] })
in_turn m body (x ∷ xs) = do
  a ← body x
  elim
      (settles m a.truth) [
        | true ↦
            ok a
        | false ↦
            (do
              b ← in_turn m body xs
              ok (joined m a b))
      ]

module _ {C : Type 0} (sheet : Sheet C) where
  unfoldable pub compared_of : Frames → Form → Resolved Operand → Resolved Operand → Answer
  unfolding holds_of
  compared_of fs f (present o) (present p) = certain (holds_of sheet fs f o p)
  compared_of fs f (present o) (missing ns) = unknown ns
  compared_of fs f (missing ms) (present p) = unknown ms
  compared_of fs f (missing ms) (missing ns) = unknown (ms ++ ns)

  unfoldable pub over_of : Frames → Mode → (Operand → Result Answer) → Resolved Operand → Result Answer
  unfolding in_turn shape
  over_of fs m body (missing ns) = ok (unknown ns)
  over_of fs m body (present o) = elim (collected (shape sheet fs o)) [ None ↦ ok (unknown []) | Some xs ↦ in_turn m body xs ]

  unfoldable mutual
    unfolding operand compared_of over_of

    pub judge : Frames → Condition → Result Answer
    judge fs (literal b) = ok (certain b)
    judge fs (junction m cs) = judge_all fs m cs
    judge fs (negation c) = do
      a ← judge fs c
      ok (record { truth = negate a.truth; names = a.names })
    judge fs (exists v) = do
      r ← operand sheet fs v
      ok (certain (is_present r))
    judge fs (pair f v w) = do
      r ← operand sheet fs v
      q ← operand sheet fs w
      ok (compared_of fs f r q)
    judge fs (quantified m v x c) = do
      r ← operand sheet fs v
      over_of fs m (λ o. judge ((x, o) ∷ fs) c) r

    pub judge_all : Frames → Mode → Conditions → Result Answer
    judge_all fs m no_more = ok (record { truth = start m; names = [] })
    judge_all fs m (also c cs) = do
      a ← judge fs c
      b ← judge_all fs m cs
      ok (joined m a b)
