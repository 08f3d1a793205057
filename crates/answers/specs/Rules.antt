-- The rules: the first that is not True settles.
-- Assumes nothing.
use mathlib.Core.List.{List, [], ◌∷◌}
use Rattle.std.specs.Prelude.{◌+◌, ℕ}
use Rattle.answers.specs.Verdict.{Verdict, passed}
use Rattle.semantics.specs.Evaluate.{evaluate}
use Rattle.semantics.specs.Names.{ascending}
use Rattle.semantics.specs.Semantics.{kernel}
use Rattle.semantics.specs.Truth.{False, True, Unknown}
use Rattle.json_text.specs.Refusal.{Result, Rules, ◌>>=◌, ok, refused, rule_false, rule_unknown}
use Rattle.members.specs.Condition.{Condition}
use Rattle.members.specs.Rule.{Rule}
use Rattle.members.specs.Sheet.{Sheet}

module _ (sheet : Sheet Condition) where
  -- the first rule that is not True
  unfoldable pub check : Rules → ℕ → List (Rule Condition) → Result Verdict
  unfolding evaluate ascending
  check kind i [] = ok passed
  check kind i (r ∷ rs) = do
    a ← evaluate kernel sheet [] r.assert
    elim
        a.truth [
          | True ↦
              check kind (i + 1) rs
          | False ↦
              refused (rule_false kind i r.name r.message)
          | Unknown ↦
              refused (rule_unknown kind i r.name r.message (ascending a.names))
        ]
