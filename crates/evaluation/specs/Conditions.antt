-- What the table holds of a quantifier, and what the walk over its elements gives.
-- Assumes nothing.
use Rattle.std.specs.Prelude.{List, ◌∷◌, true, ◌≡◌, ℕ, ◌<◌}
use Rattle.json_text.specs.Bytes.{Bytes}
use Rattle.json_text.specs.Held.{HasNode, IsNode}
use Rattle.json_text.specs.Limits.{depth, max_number, tidy}
use Rattle.json_text.specs.Refusal.{Result, ok, ◌>>=◌}
use Rattle.json_text.specs.Sorted.{sorted}
use Rattle.json_text.specs.Spans.{text_at}
use Rattle.json_text.specs.Table.{start_at, value_at}
use Rattle.semantics.specs.Evaluate.{Answer}
use Rattle.semantics.specs.Operand.{present}
use Rattle.sheet.specs.Accepted.{Gives}
use Rattle.members.specs.Condition.{Condition, Mode, condition, condition_object, quantified, quantifier}
use Rattle.members.specs.Sheet.{Sheet}
use Rattle.paths.specs.Lazy.{Frames, Operand}
use Rattle.paths.specs.Stored.{HasKind, tree}
use Rattle.comparison.specs.Judge.{judge, over_of}
use Rattle.evaluation.specs.declared.condition.Quantifier.{Quantifier}

-- a node that holds what a quantifier holds
pub record QuantifierAt (s : Bytes) (t : List ℕ) (m : Mode) (n : ℕ) (c : Condition) : Type 0 where
  pub node : IsNode s t 64 n
  pub is_tidy : tidy max_number (value_at s t n) ≡ true
  pub is : (condition_object (sorted (value_at s t n)) >>= quantifier m) ≡ ok c

-- its parts: nodes, and the place where its binder's text starts
pub record QuantifierParts (s : Bytes) (t : List ℕ) (m : Mode) (n : ℕ) (q : Quantifier) (c : Condition) : Type 0 where
  pub over : HasNode s t q.over
  pub bind : ℕ
  pub binder : HasKind s t bind 4
  pub name : q.name ≡ start_at t bind
  pub body : Condition
  pub gives : Gives condition s t q.body body
  pub is : c ≡ quantified m (tree s t q.over) (text_at s q.name) body
  pub over_depth : depth (tree s t q.over) < depth (tree s t n)
  pub body_depth : depth (tree s t q.body) < depth (tree s t n)

-- a quantifier over an operand that is there
unfoldable pub each_of : {C : Type 0} → Sheet C → Frames → Mode → Bytes → Condition → Operand → Result Answer
unfolding over_of judge
each_of sheet fs m x c o = over_of sheet fs m (λ p. judge sheet ((x, p) ∷ fs) c) (present o)
