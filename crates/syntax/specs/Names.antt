-- A table of operators as code has it, and the names of the paper with theirs.
-- Assumes nothing.
use Rattle.std.specs.Prelude.{List, [], ◌∷◌, ◌≡◌}
use Rattle.std.specs.Borrow.{Bor}
use Rattle.json_text.specs.Bytes.{Bytes}
use Rattle.members.specs.Answers.{operator_of}
use Rattle.members.specs.Condition as conditions
use Rattle.members.specs.declared.told.Operator.{Operator}

-- row by row, the table has the same names with the same operators
abbrev pub Names : List (Bor Bytes × Operator) → List (Bytes × conditions.Operator) → Type 0
Names [] [] = Unit {0}
Names [] (y ∷ ys) = ⊥
Names (x ∷ xs) [] = ⊥
Names (x ∷ xs) (y ∷ ys) = (x.0.now ≡ y.0) × (operator_of x.1 ≡ y.1) × Names xs ys
