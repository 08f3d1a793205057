-- Two operands under a pair form: parts walked together, numbers, keys.
-- Assumes nothing.
use Rattle.std.specs.Prelude.{Bool, false, true, List, [], ◌∷◌, ◌≡◌}
use Prim.Native.Nat.{Ordering, ℕ}
use Rattle.json_text.specs.Bytes.{Bytes}
use Rattle.json_text.specs.Spans.{text_at}
use Rattle.json_text.specs.Table.{start_at}
use Rattle.members.specs.Condition.{Condition}
use Rattle.members.specs.Sheet.{Sheet}
use Rattle.paths.specs.Layered.{shape_of}
use Rattle.paths.specs.Lazy as lazy
use Rattle.paths.specs.Shape.{two_numbers}
use Rattle.paths.specs.Stored.{HasKind}
use Rattle.paths.specs.declared.operand.Operand.{Operand}

abbrev pub holder_code : Bool → ℕ
holder_code true = 6
holder_code false = 5

-- a node that holds elements, or members
abbrev pub Holds : Bytes → List ℕ → Bool → ℕ → Type 0
Holds s t named n = HasKind s t n (holder_code named)

pub record Paired (s : Bytes) (t : List ℕ) (named : Bool) (a b : Operand) : Type 0 where
  pub first : Holds s t named a.node
  pub second : Holds s t named b.node

-- the names at these nodes
unfoldable pub names_of : Bytes → List ℕ → List ℕ → List Bytes
unfolding text_at
names_of s t [] = []
names_of s t (k ∷ ks) = text_at s (start_at t k) ∷ names_of s t ks

-- two numbers, or else false
abbrev pub NumbersTold : Bytes → List ℕ → Operand → Operand → (Ordering → Bool) → Bool → Type 0
NumbersTold s t a b p r = (sheet : Sheet Condition) (fs : lazy.Frames) → r ≡ two_numbers p (shape_of sheet s t fs a) (shape_of sheet s t fs b)
