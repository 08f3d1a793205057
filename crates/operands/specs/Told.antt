-- What a test of an order and a search for a text answer, by what a call of them may return; and two texts under a search.
-- Assumes nothing.
use Rattle.std.specs.Prelude.{Bool, List, ℕ, ◌≡◌}
use Prim.Native.Nat.{Ordering}
use Rattle.std.specs.declared.cmp.Ordering.{Ordering as CodeOrdering}
use Rattle.json_text.specs.Bytes.{Bytes}
use Rattle.json_text.specs.Orders.{order_of}
use Rattle.json_text.specs.Spans.{text_at}
use Rattle.members.specs.Condition.{Condition}
use Rattle.members.specs.Sheet.{Sheet}
use Rattle.paths.specs.Layered.{shape_of}
use Rattle.paths.specs.Lazy.{Frames}
use Rattle.paths.specs.Shape.{two_texts}
use Rattle.paths.specs.declared.operand.Operand.{Operand}

-- a test answers this of each order
abbrev pub Orders : (CodeOrdering → Bool → Type 0) → (Ordering → Bool) → Type 0
Orders post p = (o : CodeOrdering) (r : Bool) → post o r → r ≡ p (order_of o)

-- and a search for the text at one place in the text at another
abbrev pub Finds : Bytes → (ℕ → ℕ → Bool → Type 0) → (Bytes → Bytes → Bool) → Type 0
Finds s post p = (text part : ℕ) (r : Bool) → post text part r → r ≡ p (text_at s text) (text_at s part)

-- two texts under it, or else false
abbrev pub TextsTold : Bytes → List ℕ → Operand → Operand → (Bytes → Bytes → Bool) → Bool → Type 0
TextsTold s t a b p r = (sheet : Sheet Condition) (fs : Frames) → r ≡ two_texts p (shape_of sheet s t fs a) (shape_of sheet s t fs b)
