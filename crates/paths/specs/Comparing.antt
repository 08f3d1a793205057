-- Operands that are not copied: their layers, equality layer by layer, and the pair forms.
-- Assumes nothing.
use Rattle.std.specs.Prelude.{Bool, length}
use Rattle.std.proofs.Math.Bool.{false}
use Prim.Native.Nat.{ℕ, suc, zero, ◌+◌, ◌*◌}
use Rattle.members.specs.Condition.{Form}
use Rattle.members.specs.Sheet.{Sheet}
use Rattle.paths.specs.Lazy.{Frames, Operand, given, listed, named, outer, part_of, touch}
use Rattle.paths.specs.Shape.{Shape, alike_shapes, fields, holds_shapes, items, parts_in, parts_of, shape_of}

-- what the nesting of two operands under so many frames stays below
abbrev pub nesting : ℕ → ℕ
nesting frames = 64 * (frames + 2) + 1

module _ {C : Type 0} (sheet : Sheet C) where
  unfoldable pub shape : Frames → Operand → Shape Operand
  unfolding outer touch parts_in parts_of shape_of
  shape fs (given v) = shape_of v
  shape fs (listed d vs) = items (parts_in (part_of sheet (outer d fs)) vs)
  shape fs (named d ms) = fields (parts_of (part_of sheet (outer d fs)) ms)

  -- equality, the number falling from layer to layer
  unfoldable pub alike : ℕ → Frames → Operand → Operand → Bool
  unfolding shape alike_shapes
  alike zero fs o p = false
  alike (suc n) fs o p = alike_shapes (alike n fs) (shape fs o) (shape fs p)

  unfoldable pub holds_of : Frames → Form → Operand → Operand → Bool
  unfolding alike shape holds_shapes
  holds_of fs f o p = holds_shapes (alike (nesting (length fs)) fs) f o (shape fs o) p (shape fs p)
