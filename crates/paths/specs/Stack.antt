-- The frames in force, as a list, the innermost first; and what a name finds among them.
-- Assumes nothing.
use Rattle.paths.specs.declared.operand.Operand.{Operand}
use Rattle.std.specs.Prelude.{cond, List, [], ◌∷◌, suc, zero, ℕ, ◌<◌, get_or, Option, Some, None}
use Rattle.json_text.specs.Bytes.{Bytes, same_bytes}
use Rattle.json_text.specs.Cursor.{OnText}
use Rattle.json_text.specs.Spans.{text_at}
use Rattle.paths.specs.declared.frames.Frame.{Frame}
use Rattle.paths.specs.declared.frames.Frames.{Frames}
use Rattle.paths.specs.declared.frames.Slot.{Slot}
use Rattle.paths.specs.declared.operand.Kind.TheVariants.{Null}

-- what a slot can hold
pub record Small (f : Frame) : Type 0 where
  pub name : f.name < 65536
  pub node : f.operand.node < 65536
  pub depth : f.operand.depth < 65536

-- the frame in a slot
abbrev pub frame_in : Slot → Frame
frame_in x = record { name = x.name; operand = record { node = x.node; depth = x.depth; kind = x.kind } }

-- what lies past the end of the slots
abbrev pub no_slot : Slot
no_slot = record { name = 0; node = 0; depth = 0; kind = Null }

-- the frames in the first n slots, the last of them first
unfoldable pub top : ℕ → List Slot → List Frame
top zero xs = []
top (suc n) xs = frame_in (get_or xs n no_slot) ∷ top n xs

abbrev pub held : Frames → List Frame
held f = top f.depth f.slots

-- every name is a text of the sheet
unfoldable pub Named : Bytes → List Frame → Type 0
Named s [] = Unit {0}
Named s (f ∷ fs) = OnText s f.name 0 × Named s fs

unfoldable pub bound_in : Bytes → Bytes → List Frame → Option Operand
unfolding same_bytes text_at
bound_in s k [] = None
bound_in s k (f ∷ fs) = cond (same_bytes k (text_at s f.name)) (Some f.operand) (bound_in s k fs)
