-- `paths::frames::Frames::find` meets its contract: what is found among the slots left is the answer.
-- Assumes nothing.
use Rattle.json_text.specs.Spans.{text_at}
use Rattle.paths.specs.Path.{part}
use Rattle.paths.specs.Stack.{held}
use Rattle.paths.proofs.Stack.{Sought}
use Rattle.paths.proofs.frames.Frames.find.Given as goal

abbrev pub invariant-loop-slot : goal.invariant-loop-slot
invariant-loop-slot l = Sought l.s (part (text_at l.path 0)) (held l.self) l.slot-iterator.iter.rest.now
