-- `search::start::begins` meets its contract: what is left of the part and of the text answers as the whole.
-- Assumes nothing.
use mathlib.Core.Path.{◌≡◌}
use Rattle.json_text.specs.Bytes.{begins}
use Rattle.strings.specs.Decoded.{left_of}
use Rattle.search.proofs.start.begins.Given as goal

abbrev pub invariant-loop-p : goal.invariant-loop-p
invariant-loop-p l = begins (left_of l.fn.part) (left_of l.fn.text) ≡ begins (left_of l.p-iterator) (left_of l.text)
