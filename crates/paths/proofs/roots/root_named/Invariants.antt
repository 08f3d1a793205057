-- `paths::roots::root_named` meets its contract: no word before the place is the path's first part.
-- Assumes nothing.
use lib.ListN.{drop}
use mathlib.Core.Path.{◌≡◌}
use Rattle.json_text.specs.Bytes.{find}
use Rattle.json_text.specs.Spans.{text_at}
use Rattle.paths.specs.Path.{part}
use Rattle.paths.specs.Rooted.{root_names, root_of}
use Rattle.paths.proofs.Naming.{names_in}
use Rattle.paths.proofs.roots.root_named.Given as goal

abbrev pub invariant-loop-word : goal.invariant-loop-word
invariant-loop-word l =
    (names_in l.word-items ≡ root_names) ×
    (root_of (part (text_at l.path 0)) ≡ find (part (text_at l.path 0)) (names_in (drop l.word-index l.word-items)))
