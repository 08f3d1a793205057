-- `spells` meets its contract: std compares what is left of the text with the word.
-- Assumes nothing.
use mathlib.Core.Path.{◌≡◌}
use Rattle.std.proofs.lemmas.Iterator.{YieldsList-from_slice}
use Rattle.std.proofs.lemmas.Iterator.Consumers.{YieldsList-from_copied, YieldsList-from_first}
use Rattle.json_text.proofs.Compared.{same_from_eq}
use Rattle.strings.specs.Decoded.{left_of}
use Rattle.members.proofs.word.spells.Goals as goal

pub returns : goal.returns
returns c =
    same_from_eq (λ x y. y ≡ x) _ _ c.eq.ensures.ran (YieldsList-from_first (λ x. x) left_of _ c.new.ensures)
    (λ it e. YieldsList-from_copied (YieldsList-from_slice c.args.word.now cc))
