-- `paths::path::word_decoded` meets its contract: std compares what is taken of the path up to a dot with the word.
-- Assumes nothing.
use mathlib.Core.Bool.{not}
use mathlib.Core.Path.{◌≡◌, ◌∙◌, ap}
use lib.Dec.{eqb}
use Rattle.std.proofs.Common.{rules, tests}
use Rattle.std.proofs.lemmas.Iterator.{YieldsList-from_slice}
use Rattle.std.proofs.lemmas.Iterator.Consumers.{YieldsList-at, YieldsList-from_copied, YieldsList-from_first}
use Rattle.std.proofs.lemmas.Iterator.Search.{YieldsList-from_take_while}
use Rattle.json_text.proofs.Compared.{same_from_eq}
use Rattle.json_text.specs.Bytes.{Bytes, same_bytes}
use Rattle.json_text.specs.Spans.{text_at}
use Rattle.strings.specs.Decoded.{left_of}
use Rattle.paths.proofs.Matching.{part_taken}
use Rattle.paths.proofs.path.word_decoded.Goals as goal

pub returns : goal.returns
returns c =
    same_from_eq (λ x y. y ≡ x) _ _ c.eq.ensures.ran
    (YieldsList-from_take_while _ (λ b. not (eqb b 46))
    (YieldsList-at c.take_while.ensures.source (YieldsList-from_first (λ x. x) left_of _ c.new.ensures))
    c.take_while.ensures.closure c.take_while.ensures.done (λ x b q k. search (rules, tests)))
    (λ it e. YieldsList-from_copied (YieldsList-from_slice c.args.word.now cc)) ∙
    ap (λ (l : Bytes). same_bytes l c.args.word.now) (part_taken (text_at c.args.path.now c.args.at))
