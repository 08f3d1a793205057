-- `is_word_by_first` meets its contract: a text whose first byte is not the word's is another word.
-- Assumes nothing.
use mathlib.Core.Path.{◌∙◌}
use Rattle.json_text.specs.Spans.{text_at}
use Rattle.members.proofs.Words.{parted}
use Rattle.members.proofs.word.is_word_by_first.Goals as goal

pub returns-else-eq : goal.returns-else-eq
returns-else-eq c = c.if-eq.false ∙ parted (text_at c.args.s.now c.args.at) c.args.word.now (cc)
