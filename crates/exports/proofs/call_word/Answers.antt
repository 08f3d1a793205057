-- `exports::call_word` meets its contract: the call's number and size, in one word.
-- Assumes nothing.
use Rattle.exports.proofs.Words.{exported}
use Rattle.exports.proofs.call_word.Goals as goal

pub word_of-requires : goal.word_of-requires
word_of-requires c = c.run.ensures.short

pub returns : goal.returns
returns c = exported c.run.ensures c.word_of.ensures
