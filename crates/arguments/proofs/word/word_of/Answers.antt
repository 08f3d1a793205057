-- `arguments::word::word_of` meets its contract: the first word that is the text, or else an option or a file.
-- Assumes nothing.
use Rattle.arguments.proofs.Same.{by_equality}
use Rattle.json_text.specs.Bytes.{ascii, find}
use Rattle.arguments.specs.Words.{word_of}
use Rattle.arguments.proofs.word.word_of.Goals as goal

pub returns-else-eq-7 : goal.returns-else-eq-7
unfolding word_of find
returns-else-eq-7 c =
    rw (
      by_equality c.args.text.now _ (ascii "evaluate") c.eq.ensures c.as_slice.ensures c.if-eq.false,
      by_equality c.args.text.now _ (ascii "preconditions") c.eq-else-eq.ensures c.as_slice-else-eq.ensures c.if-eq-2.false,
      by_equality c.args.text.now _ (ascii "invariants") c.eq-else-eq-2.ensures c.as_slice-else-eq-2.ensures c.if-eq-3.false,
      by_equality c.args.text.now _ (ascii "select") c.eq-else-eq-3.ensures c.as_slice-else-eq-3.ensures c.if-eq-4.false,
      by_equality c.args.text.now _ (ascii "admit") c.eq-else-eq-4.ensures c.as_slice-else-eq-4.ensures c.if-eq-5.false,
      by_equality c.args.text.now _ (ascii "decide") c.eq-else-eq-5.ensures c.as_slice-else-eq-5.ensures c.if-eq-6.false,
      by_equality c.args.text.now _ (ascii "lines") c.eq-else-eq-6.ensures c.as_slice-else-eq-6.ensures c.if-eq-7.false,
      find,
    ) c.option.ensures
