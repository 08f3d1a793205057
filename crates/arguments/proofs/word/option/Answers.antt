-- `arguments::word::option` meets its contract: by the two options, and by the first byte.
-- Assumes nothing.
use mathlib.Core.Path.{sym, ◌∙◌}
use Rattle.arguments.proofs.Same.{by_equality}
use Rattle.json_text.specs.Bytes.{ascii}
use Rattle.arguments.proofs.First.{begins_by_pairs}
use Rattle.arguments.specs.Words.{option_of}
use Rattle.arguments.proofs.word.option.Goals as goal

pub returns-then-starts_with : goal.returns-then-starts_with
unfolding option_of
returns-then-starts_with c =
    rw (
      by_equality c.args.text.now _ (ascii "--help") c.eq.ensures c.as_slice.ensures c.if-eq.false,
      by_equality c.args.text.now _ (ascii "--version") c.eq-else-eq.ensures c.as_slice-else-eq.ensures c.if-eq-2.false,
      sym (begins_by_pairs 45 c.args.text.now) ∙ sym c.starts_with.ensures.value ∙ c.if-starts_with.true,
    )
