-- `two_texts` meets its contract: by the classes of both, then by the search.
-- Assumes nothing.
use mathlib.Core.Path.{sym, ◌∙◌}
use Rattle.paths.specs.Stored.{table}
use Rattle.operands.proofs.Pairs.{first_no_text, second_no_text, texts_found}
use Rattle.operands.proofs.holds.two_texts.Goals as goal
use Rattle.operands.proofs.holds.two_texts.Goals.{in_default, in_default-2}

pub returns-in-Text-Text : goal.returns-in-Text-Text
returns-in-Text-Text g c =
    λ p h. texts_found c.args.s.now (table c.args.work.now) c.args.a c.args.b p (sym c.class.ensures ∙ c.in-Text-Text.is-0) (sym c.class-2.ensures ∙
    c.in-Text-Text.is-1) c.text_place.ensures c.text_place-in-Text-Text.ensures
    (h _ _ _ c.find.ensures)

pub returns : goal.returns
returns g c =
    λ p h sheet fs. elim c.match-class.branch [
      | in_default w ↦ rw w.result-is (second_no_text c.args.s.now (table c.args.work.now) c.args.a c.args.b p (λ e. w.in_default.not-Text-1 (c.class-2.ensures ∙ e)) sheet fs)
      | in_default-2 w ↦ rw w.result-is (first_no_text c.args.s.now (table c.args.work.now) c.args.a c.args.b p (λ e. w.in_default.not-Text-0 (c.class.ensures ∙ e)) sheet fs)
    ]
