-- `writer::names::is_again` meets its contract: by whether there is a last text.
-- Assumes nothing.
use Rattle.std.proofs.Common.{rules}
use Rattle.std.proofs.iter.Serving.{serving}
use Rattle.std.specs.Prelude.{Bool, MatchOption, None, Option, Some, false, ◌≡◌, ℕ}
use Rattle.json_text.specs.Bytes.{Bytes, same_bytes}
use Rattle.json_text.specs.Spans.{text_at}
use Rattle.writer.proofs.Texts.{is_text_lem}
use Rattle.writer.specs.Once.{is_again}
use Rattle.writer.specs.Texts.{text_of}
use Rattle.writer.proofs.names.is_again.Goals as goal

by_last :
    (s : Bytes) (text : ℕ) (last : Option ℕ) (r : Bool) (Post : ℕ → Type 0) → MatchOption last (r ≡ false) Post →
    ((p : ℕ) → Post p → r ≡ same_bytes (text_at s p) (text_at s text)) → r ≡ is_again (text_of s last) (text_at s text)
unfolding is_again text_of
by_last s text None r Post h f = h
by_last s text (Some p) r Post h f = f p h

pub is_some_and-requires : goal.is_some_and-requires
is_some_and-requires c = λ x e. let h = is_text_lem c.args.s.now x c.requires.0 e in grind (serving, h, c.requires.1)

pub returns : goal.returns
returns c = by_last c.args.s.now c.args.text c.args.last _ _ c.is_some_and.ensures (λ p k. search rules)
