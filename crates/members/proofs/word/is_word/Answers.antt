-- `is_word` meets its contract: a text that begins with another byte, and with no escape, is another word.
-- Assumes nothing.
use mathlib.Core.Bool.{false}
use mathlib.Core.Path.{sym, ◌∙◌, ◌≡◌}
use Rattle.json_text.specs.Bytes.{same_bytes}
use Rattle.json_text.specs.Spans.{text_at}
use Rattle.members.proofs.word.is_word.Goals.{then-b-first, else-b-first}
use Prim.Native.Nat.{◌<◌}
use lib.ListN.{get_or, length}
use native.Mathlib.Omega.{arith}
use borrow.Author.Tests.{ne_eqb}
use Rattle.std.proofs.lemmas.Grind.{common_steps}
use Rattle.members.proofs.Words.{other_start}
use Rattle.members.proofs.word.is_word.Goals as goal

pub returns-else-b-eq92 : goal.returns-else-b-eq92
returns-else-b-eq92 c =
    let h : 0 < length c.args.word.now = grind (arith, common_steps) in
    let e : c.in-Some.first.now ≡ get_or c.args.word.now 0 0 = grind (arith, common_steps) in
    let f : false ≡ same_bytes (text_at c.args.s.now c.args.at) c.args.word.now =
    other_start c.args.s.now c.args.at c.args.word.now c.requires h (λ q. c.if-b-eq92.false.0 (q ∙ sym e)) c.if-b-eq92.false.1 in
    elim c.if-b-first.branch [
      | then-b-first w ↦ absurd (c.if-b-eq92.false.0 w.if-b-first.true)
      | else-b-first w ↦ w.t-10-is ∙ ne_eqb _ 92 c.if-b-eq92.false.1 ∙ f
    ]
