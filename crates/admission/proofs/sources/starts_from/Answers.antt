-- `admission::sources::starts_from` meets its contract: by whether the effect has sources.
-- Assumes nothing.
use Rattle.std.proofs.Common.{rules}
use Rattle.std.specs.Prelude.{Some}
use mathlib.Core.Path.{◌≡◌}
use Prim.Native.Nat.{ℕ}
use Rattle.json_text.specs.Spans.{text_at}
use Rattle.members.specs.Kinds.{some_texts}
use Rattle.members.specs.Outcome.{or_stays}
use Rattle.sheet.specs.Accepted.{Gives, Known}
use Rattle.answers.specs.Admission.{sources}
use Rattle.rules.proofs.Starting.{sources_here, starts_told}
use Rattle.admission.proofs.sources.starts_from.Goals as goal

pub is_some_and-requires : goal.is_some_and-requires
is_some_and-requires c =
    let h : (n : ℕ) → c.of_effect.result ≡ Some n → Known (Gives some_texts c.args.s.now c.args.work.now n) =
    λ n q. record {
      given = sources (or_stays c.requires.0.given);
      known = sources_here c.args.s.now c.args.work.now (or_stays c.requires.0.given) (c.of_effect.ensures c.requires.0.given c.requires.0.known) n q;
    } in
    search rules

pub returns : goal.returns
returns c = λ f g. starts_told c.args.s.now c.args.work.now (or_stays f) c.of_effect.result (c.of_effect.ensures f g) (text_at c.args.s.now c.args.text) c.is_some_and.result (search rules)
