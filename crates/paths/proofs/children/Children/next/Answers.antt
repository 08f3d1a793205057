-- `paths::children::Children::next` meets its contract: by whether a child is left.
-- Assumes nothing.
use mathlib.Core.Logic.{⊎_elim}
use Rattle.paths.proofs.Ordered.{next_is, next_out, next_past}
use Rattle.paths.specs.Stored.{table}
use native.Mathlib.Omega.{arith}
use Rattle.paths.proofs.children.Children.next.Goals as goal

pub returns-then-self-eq0 : goal.returns-then-self-eq0
returns-then-self-eq0 c =
    ⊎_elim (λ e. next_out (table c.args.work.now) c.args.self e) (λ e. next_past (table c.args.work.now) c.args.self e.1) c.then-self-eq0.either

pub onward-requires : goal.onward-requires
onward-requires c =
    record {
      rows = c.requires.0.rows;
      node = omega (arith, c.requires.1);
    }

pub returns : goal.returns
returns c = next_is (table c.args.work.now) c.args.self c.if-self-eq0.false c.if-self.false c.onward.ensures
