-- `skip` meets its contract: skipping from here on is the whole.
-- Assumes nothing.
use native.Mathlib.Omega.{arith}
use mathlib.Core.Path.{refl, sym, ◌∙◌, ◌≡◌}
use lib.ListN.{length}
use Rattle.tokens.proofs.Scans.{skip_none, skip_on, skip_stop}
use Rattle.tokens.proofs.scan.skip.Goals as goal

pub loop-here-init : goal.loop-here-init
loop-here-init c = record { upto = c.requires; same = refl }

pub returns-then-not-is_space : goal.returns-then-not-is_space
returns-then-not-is_space c =
    sym
    (c.loop-here.invariant.same ∙ skip_stop c.args.s.now c.loop-here.here
    c.loop-here-test.true
    (sym c.is_space.ensures ∙ c.if-not-is_space.true))

pub loop-here-preserved : goal.loop-here-preserved
loop-here-preserved c =
    record {
      upto = omega arith;
      same = c.loop-here.invariant.same ∙ skip_on c.args.s.now c.loop-here.here
          c.loop-here-test.true
          (sym c.is_space.ensures ∙ c.if-not-is_space.false);
    }

pub returns : goal.returns
returns c =
    let e : length c.args.s.now ≡ c.loop-here.here = omega (arith, c.loop-here.invariant.upto) in
    e ∙ sym (c.loop-here.invariant.same ∙ skip_none c.args.s.now c.loop-here.here (omega arith) c.loop-here.invariant.upto)
