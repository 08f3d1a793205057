-- `admission::eligible::eligible` meets its contract: by whether the outcome is for the wrong state.
-- Assumes nothing.
use mathlib.Core.Bool.{not}
use mathlib.Core.Path.{ap, sym, ◌∙◌}
use Rattle.rules.proofs.Eligibility.{as_fits, not_eligible}
use Rattle.admission.proofs.eligible.eligible.Goals as goal

pub is_true-requires : goal.is_true-requires
is_true-requires c =
    record { given = c.args.s.now; known = record { given = c.requires.0.known.wrong; known = c.requires.0.known.wrong_state } }

pub returns-then-not-is_true : goal.returns-then-not-is_true
returns-then-not-is_true c =
    λ o t g h. c.fits.ensures o.in_state t g.in_state h ∙ as_fits c.args.s.now c.args.work.now (λ s b x. sym c.if-not-is_true.true ∙ c.is_true.ensures s b x) o t g

pub returns-else-not-is_true : goal.returns-else-not-is_true
returns-else-not-is_true c =
    λ o t g h.
    cc (ap not c.if-not-is_true.false, not_eligible c.args.s.now c.args.work.now (λ s b x. sym c.if-not-is_true.false ∙ c.is_true.ensures s b x) o t g)
