-- `admission::outcomes::outcome_at` meets its contract: as many outcomes come before it as its place says.
-- Assumes nothing.
use native.Mathlib.Omega.{arith}
use Rattle.admission.proofs.Seeking.{Passed, at_place, passed, passed_on, past_all}
use Rattle.strings.proofs.Members.{elements_lead}
use Rattle.strings.proofs.Nodes.{begun, counted, over, turn}
use Rattle.strings.specs.Nodes.{elements_left}
use Rattle.admission.proofs.outcomes.outcome_at.Goals as goal

pub new-requires : goal.new-requires
new-requires c = elements_lead c.requires.known.known.nodes

pub returns-in_err-node : goal.returns-in_err-node
returns-in_err-node c =
    rw c.from_residual.ensures
    (λ s os g.
    let r = c.in_err-node.ensures.ran in
    let first = begun c.new.ensures (passed (record { given = os; known = g })) in
    let a = counted elements_left (Passed s c.args.work.now c.args.from c.args.end) (λ n k p h. passed_on p h) 0 r.0 r.1.1 first in
    past_all a.rest c.args.place os g (over a r.1.2) (omega (arith, r.2)))

pub returns : goal.returns
returns c =
    λ s os g.
    let r = c.in_ok-node.ensures.ran in
    let first = begun c.new.ensures (passed (record { given = os; known = g })) in
    let a = counted elements_left (Passed s c.args.work.now c.args.from c.args.end) (λ n k p h. passed_on p h) 0 r.0 r.1.1 first in
    let t = turn a r.1.2 in
    at_place t.here c.args.place os g t.more (omega (arith, r.2))
