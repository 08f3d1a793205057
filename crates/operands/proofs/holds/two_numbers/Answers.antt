-- `two_numbers` meets its contract: by the classes of both, then by what the test says of their order.
-- Assumes nothing.
use mathlib.Core.Path.{sym, ◌∙◌}
use Rattle.paths.specs.Stored.{table}
use Rattle.resolving.proofs.Layered.{number_kind}
use Rattle.operands.proofs.Pairs.{first_no_number, in_order, second_no_number}
use Rattle.operands.proofs.holds.two_numbers.Goals as goal
use Rattle.operands.proofs.holds.two_numbers.Goals.{in_default, in_default-2}

pub number_order-requires : goal.number_order-requires
number_order-requires g c = (
  c.requires.operands.0,
  number_kind c.args.s.now (table c.args.work.now) c.args.a.node c.args.a.kind c.requires.operands.1.fits (sym c.class.ensures ∙ c.in-Number-Number.is-0),
  number_kind c.args.s.now (table c.args.work.now) c.args.b.node c.args.b.kind c.requires.operands.2.fits (sym c.class-2.ensures ∙ c.in-Number-Number.is-1),
)

pub returns-in-Number-Number : goal.returns-in-Number-Number
returns-in-Number-Number g c =
    λ p h. in_order c.args.s.now (table c.args.work.now) c.args.a c.args.b p (sym c.class.ensures ∙ c.in-Number-Number.is-0) (sym c.class-2.ensures ∙
    c.in-Number-Number.is-1) c.number_order.ensures (h _ _ c.test.ensures)

pub returns : goal.returns
returns g c =
    λ p h sheet fs. elim c.match-class.branch [
      | in_default w ↦ rw w.result-is (second_no_number c.args.s.now (table c.args.work.now) c.args.a c.args.b p (λ e. w.in_default.not-Number-1 (c.class-2.ensures ∙ e)) sheet fs)
      | in_default-2 w ↦ rw w.result-is (first_no_number c.args.s.now (table c.args.work.now) c.args.a c.args.b p (λ e. w.in_default.not-Number-0 (c.class.ensures ∙ e)) sheet fs)
    ]
