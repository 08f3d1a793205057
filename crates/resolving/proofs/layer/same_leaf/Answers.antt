-- `resolving::layer::same_leaf` meets its contract: by the class.
-- Assumes nothing.
use mathlib.Core.Path.{◌∙◌}
use Rattle.resolving.proofs.Layered.{leaf_compared, leaf_same, leaf_text, number_kind}
use Rattle.paths.specs.Stored.{table}
use Rattle.resolving.proofs.layer.same_leaf.Goals as goal

pub number_order-requires : goal.number_order-requires
number_order-requires c = (
  c.requires.0,
  number_kind c.args.s.now (table c.args.work.now) c.args.a.node c.args.a.kind c.requires.1.fits
      (c.requires.4 ∙ c.in-Number.is),
  number_kind c.args.s.now (table c.args.work.now) c.args.b.node c.args.b.kind c.requires.2.fits
      (c.requires.5 ∙ c.in-Number.is),
)

pub returns-in-Number : goal.returns-in-Number
returns-in-Number c =
    leaf_compared c.args.s.now (table c.args.work.now) c.args.a c.args.b c.number_order.result (c.requires.4 ∙ c.in-Number.is)
    (c.requires.5 ∙ c.in-Number.is) c.number_order.ensures c.is_eq.ensures

pub text_place-requires : goal.text_place-requires
text_place-requires c =
    (c.requires.0, c.requires.1, c.requires.4 ∙ c.in-Text.is)

pub text_place-requires-in-Text : goal.text_place-requires-in-Text
text_place-requires-in-Text c =
    (c.requires.0, c.requires.2, c.requires.5 ∙ c.in-Text.is)

pub same-requires : goal.same-requires
same-requires c = (c.text_place.ensures.on_text, c.text_place-in-Text.ensures.on_text)

pub returns-in-Text : goal.returns-in-Text
returns-in-Text c =
    leaf_text c.args.s.now (table c.args.work.now) c.args.a c.args.b (c.requires.4 ∙ c.in-Text.is)
    (c.requires.5 ∙ c.in-Text.is) c.text_place.ensures
    c.text_place-in-Text.ensures c.same.ensures

pub returns-in_default : goal.returns-in_default
returns-in_default c =
    leaf_same c.args.s.now (table c.args.work.now) c.args.a c.args.b c.args.class c.requires.3
    c.in_default.not-Number c.in_default.not-Text c.requires.4 c.requires.5
