-- `admission::admit::is_wrong` meets its contract: by whether the state is declared.
-- Assumes nothing.
use Rattle.json_text.specs.Spans.{text_at}
use Rattle.admission.proofs.Admitting.{declared, undeclared}
use Rattle.admission.proofs.Among.{as_texts}
use Rattle.admission.proofs.admit.is_wrong.Goals as goal

pub is_one_of-requires : goal.is_one_of-requires
is_one_of-requires c = (record { given = c.requires.0.given; known = as_texts c.requires.0.known }, c.requires.2)

pub returns-then-is_one_of : goal.returns-then-is_one_of
returns-then-is_one_of c =
    λ ts os g h. declared ts os (text_at c.args.s.now c.args.state) _ _ (c.is_one_of.ensures ts (as_texts g)) (c.is_source.ensures os h) c.if-is_one_of.true

pub returns-else-is_one_of : goal.returns-else-is_one_of
returns-else-is_one_of c =
    λ ts os g h. cc (c.if-is_one_of.false, undeclared ts os (text_at c.args.s.now c.args.state) _ (c.is_one_of.ensures ts (as_texts g)) c.if-is_one_of.false)
