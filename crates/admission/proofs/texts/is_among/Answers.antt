-- `admission::texts::is_among` meets its contract: the loop says that the texts from its node on decide.
-- Assumes nothing.
use mathlib.Core.Path.{ap, refl, sym, ◌∙◌}
use Rattle.json_text.specs.Bytes.{is_one_of}
use Rattle.json_text.specs.Spans.{text_at}
use Rattle.admission.proofs.Among.{found_here, none_left, not_here, on_element}
use Rattle.rules.proofs.Walking.{element_room, starts}
use Rattle.strings.proofs.Members.{elements_lead}
use Rattle.strings.proofs.Nodes.{Turn, begun, over, turn}
use Rattle.strings.specs.Nodes.{elements_left}
use Rattle.admission.proofs.texts.is_among.Goals.{In-Some}
use Rattle.admission.proofs.texts.is_among.Goals as goal

pub new-k-items-requires : goal.new-k-items-requires
new-k-items-requires c = elements_lead c.requires.0.known.nodes

pub loop-k-init : goal.loop-k-init
loop-k-init c = begun (ap elements_left c.into_iter-k-iterator.ensures.into_iter_gives ∙ c.new-k-items.ensures) (starts (is_one_of (text_at c.args.s.now c.args.text)) c.requires.0)

this : (c : In-Some) → Turn c.loop-k.invariant (elements_left c.next.new.self) c.in-Some.k
this c = turn c.loop-k.invariant c.in-Some.ensures.steps

pub start_at-requires : goal.start_at-requires
start_at-requires c = let t = this (goal.at.start_at-requires c).In-Some in element_room t.here t.more

pub same-requires : goal.same-requires
same-requires c =
    let t = this (goal.at.same-requires c).In-Some in (
      c.requires.1,
      on_element c.args.text t.here t.more _ c.start_at.ensures,
    )

pub returns-then-same : goal.returns-then-same
returns-then-same c =
    let t = this (goal.at.returns-then-same c).In-Some in
    found_here c.args.text t.here t.more _ c.start_at.ensures (sym c.if-same.true ∙ c.same.ensures)

pub loop-k-preserved : goal.loop-k-preserved
loop-k-preserved c =
    let t = this (goal.at.loop-k-preserved c).In-Some in
    t.on (not_here c.args.text t.here t.more _ c.start_at.ensures (sym c.if-same.false ∙ c.same.ensures) _ refl)

pub returns : goal.returns
returns c = none_left c.args.text c.loop-k.invariant.rest (over c.loop-k.invariant c.in-None.ensures.steps)
