-- `admission::sources::is_source` meets its contract: the loop says that the outcomes from its node on decide.
-- Assumes nothing.
use mathlib.Core.Path.{ap, refl, ◌∙◌}
use Rattle.json_text.specs.Spans.{text_at}
use Rattle.answers.specs.Admission.{is_source}
use Rattle.rules.proofs.Starting.{effect_known, none_starts, starts_elsewhere, starts_here}
use Rattle.rules.proofs.Walking.{next, starts}
use Rattle.strings.proofs.Members.{elements_lead}
use Rattle.strings.proofs.Nodes.{Turn, begun, over, turn}
use Rattle.strings.specs.Nodes.{elements_left}
use Rattle.admission.proofs.sources.is_source.Goals.{In-Some}
use Rattle.admission.proofs.sources.is_source.Goals as goal

pub new-k-items-requires : goal.new-k-items-requires
new-k-items-requires c = elements_lead c.requires.0.known.nodes

pub loop-k-init : goal.loop-k-init
loop-k-init c = begun (ap elements_left c.into_iter-k-iterator.ensures.into_iter_gives ∙ c.new-k-items.ensures) (starts (is_source (text_at c.args.s.now c.args.text)) c.requires.0)

this : (c : In-Some) → Turn c.loop-k.invariant (elements_left c.next.new.self) c.in-Some.k
this c = turn c.loop-k.invariant c.in-Some.ensures.steps

pub members_at-requires : goal.members_at-requires
members_at-requires c = let t = this (goal.at.members_at-requires c).In-Some in let n = next t.here t.more in record { given = n.first; known = n.here }

pub starts_from-requires : goal.starts_from-requires
starts_from-requires c =
    let t = this (goal.at.starts_from-requires c).In-Some in
    let n = next t.here t.more in
    (effect_known (c.members_at.ensures n.first n.here), c.requires.1)

pub returns-then-starts_from : goal.returns-then-starts_from
returns-then-starts_from c =
    let t = this (goal.at.returns-then-starts_from c).In-Some in
    starts_here (text_at c.args.s.now c.args.text) t.here t.more c.members_at.ensures _ c.starts_from.ensures c.if-starts_from.true

pub loop-k-preserved : goal.loop-k-preserved
loop-k-preserved c =
    let t = this (goal.at.loop-k-preserved c).In-Some in
    t.on (starts_elsewhere (text_at c.args.s.now c.args.text) t.here t.more c.members_at.ensures _ c.starts_from.ensures c.if-starts_from.false _ refl)

pub returns : goal.returns
returns c = none_starts (text_at c.args.s.now c.args.text) c.loop-k.invariant.rest (over c.loop-k.invariant c.in-None.ensures.steps)
