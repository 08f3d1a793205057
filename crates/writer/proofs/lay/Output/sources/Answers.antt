-- `writer::lay::Output::sources` meets its contract: the loop says that the texts from its node on are left to lay.
-- Assumes nothing.
use native.Mathlib.Omega.{arith}
use Rattle.strings.proofs.KindCodes.{is_kind, is_other}
use Rattle.strings.specs.declared.rows.Kind.TheVariants.{Text}
use Rattle.writer.proofs.Laying.{then, told}
use Rattle.writer.proofs.Lists.{listed_is, one_listed}
use Rattle.writer.proofs.Sourcing.{first, in_table, next_source, no_source, only_text, source_node, sourcing}
use Rattle.writer.specs.Texts.{texts_in}
use Rattle.json_text.specs.Bytes.{ascii}
use Rattle.json_text.specs.Spans.{text_at}
use Rattle.json_text.specs.Table.{start_at, value_at}
use Rattle.strings.proofs.Members.{elements_lead}
use Rattle.strings.proofs.Nodes.{Turn, begun, over, turn}
use Rattle.strings.specs.Nodes.{elements_left}
use mathlib.Core.Path.{ap, refl, ◌∙◌}
use Rattle.writer.proofs.lay.Output.sources.Goals.{In-Some}
use Rattle.writer.proofs.lay.Output.sources.Goals as goal

pub kind_at-requires : goal.kind_at-requires
kind_at-requires c = in_table c.requires.has_node.is_node

pub start_at-requires : goal.start_at-requires
start_at-requires c = in_table c.requires.has_node.is_node

pub element-requires : goal.element-requires
element-requires c = rw c.start_at.ensures (only_text c.requires (is_kind _ Text c.kind_at.ensures c.if-eq.ensures)).1

pub returns-then-eq : goal.returns-then-eq
returns-then-eq c =
    let o = only_text c.requires (is_kind _ Text c.kind_at.ensures c.if-eq.ensures) in
    told (rw o.0 (one_listed (ascii "from") (text_at c.args.s.now (start_at c.args.work.now c.args.node))))
    (rw c.start_at.ensures at (then c.bytes.ensures (then c.element.ensures c.byte.ensures)))

pub after_at-end-requires : goal.after_at-end-requires
after_at-end-requires c = in_table c.requires.has_node.is_node

pub overflow_add-node : goal.overflow_add-node
overflow_add-node c = omega (arith, (in_table c.requires.has_node.is_node).1)

pub new-k-items-requires : goal.new-k-items-requires
new-k-items-requires c = elements_lead (sourcing c.bytes.new.self c.requires (is_other _ Text c.kind_at.ensures c.if-eq.ensures) c.after_at-end.ensures).nodes

pub loop-k-init : goal.loop-k-init
loop-k-init c =
    begun (ap elements_left c.into_iter-k-iterator.ensures.into_iter_gives ∙ c.new-k-items.ensures)
    (sourcing c.bytes.new.self c.requires (is_other _ Text c.kind_at.ensures c.if-eq.ensures) c.after_at-end.ensures)

this : (c : In-Some) → Turn c.loop-k.invariant (elements_left c.next.new.self) c.in-Some.k
this c = turn c.loop-k.invariant c.in-Some.ensures.steps

pub start_at-requires-in-loop-k : goal.start_at-requires-in-loop-k
start_at-requires-in-loop-k c = let t = this (goal.at.start_at-requires-in-loop-k c).In-Some in in_table (source_node t.here t.more)

pub element-requires-in-loop-k : goal.element-requires-in-loop-k
element-requires-in-loop-k c =
    let t = this (goal.at.element-requires-in-loop-k c).In-Some in
    rw c.start_at-in-loop-k.ensures (first t.here t.more).on_text

pub loop-k-preserved : goal.loop-k-preserved
loop-k-preserved c =
    let t = this (goal.at.loop-k-preserved c).In-Some in
    t.on (next_source t.here t.more c.start_at-in-loop-k.ensures refl c.element-in-loop-k.ensures)

pub returns : goal.returns
returns c =
    told (listed_is (ascii "from") (texts_in (value_at c.args.s.now c.args.work.now c.args.node)))
    (then c.bytes.ensures (no_source c.loop-k.invariant.rest (over c.loop-k.invariant c.in-None.ensures.steps) c.byte-2.ensures))
