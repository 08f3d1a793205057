-- `writer::lay::Output::names` meets its contract: the marked nodes sorted, each text laid once.
-- Assumes nothing.
use mathlib.Core.Path.{ap}
use native.Mathlib.Omega.{arith}
use Rattle.writer.proofs.Gathered.{front_long, front_texts, sorted_once, sorted_texts}
use Rattle.writer.proofs.Laying.{then, told}
use Rattle.writer.proofs.Lists.{listed_is}
use Rattle.writer.specs.Once.{elements}
use Rattle.json_text.specs.Bytes.{ascii}
use Rattle.json_text.specs.Marks.{marked}
use Rattle.semantics.specs.Names.{ascending}
use Rattle.writer.proofs.lay.Output.names.Goals as goal

pub sort-requires : goal.sort-requires
sort-requires c = (
  omega (arith, c.requires.size),
  front_texts c.marked_nodes-count.ensures c.requires,
  omega (arith, c.marked_nodes-count.ensures.few, front_long c.marked_nodes-count.ensures),
)

pub each_once-requires : goal.each_once-requires
each_once-requires c = (omega (arith, c.requires.size), sorted_texts c.marked_nodes-count.ensures c.requires c.sort.ensures)

pub returns : goal.returns
returns c =
    told (listed_is (ascii "names") (ascending (marked c.args.s.now c.args.work.now)))
    (then c.bytes.ensures
    (then (told (ap elements (sorted_once c.marked_nodes-count.ensures c.requires c.sort.ensures)) c.each_once.ensures)
    c.byte.ensures))
