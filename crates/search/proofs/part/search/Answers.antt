-- `search::part::search` meets its contract: every start before this one is refuted, and k bytes match from it on.
-- Assumes nothing.
use mathlib.Core.Path.{ap, sym}
use native.Mathlib.Omega.{arith}
use lib.ListN.{length}
use Rattle.json_text.specs.Spans.{text_at}
use Rattle.search.proofs.Reading.{read_end, read_found, read_grow, read_jump, read_skip, reading}
use Rattle.search.proofs.part.search.Goals as goal

pub search-init : goal.search-init
search-init c = rw c.new-rest.ensures (reading c.args.part.now (text_at c.args.s.now c.args.text))

pub returns-in_default : goal.returns-in_default
returns-in_default c =
    sym
    (read_end c.args.part.now (text_at c.args.s.now c.args.text) _ c.loop-k.k c.loop-k.invariant.0
    c.if-k-n.false c.in_default.ensures.steps.0)

pub search-smaller-then-k-eq0 : goal.search-smaller-then-k-eq0
search-smaller-then-k-eq0 c = let e = ap length c.in-Some.ensures.steps in omega (arith, c.loop-k.invariant.1)

pub search-preserved-then-k-eq0 : goal.search-preserved-then-k-eq0
search-preserved-then-k-eq0 c =
    read_skip c.args.part.now (text_at c.args.s.now c.args.text) _ c.loop-k.k c.loop-k.invariant.0
    c.if-k-n.false _ _ c.in-Some.ensures.steps
    c.if-b-part.true c.if-k-eq0.true

pub search-smaller : goal.search-smaller
search-smaller c =
    omega (
      arith,
      c.loop-k.invariant.1,
      (c.requires.1.border c.loop-k.k
          (omega arith) (omega (arith, c.loop-k.invariant.0.most))).less,
    )

pub search-preserved : goal.search-preserved
search-preserved c =
    rw
    c.from-k.ensures
    (read_jump c.args.part.now (text_at c.args.s.now c.args.text) _ c.loop-k.k c.loop-k.invariant.0
    c.if-k-n.false _ _ c.in-Some.ensures.steps
    c.if-b-part.true _
    (c.requires.1.border c.loop-k.k (omega arith) (omega (arith, c.loop-k.invariant.0.most))))

pub loop-k-smaller : goal.loop-k-smaller
loop-k-smaller c = let e = ap length c.in-Some.ensures.steps in omega arith

pub loop-k-preserved : goal.loop-k-preserved
loop-k-preserved c =
    let e = ap length c.in-Some.ensures.steps in (
      read_grow c.args.part.now (text_at c.args.s.now c.args.text) _ c.loop-k.k c.loop-k.invariant.0
          c.if-k-n.false _ _ c.in-Some.ensures.steps c.if-b-part.false,
      omega (arith, c.loop-k.invariant.1),
    )

pub returns : goal.returns
returns c =
    sym
    (read_found c.args.part.now (text_at c.args.s.now c.args.text) _
    c.loop-k.k c.loop-k.invariant.0 c.if-k-n.true)
