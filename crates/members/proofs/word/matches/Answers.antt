-- `matches` meets its contract: up to the first escape a byte of the text is one of the sheet, and from there on `spells` answers.
-- Assumes nothing.
use native.Mathlib.Omega.{arith}
use Rattle.members.proofs.Words.{ended_early, escaped, like, spelled, spelling, unlike}
use Rattle.members.proofs.word.matches.Goals.{then-b-eq34-via-else-b-eq34+then-b-w, then-b-eq34-via-then-b-eq34}
use Rattle.members.proofs.word.matches.Goals as goal

pub loop-i-init : goal.loop-i-init
loop-i-init c = spelling c.args.s.now c.args.at c.args.word.now c.requires

pub returns-then-b-eq92 : goal.returns-then-b-eq92
returns-then-b-eq92 c = escaped c.loop-i.invariant c.spells.ensures

pub returns-then-b-eq34 : goal.returns-then-b-eq34
returns-then-b-eq34 c =
    elim c.then-b-eq34.branch [
      | then-b-eq34-via-then-b-eq34 w ↦
          ended_early c.loop-i.invariant w.if-b-eq34.true c.loop-i-test.true
      | then-b-eq34-via-else-b-eq34+then-b-w w ↦
          unlike c.loop-i.invariant w.if-b-eq34.false c.if-b-eq92.false c.loop-i-test.true w.if-b-w.true
    ]

pub loop-i-preserved : goal.loop-i-preserved
loop-i-preserved c =
    like c.loop-i.invariant c.if-b-eq34.false c.if-b-eq92.false c.loop-i-test.true c.if-b-w.false

pub returns : goal.returns
returns c = spelled c.loop-i.invariant (omega arith)
