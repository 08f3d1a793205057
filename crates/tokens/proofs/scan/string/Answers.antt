-- `string` meets its contract: the scan from here on is the whole scan.
-- Assumes nothing.
use native.Mathlib.Omega.{arith}
use mathlib.Core.Path.{refl, ◌∙◌}
use Rattle.strings.proofs.Leaves.{escape_was, escape_was_bad}
use Rattle.tokens.proofs.Scans.{scan_bad, scan_control, scan_escape, scan_none, scan_quote, scan_raw}
use Rattle.strings.specs.Answers.{scan_of}
use Rattle.tokens.proofs.scan.string.Goals as goal

pub loop-here-init : goal.loop-here-init
loop-here-init c = record { upto = c.requires; same = refl }

pub returns-then-c-eq34 : goal.returns-then-c-eq34
unfolding scan_of
returns-then-c-eq34 c =
    c.loop-here.invariant.same ∙ scan_quote
    c.args.s.now c.loop-here.here
    c.loop-here-test.true c.if-c-eq34.true

pub returns-then-c-lt32 : goal.returns-then-c-lt32
unfolding scan_of
returns-then-c-lt32 c =
    c.loop-here.invariant.same ∙ scan_control c.args.s.now c.loop-here.here
    c.loop-here-test.true c.if-c-lt32.true

pub returns-in_default : goal.returns-in_default
unfolding scan_of
returns-in_default c =
    c.loop-here.invariant.same ∙ scan_bad c.args.s.now
    c.loop-here.here c.loop-here-test.true
    c.if-c-eq92.true
    (escape_was_bad c.escape.ensures c.in_default.is)

pub loop-here-smaller-then-c-eq92 : goal.loop-here-smaller-then-c-eq92
loop-here-smaller-then-c-eq92 c =
    let w = escape_was c.in-Some.x c.escape.ensures c.in-Some.is in
    omega arith

pub loop-here-preserved-then-c-eq92 : goal.loop-here-preserved-then-c-eq92
loop-here-preserved-then-c-eq92 c =
    let w = escape_was c.in-Some.x c.escape.ensures
    c.in-Some.is in
    record {
      upto = w.3;
      same = c.loop-here.invariant.same ∙ scan_escape
          c.args.s.now c.loop-here.here
          c.loop-here-test.true _ _ c.if-c-eq92.true w.0
          (omega (arith, w.2));
    }

pub loop-here-preserved : goal.loop-here-preserved
loop-here-preserved c =
    record {
      upto = omega arith;
      same = c.loop-here.invariant.same ∙ scan_raw c.args.s.now c.loop-here.here
          c.loop-here-test.true c.if-c-eq34.false c.if-c-eq92.false
          c.if-c-lt32.false;
    }

pub returns : goal.returns
unfolding scan_of
returns c =
    c.loop-here.invariant.same ∙ scan_none c.args.s.now c.loop-here.here
    c.loop-here-test.false
