-- `line::emit::emit` meets its contract: what the first pass measured is what the second lays.
-- Assumes nothing.
use mathlib.Core.List.{[], ◌∷◌}
use mathlib.Core.Path.{◌∙◌}
use native.Mathlib.Omega.{arith}
use lib.ListN.{length-append}
use Rattle.std.proofs.Common.{rules}
use Rattle.answers.specs.Reply.{form_of, or_empty}
use Rattle.writer.specs.Meaning.{meaning}
use Rattle.line.proofs.Answers.{emitted_23, emitted_line, emitted_none}
use Rattle.writer.proofs.Laying.{shown, then, too_long, within, written}
use Rattle.line.proofs.emit.emit.Goals as goal

pub returns-in-NoInput : goal.returns-in-NoInput
returns-in-NoInput c = emitted_none c.args.s.now c.args.work.now c.args.a c.args.out.now c.in-NoInput.is

pub returns-then-out-size : goal.returns-then-out-size
returns-then-out-size c =
    emitted_23 c.args.s.now c.args.work.now c.args.a c.args.out.now c.in_default.not-NoInput
    (too_long c.new-measure.ensures.empty c.form.ensures (omega (arith, c.if-out-size.true, c.count-size.ensures)))

pub returns : goal.returns
returns c =
    let w = written c.new-measure.ensures.empty c.form.ensures c.new-line.ensures.empty (within c.new-line.ensures.empty) (omega (arith, c.if-out-size.false, c.count-size.ensures)) c.form-2.ensures in
    let l = length-append (or_empty (form_of (meaning c.args.s.now c.args.work.now c.args.a))) (10 ∷ []) in
    emitted_line c.args.s.now c.args.work.now c.args.a c.args.out.now c.in_default.not-NoInput w.0
    (shown c.new-line.ensures.empty (then c.form-2.ensures c.byte.ensures) (search rules) (omega (arith, w.0, l)))
    (c.count-size.ensures ∙ w.3)
    (c.reply.ensures c.args.s.now c.args.work.now)
