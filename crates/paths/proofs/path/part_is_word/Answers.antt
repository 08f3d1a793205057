-- `paths::path::part_is_word` meets its contract: up to the first escape or difference the part's bytes are those that stand there, and the word's.
-- Assumes nothing.
use borrow.Author.Tests.{ne_eqb}
use lib.ListN.{length}
use mathlib.Core.Path.{sym, ◌∙◌}
use native.Mathlib.Omega.{arith}
use Rattle.std.proofs.Common.{rules}
use Rattle.paths.proofs.Matching.{spelled, spelled_apart, spelled_dot, spelled_end, spelled_on, spelled_over}
use Rattle.paths.proofs.path.part_is_word.Goals as goal
use Rattle.paths.proofs.path.part_is_word.Goals.{then-c-eq34-via-then-c-eq34, then-c-eq34-via-else-c-eq34+then-c-eq46, then-c-eq34-via-else-c-eq34+else-c-eq46+then-c-b}

pub loop-n-init : goal.loop-n-init
loop-n-init c = spelled c.args.path.now c.args.word.now c.requires

pub returns-then-c-eq34 : goal.returns-then-c-eq34
returns-then-c-eq34 c =
    elim c.then-c-eq34.branch [
      | then-c-eq34-via-then-c-eq34 w ↦
          sym (ne_eqb c.loop-n.n (length c.args.word.now) (λ q. omega arith)) ∙ spelled_end c.loop-n.invariant w.if-c-eq34.true
      | then-c-eq34-via-else-c-eq34+then-c-eq46 w ↦
          sym (ne_eqb c.loop-n.n (length c.args.word.now) (λ q. omega arith)) ∙ spelled_dot c.loop-n.invariant w.if-c-eq46.true
      | then-c-eq34-via-else-c-eq34+else-c-eq46+then-c-b w ↦
          spelled_apart c.loop-n.invariant c.if-c-eq92.false w.if-c-eq34.false w.if-c-eq46.false (omega arith) w.if-c-b.true
    ]

pub loop-n-preserved : goal.loop-n-preserved
loop-n-preserved c = spelled_on c.loop-n.invariant c.if-c-eq92.false c.if-c-eq34.false c.if-c-eq46.false (omega arith) c.if-c-b.false

pub returns : goal.returns
returns c =
    spelled_over c.loop-n.invariant c.loop-n-test.false _ _ c.new.ensures c.next.result c.next.ensures.steps c.is_none_or.result (search rules)
