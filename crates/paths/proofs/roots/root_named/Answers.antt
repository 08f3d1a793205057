-- `paths::roots::root_named` meets its contract: the first word that is the path's first part.
-- Assumes nothing.
use mathlib.Core.Path.{refl, sym, ◌∙◌}
use Rattle.paths.specs.Rooted.{root_of}
use Rattle.paths.proofs.Naming.{named_here, named_none, named_on}
use Rattle.paths.proofs.roots.root_named.Goals as goal

pub loop-word-init : goal.loop-word-init
unfolding root_of
loop-word-init c = (refl, refl)

pub returns-then-part_is_word : goal.returns-then-part_is_word
returns-then-part_is_word c =
    sym (named_here _ _ c.loop-word.word-index c.loop-word.invariant.1 _ c.loop-word-test.true (sym c.part_is_word.ensures ∙ c.if-part_is_word.true))

pub loop-word-preserved : goal.loop-word-preserved
loop-word-preserved c =
    (refl, named_on _ _ c.loop-word.word-index c.loop-word.invariant.1 _ c.loop-word-test.true (sym c.part_is_word.ensures ∙ c.if-part_is_word.false))

pub returns : goal.returns
returns c = sym (named_none _ _ c.loop-word.word-index c.loop-word.invariant.1 c.loop-word-test.false)
