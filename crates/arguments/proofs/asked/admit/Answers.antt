-- `arguments::asked::admit` meets its contract: by its place.
-- Assumes nothing.
use mathlib.Core.Path.{sym, ◌∙◌}
use borrow.Author.Tests.{le-ltb, lt-ltb}
use Rattle.arguments.specs.Asked.{admits, admits_at}
use Rattle.arguments.proofs.asked.admit.Goals as goal

pub returns-then-count-lt2 : goal.returns-then-count-lt2
unfolding admits
returns-then-count-lt2 c = rw (lt-ltb _ _ c.if-count-lt2.true)

pub returns-in-Some : goal.returns-in-Some
unfolding admits admits_at
returns-in-Some c =
    rw (
      le-ltb _ _ c.if-count-lt2.false,
      sym c.place_in.ensures ∙ c.in-Some.is,
    ) c.with_file.ensures

pub returns-in-None : goal.returns-in-None
unfolding admits admits_at
returns-in-None c =
    rw (
      le-ltb _ _ c.if-count-lt2.false,
      sym c.place_in.ensures ∙ c.in-None.is,
    )
