-- `search::end::ends_with` meets its contract: what is left at the second iterator is as long as the part.
-- Assumes nothing.
use mathlib.Core.Path.{sym, ◌∙◌}
use Rattle.search.proofs.Ending.{ends_shorter, tail_ends, tail_there}
use Rattle.search.specs.Told.{PastTold}
use Rattle.search.proofs.end.ends_with.Goals as goal

pub returns-in_default : goal.returns-in_default
unfolding PastTold
returns-in_default c = sym (rw (← c.new-end.ensures, ← c.new-whole.ensures) (ends_shorter _ _ c.in_default.ensures))

pub returns-in_default-past : goal.returns-in_default-past
unfolding PastTold
returns-in_default-past c = tail_there c.in-Some.ensures c.in_default-past.ensures

pub returns : goal.returns
unfolding PastTold
returns c = c.begins.ensures ∙ tail_ends c.in-Some.ensures c.in-Some-past.ensures ∙ rw (c.new-end.ensures, c.new-whole.ensures)
