-- `search::part::search_within` meets its contract: what is copied is the part.
-- Assumes nothing.
use mathlib.Core.Path.{ap, sym, ◌∙◌}
use Rattle.json_text.specs.Bytes.{Bytes}
use Rattle.json_text.specs.Spans.{text_at}
use Rattle.semantics.specs.Forms.{is_part}
use lib.Seq.{length-take-le}
use Rattle.search.specs.Told.{CopiedTold, SoughtTold}
use Rattle.search.proofs.part.search_within.Goals as goal

pub returns-in_err-n : goal.returns-in_err-n
unfolding SoughtTold
returns-in_err-n c = rw c.from_residual.ensures tt

pub slice_bounds-fill-end : goal.slice_bounds-fill-end
unfolding CopiedTold
slice_bounds-fill-end c = c.in_ok-n.ensures.0

pub slice_bounds-fill-end-2 : goal.slice_bounds-fill-end-2
unfolding CopiedTold
slice_bounds-fill-end-2 c = sym (length-take-le c.in_ok-n.n c.copy.new.out c.in_ok-n.ensures.0)

pub slice_bounds-search-end : goal.slice_bounds-search-end
unfolding CopiedTold
slice_bounds-search-end c = c.in_ok-n.ensures.0

pub slice_bounds-search-end-2 : goal.slice_bounds-search-end-2
unfolding CopiedTold
slice_bounds-search-end-2 c = sym (length-take-le c.in_ok-n.n c.copy.new.out c.in_ok-n.ensures.0)

pub returns : goal.returns
unfolding CopiedTold SoughtTold
returns c =
    c.search.ensures ∙ ap (λ (p : Bytes). is_part p (text_at c.args.s.now c.args.text)) c.in_ok-n.ensures.1
