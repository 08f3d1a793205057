-- `leaves::leaf::scan` meets its contract: by the kind.
-- Assumes nothing.
use Rattle.leaves.proofs.Values.{is_text_by}
use Rattle.leaves.specs.Laid.{scan_by}
use Rattle.leaves.proofs.leaf.scan.Goals as goal

pub returns-in-Null : goal.returns-in-Null
unfolding scan_by
returns-in-Null c = rw c.in-Null.is c.word.ensures

pub returns-in-True : goal.returns-in-True
unfolding scan_by
returns-in-True c = rw c.in-True.is c.word-in-True.ensures

pub returns-in-False : goal.returns-in-False
unfolding scan_by
returns-in-False c = rw c.in-False.is c.word-in-False.ensures

pub returns-in-Number : goal.returns-in-Number
unfolding scan_by
returns-in-Number c = rw c.in-Number.is c.number.ensures

pub returns-in_default : goal.returns-in_default
unfolding scan_by
returns-in_default c = rw (is_text_by c.args.kind c.in_default.not-Null c.in_default.not-True c.in_default.not-False c.in_default.not-Number) c.string.ensures
