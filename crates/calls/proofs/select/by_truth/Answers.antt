-- `calls::select::by_truth` meets its contract: by the truth.
-- Assumes nothing.
use Rattle.calls.proofs.Trying.{guard_passes, guard_stops, guard_takes}
use Rattle.calls.proofs.select.by_truth.Goals as goal

pub returns-in-True : goal.returns-in-True
returns-in-True c = λ o x g j. guard_takes c.args.s.now c.args.work.now c.args.p.place o.name j c.in-True.is

pub returns-in-False : goal.returns-in-False
returns-in-False c = λ o x g j. guard_passes c.args.s.now c.args.work.now c.args.p.place o.name j c.in-False.is

pub returns-in-Unknown : goal.returns-in-Unknown
returns-in-Unknown c = λ o x g j. guard_stops c.args.s.now c.args.work.now c.args.p.place o.name j c.in-Unknown.is (c.entry.ensures o g)
