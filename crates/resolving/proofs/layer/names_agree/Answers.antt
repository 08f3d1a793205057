-- `resolving::layer::names_agree` meets its contract: by whether the children are names.
-- Assumes nothing.
use Rattle.resolving.proofs.Alike.{child_name, names_same}
use Rattle.paths.proofs.Ordered.{name_room, on_name}
use Rattle.paths.specs.Layered.{names_agree}
use Rattle.paths.specs.Stored.{table}
use Rattle.resolving.proofs.layer.names_agree.Goals as goal

pub start_at-requires : goal.start_at-requires
start_at-requires c =
    name_room c.args.s.now c.args.work.now c.requires.0.rows
    (child_name c.args.s.now (table c.args.work.now) c.if-not-named.false c.requires.1)

pub start_at-requires-else-not-named : goal.start_at-requires-else-not-named
start_at-requires-else-not-named c =
    name_room c.args.s.now c.args.work.now c.requires.0.rows
    (child_name c.args.s.now (table c.args.work.now) c.if-not-named.false c.requires.2)

pub same-requires : goal.same-requires
same-requires c = (
  on_name
      (child_name c.args.s.now (table c.args.work.now) c.if-not-named.false c.requires.1)
      c.start_at.ensures,
  on_name
      (child_name c.args.s.now (table c.args.work.now) c.if-not-named.false c.requires.2)
      c.start_at-else-not-named.ensures,
)

pub returns-else-not-named : goal.returns-else-not-named
returns-else-not-named c =
    names_same c.args.s.now (table c.args.work.now) c.args.i c.args.j c.if-not-named.false
    c.start_at.ensures c.start_at-else-not-named.ensures c.same.ensures

pub returns-then-not-named : goal.returns-then-not-named
unfolding names_agree
returns-then-not-named c = rw c.if-not-named.true
