-- `paths::roots::base_at` meets its contract: by the root.
-- Assumes nothing.
use Rattle.paths.proofs.Unbound.{base_args, base_fields, base_none, base_old}
use Rattle.paths.proofs.roots.base_at.Goals as goal

pub returns-in_default : goal.returns-in_default
returns-in_default c = base_none c.args.roots.now c.args.root c.in_default.not-Args c.in_default.not-Fields c.in_default.not-OldFields

pub returns-in-Args : goal.returns-in-Args
returns-in-Args c =
    rw c.object_at.ensures
    (base_args c.args.roots.now c.in-Args.is)

pub returns-in-Fields : goal.returns-in-Fields
returns-in-Fields c =
    rw c.object_at-in-Fields.ensures
    (base_fields c.args.roots.now c.in-Fields.is)

pub returns-in-OldFields : goal.returns-in-OldFields
returns-in-OldFields c =
    rw c.object_at-in-OldFields.ensures
    (base_old c.args.roots.now c.in-OldFields.is)
