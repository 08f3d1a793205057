-- `paths::roots::root_at` meets its contract: by the root.
-- Assumes nothing.
use borrow.Author.Rules.{rules}
use mathlib.Core.Path.{◌≡◌}
use Rattle.std.specs.Prelude.{Err, None, Some}
use Rattle.paths.specs.declared.operand.LookupError.TheVariants as lookups
use Rattle.paths.proofs.Unbound.{told_args, told_entity, told_fields, told_from, told_id, told_no_id, told_old, told_to, told_version}
use Rattle.paths.proofs.roots.root_at.Goals as goal

pub returns-in_err-ok_or-in-Id : goal.returns-in_err-ok_or-in-Id
returns-in_err-ok_or-in-Id c =
    let e : c.args.roots.now.id ≡ None = search rules in
    let r : c.from_residual.result ≡ Err lookups.NoId = search rules in
    rw r (told_no_id c.args.roots.now c.in-Id.is e)

pub returns-in_ok-ok_or-in-Id : goal.returns-in_ok-ok_or-in-Id
returns-in_ok-ok_or-in-Id c =
    let e : c.args.roots.now.id ≡ Some c.in_ok-ok_or-in-Id.field-0 = search rules in
    rw c.text_at.ensures (told_id c.args.roots.now c.in-Id.is c.in_ok-ok_or-in-Id.field-0 e)

pub returns-in-FromState : goal.returns-in-FromState
returns-in-FromState c = told_from c.args.roots.now c.in-FromState.is (λ q. search rules) (λ n q. search rules)

pub returns-in-Entity : goal.returns-in-Entity
returns-in-Entity c =
    rw c.text_at-in-Entity.ensures
    (told_entity c.args.roots.now c.in-Entity.is)

pub returns-in-Version : goal.returns-in-Version
returns-in-Version c = rw c.at.ensures (told_version c.args.roots.now c.in-Version.is)

pub returns-in-ToState : goal.returns-in-ToState
returns-in-ToState c =
    rw c.text_at-in-ToState.ensures
    (told_to c.args.roots.now c.in-ToState.is)

pub returns-in-Args : goal.returns-in-Args
returns-in-Args c =
    rw c.object_at.ensures
    (told_args c.args.roots.now c.in-Args.is)

pub returns-in-Fields : goal.returns-in-Fields
returns-in-Fields c =
    rw c.object_at-in-Fields.ensures
    (told_fields c.args.roots.now c.in-Fields.is)

pub returns-in-OldFields : goal.returns-in-OldFields
returns-in-OldFields c =
    rw c.object_at-in-OldFields.ensures
    (told_old c.args.roots.now c.in-OldFields.is)
