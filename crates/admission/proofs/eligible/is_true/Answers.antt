-- `admission::eligible::is_true` meets its contract: by the kind of the node that is there.
-- Assumes nothing.
use Rattle.std.proofs.Common.{rules}
use Rattle.std.specs.Prelude.{Some}
use mathlib.Core.Path.{◌≡◌}
use Prim.Native.Nat.{ℕ, ◌*◌, ◌+◌, ◌<◌, ◌≤◌}
use lib.ListN.{length}
use Rattle.members.specs.Kinds.{a_bool}
use Rattle.rules.proofs.Eligibility.{flag_told, there_room}
use Rattle.admission.proofs.eligible.is_true.Goals as goal

pub is_some_and-requires : goal.is_some_and-requires
is_some_and-requires c =
    let h : (n : ℕ) → c.args.found ≡ Some n → (3 * n + 3 ≤ length c.args.work.now) × (n < 4096) = λ n q. there_room a_bool c.requires.given c.args.work.now n q c.requires.known in
    search rules

pub returns : goal.returns
returns c = flag_told c.args.work.now c.args.found c.is_some_and.result (search rules)
