-- `rules::rules::text_of` meets its contract: by whether the member was found.
-- Assumes nothing.
use Rattle.std.proofs.Common.{rules}
use Rattle.std.specs.Prelude.{Some}
use mathlib.Core.Path.{◌≡◌}
use Prim.Native.Nat.{ℕ, ◌*◌, ◌+◌, ◌<◌, ◌≤◌}
use lib.ListN.{length}
use Rattle.members.specs.Kinds.{a_text}
use Rattle.rules.proofs.Eligibility.{there_room}
use Rattle.rules.proofs.Settling.{text_told}
use Rattle.rules.proofs.rules.text_of.Goals as goal

pub map-requires : goal.map-requires
map-requires c =
    let h : (n : ℕ) → c.args.found ≡ Some n → (3 * n + 3 ≤ length c.args.work.now) × (n < 4096) = λ n q. there_room a_text c.requires.given c.args.work.now n q c.requires.known in
    search rules

pub returns : goal.returns
returns c = text_told c.args.work.now c.args.found c.map.result (search rules)
