-- Where a walk along the table's rows may stand: each row that it comes to is in the table, and says of the next node that it is behind.
-- Assumes nothing.
use Rattle.std.proofs.Props.{props}
use Rattle.std.specs.Prelude.{List, suc, zero, ℕ, ◌*◌, ◌+◌, ◌<◌, ◌≤◌, length}
use Rattle.json_text.specs.Table.{after_at}

-- along an array's elements, or along the names of an object's members
pub data Walked : Type 0 where
  of_array of_object : Walked

-- the row that says which node comes after k: its own, or that of the value behind the name
abbrev pub row : Walked → ℕ → ℕ
row of_array k = k
row of_object k = k + 1

-- a node for which that row is in the table, and the next node is behind it
pub record Ahead (w : List ℕ) (v : Walked) (k : ℕ) : Type 0 where
  pub room : 3 * row v k + 3 ≤ length w
  pub few : row v k < 4096
  pub past : k < after_at w (row v k)

-- so is each of the first n nodes from k up to e
unfoldable pub leads_for : List ℕ → Walked → ℕ → ℕ → ℕ → Type 0
leads_for w v e zero k = Unit {0}
leads_for w v e (suc n) k = k < e → Ahead w v k × leads_for w v e n (after_at w (row v k))

-- and each of them all
unfoldable pub Leads : List ℕ → Walked → ℕ → ℕ → Type 0
unfolding leads_for
Leads w v e k = (n : ℕ) → leads_for w v e n k

for_prop : (w : List ℕ) (v : Walked) (e n k : ℕ) → IsProp (leads_for w v e n k)
unfolding leads_for
for_prop w v e zero k = hlevel props
for_prop w v e (suc n) k = let below = for_prop w v e n (after_at w (row v k)) in hlevel (props, below)

pub leads_prop : (w : List ℕ) (v : Walked) (e k : ℕ) → IsProp (Leads w v e k)
unfolding Leads
leads_prop w v e k = hlevel (props, for_prop)
