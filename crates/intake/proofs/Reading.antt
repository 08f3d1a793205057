-- A buffer that is filled from a place on: it keeps its length, and what was read stands within it.
-- Assumes nothing.
use Rattle.std.proofs.Common.{◌≡◌, ℕ, ◌+◌, ◌-◌, ◌≤◌, List, ◌++◌, length, take, drop, ◌∙◌, arith, length-drop, length-take}
use Rattle.printing.proofs.Answering.{part_back}

module _ {first : ℕ} (buf part : List ℕ) (done : ℕ) (same : length buf ≡ first) (within : done ≤ length buf)
    (back : length part ≡ length (take (length buf - done) (drop done buf))) where
  room : done + (length buf - done) ≤ length buf
  room = omega arith

  pub filled_size : length (take done buf ++ (part ++ drop (length buf - done) (drop done buf))) ≡ first
  filled_size = (part_back buf done (length buf - done) part room back).1 ∙ same

  pub filled_within : {n : ℕ} → n ≤ length part → done + n ≤ first
  filled_within h = omega (arith, (part_back buf done (length buf - done) part room back).0)

-- what was used of the rest of an input is within the input
pub used_within : (input : List ℕ) (at used : ℕ) → at ≤ length input → used ≤ length (take (length input - at) (drop at input)) → at + used ≤ length input
used_within input at used within h = omega (arith, length-take (length input - at) (drop at input), length-drop at input)
