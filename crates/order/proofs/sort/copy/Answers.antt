-- `order::sort::copy` meets its contract: what was copied so far, and then what stood there.
-- Assumes nothing.
use mathlib.Core.List.{List, append-nil, ◌++◌}
use mathlib.Core.Path.{refl, ◌∙◌, ◌≡◌}
use Prim.Native.Nat.{ℕ, ◌+◌, ◌<◌, ◌≤◌}
use native.Mathlib.Nat.{zero-add}
use native.Mathlib.Numerals.{add-one}
use native.Mathlib.Omega.{arith}
use lib.ListN.{drop, drop_of_length-le, get_or, length, length-set, set, take}
use lib.Seq.{paste-suc, take-length}
use Rattle.order.proofs.sort.copy.Goals as goal

one_more : (from to₀ to : List ℕ) (i : ℕ) → i < length from → length from ≤ length to₀
    → to ≡ take i from ++ drop i to₀ → set to i (get_or from i 0) ≡ take (i + 1) from ++ drop (i + 1) to₀
one_more from to₀ to i h l e = rw (e, add-one) (simp zero-add at (paste-suc to₀ 0 from i 0 (omega arith) h))

all : (from to₀ : List ℕ) (i : ℕ) → i ≤ length from → length from ≤ i → length from ≡ length to₀ → take i from ++ drop i to₀ ≡ from
all from to₀ i h l q =
    let e : i ≡ length from = omega arith in
    rw (e, take-length, drop_of_length-le to₀ {i = length from} (omega (arith, q))) (append-nil from)

pub loop-i-init : goal.loop-i-init
loop-i-init c = refl

pub loop-i-preserved : goal.loop-i-preserved
loop-i-preserved c =
    one_more c.args.from.now c.args.to.now c.loop-i.to c.loop-i.i c.loop-i-test.true (omega (arith, c.requires)) c.loop-i.invariant

pub returns : goal.returns
returns c = c.loop-i.invariant ∙ all c.args.from.now c.args.to.now c.loop-i.i c.loop-i.auto.i-end c.loop-i-test.false c.requires
