-- Bytes moved to the start: as many as are kept of a line stand there.
-- Assumes nothing.
use mathlib.Core.Bool.{Bool, false, true}
use mathlib.Core.Path.{ap, refl, sym, ◌∙◌, ◌≡◌}
use Prim.Native.Nat.{min, ℕ, ◌+◌, ◌-◌, ◌<◌, ◌≤◌}
use native.Mathlib.Omega.{arith}
use lib.Dec.{leb}
use lib.ListN.{drop, length, length-drop, length-take, take}
use lib.Seq.{length-paste, paste, take_all, take-take}
use Rattle.std.proofs.lemmas.List.Edits.{take-paste}
use borrow.Author.Tests.{leb-false, leb-true}
use Rattle.std.specs.List.{copy_within}
use Rattle.json_text.specs.Bytes.{Bytes}
use Rattle.printing.specs.Progress.{Kept, cut}

take_least : (x : Bytes) (left : ℕ) → take (min left 32769) x ≡ take 32769 (take left x)
take_least x left = go (leb left 32769) refl
  where
    go : (b : Bool) → leb left 32769 ≡ b → take (min left 32769) x ≡ take 32769 (take left x)
    go true q =
        let f : left ≤ 32769 = leb-true left 32769 q in
        let k : min left 32769 ≡ left = omega arith in
        ap (λ (j : ℕ). take j x) k ∙ sym (take_all 32769 (take left x) (simp length-take (omega arith)))
    go false q =
        let f : 32769 < left = leb-false left 32769 q in
        let k : min left 32769 ≡ 32769 = omega arith in
        ap (λ (j : ℕ). take j x) k ∙ sym (take-take 32769 left x (omega arith))

pub kept : (l m : Bytes) (from end n : ℕ) → n ≡ min (end - from) 32769 → from + n ≤ length l → m ≡ copy_within l from (from + n) 0 → Kept l from end m n
unfolding cut
kept l m from end n e h q =
    record { size = e; bytes = ap (take n) q ∙ moved ∙ ap (λ (k : ℕ). take k (drop from l)) e ∙ take_least (drop from l) (end - from) }
  where
    moved : take n (paste l 0 (drop from l) (from + n - from)) ≡ take n (drop from l)
    moved =
        let j : from + n - from ≡ n = omega arith in
        let same : n ≡ 0 + n = omega arith in
        ap (λ (k : ℕ). take n (paste l 0 (drop from l) k)) j ∙ ap (λ (k : ℕ). take k (paste l 0 (drop from l) n)) same ∙
        take-paste l 0 (drop from l) n (omega arith) (simp length-drop (omega (arith, h)))

-- what was moved leaves the length as it was
pub moved_size : (l m : Bytes) (from n : ℕ) → from + n ≤ length l → m ≡ copy_within l from (from + n) 0 → length m ≡ length l
moved_size l m from n h q =
    let few : from + n - from ≤ length (drop from l) = simp length-drop (omega (arith, h)) in
    let room : 0 + (from + n - from) ≤ length l = omega (arith, h) in
    ap length q ∙ length-paste l 0 (drop from l) (from + n - from) room few
