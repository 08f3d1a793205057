-- The rows behind the last node become zero.
-- Assumes nothing.
use mathlib.Core.List.{List, ◌++◌}
use mathlib.Core.Path.{ap, sym, ◌∙◌, ◌≡◌}
use Prim.Native.Nat.{ℕ, ◌*◌, ◌+◌, ◌-◌, ◌<◌, ◌≤◌}
use native.Mathlib.Omega.{arith}
use borrow.Rule.Slice.PartMut.{put_mid}
use lib.ListN.{drop, get_or, length, length-drop, replicate, take}
use lib.Seq.{drop-drop, length-take-le}
use Rattle.std.proofs.lemmas.List.{get_or-append_right, get_or-replicate, get_or_append_left, length-replicate}
use Rattle.std.proofs.lemmas.Slice.{drop-put_mid, take-put_mid_below}
use Rattle.json_text.specs.Marks.{first_mark}
use Rattle.order.specs.Chained.{ClearedBehind}

-- how many words `fill` writes, of a part of so many
module _ (w : List ℕ) (a k : ℕ) (within : a + k ≤ length w) where
  part_long : length (take k (drop a w)) ≡ k
  part_long = length-take-le k (drop a w) (omega (arith, length-drop a w))

  module _ (f : List ℕ) (fill : ((y : ℕ) → y ≡ 0 → y ≡ 0) → f ≡ replicate (length (take k (drop a w))) 0) where
    zeros : f ≡ replicate k 0
    zeros = fill (λ y q. q) ∙ ap (λ (n : ℕ). replicate {A = ℕ} n 0) part_long

    long : length f ≡ k
    long = ap length zeros ∙ length-replicate k 0

    pub zero_in_part : (i : ℕ) → a ≤ i → i < a + k → get_or (put_mid a k w f) i 0 ≡ 0
    zero_in_part i h j =
        get_or-append_right (take a w) (f ++ drop k (drop a w)) a i 0 (length-take-le a w (omega arith)) h ∙
        get_or_append_left f (drop k (drop a w)) 0 (i - a) (omega (arith, long)) ∙
        ap (λ (l : List ℕ). get_or l (i - a) 0) zeros ∙ get_or-replicate k (i - a) 0 0 (omega arith)

    pub part_passed : drop (a + k) (put_mid a k w f) ≡ drop (a + k) w
    part_passed = drop-put_mid a k w f (a + k) (omega arith) (omega arith) long

pub cleared_behind : (w : List ℕ) (count : ℕ) (f : List ℕ) → 16384 ≤ length w → count ≤ 4096 →
    (((y : ℕ) → y ≡ 0 → y ≡ 0) → f ≡ replicate (length (take (12288 - 3 * count) (drop (3 * count) w))) 0) →
    ClearedBehind w count (put_mid (3 * count) (12288 - 3 * count) w f)
cleared_behind w count f l h fill =
    let n = 12288 - 3 * count in
    let all : 3 * count + n ≡ first_mark = omega arith in
    let within : 3 * count + n ≤ length w = omega arith in
    record {
      rows = take-put_mid_below (3 * count) n w f (3 * count) (omega arith) (omega arith);
      none = λ i p q. zero_in_part w (3 * count) n within f fill i p (omega arith);
      further = ap (λ (m : ℕ). drop m (put_mid (3 * count) n w f)) (sym all) ∙ part_passed w (3 * count) n within f fill ∙ ap (λ (m : ℕ). drop m w) all;
    }

-- what follows the rows stays
pub cleared_further : {w : List ℕ} {count : ℕ} {w' : List ℕ} → ClearedBehind w count w' → drop 16384 w' ≡ drop 16384 w
cleared_further {w} {count} {w'} c = sym (drop-drop 4096 first_mark w') ∙ ap (drop 4096) c.further ∙ drop-drop 4096 first_mark w
