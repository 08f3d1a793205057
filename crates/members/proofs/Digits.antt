-- A version's digits, one by one: a number that has grown past the limit stays past it.
-- Assumes nothing.
use mathlib.Core.Bool.{Bool, false, true, ◌&&◌}
use mathlib.Core.List.{[], ◌∷◌}
use mathlib.Core.Path.{refl, sym, ◌∙◌, ◌≡◌}
use Prim.Native.Nat.{ℕ, ◌*◌, ◌+◌, ◌-◌, ◌<◌, ◌≤◌}
use native.Mathlib.Numerals.{add-one}
use native.Mathlib.Omega.{arith}
use lib.Dec.{leb}
use lib.ListN.{drop, drop_of_length-le, get_or, length}
use lib.Seq.{drop-cons}
use borrow.Author.Tests.{le-leb, lt-leb}
use Rattle.json_text.specs.Bytes.{Bytes, between, natural}
use Rattle.members.specs.Kinds.{all_digits, is_version}

natural_grows : (n : ℕ) (t : Bytes) → n ≤ natural n t
unfolding natural
natural_grows n [] = omega arith
natural_grows n (c ∷ t) = omega (arith, natural_grows (n * 10 + (c - 48)) t)

-- the digits from here on, after a number read before them
abbrev pub version_from : ℕ → Bytes → Bool
version_from n t = all_digits t && leb (natural n t) 4294967295

pub record Counting (s : Bytes) (n i : ℕ) : Type 0 where
  pub small : n ≤ 4294967295
  pub rest : is_version s ≡ version_from n (drop i s)

pub counting : (s : Bytes) → Counting s 0 0
unfolding is_version
counting s = record { small = omega arith; rest = refl }

too_large : (t : Bytes) (n : ℕ) → 4294967295 < n → version_from n t ≡ false
too_large t n h = go (all_digits t)
  where
    large : leb (natural n t) 4294967295 ≡ false
    large = lt-leb (natural n t) 4294967295 (omega (arith, natural_grows n t))

    go : (b : Bool) → (b && leb (natural n t) 4294967295) ≡ false
    go true = large
    go false = refl

module _ {s : Bytes} {n i : ℕ} (l : Counting s n i) where
  pub digits_ended : length s ≤ i → true ≡ is_version s
  unfolding all_digits natural
  digits_ended h = sym (l.rest ∙ rw (drop_of_length-le s {i = i} h) (le-leb n 4294967295 l.small))

  module _ (h : i < length s) where
    first : drop i s ≡ get_or s i 0 ∷ drop (i + 1) s
    first = rw add-one (drop-cons s i 0 h)

    pub no_digit : between 48 57 (get_or s i 0) ≡ false → false ≡ is_version s
    unfolding all_digits
    no_digit q = sym (l.rest ∙ rw (first, q))

    module _ (q : between 48 57 (get_or s i 0) ≡ true) where
      one_digit : is_version s ≡ version_from (n * 10 + (get_or s i 0 - 48)) (drop (i + 1) s)
      unfolding all_digits natural
      one_digit = l.rest ∙ rw (first, q)

      pub too_many : 4294967295 < n * 10 + (get_or s i 0 - 48) → false ≡ is_version s
      too_many g = sym (one_digit ∙ too_large (drop (i + 1) s) (n * 10 + (get_or s i 0 - 48)) g)

      pub one_more : n * 10 + (get_or s i 0 - 48) ≤ 4294967295 → Counting s (n * 10 + (get_or s i 0 - 48)) (i + 1)
      one_more g = record { small = g; rest = one_digit }
