-- A place's digits, one by one: a number that has reached 2^64 stays past it.
-- Assumes nothing.
use Rattle.std.specs.Prelude.{Some, None}
use mathlib.Core.Bool.{Bool, cond, false, true, ◌&&◌}
use mathlib.Core.List.{[], ◌∷◌}
use mathlib.Core.Path.{refl, sym, ◌∙◌, ◌≡◌}
use Prim.Native.Nat.{ℕ, ◌*◌, ◌+◌, ◌-◌, ◌<◌, ◌≤◌, ◌^◌}
use native.Mathlib.Omega.{arith}
use lib.Dec.{ltb}
use lib.ListN.{drop, drop_of_length-le, get_or, length}
use borrow.Author.Tests.{le-ltb, lt-ltb}
use Rattle.json_text.specs.Bytes.{Bytes, between, natural}
use Rattle.members.proofs.Words.{here}
use Rattle.members.specs.Kinds.{all_digits}
use Rattle.arguments.specs.Places.{number_in}

natural_grows : (n : ℕ) (t : Bytes) → n ≤ natural n t
unfolding natural
natural_grows n [] = omega arith
natural_grows n (c ∷ t) = omega (arith, natural_grows (n * 10 + (c - 48)) t)

too_large : (t : Bytes) (n : ℕ) → 2 ^ 64 ≤ n → number_in n t ≡ None
unfolding number_in
too_large t n h = go (all_digits t)
  where
    go : (b : Bool) → cond (b && ltb (natural n t) (2 ^ 64)) (Some (natural n t)) None ≡ None
    go true = rw (le-ltb (natural n t) (2 ^ 64) (omega (arith, natural_grows n t)))
    go false = refl

pub record Spelling (s : Bytes) (n i : ℕ) : Type 0 where
  pub upto : i ≤ length s
  pub small : n < 2 ^ 64
  pub rest : number_in 0 s ≡ number_in n (drop i s)

pub spelling : (s : Bytes) → Spelling s 0 0
spelling s = record { upto = omega arith; small = omega arith; rest = refl }

module _ {s : Bytes} {n i : ℕ} (l : Spelling s n i) where
  pub spelt : length s ≤ i → Some n ≡ number_in 0 s
  unfolding number_in all_digits natural
  spelt h = sym (l.rest ∙ rw (drop_of_length-le s {i = i} h, lt-ltb n (2 ^ 64) l.small))

  module _ (h : i < length s) where
    pub no_digit : between 48 57 (get_or s i 0) ≡ false → None ≡ number_in 0 s
    unfolding number_in all_digits
    no_digit q = sym (l.rest ∙ rw (here s i h, q))

    module _ (q : between 48 57 (get_or s i 0) ≡ true) where
      one_digit : number_in 0 s ≡ number_in (n * 10 + (get_or s i 0 - 48)) (drop (i + 1) s)
      unfolding number_in all_digits natural
      one_digit = l.rest ∙ rw (here s i h, q)

      pub too_many : 2 ^ 64 ≤ n * 10 + (get_or s i 0 - 48) → None ≡ number_in 0 s
      too_many g = sym (one_digit ∙ too_large (drop (i + 1) s) (n * 10 + (get_or s i 0 - 48)) g)

      pub one_more : n * 10 + (get_or s i 0 - 48) < 2 ^ 64 → Spelling s (n * 10 + (get_or s i 0 - 48)) (i + 1)
      one_more g = record { upto = omega arith; small = g; rest = one_digit }
