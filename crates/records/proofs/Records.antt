-- Fields and records as std's `split` gives them.
-- Assumes nothing.
use lib.Dec.{ltb}
use borrow.Author.Tests.{ltb-false, ltb-true}
use denote.Ref.{Bor}
use Rattle.std.proofs.Common.{arith, Bool, Option, None, Some, ℕ, suc, zero, [], ◌∷◌, drop_of_length-le, false, length, refl, sym, true, ◌+◌, ◌≤◌, ◌≡◌, ◌∙◌}
use Rattle.std.specs.Option.{option_map, unwrap_or}
use Rattle.std.specs.List.{after_first, position_or_len, slice_get, slice_split}
use Rattle.std.proofs.lemmas.List.Splits.{slice_split_first, slice_split_none}
use Rattle.std.proofs.lemmas.List.Sums.{fails_before_first}
use lib.Seq.{take_all}
use Rattle.records.specs.Records.{Bytes, field_of, is_tab}

-- nothing has no field but an empty one
none_has : (n : ℕ) → field_of [] n ≡ []
unfolding field_of
none_has zero = refl
none_has (suc n) = none_has n

-- where no byte is a tab, the record is its one field
one_field : (s : Bytes) (n : ℕ) → length s ≤ position_or_len is_tab s → unwrap_or (slice_get (slice_split is_tab s) n) [] ≡ field_of s n
unfolding field_of
one_field s n h =
    rw (slice_split_none is_tab s (λ k d l. fails_before_first is_tab s k d (omega (arith, l, h)))) (by n)
  where
    by : (n : ℕ) → unwrap_or (slice_get (s ∷ []) n) [] ≡ field_of s n
    by zero = sym (take_all (position_or_len is_tab s) s h)
    by (suc n) = rw (drop_of_length-le s {i = position_or_len is_tab s + 1} (omega (arith, h))) (sym (none_has n))

-- a field is the part that stands at its place
parts_field : (n : ℕ) (s : Bytes) → unwrap_or (slice_get (slice_split is_tab s) n) [] ≡ field_of s n
unfolding field_of
parts_field zero s = by (ltb (position_or_len is_tab s) (length s)) refl
  where
    by : (b : Bool) → ltb (position_or_len is_tab s) (length s) ≡ b → unwrap_or (slice_get (slice_split is_tab s) zero) [] ≡ field_of s zero
    by false e = one_field s zero (ltb-false _ _ e)
    by true e = rw (slice_split_first is_tab s 0 (ltb-true _ _ e)) refl
parts_field (suc n) s = by (parts_field n (after_first is_tab s)) (ltb (position_or_len is_tab s) (length s)) refl
  where
    by : unwrap_or (slice_get (slice_split is_tab (after_first is_tab s)) n) [] ≡ field_of (after_first is_tab s) n → (b : Bool) →
        ltb (position_or_len is_tab s) (length s) ≡ b → unwrap_or (slice_get (slice_split is_tab s) (suc n)) [] ≡ field_of s (suc n)
    by h false e = one_field s (suc n) (ltb-false _ _ e)
    by h true e = rw (slice_split_first is_tab s 0 (ltb-true _ _ e)) h

pub field_is : (s : Bytes) (n : ℕ) (r : Option (Bor Bytes)) (d : Bor Bytes) → d.now ≡ [] → option_map (λ (x : Bor Bytes). x.now) r ≡ slice_get (slice_split is_tab s) n →
    (unwrap_or r d).now ≡ field_of s n
field_is s n None d e h = e ∙ rw (sym h) at (parts_field n s)
field_is s n (Some x) d e h = rw (sym h) at (parts_field n s)
