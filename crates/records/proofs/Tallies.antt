-- Records counted one after another, and part by part.
-- Assumes nothing.
use lib.Dec.{ltb}
use lib.Seq.{take-length}
use borrow.Author.Tests.{ltb-false, ltb-true}
use denote.Ref.{Bor}
use Rattle.std.proofs.Common.{arith, Bool, List, Option, None, Some, ℕ, suc, [], ◌∷◌, ◌++◌, ap, cond, drop, false, length, length-append, min, refl, sym, take, true, ◌+◌, ◌-◌, ◌<◌, ◌≤◌, ◌≡◌, ◌∙◌}
use Rattle.std.specs.List.{after_first, before_first, count_by, position_or_len, slice_split}
use Rattle.std.specs.declared.result.Result.{Result}
use Rattle.std.proofs.lemmas.List.Splits.{length-slice_split, slice_split_first, slice_split_none}
use Rattle.std.proofs.lemmas.List.Sums.{fails_before_first, sum_by-append}
use Rattle.records.specs.Records.{Bytes, Checked, Tallied, Tells, is_line_feed, most, records_of}
use Rattle.records.specs.declared.Tally.{Tally}

-- a count that goes on from one that was cut
cut_on : (a m n : ℕ) → min (min (a + m) most + n) most ≡ min (a + (m + n)) most
cut_on a m n = omega arith

-- a row as long as it is
pub all_of : (s : Bytes) (n : ℕ) → n ≡ length s → take n s ≡ s
all_of s n e = rw e (take-length s)

-- ---- a text's records, one after another
records_next : (s : Bytes) → position_or_len is_line_feed s < length s → records_of s ≡ before_first is_line_feed s ∷ records_of (after_first is_line_feed s)
records_next s h =
    let rest = slice_split is_line_feed (after_first is_line_feed s) in
    let e : length (before_first is_line_feed s ∷ rest) - 1 ≡ suc (length rest - 1) = omega (arith, length-slice_split is_line_feed (after_first is_line_feed s)) in
    rw (slice_split_first is_line_feed s 0 h, e) refl

records_end : (s : Bytes) → length s ≤ position_or_len is_line_feed s → records_of s ≡ []
records_end s h = rw (slice_split_none is_line_feed s (λ k d l. fails_before_first is_line_feed s k d (omega (arith, l, h)))) refl

-- where a line feed stands, if any does
module _ (s : Bytes) (r : Option ℕ) (e : r ≡ cond (ltb (position_or_len is_line_feed s) (length s)) (Some (position_or_len is_line_feed s)) None) where
  pub next_at : (at : ℕ) (a b : Bytes) → r ≡ Some at → a ≡ take at s → b ≡ drop (at + 1) s → records_of s ≡ a ∷ records_of b
  next_at at a b k l m = go (ltb (position_or_len is_line_feed s) (length s)) refl
    where
      go : (x : Bool) → ltb (position_or_len is_line_feed s) (length s) ≡ x → records_of s ≡ a ∷ records_of b
      go true h = let j : at ≡ position_or_len is_line_feed s = cc (rw h at e) in rw (l, m, j) (records_next s (ltb-true _ _ h))
      go false h = let j = sym k ∙ rw h at e in absurd (cc)

  pub none_at : r ≡ None → records_of s ≡ []
  none_at k = go (ltb (position_or_len is_line_feed s) (length s)) refl
    where
      go : (b : Bool) → ltb (position_or_len is_line_feed s) (length s) ≡ b → records_of s ≡ []
      go true h = let j = sym k ∙ rw h at e in absurd (cc)
      go false h = records_end s (ltb-false _ _ h)

-- ---- tallies
pub still_at_most : (a b : Tally) (x : Bool) → a.differ ≤ a.ran → b.ran ≡ min (a.ran + 1) most → b.differ ≡ min (a.differ + cond x 1 0) most → b.differ ≤ b.ran
still_at_most a b false h e f = omega (arith, h, e, f)
still_at_most a b true h e f = omega (arith, h, e, f)

module _ (p : Bytes → Bool) where
  pub nothing_more : (a : Tally) → a.ran ≤ most → a.differ ≤ most → Tallied p a [] a
  nothing_more a h k = record { ran = omega (arith, h); differ = omega (arith, k) }

  pub one_more : (a b c : Tally) (r : Bytes) (rs : List Bytes) (x : Bool) → b.ran ≡ min (a.ran + 1) most → b.differ ≡ min (a.differ + cond x 1 0) most → x ≡ p r →
      Tallied p b rs c → Tallied p a (r ∷ rs) c
  one_more a b c r rs x e f k t =
      record {
        ran = t.ran ∙ ap (λ (n : ℕ). min (n + length rs) most) e ∙ cut_on a.ran 1 (length rs) ∙ omega arith;
        differ = t.differ ∙ ap (λ (n : ℕ). min (n + count_by p rs) most) f ∙ cut_on a.differ (cond x 1 0) (count_by p rs) ∙ ap (λ (n : ℕ). min (a.differ + n) most) here;
      }
    where
      here : cond x 1 0 + count_by p rs ≡ count_by p (r ∷ rs)
      here = rw k (sym (sum_by-append (λ (s : Bytes). cond (p s) 1 0) (r ∷ []) rs ∙ omega arith))

  pub part_more : (a b c : Tally) (rs ts : List Bytes) → Tallied p a rs b → Tallied p b ts c → Tallied p a (rs ++ ts) c
  part_more a b c rs ts t u =
      record {
        ran = u.ran ∙ ap (λ (n : ℕ). min (n + length ts) most) t.ran ∙ cut_on a.ran (length rs) (length ts) ∙ ap (λ (n : ℕ). min (a.ran + n) most) (sym (length-append rs ts));
        differ =
            u.differ
            ∙ ap (λ (n : ℕ). min (n + count_by p ts) most) t.differ
            ∙ cut_on a.differ (count_by p rs) (count_by p ts)
            ∙ ap (λ (n : ℕ). min (a.differ + n) most) (sym (sum_by-append (λ (s : Bytes). cond (p s) 1 0) rs ts));
      }

  pub checked_on : (a b : Tally) (ts : List Bytes) → Checked p a → Tallied p a ts b → Checked p b
  checked_on a b ts c t = record { records = c.records ++ ts; counts = part_more _ a b c.records ts c.counts t }

-- ---- the loop over a text's records: what is left to count decides
abbrev pub Counting : {A E : Type 0} → (Bor Bytes → Result A E → Type 0) → Tally → Bytes → Tally → Bytes → Type 0
Counting post before text all rest = (p : Bytes → Bool) → Tells post p → (after : Tally) → Tallied p all (records_of rest) after → Tallied p before (records_of text) after
