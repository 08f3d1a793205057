-- A record's fields, and what a check of records counts.
-- Assumes nothing.
use Rattle.std.specs.Prelude.{Bool, List, Result, ℕ, suc, zero, count_by, eqb, is_err, length, min, take, ◌+◌, ◌-◌, ◌≡◌}
use Rattle.std.specs.List.{after_first, before_first, slice_split}
use Rattle.records.specs.declared.Tally.{Tally}
use denote.Ref.{Bor}

abbrev pub Bytes : Type 0
Bytes = List ℕ

abbrev pub is_tab : ℕ → Bool
is_tab c = eqb c 9

abbrev pub is_line_feed : ℕ → Bool
is_line_feed c = eqb c 10

-- A record's field by its place, 0 the first one: the bytes up to the first tab, and of what stands behind it the field before. What a record has not is empty.
unfoldable pub field_of : Bytes → ℕ → Bytes
field_of s zero = before_first is_tab s
field_of s (suc n) = field_of (after_first is_tab s) n

-- the records of a text, each of which a line feed ends: what stands between line feeds, but for what stands behind the last
abbrev pub records_of : Bytes → List Bytes
records_of s = let parts = slice_split is_line_feed s in take (length parts - 1) parts

-- what a check answers of a record tells whether it differs
abbrev pub Tells : {A E : Type 0} → (Bor Bytes → Result A E → Type 0) → (Bytes → Bool) → Type 0
Tells {A} {E} post p = (s : Bor Bytes) (r : Result A E) → post s r → is_err r ≡ p s.now

abbrev pub most : ℕ
most = 18446744073709551615

-- Records counted, and those of them that differ, from a tally on; neither count passes what 64 bits hold.
pub record Tallied (differs : Bytes → Bool) (before : Tally) (records : List Bytes) (after : Tally) : Type 0 where
  pub ran : after.ran ≡ min (before.ran + length records) most
  pub differ : after.differ ≡ min (before.differ + count_by differs records) most

-- a tally of some records, of which it doesn't say where they stood: how many there were, and how many of them differ
pub record Checked (differs : Bytes → Bool) (all : Tally) : Type 0 where
  pub records : List Bytes
  pub counts : Tallied differs (record { ran = 0; differ = 0 }) records all
