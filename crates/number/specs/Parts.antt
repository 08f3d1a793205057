-- The parts of a number's characters, as the code holds them.
-- Assumes nothing.
use Rattle.std.specs.Prelude.{Bool, true, ◌||◌, [], ◌∷◌, ◌++◌, ◌≡◌, ℕ, ◌+◌, ◌≤◌, length}
use Rattle.std.specs.declared.cmp.Ordering.{Ordering as Ordered}
use Rattle.std.specs.declared.cmp.Ordering.TheVariants as orders
use Rattle.number.specs.Compare.{Scaled, Sign, is_negative, is_nought, is_positive, leading, trim, trim_end}
use Rattle.number.specs.Decimal.{Integer, before, exponent_part, fraction_part, is_e, is_point, minus, signed, unsigned, whole_part}
use Rattle.number.specs.declared.text.Decimal.{Decimal}
use Rattle.json_text.specs.Bytes.{Bytes, natural}

-- what ends the digits before the point
abbrev pub ends_whole : ℕ → Bool
ends_whole c = is_point c || is_e c

-- whether the first byte passes a test, or there is none
abbrev pub stops_at : (ℕ → Bool) → Bytes → Bool
stops_at p [] = true
stops_at p (c ∷ s) = p c

-- the bytes before the first that passes a test, and those from there on
pub record Splits (p : ℕ → Bool) (s a b : Bytes) : Type 0 where
  pub front : a ≡ before p s
  pub parts : s ≡ a ++ b
  pub stop : stops_at p b ≡ true

-- each part of a text, where it stands
pub record Parsed (s : Bytes) (d : Decimal) : Type 0 where
  pub negative : d.negative ≡ minus s
  pub digits : d.upper.now ++ d.lower.now ≡ trim (whole_part s ++ fraction_part s)
  pub whole : d.whole ≡ length (whole_part s)
  pub leads : d.leading ≡ leading (whole_part s ++ fraction_part s)
  pub exponent : d.exponent.now ≡ exponent_part s
  pub whole_upto : d.whole ≤ length s
  pub leads_upto : d.leading ≤ length s
  pub exponent_upto : length d.exponent.now ≤ length s

-- no part is longer than a number may be
pub record Short (d : Decimal) : Type 0 where
  pub whole : d.whole ≤ 255
  pub leading : d.leading ≤ 255
  pub exponent : length d.exponent.now ≤ 255

-- the integer that digits with a sign spell
abbrev pub spelled : Bytes → Integer
spelled s = signed (minus s) (natural 0 (unsigned s))

-- no zero leads
abbrev pub Trimmed : Decimal → Type 0
Trimmed d = trim (d.upper.now ++ d.lower.now) ≡ d.upper.now ++ d.lower.now

-- the number that the parts stand for
abbrev pub held : Decimal → Scaled
held d =
    record {
      negative = d.negative;
      digits = trim_end (d.upper.now ++ d.lower.now);
      place = record { up = (spelled d.exponent.now).up + d.whole; down = (spelled d.exponent.now).down + d.leading };
    }

-- a sign is how a number compares with 0
abbrev pub side_of : Sign → Ordered
side_of is_negative = orders.Less
side_of is_nought = orders.Equal
side_of is_positive = orders.Greater
