-- Where the scan of a number stands: what is left of the number decides the whole.
-- Assumes nothing.
use Rattle.std.specs.Prelude.{Option, None, Some, ℕ, ◌≡◌, ◌≤◌, length}
use Rattle.std.specs.List.{AllWithin}
use Rattle.json_text.specs.Bytes.{Bytes}
use Rattle.json_text.specs.Numerals.{Place, exp_digits, exp_sign, exponent, fraction, is_nonzero, is_zero, onward, point, sign, stop, whole, zeroed}
use Rattle.tokens.specs.declared.numeral.Place.{Place as Standing}
use Rattle.tokens.specs.declared.numeral.Place.TheVariants as places

-- the paper's name of a place
abbrev pub place_in : Standing → Place
place_in places.Sign = sign
place_in places.Zero = zeroed
place_in places.Whole = whole
place_in places.Point = point
place_in places.Fraction = fraction
place_in places.Exponent = exponent
place_in places.ExponentSign = exp_sign
place_in places.ExponentDigits = exp_digits

abbrev pub IsDigit : ℕ → Type 0
IsDigit c = (48 ≤ c) × (c ≤ 57)

-- so many bytes come first that are digits
pub record Digits (s : Bytes) (n : ℕ) : Type 0 where
  pub within : n ≤ length s
  pub all : AllWithin IsDigit s 0 n

-- where a byte leads, or that it is none of the number's
abbrev pub after : Option Standing → Place
after None = stop
after (Some p) = place_in p

-- from there a digit leads to the same place
abbrev pub StaysOnDigits : Standing → Type 0
StaysOnDigits p = (onward (place_in p) is_zero ≡ place_in p) × (onward (place_in p) is_nonzero ≡ place_in p)
