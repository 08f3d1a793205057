-- The pair forms on two present values.
-- Assumes nothing.
use Rattle.std.specs.Prelude.{Bool, ◌||◌, [], ◌∷◌}
use Rattle.std.proofs.Math.Bool.{false, not, true}
use Rattle.std.specs.Prelude.{None, Some}
use Prim.Native.Nat.{Ordering}
use Rattle.semantics.specs.Equality.{equal}
use Rattle.semantics.specs.Semantics.{Semantics, is_same}
use Rattle.number.specs.Compare.{number_order}
use Rattle.json_text.specs.Bytes.{Bytes, begins, is_one_of, same_bytes}
use Rattle.json_text.specs.Json.{Members, Value, Values, array, as_array, as_number, as_text, bool, cons, keys, nil, null, number, object, text}
use Rattle.members.specs.Condition.{Form, contains, ends_with, eq, gt, gte, is_in, lt, lte, ne, starts_with}

abbrev pub is_less : Ordering → Bool
is_less Ordering.lt = true
is_less Ordering.eq = false
is_less Ordering.gt = false

abbrev pub is_greater : Ordering → Bool
is_greater Ordering.lt = false
is_greater Ordering.eq = false
is_greater Ordering.gt = true

-- a text within a text, and at its end
unfoldable pub is_part : Bytes → Bytes → Bool
unfolding begins
is_part p [] = begins p []
is_part p (c ∷ s) = elim (begins p (c ∷ s)) [ true ↦ true | false ↦ is_part p s ]

unfoldable pub ends : Bytes → Bytes → Bool
unfolding same_bytes
ends p [] = same_bytes p []
ends p (c ∷ s) = elim (same_bytes p (c ∷ s)) [ true ↦ true | false ↦ ends p s ]

-- anything but two texts is False
abbrev pub texts : (Bytes → Bytes → Bool) → Value → Value → Bool
texts p v w = elim (as_text v) [ None ↦ false | Some s ↦ elim (as_text w) [ None ↦ false | Some t ↦ p s t ] ]

abbrev pub has_key : Members → Value → Bool
has_key ms w = elim (as_text w) [ None ↦ false | Some k ↦ is_one_of k (keys ms) ]

module _ (sem : Semantics) where
  -- anything but two numbers is False
  abbrev pub numbers : (Ordering → Bool) → Value → Value → Bool
  numbers p v w = elim (as_number v) [ None ↦ false | Some s ↦ elim (as_number w) [ None ↦ false | Some t ↦ p (sem.order s t) ] ]

  unfoldable pub is_element : Value → Values → Bool
  unfolding equal
  is_element v nil = false
  is_element v (cons w ws) = elim (equal sem w v) [ true ↦ true | false ↦ is_element v ws ]

  abbrev pub member_of : Value → Value → Bool
  member_of v w = elim (as_array w) [ None ↦ false | Some ws ↦ is_element v ws ]

  -- array and element, text and part, object and key; else False
  abbrev pub contained : Value → Value → Bool
  contained null w = false
  contained (bool b) w = false
  contained (number s) w = false
  contained (text s) w = texts (λ s t. is_part t s) (text s) w
  contained (array vs) w = is_element w vs
  contained (object ms) w = has_key ms w

  -- two present operands under a pair form
  unfoldable pub holds : Form → Value → Value → Bool
  unfolding equal number_order is_element is_part begins ends is_one_of
  holds eq v w = equal sem v w
  holds ne v w = not (equal sem v w)
  holds gt v w = numbers is_greater v w
  holds gte v w = numbers (λ o. is_greater o || is_same o) v w
  holds lt v w = numbers is_less v w
  holds lte v w = numbers (λ o. is_less o || is_same o) v w
  holds is_in v w = member_of v w
  holds contains v w = contained v w
  holds starts_with v w = texts (λ s t. begins t s) v w
  holds ends_with v w = texts (λ s t. ends t s) v w
