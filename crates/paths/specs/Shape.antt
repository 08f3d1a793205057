-- One layer of an operand, and the pair forms by the layers of two.
-- Assumes nothing.
use mathlib.Core.List.{List, [], ◌∷◌}
use Rattle.std.specs.Prelude.{Option, None, Some}
use Rattle.std.specs.Prelude.{Bool, ◌&&◌, ◌||◌}
use Rattle.std.proofs.Math.Bool.{true, false, not}
use Prim.Native.Nat.{Ordering}
use Rattle.semantics.specs.Forms.{ends, is_greater, is_less, is_part}
use Rattle.semantics.specs.Semantics.{is_same, kernel}
use Rattle.number.specs.Compare.{number_order}
use Rattle.json_text.specs.Bytes.{Bytes, begins, is_one_of, same_bytes}
use Rattle.json_text.specs.Json.{Members, Value, Values, array, bool, cons, empty, member, nil, null, number, object, text}
use Rattle.members.specs.Condition.{Form, contains, ends_with, eq, gt, gte, is_in, lt, lte, ne, starts_with}
use Rattle.paths.specs.Lazy.{Operand, given}

-- One layer of an operand: its kind, and what it holds.
pub data Shape (A : Type 0) : Type 0 where
  nothing : Shape A
  truth : Bool → Shape A
  digits : Bytes → Shape A
  words : Bytes → Shape A
  items : List A → Shape A
  fields : List (Bytes × A) → Shape A

abbrev pub as_nothing : {A : Type 0} → Shape A → Bool
as_nothing nothing = true
as_nothing (truth b) = false
as_nothing (digits s) = false
as_nothing (words s) = false
as_nothing (items xs) = false
as_nothing (fields xs) = false

abbrev pub as_truth : {A : Type 0} → Shape A → Option Bool
as_truth nothing = None
as_truth (truth b) = Some b
as_truth (digits s) = None
as_truth (words s) = None
as_truth (items xs) = None
as_truth (fields xs) = None

abbrev pub as_digits : {A : Type 0} → Shape A → Option Bytes
as_digits nothing = None
as_digits (truth b) = None
as_digits (digits s) = Some s
as_digits (words s) = None
as_digits (items xs) = None
as_digits (fields xs) = None

abbrev pub as_words : {A : Type 0} → Shape A → Option Bytes
as_words nothing = None
as_words (truth b) = None
as_words (digits s) = None
as_words (words s) = Some s
as_words (items xs) = None
as_words (fields xs) = None

abbrev pub as_items : {A : Type 0} → Shape A → Option (List A)
as_items nothing = None
as_items (truth b) = None
as_items (digits s) = None
as_items (words s) = None
as_items (items xs) = Some xs
as_items (fields xs) = None

abbrev pub as_fields : {A : Type 0} → Shape A → Option (List (Bytes × A))
as_fields nothing = None
as_fields (truth b) = None
as_fields (digits s) = None
as_fields (words s) = None
as_fields (items xs) = None
as_fields (fields xs) = Some xs

-- the parts of an array, and of an object by ascending key, each through a function
unfoldable pub parts_in : (Value → Operand) → Values → List Operand
parts_in f nil = []
parts_in f (cons v vs) = f v ∷ parts_in f vs

unfoldable pub parts_of : (Value → Operand) → Members → List (Bytes × Operand)
parts_of f empty = []
parts_of f (member k v ms) = (k, f v) ∷ parts_of f ms

unfoldable pub shape_of : Value → Shape Operand
unfolding parts_in parts_of
shape_of null = nothing
shape_of (bool b) = truth b
shape_of (number s) = digits s
shape_of (text s) = words s
shape_of (array vs) = items (parts_in given vs)
shape_of (object ms) = fields (parts_of given ms)

-- Two operands under a pair form, over one layer of an operand and the equality of two.
unfoldable pub seconds : List (Bytes × Operand) → List Operand
seconds [] = []
seconds (x ∷ xs) = x.1 ∷ seconds xs

unfoldable pub keys_of : List (Bytes × Operand) → List Bytes
keys_of [] = []
keys_of (x ∷ xs) = x.0 ∷ keys_of xs

-- two numbers, two texts, or else false
abbrev pub two_numbers : {A : Type 0} → (Ordering → Bool) → Shape A → Shape A → Bool
two_numbers p s t = elim (as_digits s) [ None ↦ false | Some a ↦ elim (as_digits t) [ None ↦ false | Some b ↦ p (number_order a b) ] ]

abbrev pub two_texts : {A : Type 0} → (Bytes → Bytes → Bool) → Shape A → Shape A → Bool
two_texts p s t = elim (as_words s) [ None ↦ false | Some a ↦ elim (as_words t) [ None ↦ false | Some b ↦ p a b ] ]

module _ (alike : Operand → Operand → Bool) where
  unfoldable pub alike_in : List Operand → List Operand → Bool
  alike_in [] [] = true
  alike_in [] (y ∷ ys) = false
  alike_in (x ∷ xs) [] = false
  alike_in (x ∷ xs) (y ∷ ys) = alike x y && alike_in xs ys

  unfoldable pub alike_of : List (Bytes × Operand) → List (Bytes × Operand) → Bool
  unfolding same_bytes
  alike_of [] [] = true
  alike_of [] (y ∷ ys) = false
  alike_of (x ∷ xs) [] = false
  alike_of (x ∷ xs) (y ∷ ys) = same_bytes x.0 y.0 && (alike x.1 y.1 && alike_of xs ys)

  unfoldable pub alike_shapes : Shape Operand → Shape Operand → Bool
  unfolding alike_in alike_of number_order
  alike_shapes nothing t = as_nothing t
  alike_shapes (truth b) t = elim (as_truth t) [ None ↦ false | Some c ↦ elim b [ true ↦ c | false ↦ not c ] ]
  alike_shapes (digits s) t = elim (as_digits t) [ None ↦ false | Some r ↦ kernel.same_number s r ]
  alike_shapes (words s) t = elim (as_words t) [ None ↦ false | Some r ↦ same_bytes s r ]
  alike_shapes (items xs) t = elim (as_items t) [ None ↦ false | Some ys ↦ alike_in xs ys ]
  alike_shapes (fields xs) t = elim (as_fields t) [ None ↦ false | Some ys ↦ alike_of xs ys ]

  -- whether one of them equals the operand
  unfoldable pub one_alike : Operand → List Operand → Bool
  one_alike o [] = false
  one_alike o (x ∷ xs) = elim (alike x o) [ true ↦ true | false ↦ one_alike o xs ]

  unfoldable pub contained_in : Shape Operand → Operand → Shape Operand → Bool
  unfolding one_alike keys_of is_one_of is_part
  contained_in nothing p t = false
  contained_in (truth b) p t = false
  contained_in (digits s) p t = false
  contained_in (words s) p t = elim (as_words t) [ None ↦ false | Some b ↦ is_part b s ]
  contained_in (items xs) p t = one_alike p xs
  contained_in (fields xs) p t = elim (as_words t) [ None ↦ false | Some k ↦ is_one_of k (keys_of xs) ]

  unfoldable pub holds_shapes : Form → Operand → Shape Operand → Operand → Shape Operand → Bool
  unfolding contained_in one_alike keys_of is_one_of begins ends is_part number_order
  holds_shapes eq o s p t = alike o p
  holds_shapes ne o s p t = not (alike o p)
  holds_shapes gt o s p t = two_numbers is_greater s t
  holds_shapes gte o s p t = two_numbers (λ r. is_greater r || is_same r) s t
  holds_shapes lt o s p t = two_numbers is_less s t
  holds_shapes lte o s p t = two_numbers (λ r. is_less r || is_same r) s t
  holds_shapes is_in o s p t = elim (as_items t) [ None ↦ false | Some ys ↦ one_alike o ys ]
  holds_shapes contains o s p t = contained_in s p t
  holds_shapes starts_with o s p t = two_texts (λ a b. begins b a) s t
  holds_shapes ends_with o s p t = two_texts (λ a b. ends b a) s t

-- the elements of an array, the values of an object's members by ascending key
abbrev pub collected : Shape Operand → Option (List Operand)
collected nothing = None
collected (truth b) = None
collected (digits s) = None
collected (words s) = None
collected (items xs) = Some xs
collected (fields xs) = Some (seconds xs)
