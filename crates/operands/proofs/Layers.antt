-- Layer by layer an operand has the shape of the value that it stands for; so equality and the pair forms agree with the definitions.
-- Assumes nothing.
use mathlib.Core.Path.{◌≡◌, refl, ◌∙◌, ap}
use mathlib.Core.List.{List, [], ◌∷◌}
use Rattle.std.specs.Prelude.{Option, None, Some}
use mathlib.Core.Bool.{Bool, true, false, ◌||◌, not}
use Prim.Native.Nat.{ℕ, zero, suc, ◌≤◌, ◌<◌, Ordering}
use native.Mathlib.Omega.{arith}
use lib.ListN.{length}
use Rattle.paths.specs.Comparing.{alike, holds_of, nesting, shape}
use Rattle.paths.specs.Lazy.{Frames, Operand, given, outer, part_of}
use Rattle.paths.specs.Shape.{
  Shape,
  alike_in,
  alike_of,
  alike_shapes,
  as_digits,
  as_items,
  as_words,
  contained_in,
  digits,
  fields,
  holds_shapes,
  items,
  keys_of,
  nothing,
  one_alike,
  parts_in,
  parts_of,
  shape_of,
  truth,
  two_numbers,
  two_texts,
  words,
}
use Rattle.paths.proofs.Stands.{
  EachIn,
  no_part,
  one_part,
  EachOf,
  no_member,
  one_member,
  Stands,
  itself,
  in_array,
  in_object,
  Standing,
  standing_length,
  touch_stands,
  touched_outer,
  outer_length,
}
use Rattle.semantics.specs.Equality.{equal, equal_in, equal_of}
use Rattle.semantics.specs.Expression.{Env}
use Rattle.semantics.specs.Forms.{contained, ends, holds, is_element, is_greater, is_less, is_part, member_of, numbers, texts}
use Rattle.semantics.specs.Operand.{present, resolve}
use Rattle.semantics.specs.Semantics.{is_same, kernel}
use Rattle.number.specs.Compare.{number_order}
use Rattle.json_text.specs.Bytes.{Bytes, begins, is_one_of}
use Rattle.json_text.specs.Json.{Members, Value, Values, array, as_number, as_text, bool, cons, empty, keys, member, nil, null, number, object, text}
use Rattle.json_text.specs.Limits.{depth, depth_in, depth_of}
use Rattle.json_text.specs.Refusal.{ok}
use Rattle.members.specs.Condition.{Form, contains, ends_with, eq, gt, gte, is_in, lt, lte, ne, starts_with}
use Rattle.members.specs.Sheet.{Sheet}

-- one layer, its parts related
pub data FitsIn (R : Operand → Value → Type 0) : List Operand → Values → Type 0 where
  no_item : FitsIn R [] nil
  one_item : {o : Operand} {v : Value} {xs : List Operand} {vs : Values} → R o v → FitsIn R xs vs → FitsIn R (o ∷ xs) (cons v vs)

pub data FitsOf (R : Operand → Value → Type 0) : List (Bytes × Operand) → Members → Type 0 where
  no_field : FitsOf R [] empty
  one_field : {k : Bytes} {o : Operand} {v : Value} {xs : List (Bytes × Operand)} {ms : Members} → R o v → FitsOf R xs ms → FitsOf R ((k, o) ∷ xs) (member k v ms)

pub data Fits (R : Operand → Value → Type 0) : Shape Operand → Value → Type 0 where
  is_nothing : Fits R nothing null
  is_truth : {b : Bool} → Fits R (truth b) (bool b)
  is_digits : {s : Bytes} → Fits R (digits s) (number s)
  is_words : {s : Bytes} → Fits R (words s) (text s)
  is_items : {xs : List Operand} {vs : Values} → FitsIn R xs vs → Fits R (items xs) (array vs)
  is_fields : {xs : List (Bytes × Operand)} {ms : Members} → FitsOf R xs ms → Fits R (fields xs) (object ms)

-- two layers under a pair form, over what is known of the equality of parts
module _ (R : Operand → Value → Type 0) (m : ℕ) (same : Operand → Operand → Bool)
    (agrees : (o p : Operand) (v w : Value) → R o v → R p w → depth v < m → same o p ≡ equal kernel v w) where
  fits_in : {xs ys : List Operand} {vs ws : Values} → FitsIn R xs vs → FitsIn R ys ws → depth_in vs < m → alike_in same xs ys ≡ equal_in kernel.same_number vs ws
  unfolding alike_in equal_in depth_in equal
  fits_in no_item no_item h = refl
  fits_in no_item (one_item r k) h = refl
  fits_in (one_item q j) no_item h = refl
  fits_in (one_item {v = v} {vs = vs} q j) (one_item r k) h = rw (agrees _ _ _ _ q r (omega arith), fits_in j k (omega arith)) refl

  fits_of : {xs ys : List (Bytes × Operand)} {ms ns : Members} → FitsOf R xs ms → FitsOf R ys ns → depth_of ms < m → alike_of same xs ys ≡ equal_of kernel.same_number ms ns
  unfolding alike_of equal_of depth_of equal
  fits_of no_field no_field h = refl
  fits_of no_field (one_field r k) h = refl
  fits_of (one_field q j) no_field h = refl
  fits_of (one_field {v = v} {ms = ms} q j) (one_field r k) h = rw (agrees _ _ _ _ q r (omega arith), fits_of j k (omega arith)) refl

  fits_alike : {s t : Shape Operand} {v w : Value} → Fits R s v → Fits R t w → depth v < suc m → alike_shapes same s t ≡ equal kernel v w
  unfolding alike_shapes equal depth
  fits_alike is_nothing is_nothing h = refl
  fits_alike is_nothing is_truth h = refl
  fits_alike is_nothing is_digits h = refl
  fits_alike is_nothing is_words h = refl
  fits_alike is_nothing (is_items k) h = refl
  fits_alike is_nothing (is_fields k) h = refl
  fits_alike is_truth is_nothing h = refl
  fits_alike is_truth is_truth h = refl
  fits_alike is_truth is_digits h = refl
  fits_alike is_truth is_words h = refl
  fits_alike is_truth (is_items k) h = refl
  fits_alike is_truth (is_fields k) h = refl
  fits_alike is_digits is_nothing h = refl
  fits_alike is_digits is_truth h = refl
  fits_alike is_digits is_digits h = refl
  fits_alike is_digits is_words h = refl
  fits_alike is_digits (is_items k) h = refl
  fits_alike is_digits (is_fields k) h = refl
  fits_alike is_words is_nothing h = refl
  fits_alike is_words is_truth h = refl
  fits_alike is_words is_digits h = refl
  fits_alike is_words is_words h = refl
  fits_alike is_words (is_items k) h = refl
  fits_alike is_words (is_fields k) h = refl
  fits_alike (is_items j) is_nothing h = refl
  fits_alike (is_items j) is_truth h = refl
  fits_alike (is_items j) is_digits h = refl
  fits_alike (is_items j) is_words h = refl
  fits_alike (is_items j) (is_items k) h = fits_in j k (omega arith)
  fits_alike (is_items j) (is_fields k) h = refl
  fits_alike (is_fields j) is_nothing h = refl
  fits_alike (is_fields j) is_truth h = refl
  fits_alike (is_fields j) is_digits h = refl
  fits_alike (is_fields j) is_words h = refl
  fits_alike (is_fields j) (is_items k) h = refl
  fits_alike (is_fields j) (is_fields k) h = fits_of j k (omega arith)

  fits_one : {o : Operand} {v : Value} {xs : List Operand} {ws : Values} → R o v → FitsIn R xs ws → depth_in ws < m → one_alike same o xs ≡ is_element kernel v ws
  unfolding one_alike is_element depth_in
  fits_one r no_item h = refl
  fits_one {o} {v} r (one_item {o = p} {v = w} {xs = xs} {vs = ws} q j) h = rw (agrees p o w v q r (omega arith), one_alike, is_element) (go (fits_one r j (omega arith)) (equal kernel w v))
    where
      go : one_alike same o xs ≡
          is_element kernel v ws → (b : Bool) → ◌≡◌ {A = Bool} (elim b [ true ↦ true | false ↦ one_alike same o xs ])
          (elim b [ true ↦ true | false ↦ is_element kernel v ws ])
      go below true = refl
      go below false = below

  fits_keys : {xs : List (Bytes × Operand)} {ms : Members} → FitsOf R xs ms → keys_of xs ≡ keys ms
  unfolding keys_of
  fits_keys no_field = refl
  fits_keys (one_field {k = k} r j) = ap (λ (l : List Bytes). k ∷ l) (fits_keys j)

  fits_words : {t : Shape Operand} {w : Value} → Fits R t w → as_words t ≡ as_text w
  fits_words is_nothing = refl
  fits_words is_truth = refl
  fits_words is_digits = refl
  fits_words is_words = refl
  fits_words (is_items k) = refl
  fits_words (is_fields k) = refl

  fits_digits : {t : Shape Operand} {w : Value} → Fits R t w → as_digits t ≡ as_number w
  fits_digits is_nothing = refl
  fits_digits is_truth = refl
  fits_digits is_digits = refl
  fits_digits is_words = refl
  fits_digits (is_items k) = refl
  fits_digits (is_fields k) = refl

  fits_contained : {s t : Shape Operand} {v w : Value} {p : Operand} → Fits R s v → R p w → Fits R t w → depth v ≤ m → contained_in same s p t ≡ contained kernel v w
  unfolding contained_in depth
  fits_contained is_nothing r k h = refl
  fits_contained is_truth r k h = refl
  fits_contained is_digits r k h = refl
  fits_contained (is_words {s = s}) r k h = ap (λ (x : Option Bytes). elim x as (λ _. Bool) [ None ↦ false | Some t ↦ is_part t s ]) (fits_words k)
  fits_contained (is_items j) r k h = fits_one r j (omega arith)
  fits_contained {t = t} (is_fields {ms = ms} j) r k h =
      ap (λ (ks : List Bytes). elim (as_words t) as (λ _. Bool) [ None ↦ false | Some n ↦ is_one_of n ks ]) (fits_keys j) ∙
      ap (λ (x : Option Bytes). elim x as (λ _. Bool) [ None ↦ false | Some n ↦ is_one_of n (keys ms) ]) (fits_words k)

  fits_numbers : (q : Ordering → Bool) {s t : Shape Operand} {v w : Value} → Fits R s v → Fits R t w → two_numbers q s t ≡ numbers kernel q v w
  fits_numbers q is_nothing k = refl
  fits_numbers q is_truth k = refl
  fits_numbers q (is_digits {s = s}) k = ap (λ (x : Option Bytes). elim x as (λ _. Bool) [ None ↦ false | Some t ↦ q (number_order s t) ]) (fits_digits k)
  fits_numbers q is_words k = refl
  fits_numbers q (is_items j) k = refl
  fits_numbers q (is_fields j) k = refl

  fits_texts : (q : Bytes → Bytes → Bool) {s t : Shape Operand} {v w : Value} → Fits R s v → Fits R t w → two_texts q s t ≡ texts q v w
  fits_texts q is_nothing k = refl
  fits_texts q is_truth k = refl
  fits_texts q is_digits k = refl
  fits_texts q (is_words {s = s}) k = ap (λ (x : Option Bytes). elim x as (λ _. Bool) [ None ↦ false | Some t ↦ q s t ]) (fits_words k)
  fits_texts q (is_items j) k = refl
  fits_texts q (is_fields j) k = refl

  fits_member : {o : Operand} {t : Shape Operand} {v w : Value} → R o v → Fits R t w → depth w ≤ m →
      elim (as_items t) as (λ _. Bool) [ None ↦ false | Some ys ↦ one_alike same o ys ] ≡ member_of kernel v w
  unfolding depth
  fits_member r is_nothing h = refl
  fits_member r is_truth h = refl
  fits_member r is_digits h = refl
  fits_member r is_words h = refl
  fits_member r (is_items j) h = fits_one r j (omega arith)
  fits_member r (is_fields j) h = refl

  fits_holds :
      (f : Form) {o p : Operand} {s t : Shape Operand} {v w : Value} → R o v → Fits R s v → R p w → Fits R t w → depth v < m → depth w < m →
      holds_shapes same f o s p t ≡ holds kernel f v w
  unfolding holds_shapes holds
  fits_holds eq r j q k h l = agrees _ _ _ _ r q h
  fits_holds ne r j q k h l = ap not (agrees _ _ _ _ r q h)
  fits_holds gt r j q k h l = fits_numbers is_greater j k
  fits_holds gte r j q k h l = fits_numbers (λ x. is_greater x || is_same x) j k
  fits_holds lt r j q k h l = fits_numbers is_less j k
  fits_holds lte r j q k h l = fits_numbers (λ x. is_less x || is_same x) j k
  fits_holds is_in r j q k h l = fits_member r k (omega arith)
  fits_holds contains r j q k h l = fits_contained j q k (omega arith)
  fits_holds starts_with r j q k h l = fits_texts (λ a b. begins b a) j k
  fits_holds ends_with r j q k h l = fits_texts (λ a b. ends b a) j k

module _ {C : Type 0} (sheet : Sheet C) where
  given_in : {env : Env} {b : ℕ} (vs : Values) → FitsIn (Stands sheet env b) (parts_in given vs) vs
  unfolding parts_in
  given_in nil = no_item
  given_in (cons v vs) = one_item itself (given_in vs)

  given_of : {env : Env} {b : ℕ} (ms : Members) → FitsOf (Stands sheet env b) (parts_of given ms) ms
  unfolding parts_of
  given_of empty = no_field
  given_of (member k v ms) = one_field itself (given_of ms)

  pub part_stands : {fs : Frames} {env : Env} {b d : ℕ} (v : Value) {w : Value} → Standing sheet fs env → b ≤ length env → d ≤ b →
      resolve kernel sheet (outer d env) v ≡ ok (present w) → Stands sheet env b (part_of sheet (outer d fs) v) w
  part_stands {fs} {env} {b} {d} v s h k e =
      let l = standing_length sheet s in
      let len = outer_length d fs (omega arith) in
      touched_outer sheet (suc (length (outer d fs))) (touch_stands sheet (suc (length (outer d fs)))) v s h k (omega arith) e

  parts_in_lem : {fs : Frames} {env : Env} {b d : ℕ} {vs ws : Values} → Standing sheet fs env → b ≤ length env → d ≤ b →
      EachIn sheet (outer d env) vs ws → FitsIn (Stands sheet env b) (parts_in (part_of sheet (outer d fs)) vs) ws
  unfolding parts_in
  parts_in_lem s h c no_part = no_item
  parts_in_lem s h c (one_part {v = v} r k) = one_item (part_stands v s h c r) (parts_in_lem s h c k)

  parts_of_lem : {fs : Frames} {env : Env} {b d : ℕ} {ms ns : Members} → Standing sheet fs env → b ≤ length env → d ≤ b →
      EachOf sheet (outer d env) ms ns → FitsOf (Stands sheet env b) (parts_of (part_of sheet (outer d fs)) ms) ns
  unfolding parts_of
  parts_of_lem s h c no_member = no_field
  parts_of_lem s h c (one_member {v = v} r k) = one_field (part_stands v s h c r) (parts_of_lem s h c k)

  pub shape_fits :
      {fs : Frames} {env : Env} {b : ℕ} {o : Operand} {v : Value} → Standing sheet fs env → b ≤ length env → Stands sheet env b o v →
      Fits (Stands sheet env b) (shape sheet fs o) v
  unfolding shape shape_of
  shape_fits s h (itself {v = null}) = is_nothing
  shape_fits s h (itself {v = bool b}) = is_truth
  shape_fits s h (itself {v = number t}) = is_digits
  shape_fits s h (itself {v = text t}) = is_words
  shape_fits s h (itself {v = array vs}) = is_items (given_in vs)
  shape_fits s h (itself {v = object ms}) = is_fields (given_of ms)
  shape_fits s h (in_array c e) = is_items (parts_in_lem s h c e)
  shape_fits s h (in_object c e) = is_fields (parts_of_lem s h c e)

  -- Equality agrees, where the number exceeds the brackets of the left value.
  pub alike_equal : (n : ℕ) {fs : Frames} {env : Env} {b : ℕ} → Standing sheet fs env → b ≤ length env → (o p : Operand) (v w : Value) →
      Stands sheet env b o v → Stands sheet env b p w → depth v < n → alike sheet n fs o p ≡ equal kernel v w
  unfolding alike
  alike_equal zero s h o p v w j k l = absurd (omega arith)
  alike_equal (suc n) {fs} {env} {b} s h o p v w j k l = fits_alike (Stands sheet env b) n (alike sheet n fs) (alike_equal n s h) (shape_fits s h j) (shape_fits s h k) l

  pub holds_agrees :
      {fs : Frames} {env : Env} (f : Form) (o p : Operand) (v w : Value) → Standing sheet fs env → Stands sheet env (length env) o v →
      Stands sheet env (length env) p w → depth v < nesting (length fs) → depth w < nesting (length fs) →
      holds_of sheet fs f o p ≡ holds kernel f v w
  unfolding holds_of
  holds_agrees {fs} {env} f o p v w s j k h l =
      fits_holds (Stands sheet env (length env)) (nesting (length fs)) (alike sheet (nesting (length fs)) fs)
      (alike_equal (nesting (length fs)) s (omega arith)) f j (shape_fits s (omega arith) j) k (shape_fits s (omega arith) k) h l
