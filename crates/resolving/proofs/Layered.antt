-- One layer of an operand over the table is the layer that the definitions see; two layers compare by their classes and parts.
-- Assumes nothing.
use mathlib.Core.Bool.{Bool, false, true}
use mathlib.Core.List.{List, [], ◌++◌, ◌∷◌}
use mathlib.Core.Logic.{inl, inr, ◌⊎◌}
use mathlib.Core.Path.{ap, refl, subst, sym, ◌∙◌, ◌≡◌}
use Prim.Native.Nat.{Ordering, suc, zero, ℕ, ◌+◌, ◌-◌, ◌<◌, ◌≤◌}
use native.Mathlib.Numerals.{add-one}
use native.Mathlib.Omega.{arith}
use lib.Dec.{leb}
use lib.ListN.{drop, get_or, length, length-append, length-drop, take}
use lib.Seq.{length-slice, slice}
use borrow.Author.Tests.{le-leb, leb-false, leb-true}
use Rattle.number.specs.Compare.{number_order}
use Rattle.number.specs.Compared.{compared}
use Rattle.json_text.proofs.Laws.{ok_injective}
use Rattle.json_text.proofs.Sound.{bind_inv, digits_sound}
use Rattle.json_text.specs.Bytes.{Bytes, same_bytes}
use Rattle.json_text.specs.Cursor.{OnText}
use Rattle.json_text.specs.Fits.{Numeral}
use Rattle.json_text.specs.Json.{Members, Value, Values}
use Rattle.json_text.specs.Numerals as numerals
use Rattle.json_text.specs.Placing.{digits_at, place_of}
use Rattle.json_text.specs.Spans.{text_at}
use Rattle.json_text.specs.Table.{end_at, start_at}
use Rattle.members.specs.Condition.{Condition}
use Rattle.members.specs.Sheet.{Sheet}
use Rattle.paths.specs.Comparing.{alike, shape}
use Rattle.paths.specs.Layered.{Flat, LeavesAlike, TextPlace, class_of, digits_of, each_name, each_node, kids, part_at, part_by, shape_by, shape_of, words_of}
use Rattle.paths.specs.Lazy as lazy
use Rattle.paths.specs.Lazy.{given, outer, part_of, touch}
use Rattle.semantics.specs.Semantics.{is_same}
use Rattle.paths.specs.Shape as layers
use Rattle.paths.specs.Shape.{Shape, alike_shapes, digits, fields, items, nothing, parts_in, parts_of, truth, words}
use Rattle.paths.specs.Stored.{Fits, HasKind, Means, OperandAt, less_one, meant, operand_of, tree}
use Rattle.paths.specs.Told.{UnitIs, UnitTold}
use Rattle.paths.proofs.Units.{unit_ended, unit_was}
use Rattle.strings.specs.declared.escape.Scalar.{Scalar}
use Rattle.std.specs.Prelude.{Option, None, Some}
use Rattle.std.specs.Ordering.{is_eq}
use Rattle.std.specs.declared.cmp.Ordering.{Ordering as Ordered}
use Rattle.std.specs.declared.cmp.Ordering.TheVariants as orders
use Rattle.json_text.specs.Orders.{order_of}
use Rattle.paths.specs.declared.operand.Kind.{Kind}
use Rattle.paths.specs.declared.operand.Kind.TheVariants as kinds
use Rattle.paths.specs.declared.operand.Operand.{Operand}
use Rattle.strings.specs.declared.rows.Kind.{Kind as Class}
use Rattle.strings.specs.declared.rows.Kind.TheVariants as classes
use Rattle.paths.proofs.Stands.{impossible}
use Rattle.paths.proofs.Trees.{fields_are, from_names, from_nodes, items_are, number_row, text_row}

-- the layer that the definitions see
module _ (sheet : Sheet Condition) (s : Bytes) (t : List ℕ) where
  nodes_in : (f : Value → lazy.Operand) (ks : List ℕ) → parts_in f (from_nodes (tree s t) ks) ≡ each_node (λ k. f (tree s t k)) ks
  unfolding parts_in from_nodes each_node
  nodes_in f [] = refl
  nodes_in f (k ∷ ks) = ap (λ (l : List lazy.Operand). f (tree s t k) ∷ l) (nodes_in f ks)

  names_of : (f : Value → lazy.Operand) (ks : List ℕ) → parts_of f (from_names s t (tree s t) ks) ≡ each_name s t (λ k. f (tree s t k)) ks
  unfolding parts_of from_names each_name
  names_of f [] = refl
  names_of f (k ∷ ks) = ap (λ (l : List (Bytes × lazy.Operand)). (text_at s (start_at t k), f (tree s t (k + 1))) ∷ l) (names_of f ks)

  pub shape_kind : (fs : lazy.Frames) (n d : ℕ) (x : Kind) → shape sheet fs (meant s t n d x) ≡ shape_by sheet s t fs n d x
  unfolding shape layers.shape_of meant shape_by part_by words_of
  shape_kind fs n d kinds.Null = refl
  shape_kind fs n d kinds.False = refl
  shape_kind fs n d kinds.True = refl
  shape_kind fs n d kinds.Number = refl
  shape_kind fs n d kinds.Text = refl
  shape_kind fs n d kinds.Less = refl
  shape_kind fs n d kinds.Array = ap (λ (vs : Values). items (parts_in given vs)) (items_are s t n) ∙ ap items (nodes_in given (kids s t n false))
  shape_kind fs n d kinds.Object = ap (λ (ms : Members). fields (parts_of given ms)) (fields_are s t n) ∙ ap fields (names_of given (kids s t n true))
  shape_kind fs n d kinds.Listed =
      ap (λ (vs : Values). items (parts_in (part_of sheet (outer d fs)) vs)) (items_are s t n) ∙
      ap items (nodes_in (part_of sheet (outer d fs)) (kids s t n false))
  shape_kind fs n d kinds.Named =
      ap (λ (ms : Members). fields (parts_of (part_of sheet (outer d fs)) ms)) (fields_are s t n) ∙
      ap fields (names_of (part_of sheet (outer d fs)) (kids s t n true))

  pub alike_layers : (m : ℕ) (fs : lazy.Frames) (a b : Operand) →
      alike sheet (suc m) fs (operand_of s t a) (operand_of s t b) ≡
      alike_shapes (alike sheet m fs) (shape_of sheet s t fs a) (shape_of sheet s t fs b)
  unfolding alike
  alike_layers m fs a b = rw (shape_kind fs a.node a.depth a.kind, shape_kind fs b.node b.depth b.kind)

-- layers of different classes
abbrev pub shape_class : Shape lazy.Operand → Class
shape_class nothing = classes.Null
shape_class (truth false) = classes.False
shape_class (truth true) = classes.True
shape_class (digits x) = classes.Number
shape_class (words x) = classes.Text
shape_class (items x) = classes.Array
shape_class (fields x) = classes.Object

pub apart : (f : lazy.Operand → lazy.Operand → Bool) (p q : Shape lazy.Operand) → (shape_class p ≡ shape_class q → ⊥) → alike_shapes f p q ≡ false
unfolding alike_shapes
apart f nothing nothing h = absurd (h refl)
apart f nothing (truth false) h = refl
apart f nothing (truth true) h = refl
apart f nothing (digits y) h = refl
apart f nothing (words y) h = refl
apart f nothing (items y) h = refl
apart f nothing (fields y) h = refl
apart f (truth false) nothing h = refl
apart f (truth false) (truth false) h = absurd (h refl)
apart f (truth false) (truth true) h = refl
apart f (truth false) (digits y) h = refl
apart f (truth false) (words y) h = refl
apart f (truth false) (items y) h = refl
apart f (truth false) (fields y) h = refl
apart f (truth true) nothing h = refl
apart f (truth true) (truth false) h = refl
apart f (truth true) (truth true) h = absurd (h refl)
apart f (truth true) (digits y) h = refl
apart f (truth true) (words y) h = refl
apart f (truth true) (items y) h = refl
apart f (truth true) (fields y) h = refl
apart f (digits x) nothing h = refl
apart f (digits x) (truth false) h = refl
apart f (digits x) (truth true) h = refl
apart f (digits x) (digits y) h = absurd (h refl)
apart f (digits x) (words y) h = refl
apart f (digits x) (items y) h = refl
apart f (digits x) (fields y) h = refl
apart f (words x) nothing h = refl
apart f (words x) (truth false) h = refl
apart f (words x) (truth true) h = refl
apart f (words x) (digits y) h = refl
apart f (words x) (words y) h = absurd (h refl)
apart f (words x) (items y) h = refl
apart f (words x) (fields y) h = refl
apart f (items x) nothing h = refl
apart f (items x) (truth false) h = refl
apart f (items x) (truth true) h = refl
apart f (items x) (digits y) h = refl
apart f (items x) (words y) h = refl
apart f (items x) (items y) h = absurd (h refl)
apart f (items x) (fields y) h = refl
apart f (fields x) nothing h = refl
apart f (fields x) (truth false) h = refl
apart f (fields x) (truth true) h = refl
apart f (fields x) (digits y) h = refl
apart f (fields x) (words y) h = refl
apart f (fields x) (items y) h = refl
apart f (fields x) (fields y) h = absurd (h refl)

module _ (sheet : Sheet Condition) (s : Bytes) (t : List ℕ) (fs : lazy.Frames) (n d : ℕ) where
  pub class_is : (x : Kind) → shape_class (shape_by sheet s t fs n d x) ≡ class_of x
  unfolding shape_by
  class_is kinds.Null = refl
  class_is kinds.False = refl
  class_is kinds.True = refl
  class_is kinds.Number = refl
  class_is kinds.Text = refl
  class_is kinds.Less = refl
  class_is kinds.Array = refl
  class_is kinds.Object = refl
  class_is kinds.Listed = refl
  class_is kinds.Named = refl

  pub array_is : (x : Kind) → class_of x ≡ classes.Array → shape_by sheet s t fs n d x ≡ items (each_node (part_by sheet s t fs d x) (kids s t n false))
  unfolding shape_by
  array_is kinds.Null e = absurd (impossible (cc))
  array_is kinds.False e = absurd (impossible (cc))
  array_is kinds.True e = absurd (impossible (cc))
  array_is kinds.Number e = absurd (impossible (cc))
  array_is kinds.Text e = absurd (impossible (cc))
  array_is kinds.Less e = absurd (impossible (cc))
  array_is kinds.Array e = refl
  array_is kinds.Object e = absurd (impossible (cc))
  array_is kinds.Listed e = refl
  array_is kinds.Named e = absurd (impossible (cc))

  pub object_is : (x : Kind) → class_of x ≡ classes.Object → shape_by sheet s t fs n d x ≡ fields (each_name s t (part_by sheet s t fs d x) (kids s t n true))
  unfolding shape_by
  object_is kinds.Null e = absurd (impossible (cc))
  object_is kinds.False e = absurd (impossible (cc))
  object_is kinds.True e = absurd (impossible (cc))
  object_is kinds.Number e = absurd (impossible (cc))
  object_is kinds.Text e = absurd (impossible (cc))
  object_is kinds.Less e = absurd (impossible (cc))
  object_is kinds.Array e = absurd (impossible (cc))
  object_is kinds.Object e = refl
  object_is kinds.Listed e = absurd (impossible (cc))
  object_is kinds.Named e = refl

  pub text_is : (x : Kind) → class_of x ≡ classes.Text → shape_by sheet s t fs n d x ≡ words (words_of s t n x)
  unfolding shape_by
  text_is kinds.Null e = absurd (impossible (cc))
  text_is kinds.False e = absurd (impossible (cc))
  text_is kinds.True e = absurd (impossible (cc))
  text_is kinds.Number e = absurd (impossible (cc))
  text_is kinds.Text e = refl
  text_is kinds.Less e = refl
  text_is kinds.Array e = absurd (impossible (cc))
  text_is kinds.Object e = absurd (impossible (cc))
  text_is kinds.Listed e = absurd (impossible (cc))
  text_is kinds.Named e = absurd (impossible (cc))

  pub number_is : (x : Kind) → class_of x ≡ classes.Number → shape_by sheet s t fs n d x ≡ digits (digits_of s t n)
  unfolding shape_by
  number_is kinds.Null e = absurd (impossible (cc))
  number_is kinds.False e = absurd (impossible (cc))
  number_is kinds.True e = absurd (impossible (cc))
  number_is kinds.Number e = refl
  number_is kinds.Text e = absurd (impossible (cc))
  number_is kinds.Less e = absurd (impossible (cc))
  number_is kinds.Array e = absurd (impossible (cc))
  number_is kinds.Object e = absurd (impossible (cc))
  number_is kinds.Listed e = absurd (impossible (cc))
  number_is kinds.Named e = absurd (impossible (cc))

head_eq : {a b : ℕ} {l m : Bytes} → a ∷ l ≡ b ∷ m → a ≡ b
head_eq e = cc

-- rows by class
module _ (s : Bytes) (t : List ℕ) (n : ℕ) where
  pub number_kind : (x : Kind) → Fits s t n x → class_of x ≡ classes.Number → HasKind s t n 3
  unfolding Fits
  number_kind kinds.Null h e = absurd (impossible (cc))
  number_kind kinds.False h e = absurd (impossible (cc))
  number_kind kinds.True h e = absurd (impossible (cc))
  number_kind kinds.Number h e = h
  number_kind kinds.Text h e = absurd (impossible (cc))
  number_kind kinds.Less h e = absurd (impossible (cc))
  number_kind kinds.Array h e = absurd (impossible (cc))
  number_kind kinds.Object h e = absurd (impossible (cc))
  number_kind kinds.Listed h e = absurd (impossible (cc))
  number_kind kinds.Named h e = absurd (impossible (cc))

  text_kind : (x : Kind) → Fits s t n x → class_of x ≡ classes.Text → HasKind s t n 4
  unfolding Fits
  text_kind kinds.Null h e = absurd (impossible (cc))
  text_kind kinds.False h e = absurd (impossible (cc))
  text_kind kinds.True h e = absurd (impossible (cc))
  text_kind kinds.Number h e = absurd (impossible (cc))
  text_kind kinds.Text h e = h
  text_kind kinds.Less h e = h.0
  text_kind kinds.Array h e = absurd (impossible (cc))
  text_kind kinds.Object h e = absurd (impossible (cc))
  text_kind kinds.Listed h e = absurd (impossible (cc))
  text_kind kinds.Named h e = absurd (impossible (cc))

  pub array_kind : (x : Kind) → Fits s t n x → class_of x ≡ classes.Array → HasKind s t n 5
  unfolding Fits
  array_kind kinds.Null h e = absurd (impossible (cc))
  array_kind kinds.False h e = absurd (impossible (cc))
  array_kind kinds.True h e = absurd (impossible (cc))
  array_kind kinds.Number h e = absurd (impossible (cc))
  array_kind kinds.Text h e = absurd (impossible (cc))
  array_kind kinds.Less h e = absurd (impossible (cc))
  array_kind kinds.Array h e = h
  array_kind kinds.Object h e = absurd (impossible (cc))
  array_kind kinds.Listed h e = h
  array_kind kinds.Named h e = absurd (impossible (cc))

  pub object_kind : (x : Kind) → Fits s t n x → class_of x ≡ classes.Object → HasKind s t n 6
  unfolding Fits
  object_kind kinds.Null h e = absurd (impossible (cc))
  object_kind kinds.False h e = absurd (impossible (cc))
  object_kind kinds.True h e = absurd (impossible (cc))
  object_kind kinds.Number h e = absurd (impossible (cc))
  object_kind kinds.Text h e = absurd (impossible (cc))
  object_kind kinds.Less h e = absurd (impossible (cc))
  object_kind kinds.Array h e = absurd (impossible (cc))
  object_kind kinds.Object h e = h
  object_kind kinds.Listed h e = absurd (impossible (cc))
  object_kind kinds.Named h e = h

-- the place of a text
module _ (s : Bytes) (t : List ℕ) (o : Operand) (h : OperandAt s t o) (c : class_of o.kind ≡ classes.Text) {a : ℕ} (q : a ≡ start_at t o.node) where
  pub at_start : OnText s a 0
  at_start = subst (λ (x : ℕ). OnText s x 0) (sym q) (text_row (text_kind s t o.node o.kind h.fits c)).on_text

  pub place_whole : (o.kind ≡ kinds.Less → ⊥) → TextPlace s t o a
  unfolding words_of
  place_whole k = record { is = ap (text_at s) q ∙ go o.kind c k; on_text = at_start }
    where
      go : (x : Kind) → class_of x ≡ classes.Text → (x ≡ kinds.Less → ⊥) → text_at s (start_at t o.node) ≡ words_of s t o.node x
      go kinds.Null e z = absurd (impossible (cc))
      go kinds.False e z = absurd (impossible (cc))
      go kinds.True e z = absurd (impossible (cc))
      go kinds.Number e z = absurd (impossible (cc))
      go kinds.Text e z = refl
      go kinds.Less e z = absurd (z refl)
      go kinds.Array e z = absurd (impossible (cc))
      go kinds.Object e z = absurd (impossible (cc))
      go kinds.Listed e z = absurd (impossible (cc))
      go kinds.Named e z = absurd (impossible (cc))

  less_text : o.kind ≡ kinds.Less → (r : Bytes) × (text_at s a ≡ 36 ∷ r)
  unfolding Fits
  less_text e = let f : Fits s t o.node kinds.Less = subst (Fits s t o.node) e h.fits in (f.1.0, ap (text_at s) q ∙ f.1.1)

  place_none : {A : Type 0} → o.kind ≡ kinds.Less → text_at s a ≡ [] → A
  place_none e z = let r = less_text e in absurd (impossible (let y : 36 ∷ r.0 ≡ [] = sym r.1 ∙ z in cc))

  place_less : {u p : ℕ} → o.kind ≡ kinds.Less → UnitIs s a u p → TextPlace s t o p
  unfolding words_of
  place_less {u} {p} e x = record { is = go; on_text = x.on_text }
    where
      r : (r : Bytes) × (text_at s a ≡ 36 ∷ r)
      r = less_text e

      same : x.first ∷ (x.others ++ text_at s p) ≡ 36 ∷ r.0
      same = sym x.bytes ∙ r.1

      alone : x.others ≡ []
      alone = low (leb 128 u) refl
        where
          low : (b : Bool) → leb 128 u ≡ b → x.others ≡ []
          low true z = absurd (omega (arith, (x.high (leb-true 128 u z)).0, head_eq same))
          low false z = (x.low (leb-false 128 u z)).1

      go : text_at s p ≡ words_of s t o.node o.kind
      go =
          let y : x.others ++ text_at s p ≡ r.0 = cc (same) in
          let z : text_at s p ≡ r.0 = ap (λ (l : Bytes). l ++ text_at s p) (sym alone) ∙ y in
          z ∙ ap less_one (sym (ap (text_at s) (sym q) ∙ r.1)) ∙ ap (words_of s t o.node) (sym e)

  -- behind the `$`, which a text that is shortened begins with
  pub place_behind : {r : Option Scalar} {p : ℕ} → o.kind ≡ kinds.Less → UnitTold s a r → (r ≡ None → p ≡ a) → ((x : Scalar) → r ≡ Some x → p ≡ x.next) →
      TextPlace s t o p
  place_behind {r} {p} e h none some = go r refl
    where
      go : (x : Option Scalar) → r ≡ x → TextPlace s t o p
      go None q = place_none e (unit_ended s a h q)
      go (Some x) q = rw (some x q) (place_less e (unit_was x h q))

-- numbers
numeral_short : (s : Bytes) (a e : ℕ) → Numeral s a e → e - a ≤ 255
unfolding digits_at place_of
numeral_short s a e n =
    let i = bind_inv (numerals.digits (numerals.first (get_or s a 0)) 254 (drop (a + 1) s)) _ n.read in
    let r = digits_sound (numerals.first (get_or s a 0)) 254 (drop (a + 1) s) i.0 i.1 in
    let p : length s - length i.0.rest ≡ e = ok_injective i.2 in
    omega (arith, r.short, ap length r.chars, length-append i.0.got i.0.rest, length-drop (a + 1) s, n.order, n.upto)

pub slice_is : {A : Type 0} (a e : ℕ) (l : List A) → a ≤ e → take (e - a) (drop a l) ≡ slice a e l
slice_is zero e l h = let z : e - 0 ≡ e = omega arith in rw z
slice_is (suc a) zero l h = absurd (omega arith)
slice_is (suc a) (suc e) [] h = sliced_none (suc e - suc a)
  where
    sliced_none : {B : Type 0} (m : ℕ) → take {A = B} m [] ≡ []
    sliced_none zero = refl
    sliced_none (suc m) = refl
slice_is (suc a) (suc e) (x ∷ l) h = let z : suc e - suc a ≡ e - a = omega arith in rw z (slice_is a e l (omega arith))

module _ {s : Bytes} {t : List ℕ} {n : ℕ} (k : HasKind s t n 3) {a b : ℕ} (p : a ≡ start_at t n) (q : b ≡ end_at t n) where
  pub digits_bounds : (a ≤ b) × (b ≤ length s)
  digits_bounds = let r = (number_row k).numeral in (omega (arith, r.order), omega (arith, r.upto))

  pub digits_sliced : take (b - a) (drop a s) ≡ digits_of s t n
  digits_sliced = slice_is a b s digits_bounds.0 ∙ rw (p, q)

  pub digits_short : length (digits_of s t n) ≤ 255
  digits_short = let r = (number_row k).numeral in omega (arith, numeral_short s (start_at t n) (end_at t n) r, length-slice (start_at t n) (end_at t n) s r.upto)

pub within_limit : (x y : Bytes) → length x ≤ 255 → length y ≤ 255 → compared x y ≡ number_order x y
unfolding compared
within_limit x y h k = rw (le-leb (length x) 255 h, le-leb (length y) 255 k, compared)

-- equal leaves
module _ (s : Bytes) (t : List ℕ) (a b : Operand) where
  leaf_number : {o : Ordering} {r : Bool} → class_of a.kind ≡ classes.Number → class_of b.kind ≡ classes.Number →
      o ≡ number_order (digits_of s t a.node) (digits_of s t b.node) → r ≡ is_same o → LeavesAlike s t r a b
  unfolding alike_shapes
  leaf_number p q e z sheet f fs = z ∙ rw (number_is sheet s t fs a.node a.depth a.kind p, number_is sheet s t fs b.node b.depth b.kind q, e)

  pub leaf_compared : (o : Ordered) {r : Bool} → class_of a.kind ≡ classes.Number → class_of b.kind ≡ classes.Number →
      order_of o ≡ number_order (digits_of s t a.node) (digits_of s t b.node) → r ≡ is_eq o → LeavesAlike s t r a b
  leaf_compared o p q e z = leaf_number p q e (z ∙ same_order o)
    where
      same_order : (o : Ordered) → is_eq o ≡ is_same (order_of o)
      same_order orders.Less = refl
      same_order orders.Equal = refl
      same_order orders.Greater = refl

  pub leaf_text : {x y : ℕ} {r : Bool} → class_of a.kind ≡ classes.Text → class_of b.kind ≡ classes.Text → TextPlace s t a x → TextPlace s t b y →
      r ≡ same_bytes (text_at s x) (text_at s y) → LeavesAlike s t r a b
  unfolding alike_shapes
  leaf_text p q u v e sheet f fs = e ∙ rw (text_is sheet s t fs a.node a.depth a.kind p, text_is sheet s t fs b.node b.depth b.kind q, u.is, v.is)

  pub leaf_same : (c : Class) → Flat c → (c ≡ classes.Number → ⊥) → (c ≡ classes.Text → ⊥) → class_of a.kind ≡ c → class_of b.kind ≡ c → LeavesAlike s t true a b
  unfolding alike_shapes shape_by
  leaf_same c h n m p q sheet f fs = go a.kind b.kind p q
    where
      go : (x y : Kind) → class_of x ≡ c → class_of y ≡ c → true ≡ alike_shapes f (shape_by sheet s t fs a.node a.depth x) (shape_by sheet s t fs b.node b.depth y)
      go kinds.Null kinds.Null u v = refl
      go kinds.Null kinds.False u v = absurd (impossible (cc))
      go kinds.Null kinds.True u v = absurd (impossible (cc))
      go kinds.Null kinds.Number u v = absurd (impossible (cc))
      go kinds.Null kinds.Text u v = absurd (impossible (cc))
      go kinds.Null kinds.Less u v = absurd (impossible (cc))
      go kinds.Null kinds.Array u v = absurd (impossible (cc))
      go kinds.Null kinds.Object u v = absurd (impossible (cc))
      go kinds.Null kinds.Listed u v = absurd (impossible (cc))
      go kinds.Null kinds.Named u v = absurd (impossible (cc))
      go kinds.False kinds.Null u v = absurd (impossible (cc))
      go kinds.False kinds.False u v = refl
      go kinds.False kinds.True u v = absurd (impossible (cc))
      go kinds.False kinds.Number u v = absurd (impossible (cc))
      go kinds.False kinds.Text u v = absurd (impossible (cc))
      go kinds.False kinds.Less u v = absurd (impossible (cc))
      go kinds.False kinds.Array u v = absurd (impossible (cc))
      go kinds.False kinds.Object u v = absurd (impossible (cc))
      go kinds.False kinds.Listed u v = absurd (impossible (cc))
      go kinds.False kinds.Named u v = absurd (impossible (cc))
      go kinds.True kinds.Null u v = absurd (impossible (cc))
      go kinds.True kinds.False u v = absurd (impossible (cc))
      go kinds.True kinds.True u v = refl
      go kinds.True kinds.Number u v = absurd (impossible (cc))
      go kinds.True kinds.Text u v = absurd (impossible (cc))
      go kinds.True kinds.Less u v = absurd (impossible (cc))
      go kinds.True kinds.Array u v = absurd (impossible (cc))
      go kinds.True kinds.Object u v = absurd (impossible (cc))
      go kinds.True kinds.Listed u v = absurd (impossible (cc))
      go kinds.True kinds.Named u v = absurd (impossible (cc))
      go kinds.Number y u v = absurd (n (sym u))
      go kinds.Text y u v = absurd (m (sym u))
      go kinds.Less y u v = absurd (m (sym u))
      go kinds.Array y u v = absurd (h.no_array (sym u))
      go kinds.Object y u v = absurd (h.no_object (sym u))
      go kinds.Listed y u v = absurd (h.no_array (sym u))
      go kinds.Named y u v = absurd (h.no_object (sym u))

-- a part by its node
touched_part : (sheet : Sheet Condition) (v : Value) {gs hs : lazy.Frames} {m : ℕ} → gs ≡ hs → m ≡ length gs + 1 → touch sheet m gs v ≡ part_of sheet hs v
touched_part sheet v e q = rw (q, e, add-one)

module _ (sheet : Sheet Condition) {s : Bytes} {t : List ℕ} (fs : lazy.Frames) (o : Operand) (k : ℕ) where
  pub part_value : {r : Operand} → (o.kind ≡ kinds.Listed → ⊥) → (o.kind ≡ kinds.Named → ⊥) → Means s t r (given (tree s t k)) → Means s t r (part_at sheet s t fs o k)
  unfolding part_by
  part_value l n m = record { means = m.means ∙ go o.kind l n; fits = m.fits }
    where
      go : (x : Kind) → (x ≡ kinds.Listed → ⊥) → (x ≡ kinds.Named → ⊥) → given (tree s t k) ≡ part_by sheet s t fs o.depth x k
      go kinds.Null p q = refl
      go kinds.False p q = refl
      go kinds.True p q = refl
      go kinds.Number p q = refl
      go kinds.Text p q = refl
      go kinds.Less p q = refl
      go kinds.Array p q = refl
      go kinds.Object p q = refl
      go kinds.Listed p q = absurd (p refl)
      go kinds.Named p q = absurd (q refl)

  pub part_written : {r : Operand} {gs : lazy.Frames} {m : ℕ} → (o.kind ≡ kinds.Listed) ⊎ (o.kind ≡ kinds.Named) → gs ≡ outer o.depth fs → m ≡ length gs + 1 →
      Means s t r (touch sheet m gs (tree s t k)) → Means s t r (part_at sheet s t fs o k)
  unfolding part_by
  part_written (inl q) e l w = record { means = w.means ∙ touched_part sheet (tree s t k) e l ∙ rw q; fits = w.fits }
  part_written (inr q) e l w = record { means = w.means ∙ touched_part sheet (tree s t k) e l ∙ rw q; fits = w.fits }
