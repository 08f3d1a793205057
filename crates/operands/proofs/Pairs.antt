-- The pair forms over two layers, step by step as the code takes them.
-- Assumes nothing.
use mathlib.Core.Bool.{Bool, false, not, true, ◌||◌}
use mathlib.Core.List.{List, [], ◌∷◌}
use mathlib.Core.Path.{ap, refl, subst, sym, ◌∙◌, ◌≡◌}
use Prim.Native.Nat.{Ordering, ℕ}
use lib.ListN.{length}
use Rattle.number.specs.Compare.{number_order}
use Rattle.json_text.specs.Bytes.{Bytes, begins, is_one_of, same_bytes}
use Rattle.json_text.specs.Orders.{order_of}
use Rattle.json_text.specs.Held.{HasNode}
use Rattle.json_text.specs.Links.{Linked}
use Rattle.json_text.specs.Spans.{text_at}
use Rattle.json_text.specs.Table.{start_at}
use Rattle.members.specs.Condition as condition
use Rattle.members.specs.Condition.{Condition}
use Rattle.members.specs.Sheet.{Sheet}
use Rattle.paths.specs.Children.{ChildAt, ChildrenAt, Given, Named, begun, children_of, next_of}
use Rattle.semantics.specs.Forms.{ends, is_greater, is_less, is_part}
use Rattle.paths.specs.Comparing.{alike, holds_of, nesting}
use Rattle.paths.specs.Layered.{TextPlace, class_of, digits_of, each_name, each_node, kids, part_at, shape_of, words_of}
use Rattle.paths.specs.Lazy as lazy
use Rattle.paths.specs.Matched.{Holds, NumbersTold, names_of}
use Rattle.semantics.specs.Semantics.{is_same}
use Rattle.paths.specs.Shape.{Shape, contained_in, digits, fields, holds_shapes, items, keys_of, nothing, one_alike, truth, two_numbers, two_texts, words}
use Rattle.paths.specs.Stored.{operand_of}
use Rattle.paths.specs.declared.children.Children.{Children}
use Rattle.paths.specs.declared.operand.Operand.{Operand}
use Rattle.std.specs.Ordering as std
use Rattle.std.specs.declared.cmp.Ordering.{Ordering as CodeOrdering}
use Rattle.std.specs.declared.cmp.Ordering.TheVariants as orders
use Rattle.strings.specs.declared.rows.Kind.{Kind as Class}
use Rattle.strings.specs.declared.rows.Kind.TheVariants as classes
use Rattle.operands.specs.Told.{TextsTold}
use denote.Enum.Bare.{same_true, sameb}
use borrow.Author.Rules.{rules}
use Rattle.std.specs.Prelude.{Option, None, Some, is_some}
use Rattle.strings.proofs.KindCodes.{is_other}
use Rattle.strings.specs.Answers.{code_of}
use Rattle.strings.specs.contracts.rows.Kind.{the_type}
use Rattle.paths.proofs.Ordered.{child_end, child_given}
use Rattle.paths.specs.declared.children.Next.{Next}
use Rattle.resolving.proofs.Alike.{Comparing, both_end, first_ends, not_no, not_yes, walk_begins, walk_kids, walk_named}
use Rattle.resolving.proofs.Layered.{array_is, class_is, number_is, object_is, shape_kind, shape_class, text_is}

-- a walk that looks for one child
pub record Looking (s : Bytes) (t : List ℕ) (named : Bool) (whole : Bool) (f : List ℕ → Bool) (c : Children) : Type 0 where
  pub rest : whole ≡ f (children_of t c)
  pub walk : ChildrenAt s t c
  pub over : c.named ≡ named

module _ {s : Bytes} {t : List ℕ} {named whole : Bool} {f : List ℕ → Bool} {c : Children} (l : Looking s t named whole f c) where
  pub looked_all : children_of t c ≡ [] → f [] ≡ false → false ≡ whole
  looked_all e q = sym (l.rest ∙ ap f e ∙ q)

  module _ {k : ℕ} {c' : Children} (x : Given s t c k c') where
    pub looked_at : ChildAt s t named k
    looked_at = subst (λ (b : Bool). ChildAt s t b k) l.over x.child

    pub looked_here : f (k ∷ children_of t c') ≡ true → true ≡ whole
    looked_here q = sym (l.rest ∙ ap f x.children ∙ q)

    pub looked_on : f (k ∷ children_of t c') ≡ f (children_of t c') → Looking s t named whole f c'
    looked_on q = record { rest = l.rest ∙ ap f x.children ∙ q; walk = x.walk; over = x.same ∙ l.over }

pub look_begins : {s : Bytes} {t : List ℕ} (named : Bool) {n : ℕ} {f : List ℕ → Bool} {c : Children} → Holds s t named n → Linked s t →
    c ≡ begun t n named → Looking s t named (f (kids s t n named)) f c
look_begins named {f = f} h l e = record { rest = ap f (sym (walk_kids named h l e)); walk = walk_begins named h l e; over = walk_named named h l e }

pub child_node : (s : Bytes) (t : List ℕ) {k : ℕ} → ChildAt s t false k → HasNode s t k
unfolding ChildAt
child_node s t h = h

pub child_named : (s : Bytes) (t : List ℕ) {k : ℕ} → ChildAt s t true k → Named s t k
unfolding ChildAt
child_named s t h = h

-- two kinds of rows that a comparison tells apart, or the same
pub apart_kinds : (k q : Class) {b : Bool} → b ≡ not (sameb the_type k q) → b ≡ true → k ≡ q → ⊥
apart_kinds k q h e i = is_other k q refl (sym (not_yes _ (sym h ∙ e))) (ap code_of i)

pub same_kinds : (k q : Class) {b : Bool} → b ≡ not (sameb the_type k q) → b ≡ false → k ≡ q
same_kinds k q h e = same_true the_type (search rules) _ _ (not_no _ (sym h ∙ e))

-- parts of the first are at an end: then those of the second are, or there are more
pub parts_end : (s : Bytes) (t : List ℕ) (f : lazy.Operand → lazy.Operand → Bool) (named : Bool) (g h : ℕ → lazy.Operand) (whole : Bool) {x y : Children} →
    Comparing s t f named g h whole x y → children_of t x ≡ [] → {r : Option Next} → r ≡ next_of t y → {b : Bool} → is_some r ≡ not b → b ≡ whole
parts_end s t f named g h whole {x} {y} l p {r} q {b} e = go r refl e
  where
    go : (n : Option Next) → r ≡ n → is_some n ≡ not b → b ≡ whole
    go None i k = not_no b (sym k) ∙ both_end s t f named g h whole l p (child_end l.second q i)
    go (Some n) i k = not_yes b (sym k) ∙ first_ends s t f named g h whole l p (child_given l.second q n i)

-- an element, and a key
module _ (f : lazy.Operand → lazy.Operand → Bool) (o : lazy.Operand) (g : ℕ → lazy.Operand) where
  pub element_none : one_alike f o (each_node g []) ≡ false
  unfolding one_alike each_node
  element_none = refl

  pub element_here : (k : ℕ) (ks : List ℕ) {u : lazy.Operand} {r : Bool} → u ≡ g k → r ≡ f u o → r ≡ true → one_alike f o (each_node g (k ∷ ks)) ≡ true
  unfolding one_alike each_node
  element_here k ks e h q = let z : f (g k) o ≡ true = ap (λ (x : lazy.Operand). f x o) (sym e) ∙ sym h ∙ q in rw (z, one_alike)

  pub element_on : (k : ℕ) (ks : List ℕ) {u : lazy.Operand} {r : Bool} → u ≡ g k → r ≡ f u o → r ≡ false →
      one_alike f o (each_node g (k ∷ ks)) ≡ one_alike f o (each_node g ks)
  unfolding one_alike each_node
  element_on k ks e h q = let z : f (g k) o ≡ false = ap (λ (x : lazy.Operand). f x o) (sym e) ∙ sym h ∙ q in rw (z, one_alike)

module _ (s : Bytes) (t : List ℕ) (b : Bytes) where
  pub key_none : is_one_of b (names_of s t []) ≡ false
  unfolding is_one_of names_of
  key_none = refl

  pub key_here : (k : ℕ) (ks : List ℕ) {a : ℕ} {r : Bool} → a ≡ start_at t k → r ≡ same_bytes b (text_at s a) → r ≡ true → is_one_of b (names_of s t (k ∷ ks)) ≡ true
  unfolding is_one_of names_of
  key_here k ks e h q = let z : same_bytes b (text_at s (start_at t k)) ≡ true = ap (λ (x : ℕ). same_bytes b (text_at s x)) (sym e) ∙ sym h ∙ q in rw (z, is_one_of)

  pub key_on : (k : ℕ) (ks : List ℕ) {a : ℕ} {r : Bool} → a ≡ start_at t k → r ≡ same_bytes b (text_at s a) → r ≡ false →
      is_one_of b (names_of s t (k ∷ ks)) ≡ is_one_of b (names_of s t ks)
  unfolding is_one_of names_of
  key_on k ks e h q = let z : same_bytes b (text_at s (start_at t k)) ≡ false = ap (λ (x : ℕ). same_bytes b (text_at s x)) (sym e) ∙ sym h ∙ q in rw (z, is_one_of)

-- layers of another class hold no number, no text, no elements
first_number : (p : Ordering → Bool) (x y : Shape lazy.Operand) → (shape_class x ≡ classes.Number → ⊥) → false ≡ two_numbers p x y
first_number p nothing y h = refl
first_number p (truth true) y h = refl
first_number p (truth false) y h = refl
first_number p (digits b) y h = absurd (h refl)
first_number p (words b) y h = refl
first_number p (items b) y h = refl
first_number p (fields b) y h = refl

second_number : (p : Ordering → Bool) (x y : Shape lazy.Operand) → (shape_class y ≡ classes.Number → ⊥) → false ≡ two_numbers p x y
second_number p nothing y h = refl
second_number p (truth b) y h = refl
second_number p (digits b) nothing h = refl
second_number p (digits b) (truth true) h = refl
second_number p (digits b) (truth false) h = refl
second_number p (digits b) (digits c) h = absurd (h refl)
second_number p (digits b) (words c) h = refl
second_number p (digits b) (items c) h = refl
second_number p (digits b) (fields c) h = refl
second_number p (words b) y h = refl
second_number p (items b) y h = refl
second_number p (fields b) y h = refl

first_text : (p : Bytes → Bytes → Bool) (x y : Shape lazy.Operand) → (shape_class x ≡ classes.Text → ⊥) → false ≡ two_texts p x y
first_text p nothing y h = refl
first_text p (truth true) y h = refl
first_text p (truth false) y h = refl
first_text p (digits b) y h = refl
first_text p (words b) y h = absurd (h refl)
first_text p (items b) y h = refl
first_text p (fields b) y h = refl

second_text : (p : Bytes → Bytes → Bool) (x y : Shape lazy.Operand) → (shape_class y ≡ classes.Text → ⊥) → false ≡ two_texts p x y
second_text p nothing y h = refl
second_text p (truth b) y h = refl
second_text p (digits b) y h = refl
second_text p (words b) nothing h = refl
second_text p (words b) (truth true) h = refl
second_text p (words b) (truth false) h = refl
second_text p (words b) (digits c) h = refl
second_text p (words b) (words c) h = absurd (h refl)
second_text p (words b) (items c) h = refl
second_text p (words b) (fields c) h = refl
second_text p (items b) y h = refl
second_text p (fields b) y h = refl

no_items : (f : lazy.Operand → lazy.Operand → Bool) (o : lazy.Operand) (x : Shape lazy.Operand) (p : lazy.Operand) (y : Shape lazy.Operand) →
    (shape_class y ≡ classes.Array → ⊥) → holds_shapes f condition.is_in o x p y ≡ false
unfolding holds_shapes
no_items f o x p nothing h = refl
no_items f o x p (truth true) h = refl
no_items f o x p (truth false) h = refl
no_items f o x p (digits b) h = refl
no_items f o x p (words b) h = refl
no_items f o x p (items b) h = absurd (h refl)
no_items f o x p (fields b) h = refl

no_key : (f : lazy.Operand → lazy.Operand → Bool) (xs : List (Bytes × lazy.Operand)) (o : lazy.Operand) (y : Shape lazy.Operand) →
    (shape_class y ≡ classes.Text → ⊥) → contained_in f (fields xs) o y ≡ false
unfolding contained_in
no_key f xs o nothing h = refl
no_key f xs o (truth true) h = refl
no_key f xs o (truth false) h = refl
no_key f xs o (digits b) h = refl
no_key f xs o (words b) h = absurd (h refl)
no_key f xs o (items b) h = refl
no_key f xs o (fields b) h = refl

part_in : (f : lazy.Operand → lazy.Operand → Bool) (b : Bytes) (o : lazy.Operand) (y : Shape lazy.Operand) →
    two_texts (λ text part. is_part part text) (words b) y ≡ contained_in f (words b) o y
unfolding contained_in
part_in f b o y = refl

no_holder :
    (f : lazy.Operand → lazy.Operand → Bool) (x : Shape lazy.Operand) (o : lazy.Operand) (y : Shape lazy.Operand) → (shape_class x ≡ classes.Text → ⊥) →
    (shape_class x ≡ classes.Array → ⊥) → (shape_class x ≡ classes.Object → ⊥) → contained_in f x o y ≡ false
unfolding contained_in
no_holder f nothing o y h k l = refl
no_holder f (truth true) o y h k l = refl
no_holder f (truth false) o y h k l = refl
no_holder f (digits b) o y h k l = refl
no_holder f (words b) o y h k l = absurd (h refl)
no_holder f (items b) o y h k l = absurd (k refl)
no_holder f (fields b) o y h k l = absurd (l refl)

module _ (s : Bytes) (t : List ℕ) (a b : Operand) where
  differs : (sheet : Sheet Condition) (fs : lazy.Frames) (o : Operand) (k : Class) → (class_of o.kind ≡ k → ⊥) → shape_class (shape_of sheet s t fs o) ≡ k → ⊥
  differs sheet fs o k h q = h (sym (class_is sheet s t fs o.node o.depth o.kind) ∙ q)

  -- numbers
  pub first_no_number : (p : Ordering → Bool) → (class_of a.kind ≡ classes.Number → ⊥) → NumbersTold s t a b p false
  first_no_number p h sheet fs = first_number p (shape_of sheet s t fs a) (shape_of sheet s t fs b) (differs sheet fs a classes.Number h)

  pub second_no_number : (p : Ordering → Bool) → (class_of b.kind ≡ classes.Number → ⊥) → NumbersTold s t a b p false
  second_no_number p h sheet fs = second_number p (shape_of sheet s t fs a) (shape_of sheet s t fs b) (differs sheet fs b classes.Number h)

  pub in_order : (p : Ordering → Bool) {o : Ordering} {r : Bool} → class_of a.kind ≡ classes.Number → class_of b.kind ≡ classes.Number →
      o ≡ number_order (digits_of s t a.node) (digits_of s t b.node) → r ≡ p o → NumbersTold s t a b p r
  in_order p u v e z sheet fs = z ∙ rw (number_is sheet s t fs a.node a.depth a.kind u, number_is sheet s t fs b.node b.depth b.kind v, ← e)

  -- texts
  pub first_no_text : (p : Bytes → Bytes → Bool) → (class_of a.kind ≡ classes.Text → ⊥) → TextsTold s t a b p false
  first_no_text p h sheet fs = first_text p (shape_of sheet s t fs a) (shape_of sheet s t fs b) (differs sheet fs a classes.Text h)

  pub second_no_text : (p : Bytes → Bytes → Bool) → (class_of b.kind ≡ classes.Text → ⊥) → TextsTold s t a b p false
  second_no_text p h sheet fs = second_text p (shape_of sheet s t fs a) (shape_of sheet s t fs b) (differs sheet fs b classes.Text h)

  pub texts_found :
      (p : Bytes → Bytes → Bool) {x y : ℕ} {r : Bool} → class_of a.kind ≡ classes.Text → class_of b.kind ≡ classes.Text → TextPlace s t a x → TextPlace s t b y →
      r ≡ p (text_at s x) (text_at s y) → TextsTold s t a b p r
  texts_found p u v i j e sheet fs = e ∙ rw (text_is sheet s t fs a.node a.depth a.kind u, text_is sheet s t fs b.node b.depth b.kind v, i.is, j.is)

-- the forms
module _ (sheet : Sheet Condition) (s : Bytes) (t : List ℕ) (fs : lazy.Frames) (a b : Operand) where
  abbrev f : lazy.Operand → lazy.Operand → Bool
  f = alike sheet (nesting (length fs)) fs

  layers : (x : condition.Form) →
      holds_of sheet fs x (operand_of s t a) (operand_of s t b) ≡
      holds_shapes (alike sheet (nesting (length fs)) fs) x (operand_of s t a) (shape_of sheet s t fs a) (operand_of s t b)
      (shape_of sheet s t fs b)
  unfolding holds_of
  layers x = rw (shape_kind sheet s t fs a.node a.depth a.kind, shape_kind sheet s t fs b.node b.depth b.kind)

  pub form_eq : {r : Bool} → r ≡ alike sheet (nesting (length fs)) fs (operand_of s t a) (operand_of s t b) → r ≡ holds_of sheet fs condition.eq (operand_of s t a) (operand_of s t b)
  unfolding holds_shapes
  form_eq h = h ∙ sym (layers condition.eq)

  pub form_ne : {r : Bool} → r ≡ alike sheet (nesting (length fs)) fs (operand_of s t a) (operand_of s t b) → not r ≡ holds_of sheet fs condition.ne (operand_of s t a) (operand_of s t b)
  unfolding holds_shapes
  form_ne h = ap not h ∙ sym (layers condition.ne)

  pub form_gt : {r : Bool} → NumbersTold s t a b is_greater r → r ≡ holds_of sheet fs condition.gt (operand_of s t a) (operand_of s t b)
  unfolding holds_shapes
  form_gt h = h sheet fs ∙ sym (layers condition.gt)

  pub form_gte : {r : Bool} → NumbersTold s t a b (λ o. is_greater o || is_same o) r → r ≡ holds_of sheet fs condition.gte (operand_of s t a) (operand_of s t b)
  unfolding holds_shapes
  form_gte h = h sheet fs ∙ sym (layers condition.gte)

  pub form_lt : {r : Bool} → NumbersTold s t a b is_less r → r ≡ holds_of sheet fs condition.lt (operand_of s t a) (operand_of s t b)
  unfolding holds_shapes
  form_lt h = h sheet fs ∙ sym (layers condition.lt)

  pub form_lte : {r : Bool} → NumbersTold s t a b (λ o. is_less o || is_same o) r → r ≡ holds_of sheet fs condition.lte (operand_of s t a) (operand_of s t b)
  unfolding holds_shapes
  form_lte h = h sheet fs ∙ sym (layers condition.lte)

  pub form_starts : {r : Bool} → TextsTold s t a b (λ text part. begins part text) r → r ≡ holds_of sheet fs condition.starts_with (operand_of s t a) (operand_of s t b)
  unfolding holds_shapes
  form_starts h = h sheet fs ∙ sym (layers condition.starts_with)

  pub form_ends : {r : Bool} → TextsTold s t a b (λ text part. ends part text) r → r ≡ holds_of sheet fs condition.ends_with (operand_of s t a) (operand_of s t b)
  unfolding holds_shapes
  form_ends h = h sheet fs ∙ sym (layers condition.ends_with)

  -- in
  pub in_none : (class_of b.kind ≡ classes.Array → ⊥) → false ≡ holds_of sheet fs condition.is_in (operand_of s t a) (operand_of s t b)
  unfolding holds_shapes
  in_none h = sym (layers condition.is_in ∙ no_items f (operand_of s t a) (shape_of sheet s t fs a) (operand_of s t b) (shape_of sheet s t fs b) (differs s t a b sheet fs b classes.Array h))

  pub in_some : {r : Bool} → class_of b.kind ≡ classes.Array →
      r ≡ one_alike (alike sheet (nesting (length fs)) fs) (operand_of s t a) (each_node (part_at sheet s t fs b) (kids s t b.node false)) →
      r ≡ holds_of sheet fs condition.is_in (operand_of s t a) (operand_of s t b)
  unfolding holds_shapes
  in_some e h = h ∙ sym (layers condition.is_in ∙ rw (array_is sheet s t fs b.node b.depth b.kind e))

  -- contains
  pub contains_text : {r : Bool} → class_of a.kind ≡ classes.Text → TextsTold s t a b (λ text part. is_part part text) r → r ≡ holds_of sheet fs condition.contains
      (operand_of s t a) (operand_of s t b)
  unfolding holds_shapes contained_in
  contains_text e h =
      let w = text_is sheet s t fs a.node a.depth a.kind e in h sheet fs ∙
      ap (λ (x : Shape lazy.Operand). two_texts (λ text part. is_part part text) x (shape_of sheet s t fs b)) w ∙
      part_in f (words_of s t a.node a.kind) (operand_of s t b) (shape_of sheet s t fs b) ∙
      ap (λ (x : Shape lazy.Operand). contained_in f x (operand_of s t b) (shape_of sheet s t fs b)) (sym w) ∙
      sym (layers condition.contains)

  pub contains_element : {r : Bool} → class_of a.kind ≡ classes.Array →
      r ≡ one_alike (alike sheet (nesting (length fs)) fs) (operand_of s t b) (each_node (part_at sheet s t fs a) (kids s t a.node false)) →
      r ≡ holds_of sheet fs condition.contains (operand_of s t a) (operand_of s t b)
  unfolding holds_shapes contained_in
  contains_element e h = h ∙ sym (layers condition.contains ∙ rw (array_is sheet s t fs a.node a.depth a.kind e))

  pub contains_none : (class_of a.kind ≡ classes.Text → ⊥) → (class_of a.kind ≡ classes.Array → ⊥) → (class_of a.kind ≡ classes.Object → ⊥) →
      false ≡ holds_of sheet fs condition.contains (operand_of s t a) (operand_of s t b)
  unfolding holds_shapes
  contains_none h k l =
      sym
      (layers condition.contains ∙
      no_holder f (shape_of sheet s t fs a) (operand_of s t b) (shape_of sheet s t fs b) (differs s t a b sheet fs a classes.Text h)
      (differs s t a b sheet fs a classes.Array k) (differs s t a b sheet fs a classes.Object l))

  keys_of_lem : (g : ℕ → lazy.Operand) (ks : List ℕ) → keys_of (each_name s t g ks) ≡ names_of s t ks
  unfolding keys_of each_name names_of
  keys_of_lem g [] = refl
  keys_of_lem g (k ∷ ks) = ap (λ (l : List Bytes). text_at s (start_at t k) ∷ l) (keys_of_lem g ks)

  pub contains_no_key : class_of a.kind ≡ classes.Object → (class_of b.kind ≡ classes.Text → ⊥) →
      false ≡ holds_of sheet fs condition.contains (operand_of s t a) (operand_of s t b)
  unfolding holds_shapes contained_in
  contains_no_key e h =
      sym
      (layers condition.contains ∙
      ap (λ (x : Shape lazy.Operand). contained_in f x (operand_of s t b) (shape_of sheet s t fs b))
      (object_is sheet s t fs a.node a.depth a.kind e) ∙
      no_key f (each_name s t (part_at sheet s t fs a) (kids s t a.node true)) (operand_of s t b) (shape_of sheet s t fs b)
      (differs s t a b sheet fs b classes.Text h))

  pub contains_key : {r : Bool} {y : ℕ} → class_of a.kind ≡ classes.Object → class_of b.kind ≡ classes.Text → TextPlace s t b y →
      r ≡ is_one_of (text_at s y) (names_of s t (kids s t a.node true)) →
      r ≡ holds_of sheet fs condition.contains (operand_of s t a) (operand_of s t b)
  unfolding holds_shapes contained_in
  contains_key {r} e q p h =
      let w : is_one_of (words_of s t b.node b.kind) (keys_of (each_name s t (part_at sheet s t fs a) (kids s t a.node true))) ≡
      is_one_of (words_of s t b.node b.kind) (names_of s t (kids s t a.node true)) = ap
      (is_one_of (words_of s t b.node b.kind)) (keys_of_lem (part_at sheet s t fs a) (kids s t a.node true)) in
      h ∙
      ap (λ (x : Bytes). is_one_of x (names_of s t (kids s t a.node true))) p.is ∙
      sym w ∙
      sym
      (layers condition.contains ∙
      rw (object_is sheet s t fs a.node a.depth a.kind e, text_is sheet s t fs b.node b.depth b.kind q))

-- std's tests of an order
pub greater_told : (o : CodeOrdering) → std.is_gt o ≡ is_greater (order_of o)
greater_told orders.Less = refl
greater_told orders.Equal = refl
greater_told orders.Greater = refl

pub greater_or_same_told : (o : CodeOrdering) → std.is_ge o ≡ (is_greater (order_of o) || is_same (order_of o))
greater_or_same_told orders.Less = refl
greater_or_same_told orders.Equal = refl
greater_or_same_told orders.Greater = refl

pub less_told : (o : CodeOrdering) → std.is_lt o ≡ is_less (order_of o)
less_told orders.Less = refl
less_told orders.Equal = refl
less_told orders.Greater = refl

pub less_or_same_told : (o : CodeOrdering) → std.is_le o ≡ (is_less (order_of o) || is_same (order_of o))
less_or_same_told orders.Less = refl
less_or_same_told orders.Equal = refl
less_or_same_told orders.Greater = refl
