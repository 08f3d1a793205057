-- Two operands compared part by part, turn by turn.
-- Assumes nothing.
use mathlib.Core.Bool.{Bool, false, not, true, ◌&&◌}
use mathlib.Core.List.{List, [], ◌∷◌}
use mathlib.Core.Path.{ap, refl, subst, sym, ◌∙◌, ◌≡◌}
use Prim.Native.Nat.{suc, ℕ, ◌+◌, ◌-◌, ◌<◌, ◌≤◌}
use native.Mathlib.Omega.{arith}
use lib.Dec.{eqb}
use lib.ListN.{length}
use borrow.Author.Tests.{eqb-false, eqb-true}
use Rattle.json_text.specs.Bytes.{Bytes, same_bytes}
use Rattle.json_text.specs.Held.{HasNode}
use Rattle.json_text.specs.Links.{Linked}
use Rattle.json_text.specs.Spans.{text_at}
use Rattle.json_text.specs.Table.{after_at, start_at}
use Rattle.members.specs.Condition.{Condition}
use Rattle.members.specs.Sheet.{Sheet}
use Rattle.paths.specs.Children.{ChildAt, ChildrenAt, Given, Named, begun, children_of}
use Rattle.paths.specs.Comparing.{alike}
use Rattle.paths.specs.Layered.{LeavesAlike, alike_nodes, class_of, each_name, each_node, kids, names_agree, part_at, shape_of, value_node}
use Rattle.paths.specs.Lazy as lazy
use Rattle.paths.specs.Matched.{Holds, Paired}
use Rattle.paths.specs.Shape.{alike_in, alike_of, alike_shapes}
use Rattle.paths.specs.Stored.{OperandAt, Room, operand_of, table}
use Rattle.paths.specs.declared.children.Children.{Children}
use Rattle.paths.specs.declared.operand.Operand.{Operand}
use Rattle.strings.specs.declared.rows.Kind.{Kind as Class}
use Rattle.strings.specs.declared.rows.Kind.TheVariants as classes
use Rattle.resolving.proofs.Layered.{alike_layers, apart, array_is, array_kind, class_is, object_is, object_kind}
use Rattle.paths.proofs.Ordered.{node_below}
use Rattle.paths.proofs.Stands.{impossible}
use Rattle.paths.proofs.Trees.{begun_kids, each_kid, past_node}

-- children and their names
module _ (s : Bytes) (t : List ℕ) where
  pub child_name : {named : Bool} {k : ℕ} → named ≡ true → ChildAt s t named k → Named s t k
  unfolding ChildAt
  child_name {named} {k} e h = subst (λ (b : Bool). ChildAt s t b k) e h

  pub names_same : {named : Bool} (i j : ℕ) {a b : ℕ} {r : Bool} → named ≡ true → a ≡ start_at t i → b ≡ start_at t j →
      r ≡ same_bytes (text_at s a) (text_at s b) → r ≡ names_agree s t named i j
  unfolding names_agree
  names_same i j e p q h = h ∙ rw (e, p, q)

  pub value_there : (named : Bool) {k : ℕ} → ChildAt s t named k → HasNode s t (value_node named k) × (k < 4096)
  unfolding ChildAt value_node
  value_there false h = (h, node_below s t h)
  value_there true h = (h.value, omega (arith, node_below s t h.value))

-- the test `!b`
pub not_yes : (b : Bool) → not b ≡ true → b ≡ false
not_yes true e = absurd (impossible (cc))
not_yes false e = refl

pub not_no : (b : Bool) → not b ≡ false → b ≡ true
not_no true e = refl
not_no false e = absurd (impossible (cc))

-- a walk over the children of a node that holds them
module _ {s : Bytes} {t : List ℕ} (named : Bool) {n : ℕ} (h : Holds s t named n) (l : Linked s t) {c : Children} (e : c ≡ begun t n named) where
  pub walk_kids : children_of t c ≡ kids s t n named
  walk_kids = rw e (begun_kids s t l named h)

  pub walk_begins : ChildrenAt s t c
  walk_begins = rw e (record { within = (past_node h.node).1; each = rw (begun_kids s t l named h) (each_kid s t named h) })

  pub walk_named : c.named ≡ named
  walk_named = ap (λ (x : Children). x.named) e

pub begin_room : (s : Bytes) (w : List ℕ) (named : Bool) {n : ℕ} → 16384 ≤ length w → Holds s (table w) named n → Room w n × (n < after_at (table w) n)
begin_room s w named l h = (record { rows = l; node = node_below s (table w) h.node }, (past_node h.node).0)

-- parts of two operands, from a child on
module _ (s : Bytes) (t : List ℕ) (f : lazy.Operand → lazy.Operand → Bool) (named : Bool) (g h : ℕ → lazy.Operand) (whole : Bool) where
  pub record Comparing (x y : Children) : Type 0 where
    pub rest : whole ≡ alike_nodes s t f named g h (children_of t x) (children_of t y)
    pub first : ChildrenAt s t x
    pub second : ChildrenAt s t y
    pub names : x.named ≡ named
    pub others : y.named ≡ named

  module _ {x y : Children} (l : Comparing x y) where
    pub both_end : children_of t x ≡ [] → children_of t y ≡ [] → true ≡ whole
    unfolding alike_nodes
    both_end p q = sym (l.rest ∙ rw (p, q))

    pub first_ends : {n : ℕ} {r : Children} → children_of t x ≡ [] → Given s t y n r → false ≡ whole
    unfolding alike_nodes
    first_ends p q = sym (l.rest ∙ rw (p, q.children))

    pub second_ends : {n : ℕ} {r : Children} → Given s t x n r → children_of t y ≡ [] → false ≡ whole
    unfolding alike_nodes
    second_ends p q = sym (l.rest ∙ rw (p.children, q))

    module _ {i j : ℕ} {xs ys : Children} (p : Given s t x i xs) (q : Given s t y j ys) where
      turn : whole ≡ (names_agree s t named i j && (f (g (value_node named i)) (h (value_node named j)) && alike_nodes s t f named g h (children_of t xs) (children_of t ys)))
      unfolding alike_nodes
      turn = l.rest ∙ rw (p.children, q.children)

      pub first_child : ChildAt s t named i
      first_child = subst (λ (b : Bool). ChildAt s t b i) l.names p.child

      pub second_child : ChildAt s t named j
      second_child = subst (λ (b : Bool). ChildAt s t b j) l.others q.child

      pub names_differ : {r : Bool} → r ≡ names_agree s t named i j → not r ≡ true → false ≡ whole
      names_differ {r} e z = sym (turn ∙ rw (sym e ∙ not_yes r z))

      module _ {b : Bool} (agree : b ≡ names_agree s t named i j) (yes : not b ≡ false) {r : Bool} {u v : lazy.Operand}
          (part : r ≡ f u v) (is_u : u ≡ g (value_node named i)) (is_v : v ≡ h (value_node named j)) where
        compared : whole ≡ (r && alike_nodes s t f named g h (children_of t xs) (children_of t ys))
        compared = turn ∙ rw (sym agree ∙ not_no b yes, part, is_u, is_v)

        pub parts_differ : not r ≡ true → false ≡ whole
        parts_differ z = sym (compared ∙ rw (not_yes r z))

        pub parts_same : not r ≡ false → Comparing xs ys
        parts_same z = record { rest = compared ∙ rw (not_no r z); first = p.walk; second = q.walk; names = p.same ∙ l.names; others = q.same ∙ l.others }

pub compare_begins :
    {s : Bytes} {t : List ℕ} {f : lazy.Operand → lazy.Operand → Bool} {named : Bool} {g h : ℕ → lazy.Operand} {a b : Operand}
    {x y : Children} → Paired s t named a b → Linked s t → x ≡ begun t a.node named → y ≡ begun t b.node named →
    Comparing s t f named g h (alike_nodes s t f named g h (kids s t a.node named) (kids s t b.node named)) x y
compare_begins {named = named} p l i j = record {
  rest = rw (walk_kids named p.first l i, walk_kids named p.second l j);
  first = walk_begins named p.first l i;
  second = walk_begins named p.second l j;
  names = walk_named named p.first l i;
  others = walk_named named p.second l j;
}

-- lists of parts, by their nodes
module _ (s : Bytes) (t : List ℕ) (f : lazy.Operand → lazy.Operand → Bool) (g h : ℕ → lazy.Operand) where
  nodes_in : (is js : List ℕ) → alike_in f (each_node g is) (each_node h js) ≡ alike_nodes s t f false g h is js
  unfolding alike_in each_node alike_nodes
  nodes_in [] [] = refl
  nodes_in [] (j ∷ js) = refl
  nodes_in (i ∷ is) [] = refl
  nodes_in (i ∷ is) (j ∷ js) = ap (λ (x : Bool). f (g i) (h j) && x) (nodes_in is js)

  nodes_of : (is js : List ℕ) → alike_of f (each_name s t g is) (each_name s t h js) ≡ alike_nodes s t f true g h is js
  unfolding alike_of each_name alike_nodes
  nodes_of [] [] = refl
  nodes_of [] (j ∷ js) = refl
  nodes_of (i ∷ is) [] = refl
  nodes_of (i ∷ is) (j ∷ js) = ap (λ (x : Bool). same_bytes (text_at s (start_at t i)) (text_at s (start_at t j)) && (f (g (i + 1)) (h (j + 1)) && x)) (nodes_of is js)

-- the class of a whole: with names, or without
abbrev pub holder_class : Bool → Class
holder_class true = classes.Object
holder_class false = classes.Array

-- equality, by the classes of two operands
module _ (sheet : Sheet Condition) (s : Bytes) (t : List ℕ) (fs : lazy.Frames) (a b : Operand) (left : ℕ) where
  abbrev answer : Bool
  answer = alike sheet left fs (operand_of s t a) (operand_of s t b)

  abbrev inner : lazy.Operand → lazy.Operand → Bool
  inner = alike sheet (left - 1) fs

  pub equal_none : left ≡ 0 → false ≡ alike sheet left fs (operand_of s t a) (operand_of s t b)
  unfolding alike
  equal_none e = rw e

  module _ (more : left ≡ 0 → ⊥) where
    opened : answer ≡ alike_shapes inner (shape_of sheet s t fs a) (shape_of sheet s t fs b)
    opened = let z : left ≡ suc (left - 1) = omega arith in ap (λ (x : ℕ). alike sheet x fs (operand_of s t a) (operand_of s t b)) z ∙ alike_layers sheet s t (left - 1) fs a b

    pub equal_leaves : {r : Bool} → LeavesAlike s t r a b → r ≡ alike sheet left fs (operand_of s t a) (operand_of s t b)
    equal_leaves l = l sheet inner fs ∙ sym opened

    pub equal_apart : {ca cb : Class} → ca ≡ class_of a.kind → cb ≡ class_of b.kind → (ca ≡ cb → ⊥) →
        false ≡ alike sheet left fs (operand_of s t a) (operand_of s t b)
    equal_apart is_a is_b h =
        sym
        (opened ∙
        apart inner (shape_of sheet s t fs a) (shape_of sheet s t fs b)
        (λ e. h
        (is_a ∙
        sym (class_is sheet s t fs a.node a.depth a.kind) ∙
        e ∙
        class_is sheet s t fs b.node b.depth b.kind ∙
        sym is_b)))

    module _ (named : Bool) (is_a : class_of a.kind ≡ holder_class named) (is_b : class_of b.kind ≡ holder_class named) where
      pub equal_paired : OperandAt s t a → OperandAt s t b → Paired s t named a b
      equal_paired h k = go named is_a is_b
        where
          go : (x : Bool) → class_of a.kind ≡ holder_class x → class_of b.kind ≡ holder_class x → Paired s t x a b
          go true e f =
              record { first = object_kind s t a.node a.kind h.fits e; second = object_kind s t b.node b.kind k.fits f }
          go false e f =
              record { first = array_kind s t a.node a.kind h.fits e; second = array_kind s t b.node b.kind k.fits f }

      pub equal_whole : {r : Bool} →
          r ≡
          alike_nodes s t (alike sheet (left - 1) fs) named (part_at sheet s t fs a) (part_at sheet s t fs b)
          (kids s t a.node named) (kids s t b.node named) → r ≡ alike sheet left fs (operand_of s t a) (operand_of s t b)
      unfolding alike_shapes
      equal_whole {r} h = go named is_a is_b h
        where
          go : (x : Bool) → class_of a.kind ≡ holder_class x → class_of b.kind ≡ holder_class x →
              r ≡ alike_nodes s t inner x (part_at sheet s t fs a) (part_at sheet s t fs b) (kids s t a.node x) (kids s t b.node x) → r ≡ answer
          go true e f k =
              k ∙
              sym
              (nodes_of s t inner (part_at sheet s t fs a) (part_at sheet s t fs b) (kids s t a.node true)
              (kids s t b.node true)) ∙
              sym
              (opened ∙
              rw (
                object_is sheet s t fs a.node a.depth a.kind e,
                object_is sheet s t fs b.node b.depth b.kind f,
              ))
          go false e f k =
              k ∙
              sym
              (nodes_in s t inner (part_at sheet s t fs a) (part_at sheet s t fs b) (kids s t a.node false)
              (kids s t b.node false)) ∙
              sym
              (opened ∙
              rw (
                array_is sheet s t fs a.node a.depth a.kind e,
                array_is sheet s t fs b.node b.depth b.kind f,
              ))
