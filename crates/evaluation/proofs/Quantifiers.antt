-- A quantifier over the table: its members by their nodes, and the walk over what it goes over, turn by turn.
-- Assumes nothing.
use mathlib.Core.Bool.{Bool, false, true}
use mathlib.Core.List.{List, [], ◌++◌, ◌∷◌}
use Rattle.std.specs.Prelude.{Option, None, Some, Result as Fallible, Ok, Err, unwrap_or}
use mathlib.Core.Path.{ap, refl, subst, sym, ◌∙◌, ◌≡◌}
use Prim.Native.Nat.{ℕ, ◌%◌, ◌*◌, ◌+◌, ◌-◌, ◌<◌, ◌≤◌}
use native.Mathlib.Omega.{arith}
use lib.ListN.{length}
use Rattle.json_text.proofs.Laws.{bind_ok}
use Rattle.strings.specs.Answers.{FoundIn, FoundTold, found_of}
use Rattle.json_text.specs.Bytes.{Bytes, ascii, find}
use Rattle.json_text.specs.Cursor.{OnText}
use Rattle.json_text.specs.Held.{AreMembers, HasNode, IsNode}
use Rattle.json_text.specs.Json.{Members, Value, entries, object}
use Rattle.json_text.specs.Limits.{depth}
use Rattle.json_text.specs.Links.{Linked}
use Rattle.json_text.specs.Refusal.{Refusal, Result, ok, refused, ◌>>=◌}
use Rattle.json_text.specs.Spans.{text_at}
use Rattle.json_text.specs.Table.{after_at, kind_at, members_at, start_at, value_at}
use Rattle.semantics.specs.Evaluate.{Answer, joined, unknown}
use Rattle.semantics.specs.Names.{Names}
use Rattle.semantics.specs.Operand.{Resolved}
use Rattle.semantics.specs.Told.{truth_of}
use Rattle.semantics.specs.Truth.{Truth, join, settles, start}
use Rattle.semantics.specs.declared.truth.Truth as code
use Rattle.semantics.specs.declared.truth.Truth.TheVariants as truths
use Rattle.sheet.proofs.Given.{ObjectHere, text_given}
use Rattle.sheet.proofs.GivenConditions.{quantified_here}
use Rattle.members.proofs.Shapes.{object_at}
use Rattle.members.proofs.Walks.{full_members}
use Rattle.sheet.specs.Accepted.{Gives, Known}
use Rattle.members.specs.Answers.{Located}
use Rattle.members.specs.Condition.{Condition, Mode, condition, quantified}
use Rattle.members.specs.Sheet.{Sheet}
use Rattle.resolving.proofs.Alike.{holder_class, value_there, walk_begins, walk_kids, walk_named}
use Rattle.resolving.proofs.Layered.{array_is, array_kind, class_is, object_is, object_kind, shape_kind, shape_class}
use Rattle.resolving.proofs.Marking.{left_none, left_then}
use Rattle.paths.proofs.Ordered.{child_end, child_given, node_below}
use Rattle.paths.proofs.Words.{row_word, table_twice}
use Rattle.paths.specs.Children.{ChildAt, ChildrenAt, Given, begun, children_of, next_of}
use Rattle.paths.specs.Comparing.{shape}
use Rattle.paths.specs.Layered.{Flat, class_of, each_name, each_node, kids, part_at, shape_of, value_node}
use Rattle.paths.specs.Lazy as lazy
use Rattle.paths.specs.Lazy.{operand}
use Rattle.paths.specs.Marks.{Left, ResolvedAs}
use Rattle.paths.specs.Matched.{Holds}
use Rattle.paths.specs.Ready.{Ready}
use Rattle.paths.specs.Shape.{Shape, collected, digits, fields, items, nothing, seconds, truth, words}
use Rattle.paths.specs.Stack.{Named, Small, held}
use Rattle.paths.specs.Stored.{Bound, HasKind, Means, OperandAt, framed, frames_of, operand_of, table, tree}
use Rattle.paths.specs.declared.children.Children.{Children}
use Rattle.paths.specs.declared.children.Next.{Next}
use Rattle.paths.specs.declared.frames.Frames.{Frames}
use Rattle.paths.specs.declared.operand.Operand.{Operand}
use Rattle.paths.specs.declared.operand.EvalError.TheVariants as errors
use Rattle.paths.specs.declared.roots.Roots.{Roots}
use Rattle.strings.specs.declared.rows.Kind.{Kind as Class}
use Rattle.strings.specs.declared.rows.Kind.TheVariants as classes
use Rattle.comparison.specs.Answers.{EvaluatedAs, Marks, outcome_of}
use Rattle.evaluation.specs.Conditions.{QuantifierAt, QuantifierParts, each_of}
use Rattle.comparison.specs.Judge.{in_turn, judge, over_of}
use Rattle.paths.specs.declared.operand.EvalError.{EvalError}
use Rattle.evaluation.specs.declared.condition.Quantifier.{Quantifier}
use Rattle.evaluation.proofs.After.{node_rows}
use Rattle.comparison.proofs.Joined.{Joining, joining_last, joining_none, joining_twice}
use Rattle.comparison.proofs.Judging.{is_missing, is_present_lem, refused_first}
use Rattle.evaluation.proofs.Shallow.{member_shallow}

-- ---- its members
-- a node is the same among the rows and among all words
module _ (s : Bytes) (w : List ℕ) where
  to_words : {left n : ℕ} → IsNode s (table w) left n → IsNode s w left n × (value_at s w n ≡ value_at s (table w) n)
  to_words h = node_rows (sym (table_twice w)) h

  to_rows : {left n : ℕ} → IsNode s w left n → IsNode s (table w) left n × (value_at s (table w) n ≡ value_at s w n)
  to_rows h = node_rows (table_twice w) h

  told_rows : {x : Option Value} {r : Option ℕ} → FoundTold s w x r → FoundTold s (table w) x r
  unfolding found_of FoundIn
  told_rows {x} {r} f = go r f.answers f.bounds
    where
      go : (y : Option ℕ) → x ≡ found_of s w y → FoundIn s w y → FoundTold s (table w) x y
      go None a b = record { answers = a; bounds = tt }
      go (Some n) a b = let z = to_rows b.is_node in record { answers = a ∙ ap {B = Option Value} (λ v. Some v) (sym z.1); bounds = record { left = b.left; is_node = z.0 } }

  -- the members of an object
  members_rows : {n : ℕ} → n < 4096 → ObjectHere s (table w) n → IsNode s (table w) 64 n →
      AreMembers s w 64 (n + 1) (after_at (table w) n) ×
      (members_at s w (n + 1) (after_at (table w) n) ≡ members_at s (table w) (n + 1) (after_at (table w) n))
  members_rows {n} small x h =
      let z = to_words h in
      let k : kind_at w n ≡ 6 = ap (λ (y : ℕ). y % 8) (row_word w (3 * n) (omega arith)) ∙ x.is_kind in
      let e : after_at w n ≡ after_at (table w) n = row_word w (3 * n + 2) (omega arith) in
      let o = object_at z.0 k in
      let q : object (members_at s w (n + 1) (after_at w n)) ≡ object (members_at s (table w) (n + 1) (after_at (table w) n)) = sym o.0 ∙ z.1 ∙ x.value in
      let p : members_at s w (n + 1) (after_at w n) ≡ members_at s (table w) (n + 1) (after_at (table w) n) = cc (q) in
      (subst (AreMembers s w 64 (n + 1)) e (full_members o.1), ap (members_at s w (n + 1)) (sym e) ∙ p)

found_shallow : {s : Bytes} {t : List ℕ} {n : ℕ} → ObjectHere s t n → (k : Bytes) (j : ℕ) {r : Option ℕ} →
    FoundTold s t (find k (entries (members_at s t (n + 1) (after_at t n)))) r → r ≡ Some j → depth (tree s t j) < depth (tree s t n)
unfolding found_of
found_shallow {s} {t} x k j f e = member_shallow x k j (f.answers ∙ ap (found_of s t) e)

node_is : {r : Option ℕ} {j : ℕ} (q : ℕ) → q ≡ unwrap_or r 0 → r ≡ Some j → q ≡ j
node_is q e i = e ∙ ap (λ (x : Option ℕ). unwrap_or x 0) i

module _ {s : Bytes} (w : List ℕ) {m : Mode} {n : ℕ} {c : Condition} (g : QuantifierAt s (table w) m n c) {e : ℕ} (is_end : e ≡ after_at (table w) n) where
  here : ObjectHere s (table w) n
  here = (quantified_here g.node g.is_tidy m c g.is).0

  rows : AreMembers s w 64 (n + 1) (after_at (table w) n) × (members_at s w (n + 1) (after_at (table w) n) ≡ members_at s (table w) (n + 1) (after_at (table w) n))
  rows = members_rows s w (node_below s (table w) (record { left = 64; is_node = g.node })) here g.node

  -- what the search for a member asks
  pub quantifier_members : AreMembers s w 64 (n + 1) e
  quantifier_members = rw is_end rows.0

  -- and what it finds
  member_found : (k : Bytes) {r : Option ℕ} → Located s w (n + 1) e (find k (entries (members_at s w (n + 1) e))) r →
      FoundTold s (table w) (find k (entries (members_at s (table w) (n + 1) (after_at (table w) n)))) r
  member_found k {r} l =
      let f = told_rows s w l.told in
      record { answers = sym (ap (λ (ms : Members). find k (entries ms)) (ap (members_at s w (n + 1)) is_end ∙ rows.1)) ∙ f.answers; bounds = f.bounds }

  pub quantifier_parts :
      (q : Quantifier) {r_in r_as r_that : Option ℕ} → Located s w (n + 1) e (find (ascii "in") (entries (members_at s w (n + 1) e))) r_in →
      Located s w (n + 1) e (find (ascii "as") (entries (members_at s w (n + 1) e))) r_as →
      Located s w (n + 1) e (find (ascii "that") (entries (members_at s w (n + 1) e))) r_that → q.over ≡ unwrap_or r_in 0 → {b : ℕ} → b ≡ unwrap_or r_as 0 →
      q.name ≡ start_at (table w) b → q.body ≡ unwrap_or r_that 0 → QuantifierParts s (table w) m n q c
  unfolding tree
  quantifier_parts q {r_in} {r_as} {r_that} l_in l_as l_that e_in {b} e_as e_name e_that =
      let f_in = member_found (ascii "in") l_in in
      let f_as = member_found (ascii "as") l_as in
      let f_that = member_found (ascii "that") l_that in
      let x = (quantified_here g.node g.is_tidy m c g.is).1 r_in r_as r_that f_in f_as f_that in
      let is_over : q.over ≡ x.over = node_is q.over e_in x.is_in in
      let is_bind : b ≡ x.bind = node_is b e_as x.is_as in
      let is_body : q.body ≡ x.body = node_is q.body e_that x.is_that in
      let text = text_given x.binder in
      record {
        over = subst (HasNode s (table w)) (sym is_over) (record { left = 64; is_node = x.over_node });
        bind = b;
        binder = subst (λ (j : ℕ). HasKind s (table w) j 4) (sym is_bind) (record { node = record { left = 64; is_node = x.binder.node }; kind = text.is_kind });
        name = e_name;
        body = x.that;
        gives = subst (λ (j : ℕ). Gives condition s (table w) j x.that) (sym is_body) x.inside;
        is =
            x.is ∙
            ap (λ (y : Bytes). quantified m (tree s (table w) x.over) y x.that) text.bytes ∙
            ap (λ (j : ℕ). quantified m (tree s (table w) x.over) (text_at s (start_at (table w) j)) x.that) (sym is_bind) ∙
            ap (λ (j : ℕ). quantified m (tree s (table w) x.over) (text_at s j) x.that) (sym e_name) ∙
            ap (λ (j : ℕ). quantified m (tree s (table w) j) (text_at s q.name) x.that) (sym is_over);
        over_depth = subst (λ (j : ℕ). depth (tree s (table w) j) < depth (tree s (table w) n)) (sym is_over) (found_shallow here (ascii "in") x.over f_in x.is_in);
        body_depth = subst (λ (j : ℕ). depth (tree s (table w) j) < depth (tree s (table w) n)) (sym is_body) (found_shallow here (ascii "that") x.body f_that x.is_that);
      }

  -- the binder's node is among the rows
  pub binder_room : {r : Option ℕ} → Located s w (n + 1) e (find (ascii "as") (entries (members_at s w (n + 1) e))) r → {b : ℕ} → b ≡ unwrap_or r 0 → b < 4096
  unfolding FoundIn
  binder_room {r} l {b} e = go r e l.told.bounds
    where
      go : (x : Option ℕ) → b ≡ unwrap_or x 0 → FoundIn s w x → b < 4096
      go None i h = omega arith
      go (Some j) i h = omega (arith, node_below s w h)

-- ---- what it goes over
-- the parts at these children
unfoldable pub each_part : (ℕ → lazy.Operand) → Bool → List ℕ → List lazy.Operand
unfolding value_node
each_part g named [] = []
each_part g named (k ∷ ks) = g (value_node named k) ∷ each_part g named ks

parts_items : (g : ℕ → lazy.Operand) (ks : List ℕ) → each_node g ks ≡ each_part g false ks
unfolding each_node each_part value_node
parts_items g [] = refl
parts_items g (k ∷ ks) = ap (λ (l : List lazy.Operand). g k ∷ l) (parts_items g ks)

parts_fields : (s : Bytes) (t : List ℕ) (g : ℕ → lazy.Operand) (ks : List ℕ) → seconds (each_name s t g ks) ≡ each_part g true ks
unfolding each_name seconds each_part value_node
parts_fields s t g [] = refl
parts_fields s t g (k ∷ ks) = ap (λ (l : List lazy.Operand). g (k + 1) ∷ l) (parts_fields s t g ks)

none_collected : (p : Shape lazy.Operand) → Flat (shape_class p) → collected p ≡ None
none_collected nothing h = refl
none_collected (truth false) h = refl
none_collected (truth true) h = refl
none_collected (digits x) h = refl
none_collected (words x) h = refl
none_collected (items x) h = absurd (h.no_array refl)
none_collected (fields x) h = absurd (h.no_object refl)

-- an operand that has parts is an array or an object
pub each_holds : (s : Bytes) (t : List ℕ) (o : Operand) (named : Bool) → class_of o.kind ≡ holder_class named → OperandAt s t o → Holds s t named o.node
each_holds s t o true e f = object_kind s t o.node o.kind f.fits e
each_holds s t o false e f = array_kind s t o.node o.kind f.fits e

-- an answer for each of the parts that an operand has
abbrev Over : Mode → (lazy.Operand → Result Answer) → Option (List lazy.Operand) → Result Answer
Over m body None = ok (unknown [])
Over m body (Some xs) = in_turn m body xs

module _ (sheet : Sheet Condition) (s : Bytes) (t : List ℕ) (fs : lazy.Frames) (m : Mode) (x : Bytes) (that : Condition) (o : Operand) where
  abbrev answer : lazy.Operand → Result Answer
  answer p = judge sheet ((x, p) ∷ fs) that

  opened : each_of sheet fs m x that (operand_of s t o) ≡ Over m answer (collected (shape_of sheet s t fs o))
  unfolding each_of over_of
  opened = go (collected (shape sheet fs (operand_of s t o))) refl ∙ ap (λ (p : Shape lazy.Operand). Over m answer (collected p)) (shape_kind sheet s t fs o.node o.depth o.kind)
    where
      go : (p : Option (List lazy.Operand)) → collected (shape sheet fs (operand_of s t o)) ≡ p →
          each_of sheet fs m x that (operand_of s t o) ≡ Over m answer (collected (shape sheet fs (operand_of s t o)))
      go None q = rw (q, over_of)
      go (Some xs) q = rw (q, over_of)

  each_none : Flat (class_of o.kind) → each_of sheet fs m x that (operand_of s t o) ≡ ok (unknown [])
  each_none h = opened ∙ ap (Over m answer) (none_collected (shape_of sheet s t fs o) (subst Flat (sym (class_is sheet s t fs o.node o.depth o.kind)) h))

  each_parts : (named : Bool) → class_of o.kind ≡ holder_class named →
      each_of sheet fs m x that (operand_of s t o) ≡ in_turn m answer (each_part (part_at sheet s t fs o) named (kids s t o.node named))
  each_parts true e =
      opened ∙
      ap (λ (p : Shape lazy.Operand). Over m answer (collected p)) (object_is sheet s t fs o.node o.depth o.kind e) ∙
      ap (in_turn m answer) (parts_fields s t (part_at sheet s t fs o) (kids s t o.node true))
  each_parts false e =
      opened ∙
      ap (λ (p : Shape lazy.Operand). Over m answer (collected p)) (array_is sheet s t fs o.node o.depth o.kind e) ∙
      ap (in_turn m answer) (parts_items (part_at sheet s t fs o) (kids s t o.node false))

-- a body's answer for the first part
module _ (m : Mode) (body : lazy.Operand → Result Answer) (p : lazy.Operand) (ps : List lazy.Operand) where
  first_refused : (f : Refusal) → body p ≡ refused f → in_turn m body (p ∷ ps) ≡ refused f
  unfolding in_turn
  first_refused f e = rw e

  first_settles : (a : Answer) → body p ≡ ok a → settles m a.truth ≡ true → in_turn m body (p ∷ ps) ≡ ok a
  unfolding in_turn
  first_settles a e q = bind_ok _ e ∙ rw q refl

  first_joins : (a : Answer) → body p ≡ ok a → settles m a.truth ≡ false → in_turn m body (p ∷ ps) ≡ (in_turn m body ps >>= λ b. ok (joined m a b))
  unfolding in_turn
  first_joins a e q = bind_ok _ e ∙ rw q refl

-- what a node gives is one thing
same_given : {A : Type 0} {kind : Value → Result A} {s : Bytes} {t : List ℕ} {n : ℕ} {a b : A} → Gives kind s t n a → Gives kind s t n b → a ≡ b
same_given {A} {a = a} {b = b} g h = let z : ◌≡◌ {A = Result A} (ok a) (ok b) = sym g.is ∙ h.is in cc (z)

-- ---- the walk over its parts: w₀ the words at entry, w now
pub record Turning (s : Bytes) (w₀ : List ℕ) (sheet : Sheet Condition) (f : Frames) (m : Mode) (name node : ℕ) (o : Operand)
    (named : Bool) (w : List ℕ) (t : code.Truth) (c : Children) : Type 0 where
  pub that : Condition
  pub gives : Gives condition s (table w₀) node that
  pub names : Names
  pub left : Left s w₀ w names
  pub walk : ChildrenAt s (table w₀) c
  pub over : c.named ≡ named
  pub rest : each_of sheet (frames_of s (table w₀) f) m (text_at s name) that (operand_of s (table w₀) o) ≡
      Joining m (record { truth = truth_of t; names = names })
      (in_turn m (λ p. judge sheet ((text_at s name, p) ∷ frames_of s (table w₀) f) that)
      (each_part (part_at sheet s (table w₀) (frames_of s (table w₀) f) o) named (children_of (table w₀) c)))

-- whichever condition the body's node gives: under these frames, and over all parts
abbrev pub BodyAs : Bytes → List ℕ → List ℕ → Sheet Condition → lazy.Frames → ℕ → Fallible code.Truth EvalError → Type 0
BodyAs s w w' sheet fs node r = (d : Condition) → Gives condition s (table w) node d → EvaluatedAs s w w' r (judge sheet fs d)

abbrev pub EachAs : Bytes → List ℕ → List ℕ → Sheet Condition → Frames → Mode → ℕ → ℕ → Operand → Fallible code.Truth EvalError → Type 0
EachAs s w w' sheet f m name node o r =
    (d : Condition) → Gives condition s (table w) node d → EvaluatedAs s w w' r
    (each_of sheet (frames_of s (table w) f) m (text_at s name) d (operand_of s (table w) o))

module _ (s : Bytes) (w : List ℕ) (sheet : Sheet Condition) (f : Frames) (m : Mode) (name node : ℕ) (o : Operand) where
  -- what is no collection
  pub each_unknown : Flat (class_of o.kind) → EachAs s w w sheet f m name node o (Ok truths.Unknown)
  each_unknown h d g = record { names = []; met = []; means = sym (each_none sheet s (table w) (frames_of s (table w) f) m (text_at s name) d o h); left = left_none s w; marks = refl }

  pub turn_begin : (named : Bool) → class_of o.kind ≡ holder_class named → OperandAt s (table w) o → Linked s (table w) → Known (Gives condition s (table w) node) →
      {t : code.Truth} → truth_of t ≡ start m → {c : Children} → c ≡ begun (table w) o.node named → Turning s w sheet f m name node o named w t c
  turn_begin named is_class fits linked known e {c} q =
      let body : lazy.Operand → Result Answer = λ p. judge sheet ((text_at s name, p) ∷ frames_of s (table w) f) known.given in
      let over : List ℕ → Result Answer = λ ks. in_turn m body (each_part (part_at sheet s (table w) (frames_of s (table w) f) o) named ks) in
      let h = each_holds s (table w) o named is_class fits in
      record {
        that = known.given;
        gives = known.known;
        names = [];
        left = left_none s w;
        walk = walk_begins named h linked q;
        over = walk_named named h linked q;
        rest =
            each_parts sheet s (table w) (frames_of s (table w) f) m (text_at s name) known.given o named is_class ∙
            ap over (sym (walk_kids named h linked q)) ∙
            sym (joining_none m (over (children_of (table w) c))) ∙
            ap (λ (y : Truth). Joining m (record { truth = y; names = [] }) (over (children_of (table w) c))) (sym e);
      }

module _ {s : Bytes} {w₀ : List ℕ} {sheet : Sheet Condition} {f : Frames} {m : Mode} {name node : ℕ} {o : Operand} {named : Bool}
    {w : List ℕ} {t : code.Truth} {c : Children} (g : Turning s w₀ sheet f m name node o named w t c) where
  abbrev fs : lazy.Frames
  fs = frames_of s (table w₀) f

  abbrev so_far : Answer
  so_far = record { truth = truth_of t; names = g.names }

  abbrev body : lazy.Operand → Result Answer
  body p = judge sheet ((text_at s name, p) ∷ fs) g.that

  abbrev part : ℕ → lazy.Operand
  part k = part_at sheet s (table w₀) fs o (value_node named k)

  for_each : {w' : List ℕ} {r : Fallible code.Truth EvalError} →
      EvaluatedAs s w₀ w' r (each_of sheet (frames_of s (table w₀) f) m (text_at s name) g.that (operand_of s (table w₀) o)) →
      EachAs s w₀ w' sheet f m name node o r
  for_each {w'} {r} a d h = subst (λ (x : Condition). EvaluatedAs s w₀ w' r (each_of sheet fs m (text_at s name) x (operand_of s (table w₀) o))) (same_given g.gives h) a

  gives_now : Gives condition s (table w) node g.that
  gives_now = subst (λ (y : List ℕ). Gives condition s y node g.that) (sym g.left.rows) g.gives

  pub turn_gives : Known (Gives condition s (table w) node)
  turn_gives = record { given = g.that; known = gives_now }

  none_left : children_of (table w₀) c ≡ [] →
      in_turn m body (each_part (part_at sheet s (table w₀) fs o) named (children_of (table w₀) c)) ≡
      ok (record { truth = start m; names = [] })
  unfolding in_turn each_part
  none_left e = rw e

  -- what the walk told, among the rows at entry
  told : {r : Option Next} → r ≡ next_of (table w) c → r ≡ next_of (table w₀) c
  told h = h ∙ ap (λ (y : List ℕ). next_of y c) g.left.rows

  -- no part is left
  pub turn_end : {r : Option Next} → r ≡ next_of (table w) c → r ≡ None → EachAs s w₀ w sheet f m name node o (Ok t)
  turn_end h i =
      let e = child_end g.walk (told h) i in
      let done : each_of sheet fs m (text_at s name) g.that (operand_of s (table w₀) o) ≡ ok so_far = g.rest ∙ ap (Joining m so_far) (none_left e) ∙ joining_last m so_far in
      for_each (record { names = g.names; met = g.names; means = sym done; left = g.left; marks = refl })

  pub turn_given : {r : Option Next} → r ≡ next_of (table w) c → (x : Next) → r ≡ Some x → Given s (table w₀) c x.node x.rest
  turn_given h x i = child_given g.walk (told h) x i

  -- one part more
  module _ {k : ℕ} {c' : Children} (x : Given s (table w₀) c k c') where
    turn_child : HasNode s (table w₀) (value_node named k) × (k < 4096)
    turn_child = value_there s (table w₀) named (subst (λ (b : Bool). ChildAt s (table w₀) b k) g.over x.child)

    pub turn_below : k < 4096
    turn_below = turn_child.1

    pub turn_node : {v : ℕ} → v ≡ value_node named k → HasNode s (table w) v
    turn_node e = rw (e, g.left.rows) turn_child.0

    abbrev others : Result Answer
    others = in_turn m body (each_part (part_at sheet s (table w₀) fs o) named (children_of (table w₀) c'))

    turn : {y : Result Answer} → in_turn m body (part k ∷ each_part (part_at sheet s (table w₀) fs o) named (children_of (table w₀) c')) ≡ y →
        each_of sheet fs m (text_at s name) g.that (operand_of s (table w₀) o) ≡ Joining m so_far y
    unfolding each_part
    turn e = g.rest ∙ ap (λ (ks : List ℕ). Joining m so_far (in_turn m body (each_part (part_at sheet s (table w₀) fs o) named ks))) x.children ∙ ap (Joining m so_far) e

    -- the body, under the part's frame
    module _ {v : ℕ} (is_node : v ≡ value_node named k) {w' : List ℕ} {r : Fallible code.Truth EvalError}
        (evaluated : BodyAs s w w' sheet ((text_at s name, part_at sheet s (table w) (frames_of s (table w) f) o v) ∷ frames_of s (table w) f)
        node r) where
      a : EvaluatedAs s w w' r (judge sheet ((text_at s name, part_at sheet s (table w) (frames_of s (table w) f) o v) ∷ frames_of s (table w) f) g.that)
      a = evaluated g.that gives_now

      frames_are : (text_at s name, part_at sheet s (table w) (frames_of s (table w) f) o v) ∷ frames_of s (table w) f ≡ (text_at s name, part k) ∷ fs
      frames_are =
          ap (λ (y : List ℕ). (text_at s name, part_at sheet s y (frames_of s y f) o v) ∷ frames_of s y f) g.left.rows ∙
          ap (λ (j : ℕ). (text_at s name, part_at sheet s (table w₀) fs o j) ∷ fs) is_node

      answered : outcome_of s (table w₀) a.names r ≡ body (part k)
      answered = ap (λ (y : List ℕ). outcome_of s y a.names r) (sym g.left.rows) ∙ a.means ∙ ap (λ (y : lazy.Frames). judge sheet y g.that) frames_are

      marked : Marks s (table w₀) a.names a.met r
      marked = subst (λ (y : List ℕ). Marks s y a.names a.met r) g.left.rows a.marks

      pub turn_refused : (x : EvalError) → r ≡ Err x → EachAs s w₀ w' sheet f m name node o (Err x)
      turn_refused x e = for_each (go x e)
        where
          go : (y : EvalError) → r ≡ Err y → EvaluatedAs s w₀ w' (Err y) (each_of sheet (frames_of s (table w₀) f) m (text_at s name) g.that (operand_of s (table w₀) o))
          go (errors.UnknownExpression n) i =
              record {
                names = [];
                met = g.names ++ a.met;
                means = sym (turn (first_refused m body (part k) _ _ (sym (ap (outcome_of s (table w₀) a.names) (sym i) ∙ answered))));
                left = left_then g.left a.left;
                marks = subst (Marks s (table w₀) a.names a.met) i marked;
              }
          go errors.NoId i =
              record {
                names = [];
                met = g.names ++ a.met;
                means = sym (turn (first_refused m body (part k) _ _ (sym (ap (outcome_of s (table w₀) a.names) (sym i) ∙ answered))));
                left = left_then g.left a.left;
                marks = tt;
              }

      module _ (u : code.Truth) (e : r ≡ Ok u) (t' : code.Truth) (is_join : truth_of t' ≡ join m (truth_of t) (truth_of u))
          {b : Bool} (is_settled : b ≡ settles m (truth_of u)) where
        abbrev now : Answer
        now = record { truth = truth_of u; names = a.names }

        first : body (part k) ≡ ok now
        first = sym (ap (outcome_of s (table w₀) a.names) (sym e) ∙ answered)

        left_now : Left s w₀ w' (g.names ++ a.names)
        left_now = subst (λ (ns : Names). Left s w₀ w' (g.names ++ ns)) (subst (Marks s (table w₀) a.names a.met) e marked) (left_then g.left a.left)

        answer_is : joined m so_far now ≡ record { truth = truth_of t'; names = g.names ++ a.names }
        answer_is = ap (λ (y : Truth). record { truth = y; names = g.names ++ a.names }) (sym is_join)

        pub turn_settled : b ≡ true → EachAs s w₀ w' sheet f m name node o (Ok t')
        turn_settled q =
            for_each
            (record {
              names = g.names ++ a.names;
              met = g.names ++ a.names;
              means = sym
                  (turn (first_settles m body (part k) _ now first (sym is_settled ∙ q)) ∙ ap {B = Result Answer} (λ y. ok y) answer_is);
              left = left_now;
              marks = refl;
            })

        pub turn_on : b ≡ false → Turning s w₀ sheet f m name node o named w' t' c'
        turn_on q = record {
          that = g.that;
          gives = g.gives;
          names = g.names ++ a.names;
          left = left_now;
          walk = x.walk;
          over = x.same ∙ g.over;
          rest = turn (first_joins m body (part k) _ now first (sym is_settled ∙ q)) ∙ joining_twice m so_far now others ∙ ap (λ (y : Answer). Joining m y others) answer_is;
        }

-- what falls: the brackets left
pub part_falls : (l : ℕ) {t : ℕ} → 3 * l + 1 ≡ t → 3 * l < t
part_falls l e = omega arith

pub each_falls : (l : ℕ) {t : ℕ} → 3 * l + 2 ≡ t → 3 * l + 1 < t
each_falls l e = omega arith

pub quantify_falls : (l : ℕ) {t : ℕ} → 3 * l + 2 ≡ t → 1 ≤ l → 3 * (l - 1) + 2 < t
quantify_falls l e h = omega arith

-- a part under its name fits a slot
pub part_small : {s : Bytes} {t : List ℕ} {name : ℕ} {p : Operand} → length s ≤ 32768 → OnText s name 0 → OperandAt s t p → Small (record { name = name; operand = p })
part_small short n p = record { name = omega (arith, n.text.order, n.text.upto); node = omega arith; depth = omega arith }

-- frames with one more
pub pushed : {s : Bytes} {w : List ℕ} {roots : Roots} {f g : Frames} {name : ℕ} {p : Operand} → Ready s w roots f → f.depth + 1 ≤ 32
    → OnText s name 0 → OperandAt s (table w) p → g.depth ≡ f.depth + 1 → held g ≡
    record { name = name; operand = p } ∷ held f → Ready s w roots g
unfolding Named Bound
pushed r l n p d h = record {
  rows = r.rows;
  short = r.short;
  rooted = r.rooted;
  linked = r.linked;
  bound = record { within = omega arith; names = rw h (n, r.bound.names); operands = rw h (p, r.bound.operands) };
}

-- the body under such frames
pub body_under : (sheet : Sheet Condition) (f g : Frames) {s : Bytes} {w w' : List ℕ} {name node : ℕ} {p : Operand}
    {part : lazy.Operand} {r : Fallible code.Truth EvalError} → Means s (table w) p part → held g ≡
    record { name = name; operand = p } ∷ held f → BodyAs s w w' sheet (frames_of s (table w) g) node r → BodyAs s w w' sheet
    ((text_at s name, part) ∷ frames_of s (table w) f) node r
unfolding framed
body_under sheet f g {s} {w} {w'} {name = name} {r = r} i h b d x =
    let e = ap (framed s (table w)) h ∙ ap (λ (y : lazy.Operand). (text_at s name, y) ∷ frames_of s (table w) f) i.means in
    subst (λ (fs : lazy.Frames). EvaluatedAs s w w' r (judge sheet fs d)) e (b d x)

-- ---- the whole quantifier
-- marks of nothing before it change nothing
after_none :
    {s : Bytes} {w w' w'' : List ℕ} {ns : Names} {r : Fallible code.Truth EvalError} {m : Result Answer} → Left s w w' ns → ns ≡ [] → EvaluatedAs s w' w'' r m →
    EvaluatedAs s w w'' r m
after_none {s} {w} {w'} {w''} {ns} {r} l e a = record {
  names = a.names;
  met = a.met;
  means = ap (λ (t : List ℕ). outcome_of s t a.names r) (sym l.rows) ∙ a.means;
  left = subst (λ (ms : Names). Left s w w'' (ms ++ a.met)) e (left_then l a.left);
  marks = subst (λ (t : List ℕ). Marks s t a.names a.met r) l.rows a.marks;
}

module _ {s : Bytes} {w w' : List ℕ} (sheet : Sheet Condition) (f : Frames) {m : Mode} {n : ℕ} {q : Quantifier} {c : Condition}
    (p : QuantifierParts s (table w) m n q c) {r : Fallible (Option Operand) EvalError}
    (a : ResolvedAs false s w w' r (operand sheet (frames_of s (table w) f) (tree s (table w) q.over))) where
  abbrev frames : lazy.Frames
  frames = frames_of s (table w) f

  abbrev over : Resolved lazy.Operand → Result Answer
  over x = over_of sheet frames m (λ y. judge sheet ((text_at s q.name, y) ∷ frames) p.body) x

  judged : {x : Result (Resolved lazy.Operand)} → operand sheet frames (tree s (table w) q.over) ≡ x → judge sheet frames c ≡ (x >>= over)
  unfolding judge
  judged e = ap (judge sheet frames) p.is ∙ ap (λ (x : Result (Resolved lazy.Operand)). x >>= over) e

  quantify_refused : (g : Refusal) → operand sheet frames (tree s (table w) q.over) ≡ refused g → judge sheet frames c ≡ refused g
  quantify_refused g e = judged e

  pub quantify_stops : (x : EvalError) → r ≡ Err x → EvaluatedAs s w w' (Err x) (judge sheet (frames_of s (table w) f) c)
  quantify_stops x e = refused_first a x e quantify_refused

  pub quantify_missing : r ≡ (Ok None) → EvaluatedAs s w w' (Ok truths.Unknown) (judge sheet (frames_of s (table w) f) c)
  unfolding over_of
  quantify_missing e = let x = is_missing a e in record { names = a.names; met = a.met; means = sym (judged x.0); left = a.left; marks = x.1 }

  gives_after : Gives condition s (table w') q.body p.body
  gives_after = subst (λ (t : List ℕ). Gives condition s t q.body p.body) (sym a.left.rows) p.gives

  -- what the walk over its parts asks
  pub over_fits : (o : Operand) → r ≡ Ok (Some o) → OperandAt s (table w') o
  over_fits o e = rw a.left.rows (is_present_lem a o e).1

  pub body_known : Known (Gives condition s (table w') q.body)
  body_known = record { given = p.body; known = gives_after }

  pub body_shallow : {l : ℕ} → depth (tree s (table w) n) ≤ l → depth (tree s (table w') q.body) ≤ l - 1
  body_shallow h = rw a.left.rows (omega (arith, p.body_depth))

  pub quantify_each : (o : Operand) → r ≡ Ok (Some o) → {w'' : List ℕ} {y : Fallible code.Truth EvalError} →
      EachAs s w' w'' sheet f m q.name q.body o y → EvaluatedAs s w w'' y (judge sheet (frames_of s (table w) f) c)
  unfolding each_of
  quantify_each o e {w''} {y} h =
      let x = is_present_lem a o e in
      let z : each_of sheet (frames_of s (table w') f) m (text_at s q.name) p.body (operand_of s (table w') o) ≡
      judge sheet frames c = ap (λ (t : List ℕ). each_of sheet (frames_of s t f) m (text_at s q.name) p.body (operand_of s t o))
      a.left.rows ∙
      sym (judged x.0) in
      after_none a.left x.2 (subst (EvaluatedAs s w' w'' y) z (h p.body gives_after))
