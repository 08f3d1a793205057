-- A condition by its operator, and the children of a junction, evaluated one after the other.
-- Assumes nothing.
use Rattle.std.specs.Prelude.{Result as Fallible, Ok, Err}
use Rattle.std.specs.Prelude.{Option, Some, option_map}
use mathlib.Core.Bool.{Bool, false, true}
use mathlib.Core.List.{List, [], ◌++◌}
use mathlib.Core.Path.{ap, refl, subst, sym, ◌∙◌, ◌≡◌}
use Prim.Native.Nat.{max, ℕ, ◌*◌, ◌+◌, ◌-◌, ◌<◌, ◌≤◌}
use native.Mathlib.Omega.{arith}
use lib.Dec.{ltb}
use lib.ListN.{length}
use borrow.Author.Tests.{ltb-false, ltb-true}
use Rattle.json_text.proofs.Laws.{bind_ok, bind_refused, ok_injective, same_bytes_refl}
use Rattle.json_text.proofs.Walk.{find_here, members_done, values_more}
use Rattle.json_text.specs.Bytes.{Bytes, find}
use Rattle.json_text.specs.Held.{HasNode}
use Rattle.json_text.specs.Json.{Value, Values, object}
use Rattle.json_text.specs.Limits.{depth, depth_in}
use Rattle.json_text.specs.Refusal.{Result, ok, wrong_shape, ◌>>=◌}
use Rattle.json_text.specs.Sorted.{sorted, sorted_in}
use Rattle.json_text.specs.Spans.{text_at}
use Rattle.json_text.specs.Table.{after_at, kind_at, start_at, value_at, values_at}
use Rattle.semantics.specs.Evaluate.{Answer}
use Rattle.semantics.specs.Names.{Names}
use Rattle.semantics.specs.Told.{truth_of}
use Rattle.semantics.specs.Truth.{Truth, join, negate, start}
use Rattle.semantics.specs.declared.truth.Truth as code
use Rattle.semantics.specs.declared.truth.Truth.TheVariants as truths
use Rattle.sheet.proofs.Given.{ObjectHere, object_here}
use Rattle.sheet.specs.Accepted.{ConditionsGive, Gives, Known}
use Rattle.sheet.proofs.GivenConditions.{
  NextCondition,
  OneMember,
  conditions_done,
  conditions_next,
  given_exists,
  given_junction,
  given_negation,
  given_pair,
  literal_false,
  literal_true,
  one_member_lem,
}
use Rattle.members.proofs.Shapes.{object_at}
use Rattle.members.proofs.Verdicts.{never}
use Rattle.members.specs.Answers.{form_of, mode_of, operator_of}
use Rattle.members.specs.Condition.{Condition, Conditions, Mode, condition, condition_array, condition_object, exists, formed, negation, one_member, operators, pair}
use Rattle.members.specs.Sheet.{Sheet}
use Rattle.members.specs.declared.told.Form.{Form as CodeForm}
use Rattle.members.specs.declared.told.Mode.{Mode as CodeMode}
use Rattle.members.specs.declared.told.Operator.{Operator as CodeOperator}
use Rattle.members.specs.declared.told.Operator.TheVariants as ops
use Rattle.resolving.proofs.Marking.{left_none, left_then}
use Rattle.paths.proofs.Ordered.{node_below}
use Rattle.paths.specs.Lazy as lazy
use Rattle.paths.specs.Marks.{Left}
use Rattle.paths.specs.Stored.{HasKind, table, tree}
use Rattle.comparison.specs.Answers.{EvaluatedAs, Marks, outcome_of}
use Rattle.evaluation.specs.Conditions.{QuantifierAt}
use Rattle.comparison.specs.Judge.{judge, judge_all}
use Rattle.paths.specs.declared.operand.EvalError.{EvalError}
use Rattle.paths.specs.declared.operand.EvalError.TheVariants as errors
use Rattle.strings.specs.Answers.{code_of}
use Rattle.strings.specs.declared.rows.Kind.{Kind}
use Rattle.strings.specs.declared.rows.Kind.TheVariants as kinds
use Rattle.comparison.proofs.Joined.{Joining, joining_last, joining_none, joining_twice}
use Rattle.evaluation.proofs.Shallow.{array_depth, member_shallow, pair_shallow}

-- ---- a condition by its kind
module _ (sheet : Sheet Condition) (fs : lazy.Frames) {s : Bytes} {w : List ℕ} {n : ℕ} {c : Condition}
    (g : Gives condition s (table w) n c) {k : Kind} (q : code_of k ≡ kind_at (table w) n) where
  pub judged_true : k ≡ kinds.True → EvaluatedAs s w w (Ok truths.True) (judge sheet fs c)
  unfolding judge
  judged_true e = rw (literal_true g (sym q ∙ ap code_of e)) record { names = []; met = []; means = refl; left = left_none s w; marks = refl }

  pub judged_false : k ≡ kinds.False → EvaluatedAs s w w (Ok truths.False) (judge sheet fs c)
  unfolding judge
  judged_false e = rw (literal_false g (sym q ∙ ap code_of e)) record { names = []; met = []; means = refl; left = left_none s w; marks = refl }

-- the kinds of the codes 1 and 2
code_true : (k : Kind) → code_of k ≡ 1 → k ≡ kinds.True
code_true kinds.True e = refl
code_true kinds.Null e = absurd (omega arith)
code_true kinds.False e = absurd (omega arith)
code_true kinds.Number e = absurd (omega arith)
code_true kinds.Text e = absurd (omega arith)
code_true kinds.Array e = absurd (omega arith)
code_true kinds.Object e = absurd (omega arith)
code_true kinds.Free e = absurd (omega arith)

code_false : (k : Kind) → code_of k ≡ 2 → k ≡ kinds.False
code_false kinds.False e = refl
code_false kinds.Null e = absurd (omega arith)
code_false kinds.True e = absurd (omega arith)
code_false kinds.Number e = absurd (omega arith)
code_false kinds.Text e = absurd (omega arith)
code_false kinds.Array e = absurd (omega arith)
code_false kinds.Object e = absurd (omega arith)
code_false kinds.Free e = absurd (omega arith)

-- its one member, whose value stands two nodes on
module _ {s : Bytes} {t : List ℕ} {n : ℕ} {c : Condition} (g : Gives condition s t n c) {k : Kind} (q : code_of k ≡ kind_at t n)
    (not_true : k ≡ kinds.True → ⊥) (not_false : k ≡ kinds.False → ⊥) where
  pub the_member : OneMember s t n c
  the_member = one_member_lem g (λ e. not_true (code_true k (q ∙ e))) (λ e. not_false (code_false k (q ∙ e)))

  -- it nests less deep
  less_deep : depth (tree s t (n + 1 + 1)) < depth (tree s t n)
  unfolding sorted condition one_member
  less_deep = go (ltb (n + 1) (after_at t n)) refl
    where
      x : ObjectHere s t n
      x = object_here g.node g.is_tidy _ (object_at g.node the_member.is_kind).0

      go : (b : Bool) → ltb (n + 1) (after_at t n) ≡ b → depth (tree s t (n + 1 + 1)) < depth (tree s t n)
      go true i = let name = text_at s (start_at t (n + 1)) in member_shallow x name (n + 1 + 1) (find_here s t name x.members (ltb-true (n + 1) (after_at t n) i) (same_bytes_refl name))
      go false i = never wrong_shape c (sym (ap (λ (v : Value). condition (sorted v)) (x.value ∙ ap object (members_done s t x.members (ltb-false (n + 1) (after_at t n) i)))) ∙ g.is)

  two_on : n + 1 + 1 ≡ n + 2
  two_on = omega arith

  pub inner_node : HasNode s t (n + 2)
  inner_node = subst (HasNode s t) two_on (record { left = 64; is_node = the_member.inner })

  pub inner_shallow : {l : ℕ} → depth (tree s t n) ≤ l → (1 ≤ l) × (depth (tree s t (n + 2)) ≤ l - 1)
  inner_shallow h =
      let d = less_deep in
      let e = ap (λ (i : ℕ). depth (tree s t i)) two_on in
      (omega arith, omega arith)

  -- by the operator that its name asks for
  module _ {a : ℕ} (p : a ≡ start_at t (n + 1)) {o : Option CodeOperator} (f : find (text_at s a) operators ≡ option_map operator_of o) {r : CodeOperator} (i : o ≡ Some r) where
    asked : find (text_at s a) operators ≡ Some (operator_of r)
    asked = f ∙ ap (option_map operator_of) i

    made : (x : CodeOperator) → r ≡ x →
        formed (sorted (value_at s t (n + 1 + 1))) (condition (sorted (value_at s t (n + 1 + 1))))
        (condition_array (sorted (value_at s t (n + 1 + 1)))) (condition_object (sorted (value_at s t (n + 1 + 1)))) (Some (operator_of x)) ≡ ok c
    made x e =
        sym
        (ap
        (formed (sorted (value_at s t (n + 1 + 1))) (condition (sorted (value_at s t (n + 1 + 1))))
        (condition_array (sorted (value_at s t (n + 1 + 1)))) (condition_object (sorted (value_at s t (n + 1 + 1)))))
        (ap (λ (z : ℕ). find (text_at s z) operators) (sym p) ∙ asked ∙ ap (λ (y : CodeOperator). Some (operator_of y)) e)) ∙
        the_member.is_formed

    pub a_junction : (m : CodeMode) → r ≡ ops.Junction m → HasKind s t (n + 2) 5 × Known (ConditionsGive s t (n + 2 + 1) (after_at t (n + 2)))
    a_junction m e =
        let x = given_junction the_member a p r asked m e in subst
        (λ (i : ℕ). HasKind s t i 5 × Known (ConditionsGive s t (i + 1) (after_at t i))) two_on
        (record { node = record { left = 64; is_node = the_member.inner }; kind = x.2 }, record { given = x.0; known = x.3 })

    pub a_negation : r ≡ ops.Negation → Known (Gives condition s t (n + 2))
    a_negation e = let x = given_negation the_member a p r asked e in record { given = x.0; known = subst (λ (i : ℕ). Gives condition s t i x.0) two_on x.2 }

    pub a_pair : (m : CodeForm) → r ≡ ops.Pair m → HasNode s t (n + 2 + 1) × HasNode s t (after_at t (n + 2 + 1))
    a_pair m e =
        let x = given_pair the_member a p r asked m e in subst (λ (i : ℕ). HasNode s t (i + 1) × HasNode s t (after_at t (i + 1))) two_on
        (record { left = 64; is_node = x.left }, record { left = 64; is_node = x.right })

    pub operands_shallow : (m : CodeForm) → r ≡ ops.Pair m → {l : ℕ} → depth (tree s t n) ≤ l →
        (depth (tree s t (n + 2 + 1)) ≤ l - 1) × (depth (tree s t (after_at t (n + 2 + 1))) ≤ l - 1)
    unfolding operator_of tree
    operands_shallow m e {l} h =
        let x = given_pair the_member a p r asked m e in
        let d = pair_shallow (form_of m) (sorted (value_at s t (n + 1 + 1))) (sorted (value_at s t (n + 1 + 1 + 1)))
        (sorted (value_at s t (after_at t (n + 1 + 1 + 1)))) c (made (ops.Pair m) e) x.is in
        let b = less_deep in
        subst (λ (i : ℕ). (depth (tree s t (i + 1)) ≤ l - 1) × (depth (tree s t (after_at t (i + 1))) ≤ l - 1)) two_on (omega arith, omega arith)

    a_quantifier : (m : CodeMode) → r ≡ ops.Quantified m → QuantifierAt s t (mode_of m) (n + 2) c
    unfolding operator_of
    a_quantifier m e = subst (λ (i : ℕ). QuantifierAt s t (mode_of m) i c) two_on (record { node = the_member.inner; is_tidy = the_member.is_tidy; is = made (ops.Quantified m) e })

    pub known_quantifier : (m : CodeMode) → r ≡ ops.Quantified m → Known (QuantifierAt s t (mode_of m) (n + 2))
    known_quantifier m e = record { given = c; known = a_quantifier m e }

    module _ (sheet : Sheet Condition) (fs : lazy.Frames) {w w' : List ℕ} {x : Fallible code.Truth EvalError} where
      pub judged_junction : (m : CodeMode) → r ≡ ops.Junction m →
          ((cs : Conditions) → ConditionsGive s t (n + 2 + 1) (after_at t (n + 2)) cs → EvaluatedAs s w w' x
          (judge_all sheet fs (mode_of m) cs)) → EvaluatedAs s w w' x (judge sheet fs c)
      unfolding judge
      judged_junction m e h = let y = given_junction the_member a p r asked m e in rw y.1 (h y.0 (subst (λ (i : ℕ). ConditionsGive s t (i + 1) (after_at t i) y.0) two_on y.3))

      negated : r ≡ ops.Negation → ((d : Condition) → Gives condition s t (n + 2) d → EvaluatedAs s w w' x (judge sheet fs d)) →
          (d : Condition) × (c ≡ negation d) × EvaluatedAs s w w' x (judge sheet fs d)
      negated e h = let z = given_negation the_member a p r asked e in (z.0, z.1, h z.0 (subst (λ (i : ℕ). Gives condition s t i z.0) two_on z.2))

      pub judged_negation : r ≡ ops.Negation → ((d : Condition) → Gives condition s t (n + 2) d → EvaluatedAs s w w' x (judge sheet fs d)) →
          (u : code.Truth) → x ≡ Ok u → {v : code.Truth} → truth_of v ≡ negate (truth_of u) → EvaluatedAs s w w' (Ok v) (judge sheet fs c)
      unfolding judge
      judged_negation e h u i {v} j =
          let z = negated e h in
          let b : EvaluatedAs s w w' (Ok u) (judge sheet fs z.0) = subst (λ (y : Fallible code.Truth EvalError). EvaluatedAs s w w' y (judge sheet fs z.0)) i z.2 in
          rw z.1
          record {
            names = b.names;
            met = b.met;
            means = ap {B = Result Answer} (λ (y : Truth). ok (record { truth = y; names = b.names })) j ∙ sym (bind_ok _ (sym b.means));
            left = b.left;
            marks = b.marks;
          }

      pub refused_negation : r ≡ ops.Negation → ((d : Condition) → Gives condition s t (n + 2) d → EvaluatedAs s w w' x (judge sheet fs d)) →
          (y : EvalError) → x ≡ Err y → EvaluatedAs s w w' (Err y) (judge sheet fs c)
      unfolding judge
      refused_negation e h y i =
          let z = negated e h in
          rw z.1 (go z.0 y (subst (λ (v : Fallible code.Truth EvalError). EvaluatedAs s w w' v (judge sheet fs z.0)) i z.2))
        where
          go : (d : Condition) (v : EvalError) → EvaluatedAs s w w' (Err v) (judge sheet fs d) → EvaluatedAs s w w' (Err v) (judge sheet fs (negation d))
          go d (errors.UnknownExpression u) b = record { names = b.names; met = b.met; means = sym (bind_refused _ (sym b.means)); left = b.left; marks = b.marks }
          go d errors.NoId b = record { names = b.names; met = b.met; means = sym (bind_refused _ (sym b.means)); left = b.left; marks = tt }

      pub judged_exists : r ≡ ops.Exists → EvaluatedAs s w w' x (judge sheet fs (exists (tree s t (n + 2)))) → EvaluatedAs s w w' x (judge sheet fs c)
      unfolding tree
      judged_exists e h = rw (given_exists the_member a p r asked e, two_on) h

      pub judged_pair : (m : CodeForm) → r ≡ ops.Pair m →
          EvaluatedAs s w w' x (judge sheet fs (pair (form_of m) (tree s t (n + 2 + 1)) (tree s t (after_at t (n + 2 + 1))))) →
          EvaluatedAs s w w' x (judge sheet fs c)
      unfolding tree
      judged_pair m e h = rw ((given_pair the_member a p r asked m e).is, two_on) h

      pub judged_quantifier : (m : CodeMode) → r ≡ ops.Quantified m →
          ((d : Condition) → QuantifierAt s t (mode_of m) (n + 2) d → EvaluatedAs s w w' x (judge sheet fs d)) →
          EvaluatedAs s w w' x (judge sheet fs c)
      judged_quantifier m e h = h c (a_quantifier m e)

-- ---- a junction's children, one after the other: w₀ the words at entry, w now, and the answer so far
pub record Collecting (s : Bytes) (w₀ : List ℕ) (sheet : Sheet Condition) (fs : lazy.Frames) (m : Mode) (n l e : ℕ) (w : List ℕ) (truth : code.Truth) (k : ℕ) : Type 0 where
  pub ends : e ≡ after_at (table w₀) n
  pub names : Names
  pub left : Left s w₀ w names
  pub others : Conditions
  pub rest : ConditionsGive s (table w₀) k e others
  pub shallow : depth_in (sorted_in (values_at s (table w₀) k e)) ≤ l
  pub whole : (cs : Conditions) → ConditionsGive s (table w₀) (n + 1) (after_at (table w₀) n) cs →
      judge_all sheet fs m cs ≡ Joining m (record { truth = truth_of truth; names = names }) (judge_all sheet fs m others)

-- whichever conditions the nodes give
abbrev pub AllAs : Bytes → List ℕ → List ℕ → Sheet Condition → lazy.Frames → Mode → ℕ → Fallible code.Truth EvalError → Type 0
AllAs s w w' sheet fs m n r = (cs : Conditions) → ConditionsGive s (table w) (n + 1) (after_at (table w) n) cs → EvaluatedAs s w w' r (judge_all sheet fs m cs)

same_conditions : {s : Bytes} {t : List ℕ} {k e : ℕ} {cs ds : Conditions} → ConditionsGive s t k e cs → ConditionsGive s t k e ds → cs ≡ ds
same_conditions a b = ok_injective (sym a.is ∙ b.is)

pub collect_one : {s : Bytes} {t : List ℕ} {n : ℕ} → HasKind s t n 5 → {l : ℕ} → depth (tree s t n) ≤ l → 1 ≤ l
collect_one h d = omega (arith, array_depth h)

pub collect_begin : (s : Bytes) (w : List ℕ) (sheet : Sheet Condition) (fs : lazy.Frames) (m : Mode) {n l e : ℕ} {truth : code.Truth} →
    HasKind s (table w) n 5 → Known (ConditionsGive s (table w) (n + 1) (after_at (table w) n)) → depth (tree s (table w) n) ≤ l →
    e ≡ after_at (table w) n → truth_of truth ≡ start m → Collecting s w sheet fs m n (l - 1) e w truth (n + 1)
collect_begin s w sheet fs m {n} {l} {e} {truth} h c d q i = record {
  ends = q;
  names = [];
  left = left_none s w;
  others = c.given;
  rest = rw q c.known;
  shallow = rw q (omega (arith, array_depth h));
  whole = λ cs g. rw (same_conditions g c.known, i) (sym (joining_none m (judge_all sheet fs m c.given)));
}

module _ {s : Bytes} {w₀ : List ℕ} {sheet : Sheet Condition} {fs : lazy.Frames} {m : Mode} {n l e : ℕ} {w : List ℕ} {truth : code.Truth}
    {k : ℕ} (g : Collecting s w₀ sheet fs m n l e w truth k) where
  abbrev so_far : Answer
  so_far = record { truth = truth_of truth; names = g.names }

  -- no child is left
  pub collect_end : e ≤ k → AllAs s w₀ w sheet fs m n (Ok truth)
  unfolding judge
  collect_end h cs c = record { names = g.names; met = g.names; means = sym (g.whole cs c ∙ rw (conditions_done g.rest h) (joining_last m so_far)); left = g.left; marks = refl }

  -- one child more
  module _ (h : k < e) where
    pub child : NextCondition s (table w₀) k e g.others
    child = conditions_next g.rest h

    both : depth_in (sorted_in (values_at s (table w₀) k e)) ≡ max (depth (tree s (table w₀) k)) (depth_in (sorted_in (values_at s (table w₀) (after_at (table w₀) k) e)))
    unfolding depth_in sorted_in tree
    both = ap (λ (vs : Values). depth_in (sorted_in vs)) (values_more s (table w₀) g.rest.nodes h).value

    pub child_shallow : depth (tree s (table w₀) k) ≤ l
    child_shallow = omega (arith, both, g.shallow)

    pub child_below : k < 4096
    child_below = node_below s (table w₀) (record { left = 64; is_node = child.here.node })

    turn : {x : Result Answer} → judge sheet fs child.first ≡ x → (cs : Conditions) →
        ConditionsGive s (table w₀) (n + 1) (after_at (table w₀) n) cs →
        judge_all sheet fs m cs ≡ Joining m so_far (x >>= λ a. Joining m a (judge_all sheet fs m child.others))
    unfolding judge
    turn e cs c =
        g.whole cs c ∙
        ap (λ (ds : Conditions). Joining m so_far (judge_all sheet fs m ds)) child.is_also ∙
        ap (λ (y : Result Answer). Joining m so_far (y >>= λ a. Joining m a (judge_all sheet fs m child.others))) e

    module _ {w' : List ℕ} {r : Fallible code.Truth EvalError} (judged : (c : Condition) → Gives condition s (table w₀) k c → EvaluatedAs s w w' r (judge sheet fs c)) where
      a : EvaluatedAs s w w' r (judge sheet fs child.first)
      a = judged child.first child.here

      pub collect_long : length w' ≡ length w₀
      collect_long = a.left.long ∙ g.left.long

      pub collect_less : {k' : ℕ} → k' ≡ after_at (table w') k → e - k' < e - k
      collect_less q = let z = q ∙ ap (λ (t : List ℕ). after_at t k) (a.left.rows ∙ g.left.rows) in omega (arith, child.past, child.upto)

      answered : {x : Fallible code.Truth EvalError} → r ≡ x → judge sheet fs child.first ≡ outcome_of s (table w₀) a.names x
      answered {x} e = sym a.means ∙ ap (outcome_of s (table w) a.names) e ∙ ap (λ (t : List ℕ). outcome_of s t a.names x) g.left.rows

      marked : {x : Fallible code.Truth EvalError} → r ≡ x → Marks s (table w₀) a.names a.met x
      marked {x} e = subst (λ (t : List ℕ). Marks s t a.names a.met x) g.left.rows (subst (Marks s (table w) a.names a.met) e a.marks)

      pub collect_refused : (y : EvalError) → r ≡ Err y → AllAs s w₀ w' sheet fs m n (Err y)
      collect_refused (errors.UnknownExpression u) e cs c =
          record { names = []; met = g.names ++ a.met; means = sym (turn (answered e) cs c); left = left_then g.left a.left; marks = marked e }
      collect_refused errors.NoId e cs c = record { names = []; met = g.names ++ a.met; means = sym (turn (answered e) cs c); left = left_then g.left a.left; marks = tt }

      pub collect_on : {t truth' : code.Truth} → r ≡ Ok t → truth_of truth' ≡ join m (truth_of truth) (truth_of t) → {k' : ℕ} →
          k' ≡ after_at (table w') k → Collecting s w₀ sheet fs m n l e w' truth' k'
      collect_on {t} {truth'} i j q = rw (q, a.left.rows, g.left.rows) record {
        ends = g.ends;
        names = g.names ++ a.names;
        left = subst (λ (ns : Names). Left s w₀ w' (g.names ++ ns)) (marked i) (left_then g.left a.left);
        others = child.others;
        rest = child.rest;
        shallow = omega (arith, both, g.shallow);
        whole = λ cs c. turn (answered i) cs c ∙ joining_twice m so_far (record { truth = truth_of t; names = a.names }) (judge_all sheet fs m child.others) ∙ rw j;
      }

-- ---- what falls: brackets left, by three
pub child_falls : (l d : ℕ) {t : ℕ} → 3 * l ≡ t → 1 ≤ l → d ≤ 2 → 3 * (l - 1) + d < t
child_falls l d e h b = omega arith

pub inner_falls : (l : ℕ) {t : ℕ} → 3 * l ≡ t → 1 ≤ l → 3 * (l - 1) < t
inner_falls l e h = omega arith

pub element_falls : (l : ℕ) {t : ℕ} → 3 * l + 1 ≡ t → 1 ≤ l → 3 * (l - 1) < t
element_falls l e h = omega arith
