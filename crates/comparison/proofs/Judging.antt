-- `exists` and the pair forms, by what their operands are.
-- Assumes nothing.
use Rattle.std.specs.Prelude.{Option, Some, None, Result as Fallible, Ok, Err, is_some}
use mathlib.Core.Bool.{Bool, false, true}
use mathlib.Core.List.{List, [], ◌++◌, append-nil}
use mathlib.Core.Path.{ap, subst, sym, ◌∙◌, ◌≡◌}
use Prim.Native.Nat.{ℕ}
use Rattle.json_text.specs.Bytes.{Bytes}
use Rattle.json_text.specs.Json.{Value}
use Rattle.json_text.specs.Refusal.{Refusal, Result, ok, refused, ◌>>=◌}
use Rattle.members.specs.Condition.{Condition, Form, exists, pair}
use Rattle.members.specs.Sheet.{Sheet}
use Rattle.comparison.specs.Answers.{EvaluatedAs, Marks, outcome_of}
use Rattle.semantics.specs.Evaluate.{Answer, certain, is_present}
use Rattle.paths.specs.Comparing.{holds_of}
use Rattle.comparison.specs.Judge.{compared_of, judge}
use Rattle.paths.specs.Lazy as lazy
use Rattle.paths.specs.Lazy.{operand}
use Rattle.paths.specs.Marks.{Heard, ResolvedAs, heard, resolved_of}
use Rattle.semantics.specs.Names.{Names}
use Rattle.semantics.specs.Operand.{Resolved, missing, present}
use Rattle.semantics.specs.Told.{truth_of}
use Rattle.semantics.specs.Truth.{Truth, of_bool}
use Rattle.paths.specs.Stored.{OperandAt, operand_of, table}
use Rattle.paths.specs.declared.operand.EvalError.{EvalError}
use Rattle.paths.specs.declared.operand.EvalError.TheVariants as errors
use Rattle.paths.specs.declared.operand.Operand.{Operand}
use Rattle.semantics.specs.declared.truth.Truth.{Truth as CodeTruth}
use Rattle.semantics.specs.declared.truth.Truth.TheVariants as truths
use Rattle.resolving.proofs.Marking.{left_then}

-- what an operand was found to be
module _ {quiet : Bool} {s : Bytes} {w w' : List ℕ} {r : Fallible (Option Operand) EvalError} {m : Result (Resolved lazy.Operand)} (a : ResolvedAs quiet s w w' r m) where
  means_as : (x : Fallible (Option Operand) EvalError) → r ≡ x → m ≡ resolved_of s (table w) a.names x
  means_as x e = sym a.means ∙ ap (resolved_of s (table w) a.names) e

  hears_as : (x : Fallible (Option Operand) EvalError) → r ≡ x → Heard quiet s (table w) a.names a.met x
  hears_as x e = subst (Heard quiet s (table w) a.names a.met) e a.hears

  pub is_present_lem : (o : Operand) → r ≡ Ok (Some o) → (m ≡ ok (present (operand_of s (table w) o))) × OperandAt s (table w) o × (a.met ≡ [])
  is_present_lem o e = let h = hears_as _ e in (means_as _ e, h.0, h.1)

  pub is_missing : r ≡ Ok None → (m ≡ ok (missing a.names)) × (a.met ≡ heard quiet a.names)
  is_missing e = (means_as _ e, hears_as _ e)

  -- a refusal comes before all that follows
  pub refused_first : {M : Result Answer} (x : EvalError) → r ≡ Err x → ((f : Refusal) → m ≡ refused f → M ≡ refused f) → EvaluatedAs s w w' (Err x) M
  refused_first (errors.UnknownExpression n) e k = record { names = []; met = a.met; means = sym (k _ (means_as _ e)); left = a.left; marks = hears_as _ e }
  refused_first errors.NoId e k = record { names = []; met = a.met; means = sym (k _ (means_as _ e)); left = a.left; marks = tt }

-- exists
module _ (sheet : Sheet Condition) (fs : lazy.Frames) (v : Value) where
  pub exists_refused : (f : Refusal) → operand sheet fs v ≡ refused f → judge sheet fs (exists v) ≡ refused f
  unfolding judge
  exists_refused f e = rw e

  pub exists_known : {s : Bytes} {w w' : List ℕ} {r : Fallible (Option Operand) EvalError} (a : ResolvedAs true s w w' r (operand sheet fs v)) (o : Option Operand) →
      r ≡ Ok o → {t : CodeTruth} → truth_of t ≡ of_bool (is_some o) → EvaluatedAs s w w' (Ok t) (judge sheet fs (exists v))
  unfolding judge
  exists_known {s} {w} {w'} {r} a o e {t} q = go o e q
    where
      answer : Resolved lazy.Operand → Result Answer
      answer x = ok (certain (is_present x))

      known : Truth → Result Answer
      known x = ok (record { truth = x; names = [] })

      go : (y : Option Operand) → r ≡ Ok y → truth_of t ≡ of_bool (is_some y) → EvaluatedAs s w w' (Ok t) (judge sheet fs (exists v))
      go (Some x) i j = let p = is_present_lem a x i in record { names = []; met = a.met; means = ap known j ∙ sym (ap (λ y. y >>= answer) p.0); left = a.left; marks = p.2 }
      go None i j = let p = is_missing a i in record { names = []; met = a.met; means = ap known j ∙ sym (ap (λ y. y >>= answer) p.0); left = a.left; marks = p.1 }

-- the pair forms
module _ (sheet : Sheet Condition) (fs : lazy.Frames) (f : Form) (u v : Value) where
  pub pair_refused : (g : Refusal) → operand sheet fs u ≡ refused g → judge sheet fs (pair f u v) ≡ refused g
  unfolding judge
  pair_refused g e = ap (λ (x : Result (Resolved lazy.Operand)). x >>= λ y. operand sheet fs v >>= λ z. ok (compared_of sheet fs f y z)) e

  pair_then : (x : Resolved lazy.Operand) → operand sheet fs u ≡ ok x → judge sheet fs (pair f u v) ≡ (operand sheet fs v >>= λ z. ok (compared_of sheet fs f x z))
  unfolding judge
  pair_then x e = ap (λ (y : Result (Resolved lazy.Operand)). y >>= λ y. operand sheet fs v >>= λ z. ok (compared_of sheet fs f y z)) e

  then_refused : (x : Resolved lazy.Operand) → operand sheet fs u ≡ ok x → (g : Refusal) → operand sheet fs v ≡ refused g → judge sheet fs (pair f u v) ≡ refused g
  then_refused x e g q = pair_then x e ∙ ap (λ (y : Result (Resolved lazy.Operand)). y >>= λ z. ok (compared_of sheet fs f x z)) q

  then_is : (x y : Resolved lazy.Operand) → operand sheet fs u ≡ ok x → operand sheet fs v ≡ ok y → judge sheet fs (pair f u v) ≡ ok (compared_of sheet fs f x y)
  then_is x y e q = pair_then x e ∙ ap (λ (m : Result (Resolved lazy.Operand)). m >>= λ z. ok (compared_of sheet fs f x z)) q

  module _ {s : Bytes} {w₀ w w' : List ℕ} {r q : Fallible (Option Operand) EvalError} (a : ResolvedAs false s w₀ w r (operand sheet fs u))
      (b : ResolvedAs false s w w' q (operand sheet fs v)) where
    -- the second refuses, whatever the first was
    pub right_refused : (o : Option Operand) → r ≡ Ok o → (y : EvalError) → q ≡ Err y → EvaluatedAs s w₀ w' (Err y) (judge sheet fs (pair f u v))
    right_refused o e y z = go o e
      where
        -- a refusal's marks name no names
        still : (ns ms ns' ms' : Names) (x : EvalError) → Marks s (table w₀) ns ms (Err x) → Marks s (table w₀) ns' ms' (Err x)
        still ns ms ns' ms' (errors.UnknownExpression n) h = h
        still ns ms ns' ms' errors.NoId h = tt

        among_rows : (d : EvaluatedAs s w w' (Err y) (judge sheet fs (pair f u v))) → EvaluatedAs s w₀ w' (Err y) (judge sheet fs (pair f u v))
        among_rows d = record {
          names = d.names;
          met = a.met ++ b.met;
          means = ap (λ (t : List ℕ). outcome_of s t d.names (Err y)) (sym a.left.rows) ∙ d.means;
          left = left_then a.left b.left;
          marks = still d.names d.met d.names (a.met ++ b.met) y (subst (λ (t : List ℕ). Marks s t d.names d.met (Err y)) a.left.rows d.marks);
        }

        go : (x : Option Operand) → r ≡ Ok x → EvaluatedAs s w₀ w' (Err y) (judge sheet fs (pair f u v))
        go (Some x) i = among_rows (refused_first b y z (then_refused _ (is_present_lem a x i).0))
        go None i = among_rows (refused_first b y z (then_refused _ (is_missing a i).0))

    judged_as : (x : CodeTruth) (ns : Names) → outcome_of s (table w₀) ns (Ok x) ≡ judge sheet fs (pair f u v) → a.met ++ b.met ≡ ns → EvaluatedAs s w₀ w' (Ok x) (judge sheet fs (pair f u v))
    judged_as x ns e m = record { names = ns; met = a.met ++ b.met; means = e; left = left_then a.left b.left; marks = m }

    -- both are there
    pub both_present : (o p : Operand) → r ≡ Ok (Some o) → q ≡ Ok (Some p) → {x : CodeTruth} →
        truth_of x ≡ of_bool (holds_of sheet fs f (operand_of s (table w₀) o) (operand_of s (table w₀) p)) →
        EvaluatedAs s w₀ w' (Ok x) (judge sheet fs (pair f u v))
    unfolding compared_of
    both_present o p e z {x} h =
        let i = is_present_lem a o e in
        let j = is_present_lem b p z in
        judged_as x [] (ap (λ (y : Truth). ok (record { truth = y; names = [] })) h ∙
        sym (then_is _ _ i.0 (j.0 ∙ ap (λ (t : List ℕ). ok (present (operand_of s t p))) a.left.rows)))
        (ap (λ (l : Names). l ++ b.met) i.2 ∙ j.2)

    -- one is missing
    pub left_missing : r ≡ Ok None → (o : Option Operand) → q ≡ Ok o → EvaluatedAs s w₀ w' (Ok truths.Unknown) (judge sheet fs (pair f u v))
    unfolding compared_of
    left_missing e o z = go o z
      where
        i : (operand sheet fs u ≡ ok (missing a.names)) × (a.met ≡ a.names)
        i = is_missing a e

        go : (x : Option Operand) → q ≡ Ok x → EvaluatedAs s w₀ w' (Ok truths.Unknown) (judge sheet fs (pair f u v))
        go (Some x) k = let j = is_present_lem b x k in judged_as truths.Unknown a.names (sym (then_is _ _ i.0 j.0)) (ap (λ (l : Names). a.met ++ l) j.2 ∙ append-nil a.met ∙ i.1)
        go None k =
            let j = is_missing b k in
            judged_as truths.Unknown (a.names ++ b.names) (sym (then_is _ _ i.0 j.0)) (ap (λ (l : Names). l ++ b.met) i.1 ∙ ap (λ (l : Names). a.names ++ l) j.1)

    pub right_missing : (o : Operand) → r ≡ Ok (Some o) → q ≡ Ok None → EvaluatedAs s w₀ w' (Ok truths.Unknown) (judge sheet fs (pair f u v))
    unfolding compared_of
    right_missing o e z =
        let i = is_present_lem a o e in
        let j = is_missing b z in
        judged_as truths.Unknown b.names (sym (then_is _ _ i.0 j.0)) (ap (λ (l : Names). l ++ b.met) i.2 ∙ j.1)
