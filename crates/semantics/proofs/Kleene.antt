-- and, or and not are Kleene's strong tables; a junction is the least or the greatest of all its children, and a quantifier of all its elements,
-- although it stops once settled.
-- Assumes nothing.
use mathlib.Core.Bool.{Bool, false, false≢true, true}
use mathlib.Core.List.{List, [], ◌∷◌}
use mathlib.Core.Path.{ap, refl, sym, ◌∙◌, ◌≡◌}
use Prim.Native.Nat.{max, min, ℕ, ◌-◌}
use Rattle.semantics.specs.Evaluate.{Answer, each, evaluate, evaluate_all, joined}
use Rattle.semantics.specs.Expression.{Env}
use Rattle.semantics.specs.Names.{no_names}
use Rattle.semantics.specs.Semantics.{Semantics}
use Rattle.semantics.specs.Truth.{False, True, Truth, Unknown, and, join, negate, or, settles, start}
use Rattle.json_text.proofs.Laws.{bind_ok}
use Rattle.json_text.specs.Json.{Value}
use Rattle.json_text.specs.Refusal.{Result, ok}
use Rattle.members.specs.Condition.{Condition, Conditions, Mode, also, every, no_more}
use Rattle.members.specs.Sheet.{Sheet}

-- Kleene's strong tables: the least, the greatest and the opposite in the order False, Unknown, True.
abbrev pub rank : Truth → ℕ
rank False = 0
rank Unknown = 1
rank True = 2

pub record Kleene : Type 0 where
  pub conjunction : (t u : Truth) → rank (and t u) ≡ min (rank t) (rank u)
  pub disjunction : (t u : Truth) → rank (or t u) ≡ max (rank t) (rank u)
  pub opposite : (t : Truth) → rank (negate t) ≡ 2 - rank t

pub kleene : Kleene
kleene = record { conjunction = conj; disjunction = disj; opposite = opp }
  where
    conj : (t u : Truth) → rank (and t u) ≡ min (rank t) (rank u)
    conj True True = refl
    conj True False = refl
    conj True Unknown = refl
    conj False True = refl
    conj False False = refl
    conj False Unknown = refl
    conj Unknown True = refl
    conj Unknown False = refl
    conj Unknown Unknown = refl

    disj : (t u : Truth) → rank (or t u) ≡ max (rank t) (rank u)
    disj True True = refl
    disj True False = refl
    disj True Unknown = refl
    disj False True = refl
    disj False False = refl
    disj False Unknown = refl
    disj Unknown True = refl
    disj Unknown False = refl
    disj Unknown Unknown = refl

    opp : (t : Truth) → rank (negate t) ≡ 2 - rank t
    opp True = refl
    opp False = refl
    opp Unknown = refl

-- all truths of a list joined, and their least and greatest
abbrev pub join_all : Mode → List Truth → Truth
join_all m [] = start m
join_all m (t ∷ ts) = join m t (join_all m ts)

abbrev pub least : List Truth → ℕ
least [] = 2
least (t ∷ ts) = min (rank t) (least ts)

abbrev pub greatest : List Truth → ℕ
greatest [] = 0
greatest (t ∷ ts) = max (rank t) (greatest ts)

pub all_is_least : (ts : List Truth) → rank (join_all every ts) ≡ least ts
all_is_least [] = refl
all_is_least (t ∷ ts) = kleene.conjunction t (join_all every ts) ∙ ap (min (rank t)) (all_is_least ts)

pub any_is_greatest : (ts : List Truth) → rank (join_all Mode.any ts) ≡ greatest ts
any_is_greatest [] = refl
any_is_greatest (t ∷ ts) = kleene.disjunction t (join_all Mode.any ts) ∙ ap (max (rank t)) (any_is_greatest ts)

-- what settles a whole is the whole
pub settles_join : (m : Mode) (t u : Truth) → settles m t ≡ true → join m t u ≡ t
settles_join every True u e = absurd (false≢true e)
settles_join every False u e = refl
settles_join every Unknown u e = absurd (false≢true e)
settles_join Mode.any True u e = refl
settles_join Mode.any False u e = absurd (false≢true e)
settles_join Mode.any Unknown u e = absurd (false≢true e)

-- the truths of all parts, where none is refused
pub data Truths {A : Type 0} (body : A → Result Answer) : List A → List Truth → Type 0 where
  no_truth : Truths body [] []
  one_truth : {x : A} {xs : List A} {a : Answer} {ts : List Truth} → body x ≡ ok a → Truths body xs ts → Truths body (x ∷ xs) (a.truth ∷ ts)

abbrev pub Joined : Result Answer → Mode → List Truth → Type 0
Joined x m ts = (a : Answer) × (x ≡ ok a) × (a.truth ≡ join_all m ts)

-- a quantifier answers by all elements, also by those that it does not reach
pub each_joins : (m : Mode) (body : Value → Result Answer) (vs : List Value) (ts : List Truth) → Truths body vs ts → Joined (each m body vs) m ts
unfolding each
each_joins m body [] ts no_truth = (record { truth = start m; names = no_names }, refl, refl)
each_joins m body (v ∷ vs) ts (one_truth {a} {ts = us} e h) = by (each_joins m body vs us h) (settles m a.truth) refl
  where
    by : Joined (each m body vs) m us → (b : Bool) → settles m a.truth ≡ b → Joined (each m body (v ∷ vs)) m (a.truth ∷ us)
    by j true q = (a, bind_ok _ e ∙ rw q refl, sym (settles_join m a.truth (join_all m us) q))
    by j false q = (joined m a j.0, bind_ok _ e ∙ rw q (bind_ok _ j.1), ap (join m a.truth) j.2)

-- `all` and `any` by all children
abbrev pub children : Conditions → List Condition
children no_more = []
children (also c cs) = c ∷ children cs

pub junction_joins : (sem : Semantics) {C : Type 0} (sheet : Sheet C) (env : Env) (m : Mode) (cs : Conditions) (ts : List Truth) →
    Truths (evaluate sem sheet env) (children cs) ts → Joined (evaluate_all sem sheet env m cs) m ts
unfolding evaluate
junction_joins sem sheet env m no_more ts no_truth = (record { truth = start m; names = no_names }, refl, refl)
junction_joins sem sheet env m (also c cs) ts (one_truth {a} {ts = us} e h) =
    let j = junction_joins sem sheet env m cs us h in
    (joined m a j.0, bind_ok _ e ∙ bind_ok _ j.1, ap (join m a.truth) j.2)
