-- Conditions: truth and names.
-- Assumes nothing.
use Rattle.std.specs.Prelude.{Bool, false, true, List, [], ◌∷◌}
use Rattle.std.specs.Prelude.{Option, None, Some}
use Rattle.semantics.specs.Expression.{Env}
use Rattle.semantics.specs.Forms.{holds}
use Rattle.semantics.specs.Names.{Names, join_names, no_names}
use Rattle.semantics.specs.Semantics.{Semantics}
use Rattle.semantics.specs.Operand.{Resolved, missing, present, resolve}
use Rattle.semantics.specs.Truth.{Truth, Unknown, join, negate, of_bool, settles, start}
use Rattle.json_text.specs.Json.{Members, Value, array, bool, elements, empty, member, null, number, object, text}
use Rattle.json_text.specs.Refusal.{Result, ok, ◌>>=◌}
use Rattle.members.specs.Condition.{Condition, Conditions, Form, Mode, also, exists, junction, literal, negation, no_more, pair, quantified}
use Rattle.members.specs.Sheet.{Sheet}

-- A truth with the names met on the way, in the order met.
pub record Answer : Type 0 where
  pub truth : Truth
  pub names : Names

abbrev pub certain : Bool → Answer
certain b = record { truth = of_bool b; names = no_names }

abbrev pub unknown : Names → Answer
unknown ns = record { truth = Unknown; names = ns }

abbrev pub joined : Mode → Answer → Answer → Answer
joined m a b = record { truth = join m a.truth b.truth; names = join_names a.names b.names }

abbrev pub is_present : {A : Type 0} → Resolved A → Bool
is_present (present a) = true
is_present (missing ns) = false

-- either missing gives Unknown
abbrev pub compared : Semantics → Form → Resolved Value → Resolved Value → Answer
compared sem f (present v) (present w) = certain (holds sem f v w)
compared sem f (present v) (missing ns) = unknown ns
compared sem f (missing ms) (present w) = unknown ms
compared sem f (missing ms) (missing ns) = unknown (join_names ms ns)

-- the elements of an array, the values of an object's members by ascending key
abbrev pub values_of : Members → List Value
values_of empty = []
values_of (member k v ms) = v ∷ values_of ms

abbrev pub collection : Value → Option (List Value)
collection null = None
collection (bool b) = None
collection (number s) = None
collection (text s) = None
collection (array vs) = Some (elements vs)
collection (object ms) = Some (values_of ms)

-- the elements in order, stopping once settled
unfoldable pub each : Mode → (Value → Result Answer) → List Value → Result Answer
each m body [] = ok (record { truth = start m; names = no_names })
each m body (v ∷ vs) = do
  a ← body v
  elim
      (settles m a.truth) [
        | true ↦
            ok a
        | false ↦
            (do
              b ← each m body vs
              ok (joined m a b))
      ]

-- a missing collection is Unknown with its names, a value that is none Unknown without
abbrev pub over : Mode → (Value → Result Answer) → Resolved Value → Result Answer
over m body (missing ns) = ok (unknown ns)
over m body (present v) = elim (collection v) [ None ↦ ok (unknown no_names) | Some vs ↦ each m body vs ]

module _ (sem : Semantics) {C : Type 0} (sheet : Sheet C) where
  unfoldable mutual
    unfolding resolve holds each

    pub evaluate : Env → Condition → Result Answer
    evaluate env (literal b) = ok (certain b)
    evaluate env (junction m cs) = evaluate_all env m cs
    evaluate env (negation c) = do
      a ← evaluate env c
      ok (record { truth = negate a.truth; names = a.names })
    evaluate env (exists v) = do
      r ← resolve sem sheet env v
      ok (certain (is_present r))
    evaluate env (pair f v w) = do
      r ← resolve sem sheet env v
      q ← resolve sem sheet env w
      ok (compared sem f r q)
    evaluate env (quantified m v x c) = do
      r ← resolve sem sheet env v
      over m (λ w. evaluate ((x, w) ∷ env) c) r

    -- `all` and `any` evaluate every child
    pub evaluate_all : Env → Mode → Conditions → Result Answer
    evaluate_all env m no_more = ok (record { truth = start m; names = no_names })
    evaluate_all env m (also c cs) = do
      a ← evaluate env c
      b ← evaluate_all env m cs
      ok (joined m a b)
