-- A condition (the paper's "Condition"): true, false, or an object with exactly one member, which names its operator; and its refusals, 10 and 11.
-- Assumes nothing.
use Rattle.std.specs.Prelude.{Bool, false, true, List, [], ◌∷◌, eqb, length}
use Rattle.std.specs.Prelude.{Option, None, Some}
use Rattle.json_text.specs.Bytes.{Bytes, ascii, find}
use Rattle.json_text.specs.Json.{Members, Value, Values, array, as_text, bool, cons, empty, member, nil, null, number, object, text}
use Rattle.json_text.specs.Refusal.{Result, not_carried, ok, or_else, refused, wrong_shape, ◌>>=◌}

-- `all` and `for_all` join by `and`, `any` and `for_any` by `or`
pub data Mode : Type 0 where
  every any : Mode

-- the pair forms
pub data Form : Type 0 where
  eq ne gt gte lt lte is_in contains starts_with ends_with : Form

-- A condition as evaluation takes it: a junction is `all` or `any`, an operand is a value as written, a quantifier has what it goes over, its binder (`as`) and its body (`that`).
mutual
  pub data Condition : Type 0 where
    literal : Bool → Condition
    junction : Mode → Conditions → Condition
    negation : Condition → Condition
    exists : Value → Condition
    pair : Form → Value → Value → Condition
    quantified : Mode → Value → Bytes → Condition → Condition

  pub data Conditions : Type 0 where
    no_more : Conditions
    also : Condition → Conditions → Conditions

-- What the one member's name asks for. Those that are known but not carried are one operator.
pub data Operator : Type 0 where
  op_junction : Mode → Operator
  op_negation op_exists : Operator
  op_pair : Form → Operator
  op_quantified : Mode → Operator
  op_not_carried : Operator

-- every name of the paper, with its operator; no other name is known
abbrev pub operators : List (Bytes × Operator)
operators =
    (ascii "all", op_junction every) ∷
    (ascii "any", op_junction Mode.any) ∷
    (ascii "not", op_negation) ∷
    (ascii "exists", op_exists) ∷
    (ascii "eq", op_pair eq) ∷
    (ascii "ne", op_pair ne) ∷
    (ascii "gt", op_pair gt) ∷
    (ascii "gte", op_pair gte) ∷
    (ascii "lt", op_pair lt) ∷
    (ascii "lte", op_pair lte) ∷
    (ascii "in", op_pair is_in) ∷
    (ascii "contains", op_pair contains) ∷
    (ascii "starts_with", op_pair starts_with) ∷
    (ascii "ends_with", op_pair ends_with) ∷
    (ascii "for_all", op_quantified every) ∷
    (ascii "for_any", op_quantified Mode.any) ∷
    (ascii "before", op_not_carried) ∷
    (ascii "after", op_not_carried) ∷
    (ascii "compare", op_not_carried) ∷
    (ascii "truthy", op_not_carried) ∷
    []

-- what a pair form holds: an array of exactly two operands
abbrev pub two_of : Form → Value → Result Condition
two_of f null = refused wrong_shape
two_of f (bool b) = refused wrong_shape
two_of f (number s) = refused wrong_shape
two_of f (text s) = refused wrong_shape
two_of f (object ms) = refused wrong_shape
two_of f (array nil) = refused wrong_shape
two_of f (array (cons v nil)) = refused wrong_shape
two_of f (array (cons v (cons w nil))) = ok (pair f v w)
two_of f (array (cons v (cons w (cons x vs)))) = refused wrong_shape

-- What a quantifier holds: exactly `in`, `as` and `that`, the second a text. Each member stands here with what it is as a condition; a
-- fault of the quantifier itself comes before one of its body.
unfoldable pub quantifier : Mode → List (Bytes × (Value × Result Condition)) → Result Condition
unfolding find
quantifier m ps =
    elim
    (eqb (length ps) 3) [
      | false ↦
          refused wrong_shape
      | true ↦
          (do
            over ← or_else (find (ascii "in") ps) wrong_shape
            bind ← or_else (find (ascii "as") ps) wrong_shape
            body ← or_else (find (ascii "that") ps) wrong_shape
            name ← or_else (as_text bind.0) wrong_shape
            c ← body.1
            ok (quantified m over.0 name c))
    ]

-- The condition that an operator makes of what its member holds, which stands here with what it is as a condition, as an array of them and as a quantifier's members.
abbrev pub formed : Value → Result Condition → Result Conditions → Result (List (Bytes × (Value × Result Condition))) → Option Operator → Result Condition
formed v one several parts None = refused wrong_shape
formed v one several parts (Some (op_junction m)) = do
  cs ← several
  ok (junction m cs)
formed v one several parts (Some op_negation) = do
  c ← one
  ok (negation c)
formed v one several parts (Some op_exists) = ok (exists v)
formed v one several parts (Some (op_pair f)) = two_of f v
formed v one several parts (Some (op_quantified m)) = do
  ps ← parts
  quantifier m ps
formed v one several parts (Some op_not_carried) = refused not_carried

-- A value as a condition, or the fault of the condition at fault in itself that begins first: 10 for its shape, 11 where its one member is
-- not carried, whatever that holds. A condition begins before those inside, so its own fault comes first.
unfoldable mutual
  unfolding find quantifier

  pub condition : Value → Result Condition
  condition null = refused wrong_shape
  condition (bool b) = ok (literal b)
  condition (number s) = refused wrong_shape
  condition (text s) = refused wrong_shape
  condition (array vs) = refused wrong_shape
  condition (object ms) = one_member ms

  -- an object as a condition: exactly one member
  pub one_member : Members → Result Condition
  one_member empty = refused wrong_shape
  one_member (member k v ms) = elim ms [ member l w more ↦ refused wrong_shape | empty ↦ formed v (condition v) (condition_array v) (condition_object v) (find k operators) ]

  -- what `all` and `any` hold: an array of conditions, the first fault of which counts
  pub condition_array : Value → Result Conditions
  condition_array null = refused wrong_shape
  condition_array (bool b) = refused wrong_shape
  condition_array (number s) = refused wrong_shape
  condition_array (text s) = refused wrong_shape
  condition_array (array vs) = conditions_in vs
  condition_array (object ms) = refused wrong_shape

  pub conditions_in : Values → Result Conditions
  conditions_in nil = ok no_more
  conditions_in (cons v vs) = do
    c ← condition v
    cs ← conditions_in vs
    ok (also c cs)

  -- what a quantifier holds, as an object
  pub condition_object : Value → Result (List (Bytes × (Value × Result Condition)))
  condition_object null = refused wrong_shape
  condition_object (bool b) = refused wrong_shape
  condition_object (number s) = refused wrong_shape
  condition_object (text s) = refused wrong_shape
  condition_object (array vs) = refused wrong_shape
  condition_object (object ms) = ok (conditions_of ms)

  pub conditions_of : Members → List (Bytes × (Value × Result Condition))
  conditions_of empty = []
  conditions_of (member k v ms) = (k, (v, condition v)) ∷ conditions_of ms
