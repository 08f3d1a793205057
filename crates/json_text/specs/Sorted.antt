-- A tree with every object's members by ascending key bytes.
-- Assumes nothing.
use Prim.Native.Nat.{Ordering}
use Rattle.json_text.specs.Bytes.{Bytes, order_bytes}
use Rattle.json_text.specs.Json.{Members, Value, Values, array, bool, cons, empty, member, nil, null, number, object, text}

-- The same tree with every object's members by ascending key bytes: the map of the oracle. Evaluation sees only sorted trees.
abbrev pub insert : Bytes → Value → Members → Members
unfolding order_bytes
insert k v empty = member k v empty
insert k v (member l w ms) = elim (order_bytes k l) [ Ordering.lt ↦ member k v (member l w ms) | Ordering.eq ↦ member l w ms | Ordering.gt ↦ member l w (insert k v ms) ]

unfoldable mutual
  unfolding insert

  pub sorted : Value → Value
  sorted null = null
  sorted (bool b) = bool b
  sorted (number s) = number s
  sorted (text s) = text s
  sorted (array vs) = array (sorted_in vs)
  sorted (object ms) = object (sorted_of ms)

  pub sorted_in : Values → Values
  sorted_in nil = nil
  sorted_in (cons v vs) = cons (sorted v) (sorted_in vs)

  pub sorted_of : Members → Members
  sorted_of empty = empty
  sorted_of (member k v ms) = insert k (sorted v) (sorted_of ms)
