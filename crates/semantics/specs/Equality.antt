-- Equality of two values: numbers by the semantics, objects without order.
-- Assumes nothing.
use Rattle.std.specs.Prelude.{Bool, false, not, true, ◌&&◌}
use Rattle.std.specs.Prelude.{None, Some}
use Rattle.semantics.specs.Semantics.{Semantics}
use Rattle.number.specs.Compare.{number_order}
use Rattle.json_text.specs.Bytes.{Bytes, same_bytes}
use Rattle.json_text.specs.Json.{Members, Value, Values, array, as_array, as_bool, as_number, as_object, as_text, bool, cons, empty, is_null, member, nil, null, number, object, text}

-- A sheet keeps sorted trees (`sorted`), so that equal objects are equal place by place.
module _ (numbers : Bytes → Bytes → Bool) where
  unfoldable mutual
    unfolding same_bytes

    pub equal_by : Value → Value → Bool
    equal_by null w = is_null w
    equal_by (bool b) w = elim (as_bool w) [ None ↦ false | Some c ↦ elim b [ true ↦ c | false ↦ not c ] ]
    equal_by (number s) w = elim (as_number w) [ None ↦ false | Some t ↦ numbers s t ]
    equal_by (text s) w = elim (as_text w) [ None ↦ false | Some t ↦ same_bytes s t ]
    equal_by (array vs) w = elim (as_array w) [ None ↦ false | Some ws ↦ equal_in vs ws ]
    equal_by (object ms) w = elim (as_object w) [ None ↦ false | Some ns ↦ equal_of ms ns ]

    pub equal_in : Values → Values → Bool
    equal_in nil nil = true
    equal_in nil (cons w ws) = false
    equal_in (cons v vs) nil = false
    equal_in (cons v vs) (cons w ws) = equal_by v w && equal_in vs ws

    pub equal_of : Members → Members → Bool
    equal_of empty empty = true
    equal_of empty (member l w ns) = false
    equal_of (member k v ms) empty = false
    equal_of (member k v ms) (member l w ns) = same_bytes k l && (equal_by v w && equal_of ms ns)

unfoldable pub equal : Semantics → Value → Value → Bool
unfolding equal_by number_order
equal sem v w = equal_by sem.same_number v w
