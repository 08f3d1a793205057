-- Equal values, as a repeated decision takes them: equal number characters and decoded texts, members in any order.
-- Assumes nothing.
use Rattle.std.specs.Prelude.{Bool}
use Rattle.json_text.specs.Bytes.{Bytes}
use Rattle.json_text.specs.Json.{Members, Value, Values, array, bool, cons, empty, member, nil, null, number, object, text}

-- a member put somewhere among others
pub data Among (k : Bytes) (w : Value) : Members → Members → Type 0 where
  here : {ms : Members} → Among k w ms (member k w ms)
  further : {l : Bytes} {x : Value} {ms ns : Members} → Among k w ms ns → Among k w (member l x ms) (member l x ns)

mutual
  pub data Alike : Value → Value → Type 0 where
    both_null : Alike null null
    both_bool : {b : Bool} → Alike (bool b) (bool b)
    both_number : {s : Bytes} → Alike (number s) (number s)
    both_text : {s : Bytes} → Alike (text s) (text s)
    both_array : {vs ws : Values} → AlikeIn vs ws → Alike (array vs) (array ws)
    both_object : {ms ns : Members} → AlikeOf ms ns → Alike (object ms) (object ns)

  -- element by element
  pub data AlikeIn : Values → Values → Type 0 where
    no_element : AlikeIn nil nil
    one_element : {v w : Value} {vs ws : Values} → Alike v w → AlikeIn vs ws → AlikeIn (cons v vs) (cons w ws)

  -- member by member, each standing anywhere on the other side
  pub data AlikeOf : Members → Members → Type 0 where
    no_member : AlikeOf empty empty
    one_member : {k : Bytes} {v w : Value} {ms ns ns' : Members} → Alike v w → AlikeOf ms ns → Among k w ns ns' → AlikeOf (member k v ms) ns'
