-- Which of 4 to 8 a text is refused with, and at which byte, in the words of RFC 8259. JSON is meant here without the limits: any depth,
-- any number of nodes, numbers of any length, names repeated or not.
-- Assumes nothing.
use Rattle.std.specs.Prelude.{false, true, [], ◌++◌, ◌∷◌, ◌⊎◌, ◌≢◌, ◌≡◌, ℕ, ◌+◌, ◌<◌, ◌≤◌, length}
use Rattle.json_text.specs.Bytes.{Bytes, is_one_of}
use Rattle.json_text.specs.Grammar.{JsonText}
use Rattle.json_text.specs.Json.{Members, Value, Values, array, cons, keys, member, number, object}
use Rattle.json_text.specs.Limits.{depth, max_bytes, max_depth, max_nodes, max_number, nodes}
use Rattle.json_text.specs.Numerals.{digit, is_other}
use Rattle.json_text.specs.Reader.{parse, start, start_nothing}
use Rattle.json_text.specs.Refusal.{Refusal, Result, not_json, not_utf8, number_too_long, ok, refused, repeated_name, too_deep, too_long, too_many_nodes}
use Rattle.json_text.specs.Tally.{Tally, brackets_open, bytes_of_number, ends_in, further, nodes_begun, nothing, quoted, tallied}
use Rattle.json_text.specs.Utf8.{scalar, utf8}

-- a JSON text begins with these bytes
pub record Continues (p : Bytes) : Type 0 where
  pub more : Bytes
  pub tree : Value
  pub is_json : JsonText tree (p ++ more)

-- one of 5 to 8
pub data Limit : Refusal → Type 0 where
  five : Limit too_deep
  six : Limit number_too_long
  seven : Limit too_many_nodes
  eight : Limit repeated_name

-- The byte at which each of them stands, behind what has been counted before it: an opening bracket, the 65th that is open; a byte of a
-- number, its 256th; the first byte of a value or a name, node 4,097; a quote, which closes a name.
pub data StandsAt (before : Tally) (c : ℕ) : Refusal → Type 0 where
  bracket : (c ≡ 91) ⊎ (c ≡ 123) → brackets_open before ≡ max_depth → brackets_open (further before c) ≡ max_depth + 1 → StandsAt before c too_deep
  numeral : digit c ≢ is_other → bytes_of_number before ≡ max_number → bytes_of_number (further before c) ≡ max_number + 1 → StandsAt before c number_too_long
  begins : start c ≢ start_nothing → nodes_begun before ≡ max_nodes → nodes_begun (further before c) ≡ max_nodes + 1 → StandsAt before c too_many_nodes
  quote : c ≡ 34 → ends_in before ≡ quoted → StandsAt before c repeated_name

-- a value of a tree: the tree itself, or one that stands in it
mutual
  pub data Part (w : Value) : Value → Type 0 where
    itself : Part w w
    in_array : {vs : Values} → PartIn w vs → Part w (array vs)
    in_object : {ms : Members} → PartOf w ms → Part w (object ms)

  pub data PartIn (w : Value) : Values → Type 0 where
    this_element : {v : Value} {vs : Values} → Part w v → PartIn w (cons v vs)
    later_element : {v : Value} {vs : Values} → PartIn w vs → PartIn w (cons v vs)

  pub data PartOf (w : Value) : Members → Type 0 where
    this_member : {k : Bytes} {v : Value} {ms : Members} → Part w v → PartOf w (member k v ms)
    later_member : {k : Bytes} {v : Value} {ms : Members} → PartOf w ms → PartOf w (member k v ms)

-- a name that stands twice
pub data Twice : Members → Type 0 where
  again : {k : Bytes} {v : Value} {ms : Members} → is_one_of k (keys ms) ≡ true → Twice (member k v ms)
  later : {k : Bytes} {v : Value} {ms : Members} → Twice ms → Twice (member k v ms)

-- the limit that a tree passes
pub data Passes : Refusal → Value → Type 0 where
  passes_depth : {v : Value} → max_depth < depth v → Passes too_deep v
  passes_number : {x : Bytes} {v : Value} → Part (number x) v → max_number < length x → Passes number_too_long v
  passes_nodes : {v : Value} → max_nodes < nodes v → Passes too_many_nodes v
  passes_name : {ms : Members} {v : Value} → Part (object ms) v → Twice ms → Passes repeated_name v

-- what a JSON text is answered: its tree, or the refusal of a limit that its tree passes
pub data Answered (v : Value) : Result Value → Type 0 where
  read : Answered v (ok v)
  passing : {q : Refusal} → Passes q v → Answered v (refused q)

-- What 4 says of a text. `good` is its longest beginning that a JSON text can have, and one in UTF-8 where the text is; where it ends
-- there, the text is no JSON text; none of 5 to 8 stands in it.
pub record NotJson (s : Bytes) : Type 0 where
  pub good : Bytes
  pub rest : Bytes
  pub parts : s ≡ good ++ rest
  pub continues : Continues good
  pub decoded : utf8 scalar s ≡ true → utf8 scalar (good ++ continues.more) ≡ true
  pub dead : (c : ℕ) (t : Bytes) → rest ≡ c ∷ t → ¬ Continues (good ++ (c ∷ []))
  pub over : rest ≡ [] → (v : Value) → ¬ JsonText v s
  pub none_before : (p t : Bytes) (q : Refusal) → s ≡ p ++ t → Limit q → parse p ≢ refused q

-- What each of 5 to 8 says of a text. It stands at `byte`, behind which a JSON text can still follow; it stands there whatever follows, and
-- every JSON text that begins so passes its limit; none of 5 to 8 stands before. In front of `byte` a JSON text can follow that passes
-- neither 5 nor 8: so these two stand at the first byte after which every JSON text passes their limit. At 7 the byte is no bracket 65: a
-- tie goes to 5.
pub record Past (q : Refusal) (s : Bytes) : Type 0 where
  pub good : Bytes
  pub byte : ℕ
  pub rest : Bytes
  pub parts : s ≡ good ++ (byte ∷ rest)
  pub stands : StandsAt (tallied nothing good) byte q
  pub continues : Continues (good ++ (byte ∷ []))
  pub decoded : utf8 scalar s ≡ true → utf8 scalar (good ++ (byte ∷ []) ++ continues.more) ≡ true
  pub tie : q ≡ too_many_nodes → ¬ Passes too_deep continues.tree
  pub whatever : (t : Bytes) → parse (good ++ (byte ∷ t)) ≡ refused q
  pub passes : (t : Bytes) (v : Value) → JsonText v (good ++ (byte ∷ t)) → Passes q v
  pub spared : Continues good
  pub spared_decoded : utf8 scalar s ≡ true → utf8 scalar (good ++ spared.more) ≡ true
  pub not_deep : ¬ Passes too_deep spared.tree
  pub not_twice : ¬ Passes repeated_name spared.tree
  pub none_before : (p t : Bytes) (r : Refusal) → good ≡ p ++ t → Limit r → parse p ≢ refused r

-- The refusals of a text: 2 and 3 first, and then what the first byte shows that shows anything.
pub data FirstFault (s : Bytes) : Refusal → Type 0 where
  long : max_bytes < length s → FirstFault s too_long
  undecoded : length s ≤ max_bytes → utf8 scalar s ≡ false → FirstFault s not_utf8
  unspelled : length s ≤ max_bytes → utf8 scalar s ≡ true → NotJson s → FirstFault s not_json
  past : {q : Refusal} → length s ≤ max_bytes → utf8 scalar s ≡ true → Past q s → FirstFault s q
