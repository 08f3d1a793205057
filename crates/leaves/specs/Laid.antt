-- What reading a name, a value and a whole sheet answers, and what it leaves in the table.
-- Assumes nothing.
use Rattle.strings.specs.declared.answer.Refusal.{Refusal as Why}
use Rattle.strings.specs.declared.answer.Refusal.TheVariants as whys
use Rattle.strings.specs.declared.rows.Kind.{Kind}
use Rattle.strings.specs.declared.rows.Kind.TheVariants as kinds
use Rattle.std.specs.Prelude.{Bool, false, true, List, [], ◌∷◌, ◌≡◌, ℕ, ◌*◌, ◌+◌, ◌<◌, ◌≤◌, drop, get_or, length, Option, None, Some, Result as Fallible, Ok, Err}
use Rattle.std.proofs.lemmas.List.Edits.{sets}
use Rattle.strings.specs.Answers.{refusal_of}
use Rattle.json_text.specs.Bytes.{Bytes, ascii, is_one_of}
use Rattle.json_text.specs.Cursor.{OnText}
use Rattle.json_text.specs.Held.{HasMembers}
use Rattle.json_text.specs.Json.{keys}
use Rattle.json_text.specs.Limits.{max_bytes, max_depth, max_nodes}
use Rattle.json_text.specs.Naming.{Grown, Noted, hashed, name_at}
use Rattle.json_text.specs.Placing.{Placed, chars_at, digits_at, skip_at, word_at}
use Rattle.json_text.specs.Reader.{Start, start_array, start_false, start_nothing, start_null, start_number, start_object, start_text, start_true}
use Rattle.json_text.specs.Refusal.{Result, ok, refused}
use Rattle.json_text.specs.Spans.{Node, Plain, is_false, is_null, is_number, is_text, is_true, text_at}
use Rattle.json_text.specs.Table.{members_at, rows}
use Rattle.strings.specs.declared.answer.Place.{Place}
use Rattle.leaves.specs.declared.bracket.Sep.{Sep}
use Rattle.leaves.specs.declared.bracket.Sep.TheVariants as seps

-- ---- names
-- the names of an object's members so far
unfoldable pub earlier : Bytes → List ℕ → ℕ → ℕ → List Bytes
earlier s w object count = keys (members_at s w (object + 1) count)

-- a text is looked for among them; where it has no mark it is none of them
pub record Looking (s : Bytes) (w : List ℕ) (marked : Bool) (object count name : ℕ) : Type 0 where
  pub members : HasMembers s w (object + 1) count
  pub text : OnText s name 0
  pub sure : marked ≡ false → is_one_of (text_at s name) (earlier s w object count) ≡ false

pub record NameReady (s : Bytes) (w : List ℕ) (seen : List Bool) (object at count : ℕ) : Type 0 where
  pub bytes : length s ≤ max_bytes
  pub upto : at ≤ length s
  pub long : 12288 ≤ length w
  pub marks : 32749 ≤ length seen
  pub nodes : count ≤ max_nodes
  pub under : object < max_nodes
  pub members : HasMembers s w (object + 1) count
  pub noted : Noted seen object (earlier s w object count)

-- a name's row stands, the name has its mark, and its value begins at a place
pub record NameLaid (s : Bytes) (w w' : List ℕ) (seen seen' : List Bool) (object at count value : ℕ) : Type 0 where
  pub stop : ℕ
  pub read : name_at s (earlier s w object count) count at ≡ ok (record { stop = stop; value = value })
  pub words : w' ≡ sets w (3 * count) ((8 * (at + 1) + 4) ∷ stop ∷ (count + 1) ∷ [])
  pub marked : get_or seen' (hashed object (text_at s (at + 1))) false ≡ true
  pub grown : Grown seen seen'

unfoldable pub NameTold : Bytes → List ℕ → List ℕ → List Bool → List Bool → ℕ → ℕ → ℕ → Fallible ℕ Why → Type 0
NameTold s w w' seen seen' object at count (Err r) = (name_at s (earlier s w object count) count at ≡ refused (refusal_of r)) × (w' ≡ w) × (seen' ≡ seen)
NameTold s w w' seen seen' object at count (Ok value) = NameLaid s w w' seen seen' object at count value

-- ---- values
-- the kind of a value, by how it begins
abbrev pub kind_by : Start → Option Kind
kind_by start_null = Some kinds.Null
kind_by start_true = Some kinds.True
kind_by start_false = Some kinds.False
kind_by start_number = Some kinds.Number
kind_by start_text = Some kinds.Text
kind_by start_array = Some kinds.Array
kind_by start_object = Some kinds.Object
kind_by start_nothing = None

abbrev pub plain_by : Kind → Plain
plain_by kinds.Null = is_null
plain_by kinds.True = is_true
plain_by kinds.False = is_false
plain_by kinds.Number = is_number
plain_by kinds.Text = is_text
plain_by kinds.Array = is_text
plain_by kinds.Object = is_text
plain_by kinds.Free = is_text

-- the place behind a value without brackets
unfoldable pub scan_by : Plain → Bytes → ℕ → Result ℕ
unfolding word_at digits_at chars_at
scan_by is_null s at = word_at (ascii "null") s at
scan_by is_true s at = word_at (ascii "true") s at
scan_by is_false s at = word_at (ascii "false") s at
scan_by is_number s at = digits_at s at
scan_by is_text s at = chars_at s (at + 1)

-- there is room for what is read, and places fit a word
pub record Ready (s : Bytes) (w : List ℕ) (at node : ℕ) : Type 0 where
  pub bytes : length s ≤ max_bytes
  pub upto : at ≤ length s
  pub long : 12288 ≤ length w
  pub nodes : node ≤ max_nodes

pub record TreeReady (s : Bytes) (w : List ℕ) (seen : List Bool) (at node left : ℕ) : Type 0 where
  pub ready : Ready s w at node
  pub marks : 32749 ≤ length seen
  pub depth : left ≤ max_depth

-- a value that was read: its rows stand from its node on, and no other word has changed
pub record Rows (x : Result (Placed Node)) (w w' : List ℕ) (node : ℕ) (p : Place) : Type 0 where
  pub tree : Node
  pub read : x ≡ ok (record { tree = tree; place = p.at; count = p.node })
  pub words : w' ≡ sets w (3 * node) (rows tree node)

-- what reading gives by its definition is what the code answers; a refusal changes no word past the table's rows
unfoldable pub ParsedTold : Result (Placed Node) → List ℕ → List ℕ → ℕ → Fallible Place Why → Type 0
ParsedTold x w w' node (Err r) = (x ≡ refused (refusal_of r)) × (drop 12288 w' ≡ drop 12288 w)
ParsedTold x w w' node (Ok p) = Rows x w w' node p

pub record Told (x : Result (Placed Node)) (w w' : List ℕ) (seen seen' : List Bool) (node : ℕ) (r : Fallible Place Why) : Type 0 where
  pub parsed : ParsedTold x w w' node r
  pub grown : Grown seen seen'

-- a row is written and the place behind it answered
pub record RowLaid (w w' : List ℕ) (node kind start end after place : ℕ) (p : Place) : Type 0 where
  pub words : w' ≡ sets w (3 * node) ((8 * start + kind) ∷ end ∷ after ∷ [])
  pub answer : p ≡ record { at = place; node = after }

-- what stands behind an opening bracket, and behind an element or a member
unfoldable pub Opens : Bytes → ℕ → ℕ → Sep → Type 0
Opens s at close (seps.Shut e) = (get_or s (skip_at s (at + 1)) 0 ≡ close) × (e ≡ skip_at s (at + 1) + 1) × (e ≤ length s)
Opens s at close (seps.On h) = (get_or s (skip_at s (at + 1)) 0 ≡ close → ⊥) × (h ≡ skip_at s (at + 1)) × (at < h) × (h ≤ length s)

unfoldable pub Continues : Bytes → ℕ → ℕ → Fallible Sep Why → Type 0
Continues s at close (Err r) = (r ≡ whys.NotJson) × (get_or s (skip_at s at) 0 ≡ 44 → ⊥) × (get_or s (skip_at s at) 0 ≡ close → ⊥)
Continues s at close (Ok (seps.Shut e)) = (get_or s (skip_at s at) 0 ≡ close) × (e ≡ skip_at s at + 1) × (e ≤ length s)
Continues s at close (Ok (seps.On h)) = (get_or s (skip_at s at) 0 ≡ 44) × (h ≡ skip_at s (skip_at s at + 1)) × (at < h) × (h ≤ length s)
