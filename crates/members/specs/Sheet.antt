-- A sheet (the paper's "Sheet" and "Numbers by call"): its members, 9, then 10 and 11 for the condition at fault that begins first.
-- Assumes nothing.
use Rattle.std.specs.Prelude.{Bool, true, List, [], ◌++◌, ◌∷◌}
use Rattle.std.specs.Prelude.{Option, None, Some}
use Rattle.json_text.specs.Bytes.{Bytes, ascii, find}
use Rattle.json_text.specs.Json.{Members, Value, as_array, as_object, elements, empty, entries, keys}
use Rattle.json_text.specs.Reader.{json}
use Rattle.json_text.specs.Refusal.{Result, ok, refused, ◌>>=◌}
use Rattle.json_text.specs.Sorted.{sorted}
use Rattle.members.specs.Condition.{Condition, condition}
use Rattle.members.specs.Kinds.{a_text, a_version, an_array_of, an_object, each_of, not_null, only, optional, required}
use Rattle.members.specs.Outcome.{Outcome, an_outcome}
use Rattle.members.specs.Rule.{Rule, a_rule}

-- the fourteen members, over what a condition is read as; a member that may be missing is an Option
pub record Sheet (C : Type 0) : Type 0 where
  pub id : Option Bytes
  pub entity : Bytes
  pub version : Bytes
  pub args : Members
  pub fields : Members
  pub old_fields : Members
  pub from_state : Option Bytes
  pub to_state : Bytes
  pub state : Option Bytes
  pub states : List Bytes
  pub condition : Option C
  pub preconditions : List (Rule C)
  pub invariants : List (Rule C)
  pub outcomes : List (Outcome C)

-- the names of the members; there are no others
abbrev pub sheet_names : List Bytes
sheet_names =
    ascii "entity" ∷
    ascii "to_state" ∷
    ascii "version" ∷
    ascii "args" ∷
    ascii "fields" ∷
    ascii "old_fields" ∷
    ascii "states" ∷
    ascii "preconditions" ∷
    ascii "invariants" ∷
    ascii "outcomes" ∷
    ascii "id" ∷
    ascii "from_state" ∷
    ascii "state" ∷
    ascii "condition" ∷
    []

module _ {C : Type 0} (kind : Value → Result C) where
  -- a value as a sheet, or 9
  unfoldable pub a_sheet : Value → Result (Sheet C)
  unfolding find only each_of a_version a_rule an_outcome
  a_sheet v = do
    ms ← an_object v
    _ ← only sheet_names (keys ms)
    i ← optional a_text (ascii "id") ms
    e ← required a_text (ascii "entity") ms
    n ← required a_version (ascii "version") ms
    a ← required an_object (ascii "args") ms
    f ← required an_object (ascii "fields") ms
    o ← required an_object (ascii "old_fields") ms
    fs ← optional a_text (ascii "from_state") ms
    ts ← required a_text (ascii "to_state") ms
    st ← optional a_text (ascii "state") ms
    ss ← required (an_array_of a_text) (ascii "states") ms
    c ← optional kind (ascii "condition") ms
    ps ← required (an_array_of (a_rule kind)) (ascii "preconditions") ms
    is ← required (an_array_of (a_rule kind)) (ascii "invariants") ms
    os ← required (an_array_of (an_outcome kind)) (ascii "outcomes") ms
    ok
        (record {
          id = i;
          entity = e;
          version = n;
          args = a;
          fields = f;
          old_fields = o;
          from_state = fs;
          to_state = ts;
          state = st;
          states = ss;
          condition = c;
          preconditions = ps;
          invariants = is;
          outcomes = os;
        })

-- The conditions of a sheet's text, in the order in which they begin: those that a member holds, member by member as written.
-- the value that an element has under a name
abbrev pub member_of : Bytes → Value → List Value
member_of k v = elim (as_object v) [ None ↦ [] | Some ms ↦ elim (find k (entries ms)) [ None ↦ [] | Some w ↦ w ∷ [] ] ]

-- what the elements have under a name, and the same of an array
unfoldable pub member_of_each : Bytes → List Value → List Value
unfolding find
member_of_each k [] = []
member_of_each k (v ∷ vs) = member_of k v ++ member_of_each k vs

abbrev pub in_array : Bytes → Value → List Value
in_array k v = elim (as_array v) [ None ↦ [] | Some vs ↦ member_of_each k (elements vs) ]

-- where a member of the sheet has conditions: it is one, or each of its elements has one under a name
pub data Holds : Type 0 where
  itself : Holds
  each_under : Bytes → Holds

abbrev pub holders : List (Bytes × Holds)
holders =
    (ascii "condition", itself) ∷
    (ascii "preconditions", each_under (ascii "assert")) ∷
    (ascii "invariants", each_under (ascii "assert")) ∷
    (ascii "outcomes", each_under (ascii "when")) ∷
    []

-- the conditions that a member of the sheet holds
abbrev pub held_by : Option Holds → Value → List Value
held_by None v = []
held_by (Some itself) v = v ∷ []
held_by (Some (each_under k)) v = in_array k v

-- all of them, by the order of the members in the text
unfoldable pub written : List (Bytes × Value) → List Value
unfolding find member_of_each
written [] = []
written (e ∷ es) = held_by (find e.0 holders) e.1 ++ written es

-- the fault of the first condition that has one
unfoldable pub sound : List Value → Result Bool
unfolding condition
sound [] = ok true
sound (v ∷ vs) = do
  _ ← condition v
  sound vs

-- A tree as a sheet: 9, then 10 and 11. What is kept is the sheet of the sorted tree.
unfoldable pub checked : Value → Result (Sheet Condition)
unfolding a_sheet written sound condition sorted
checked v = do
  _ ← a_sheet not_null v
  ms ← an_object v
  _ ← sound (written (entries ms))
  a_sheet condition (sorted v)

-- A sheet's text: 2 to 8, then as a sheet.
unfoldable pub read_sheet : Bytes → Result (Sheet Condition)
unfolding json checked
read_sheet s = do
  v ← json s
  checked v

-- the sheet that an accepted text is read as; any other text is read as an empty one, of which nothing is said
abbrev pub no_sheet : Sheet Condition
no_sheet =
    record {
      id = None;
      entity = [];
      version = [];
      args = empty;
      fields = empty;
      old_fields = empty;
      from_state = None;
      to_state = [];
      state = None;
      states = [];
      condition = None;
      preconditions = [];
      invariants = [];
      outcomes = [];
    }

abbrev pub or_no_sheet : Result (Sheet Condition) → Sheet Condition
or_no_sheet (ok sheet) = sheet
or_no_sheet (refused r) = no_sheet

unfoldable pub sheet_in : Bytes → Sheet Condition
unfolding read_sheet
sheet_in s = or_no_sheet (read_sheet s)
