-- What is known of an accepted sheet: which node of the table gives each of its members.
-- Assumes nothing.
use Rattle.std.specs.Prelude.{Result as Fallible}
use Rattle.std.specs.Prelude.{List, Bool, true, ◌≡◌, ℕ, Ok, Err}
use Rattle.std.specs.Prelude.{Option, None, Some}
use Rattle.json_text.specs.Bytes.{Bytes}
use Rattle.json_text.specs.Held.{AreNodes, IsNode}
use Rattle.json_text.specs.Json.{Value, elements}
use Rattle.json_text.specs.Limits.{max_number, tidy, tidy_in}
use Rattle.json_text.specs.Links.{Linked}
use Rattle.json_text.specs.Reader.{json}
use Rattle.json_text.specs.Refusal.{Result, not_carried, ok, refused, wrong_shape, wrong_sheet}
use Rattle.json_text.specs.Sorted.{sorted, sorted_in}
use Rattle.json_text.specs.Table.{value_at, values_at}
use Rattle.members.specs.Condition.{Condition, Conditions, condition, conditions_in}
use Rattle.members.specs.Kinds.{a_bool, a_text, a_version, an_array_of, an_object, each_of, some_texts}
use Rattle.members.specs.Outcome.{Effect, Outcome, an_effect, an_outcome, or_false, or_stays}
use Rattle.members.specs.Rule.{Rule, a_rule}
use Rattle.members.specs.Sheet.{Sheet, read_sheet}
use Rattle.sheet.specs.declared.outcome.MoveMembers.{MoveMembers}
use Rattle.sheet.specs.declared.outcome.OutcomeMembers.{OutcomeMembers}
use Rattle.sheet.specs.declared.rule.RuleMembers.{RuleMembers}
use Rattle.sheet.specs.declared.shape.Members.{Members}
use Rattle.sheet.specs.declared.shape.Misshapen.{Misshapen}
use Rattle.sheet.specs.declared.shape.Misshapen.TheVariants as misshapen
use Rattle.members.specs.declared.told.Fault.{Fault}
use Rattle.members.specs.declared.told.Fault.TheVariants as faults
use Rattle.sheet.specs.declared.sheet.SheetMembers.{SheetMembers}

-- the table holds the tree that the sheet's text spells, and its objects' names are linked
pub record Stored (s : Bytes) (w : List ℕ) : Type 0 where
  pub reads : json s ≡ ok (value_at s w 0)
  pub node : IsNode s w 64 0
  pub linked : Linked s w

-- the node's value, sorted, gives what the kind makes of it; no name is repeated in it
pub record Gives {A : Type 0} (kind : Value → Result A) (s : Bytes) (w : List ℕ) (n : ℕ) (a : A) : Type 0 where
  pub node : IsNode s w 64 n
  pub is_tidy : tidy max_number (value_at s w n) ≡ true
  pub is : kind (sorted (value_at s w n)) ≡ ok a

-- the same of a member that may be missing
unfoldable pub MayGive : {A : Type 0} → (Value → Result A) → Bytes → List ℕ → Option ℕ → Option A → Type 0
MayGive kind s w None o = o ≡ None
MayGive {A} kind s w (Some n) o = (a : A) × (o ≡ Some a) × Gives kind s w n a

-- the node of a member that is there
unfoldable pub node_of : Option ℕ → ℕ
node_of None = 0
node_of (Some n) = n

unfoldable pub members_of : SheetMembers → Members
unfolding node_of
members_of m =
    record {
      id = m.id;
      entity = node_of m.entity;
      version = node_of m.version;
      args = node_of m.args;
      fields = node_of m.fields;
      old_fields = node_of m.old_fields;
      from_state = m.from_state;
      to_state = node_of m.to_state;
      state = m.state;
      states = node_of m.states;
      condition = m.condition;
      preconditions = node_of m.preconditions;
      invariants = node_of m.invariants;
      outcomes = node_of m.outcomes;
    }

-- the sheet that is read, and the node that gives each of its members
pub record Accepted (s : Bytes) (w : List ℕ) (m : Members) (sheet : Sheet Condition) : Type 0 where
  pub reads : read_sheet s ≡ ok sheet
  pub stored : Stored s w
  pub id : MayGive a_text s w m.id sheet.id
  pub entity : Gives a_text s w m.entity sheet.entity
  pub version : Gives a_version s w m.version sheet.version
  pub args : Gives an_object s w m.args sheet.args
  pub fields : Gives an_object s w m.fields sheet.fields
  pub old_fields : Gives an_object s w m.old_fields sheet.old_fields
  pub from_state : MayGive a_text s w m.from_state sheet.from_state
  pub to_state : Gives a_text s w m.to_state sheet.to_state
  pub state : MayGive a_text s w m.state sheet.state
  pub states : Gives (an_array_of a_text) s w m.states sheet.states
  pub its_condition : MayGive condition s w m.condition sheet.condition
  pub preconditions : Gives (an_array_of (a_rule condition)) s w m.preconditions sheet.preconditions
  pub invariants : Gives (an_array_of (a_rule condition)) s w m.invariants sheet.invariants
  pub outcomes : Gives (an_array_of (an_outcome condition)) s w m.outcomes sheet.outcomes

-- a condition's fault as the sheet's
abbrev pub misshapen_by : Fault → Misshapen
misshapen_by faults.Shape = misshapen.WrongShape
misshapen_by faults.NotCarried = misshapen.NotCarried

-- what the answer says: the refusal, or the sheet
unfoldable pub Shaped : Bytes → List ℕ → Fallible Members Misshapen → Type 0
Shaped s w (Err misshapen.WrongSheet) = read_sheet s ≡ refused wrong_sheet
Shaped s w (Err misshapen.WrongShape) = read_sheet s ≡ refused wrong_shape
Shaped s w (Err misshapen.NotCarried) = read_sheet s ≡ refused not_carried
Shaped s w (Ok m) = (sheet : Sheet Condition) × Accepted s w m sheet

-- ---- further down: what a list, a rule, an outcome and a move are, node by node
-- the nodes from k up to e give the elements of a list
pub record EachGives {A : Type 0} (kind : Value → Result A) (s : Bytes) (w : List ℕ) (k e : ℕ) (xs : List A) : Type 0 where
  pub nodes : AreNodes s w 64 k e
  pub is_tidy : tidy_in max_number (values_at s w k e) ≡ true
  pub is : each_of kind (elements (sorted_in (values_at s w k e))) ≡ ok xs

-- a member that must be there
pub record Given {A : Type 0} (kind : Value → Result A) (s : Bytes) (w : List ℕ) (f : Option ℕ) (a : A) : Type 0 where
  pub node : ℕ
  pub found : f ≡ Some node
  pub gives : Gives kind s w node a

pub record RuleGives (s : Bytes) (w : List ℕ) (m : RuleMembers) (r : Rule Condition) : Type 0 where
  pub assert : Given condition s w m.assert r.assert
  pub name : MayGive a_text s w m.name r.name
  pub message : MayGive a_text s w m.message r.message

-- a missing `wrong_state` is false and a missing effect leaves the state
pub record OutcomeGives (s : Bytes) (w : List ℕ) (m : OutcomeMembers) (o : Outcome Condition) : Type 0 where
  pub name : Given a_text s w m.name o.name
  pub when : MayGive condition s w m.when o.when
  pub in_state : MayGive a_text s w m.in_state o.in_state
  pub wrong : Option Bool
  pub is_wrong : o.wrong_state ≡ or_false wrong
  pub wrong_state : MayGive a_bool s w m.wrong_state wrong
  pub does : Option Effect
  pub is_effect : o.effect ≡ or_stays does
  pub effect : MayGive an_effect s w m.effect does

pub record MoveGives (s : Bytes) (w : List ℕ) (m : MoveMembers) (to : Bytes) (from : List Bytes) : Type 0 where
  pub goes : Given a_text s w m.to to
  pub comes : Given some_texts s w m.from from

-- the nodes from k up to e give conditions
pub record ConditionsGive (s : Bytes) (w : List ℕ) (k e : ℕ) (cs : Conditions) : Type 0 where
  pub nodes : AreNodes s w 64 k e
  pub is_tidy : tidy_in max_number (values_at s w k e) ≡ true
  pub is : conditions_in (sorted_in (values_at s w k e)) ≡ ok cs

-- ---- what code above is given: something of which a thing is known, as the texts that a node gives
pub record Known {A : Type 0} (Is : A → Type 0) : Type 0 where
  pub given : A
  pub known : Is given
