-- The third demand: a decision that is run again. What must be the same, what may change, and one claim about two whole Decide calls.
-- Assumes nothing.
use Rattle.std.specs.Prelude.{Bool, false, true, ◌&&◌, ◌≢◌, ◌⊎◌, ◌≡◌, ℕ, ◌≤◌, leb, ltb, length}
use mathlib.Core.List.{Memᴰ, [], ◌∷◌}
use Rattle.std.specs.Prelude.{Option, None, Some}
use Rattle.answers.specs.Decide.{decide_call}
use Rattle.answers.specs.Entry.{Reply, decide, work_words}
use Rattle.answers.specs.Line.{refusal_line, refusal_number}
use Rattle.answers.specs.Outcomes.{Placed, at, eligible, select}
use Rattle.semantics.specs.Expression.{gives}
use Rattle.semantics.specs.Names.{Names}
use Rattle.semantics.specs.Readings.{IsReading, Reading, clean}
use Rattle.semantics.specs.Semantics.{kernel}
use Rattle.json_text.specs.Bytes.{Bytes}
use Rattle.json_text.specs.Json.{Value, null}
use Rattle.json_text.specs.Refusal.{Refusal, Result, guard_unknown, no_outcome, ok, preconditions, refused, rule_false, rule_unknown}
use Rattle.members.specs.Condition.{Condition}
use Rattle.members.specs.Sheet.{Sheet, read_sheet}

-- the rules and the state of two sheets
pub record SameRules (old new : Sheet Condition) : Type 0 where
  pub rules : new.preconditions ≡ old.preconditions
  pub outcomes : new.outcomes ≡ old.outcomes
  pub state : new.state ≡ old.state
  pub states : new.states ≡ old.states

module _ (old new : Sheet Condition) where
  abbrev pub Unchanged : Reading → Type 0
  Unchanged r = gives kernel new [] r.text ≡ gives kernel old [] r.text

  -- its old value or nothing; under `exists` exactly as before
  abbrev pub Kept : Reading → Type 0
  Kept r = Unchanged r ⊎ ((r.exact ≡ false) × (gives kernel new [] r.text ≡ ok None))

  -- a value other than null before, and nothing now
  pub record Vanished (r : Reading) : Type 0 where
    pub value : Value
    pub gave : gives kernel old [] r.text ≡ ok (Some value)
    pub not_null : value ≢ null
    pub gone : gives kernel new [] r.text ≡ ok None

  -- a refusal names a vanished reading
  abbrev pub NamesVanished : Names → Type 0
  NamesVanished ns = (r : Reading) × IsReading old r × Vanished r × Memᴰ (36 ∷ r.text) ns

-- a rule or a guard, by its place
pub data Step : Type 0 where
  rule guard : ℕ → Step

-- a step that is tried: a rule, or the guard of an eligible outcome
abbrev pub has_guard : Option Condition → Bool
has_guard None = false
has_guard (Some c) = true

abbrev pub is_guarded : Option Bytes → Option Placed → Bool
is_guarded state None = false
is_guarded state (Some p) = eligible state p.outcome && has_guard p.outcome.when

unfoldable pub is_tried : Sheet Condition → Step → Bool
unfolding at eligible
is_tried s (rule k) = ltb k (length s.preconditions)
is_tried s (guard k) = is_guarded s.state (at 0 k s.outcomes)

-- unobservable refusals, the step at which they stand, and their names
pub data Unobservable : Refusal → Step → Names → Type 0 where
  at_rule : {i : ℕ} {n m : Option Bytes} {ns : Names} → Unobservable (rule_unknown preconditions i n m ns) (rule i) ns
  at_guard : {i : ℕ} {n : Bytes} {ns : Names} → Unobservable (guard_unknown i n ns) (guard i) ns

-- What settled a decision: nothing that is tried, a rule, a guard, all that were tried, or the outcome selected.
pub data Settler : Type 0 where
  nothing everything selection : Settler
  at_place : Step → Settler

-- 15, 16 and 20 by the rule or guard at their place; at 19 all were tried before; 21 and 22, as an admission, by the outcome selected. Of an
-- accepted sheet with clean rules and enough output, Decide gives no other number but 12, which comes before all rules.
unfoldable pub settler : Refusal → Settler
settler Refusal.work_too_small = nothing
settler Refusal.too_long = nothing
settler Refusal.not_utf8 = nothing
settler Refusal.not_json = nothing
settler Refusal.too_deep = nothing
settler Refusal.number_too_long = nothing
settler Refusal.too_many_nodes = nothing
settler Refusal.repeated_name = nothing
settler Refusal.wrong_sheet = nothing
settler Refusal.wrong_shape = nothing
settler Refusal.not_carried = nothing
settler Refusal.no_input = nothing
settler (Refusal.unknown_expression e) = nothing
settler Refusal.no_id = nothing
settler (rule_false k i n m) = at_place (rule i)
settler (rule_unknown k i n m ns) = at_place (rule i)
settler no_outcome = everything
settler (guard_unknown i n ns) = at_place (guard i)
settler (Refusal.wrong_state s) = selection
settler (Refusal.not_a_source i n s from) = selection
settler Refusal.line_too_long = nothing

-- the order in which steps are tried: rules before guards, each by place
abbrev pub at_or_before : Step → Step → Bool
at_or_before (rule k) (rule i) = leb k i
at_or_before (rule k) (guard i) = true
at_or_before (guard k) (rule i) = false
at_or_before (guard k) (guard i) = leb k i

abbrev pub before_guard : Step → ℕ → Bool
before_guard (rule k) i = true
before_guard (guard k) i = ltb k i

-- up to the guard of an outcome; where it has none, only what stands before it
abbrev pub up_to_outcome : Option Condition → ℕ → Step → Bool
up_to_outcome None i k = before_guard k i
up_to_outcome (Some c) i k = at_or_before k (guard i)

abbrev pub up_to_selected : Result Placed → Step → Bool
up_to_selected (refused r) k = false
up_to_selected (ok p) k = up_to_outcome p.outcome.when p.place k

abbrev pub up_to_settler : Result Placed → Settler → Step → Bool
up_to_settler p nothing k = false
up_to_settler p everything k = true
up_to_settler p selection k = up_to_selected p k
up_to_settler p (at_place j) k = at_or_before k j

-- the steps that count for the decision on a sheet: those at or before what settled it
unfoldable pub counts_for : Sheet Condition → Step → Bool
unfolding settler
counts_for s k = elim (decide_call s) [ ok v ↦ up_to_selected (select s 0 s.outcomes) k | refused r ↦ up_to_settler (select s 0 s.outcomes) (settler r) k ]

-- What the owner supposes of two sheets: the same clean rules and state, and of every name that the rules read its old value or nothing.
pub record Comparable (old new : Sheet Condition) : Type 0 where
  pub same_rules : SameRules old new
  pub is_clean : clean kernel old ≡ true
  pub is_clean_again : clean kernel new ≡ true
  pub old_value_or_nothing : (r : Reading) → IsReading old r → Kept old new r

-- a call whose sheet is accepted, with enough output: what was read, and that the number is not 23
pub record AcceptedAs (sheet : Sheet Condition) (s : Bytes) (work : ℕ) (r : Reply) : Type 0 where
  pub enough_work : work_words ≤ work
  pub reads : read_sheet s ≡ ok sheet
  pub enough_output : r.number ≢ 23

-- What the owner supposes of two calls, by their texts, work tables and replies.
pub record Premises (old new : Sheet Condition) (s s' : Bytes) (work work' : ℕ) (was now : Reply) : Type 0 where
  pub accepted : AcceptedAs old s work was
  pub accepted_again : AcceptedAs new s' work' now
  pub comparable : Comparable old new

-- the decision on a sheet is an unobservable refusal at a step
abbrev pub IsUnobservable : Sheet Condition → Step → Type 0
IsUnobservable s k = (q : Refusal) × (ns : Names) × (decide_call s ≡ refused q) × Unobservable q k ns

module _ (old new : Sheet Condition) where
  -- the new decision is an unobservable refusal where the owner allows one
  pub record RefusedAgain : Type 0 where
    pub refusal : Refusal
    pub step : Step
    pub names : Names
    pub unobservable : Unobservable refusal step names
    pub is_new : decide_call new ≡ refused refusal
    pub tried : is_tried old step ≡ true
    pub counts : counts_for old step ≡ true
    pub named : NamesVanished old new names ⊎ IsUnobservable old step

  -- What is promised then of what is seen of the two decisions (a reply, or the bytes that are printed): the same, or what is seen of such a refusal.
  pub record Promised {A : Type 0} (of : Refusal → A) (was now : A) : Type 0 where
    pub same_or_refused : (now ≡ was) ⊎ ((r : RefusedAgain) × (now ≡ of r.refusal))
    pub same_where_unchanged : ((r : Reading) → IsReading old r → Unchanged old new r) → now ≡ was

-- the reply of a refusal whose line fits
abbrev pub refusal_reply : Refusal → Reply
refusal_reply r = record { number = refusal_number r; line = refusal_line r }

-- what two replies owe each other, the first to an old sheet and the second to a new one
abbrev pub Repeats : Bytes → Bytes → ℕ → ℕ → Reply → Reply → Type 0
Repeats s s' work work' was now = (old new : Sheet Condition) → Premises old new s s' work work' was now → Promised old new refusal_reply was now

-- The demand. A reply depends on the bytes and the two sizes alone, so that it does not matter what work table and output hold at entry.
unfoldable pub Demand : Type 0
Demand = (s s' : Bytes) (work work' output output' : ℕ) → Repeats s s' work work' (decide s work output) (decide s' work' output')
