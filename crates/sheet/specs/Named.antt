-- The members of a rule, an outcome, an effect and a sheet by name: what the nodes that code has found hold.
-- Assumes nothing.
use Rattle.std.specs.Prelude.{List, ℕ}
use Rattle.strings.specs.Answers.{FoundTold}
use Rattle.json_text.specs.Bytes.{Bytes, ascii, find}
use Rattle.json_text.specs.Json.{Members, entries}
use Rattle.sheet.specs.declared.outcome.MoveMembers.{MoveMembers}
use Rattle.sheet.specs.declared.outcome.OutcomeMembers.{OutcomeMembers}
use Rattle.sheet.specs.declared.sheet.SheetMembers.{SheetMembers}
use Rattle.sheet.specs.declared.rule.RuleMembers.{RuleMembers}

pub record RuleNamed (s : Bytes) (w : List ℕ) (ms : Members) (r : RuleMembers) : Type 0 where
  pub assert : FoundTold s w (find (ascii "assert") (entries ms)) r.assert
  pub name : FoundTold s w (find (ascii "name") (entries ms)) r.name
  pub message : FoundTold s w (find (ascii "message") (entries ms)) r.message

pub record OutcomeNamed (s : Bytes) (w : List ℕ) (ms : Members) (r : OutcomeMembers) : Type 0 where
  pub name : FoundTold s w (find (ascii "name") (entries ms)) r.name
  pub when : FoundTold s w (find (ascii "when") (entries ms)) r.when
  pub in_state : FoundTold s w (find (ascii "in_state") (entries ms)) r.in_state
  pub wrong_state : FoundTold s w (find (ascii "wrong_state") (entries ms)) r.wrong_state
  pub effect : FoundTold s w (find (ascii "effect") (entries ms)) r.effect

pub record MoveNamed (s : Bytes) (w : List ℕ) (ms : Members) (r : MoveMembers) : Type 0 where
  pub to : FoundTold s w (find (ascii "to") (entries ms)) r.to
  pub from : FoundTold s w (find (ascii "from") (entries ms)) r.from

pub record SheetNamed (s : Bytes) (w : List ℕ) (ms : Members) (r : SheetMembers) : Type 0 where
  pub id : FoundTold s w (find (ascii "id") (entries ms)) r.id
  pub entity : FoundTold s w (find (ascii "entity") (entries ms)) r.entity
  pub version : FoundTold s w (find (ascii "version") (entries ms)) r.version
  pub args : FoundTold s w (find (ascii "args") (entries ms)) r.args
  pub fields : FoundTold s w (find (ascii "fields") (entries ms)) r.fields
  pub old_fields : FoundTold s w (find (ascii "old_fields") (entries ms)) r.old_fields
  pub from_state : FoundTold s w (find (ascii "from_state") (entries ms)) r.from_state
  pub to_state : FoundTold s w (find (ascii "to_state") (entries ms)) r.to_state
  pub state : FoundTold s w (find (ascii "state") (entries ms)) r.state
  pub states : FoundTold s w (find (ascii "states") (entries ms)) r.states
  pub condition : FoundTold s w (find (ascii "condition") (entries ms)) r.condition
  pub preconditions : FoundTold s w (find (ascii "preconditions") (entries ms)) r.preconditions
  pub invariants : FoundTold s w (find (ascii "invariants") (entries ms)) r.invariants
  pub outcomes : FoundTold s w (find (ascii "outcomes") (entries ms)) r.outcomes
