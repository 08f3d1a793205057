-- Two texts whose rules, outcomes and states are alike, members in any order, have the same rules as read.
-- Assumes nothing.
use mathlib.Core.Bool.{true}
use Rattle.std.specs.Prelude.{Option, None, Some}
use mathlib.Core.Path.{ap, subst, sym, ◌∙◌, ◌≡◌}
use Rattle.answers.specs.Demand.{SameRules}
use Rattle.json_text.proofs.Alike.{alike_sorted}
use Rattle.json_text.proofs.Complete.{read_exactly}
use Rattle.json_text.proofs.Laws.{bind_ok}
use Rattle.json_text.proofs.Sound.{bind_inv}
use Rattle.json_text.specs.Bytes.{Bytes, ascii, find}
use Rattle.json_text.specs.Json.{Members, Value, entries, object}
use Rattle.json_text.specs.Limits.{max_number, tidy, tidy_of}
use Rattle.json_text.specs.Reader.{json}
use Rattle.json_text.specs.Refusal.{Result, ok, or_else, wrong_sheet, ◌>>=◌}
use Rattle.json_text.specs.Sorted.{sorted, sorted_of}
use Rattle.sheet.proofs.SortedMembers.{find_sorted, find_tidy, mapped}
use Rattle.sheet.proofs.SortedSheet.{SheetParts, sheet_sorted}
use Rattle.members.specs.Condition.{Condition}
use Rattle.members.specs.Kinds.{a_text, not_null, optional, required}
use Rattle.members.specs.Sheet.{Sheet, a_sheet, checked, read_sheet, sound, written}
use Rattle.members.specs.Verdicts.{fault_of, is_ok}
use Rattle.answers.specs.AlikeMembers.{AlikeMember, AlikeRules, both_missing, both_there}

-- the parts of a sheet that is read, from its text's members
pub record ReadFrom (ms : Members) (sheet : Sheet Condition) : Type 0 where
  pub is_tidy : tidy_of max_number ms ≡ true
  pub parts : SheetParts (sorted_of ms) sheet

pub read_from : (s : Bytes) (ms : Members) (sheet : Sheet Condition) → json s ≡ ok (object ms) → read_sheet s ≡ ok sheet → ReadFrom ms sheet
unfolding read_sheet checked sorted tidy
read_from s ms sheet e r =
    let c : checked (object ms) ≡ ok sheet = sym (bind_ok checked e) ∙ r in
    let a = bind_inv (a_sheet not_null (object ms)) _ c in
    let b = bind_inv (sound (written (entries ms))) _ a.2 in
    let t : tidy_of max_number ms ≡ true = ((read_exactly s (object ms)).0 e).is_tidy in
    let x = sheet_sorted ms t (ap fault_of b.1) (ap is_ok a.1) in
    let y : ◌≡◌ {A = Result (Sheet Condition)} (ok x.0) (ok sheet) = sym x.1.whole ∙ b.2 in
    let z : x.0 ≡ sheet = cc in
    record { is_tidy = t; parts = subst (SheetParts (sorted_of ms)) z x.1 }

module _ {ms ns : Members} (t : tidy_of max_number ms ≡ true) (u : tidy_of max_number ns ≡ true) (k : Bytes) where
  found_alike : AlikeMember k ms ns → find k (entries (sorted_of ms)) ≡ find k (entries (sorted_of ns))
  found_alike (both_missing e f) = find_sorted k ms t ∙ ap (mapped sorted) (e ∙ sym f) ∙ sym (find_sorted k ns u)
  found_alike (both_there v w e f a) =
      find_sorted k ms t ∙
      ap (mapped sorted) e ∙
      ap {B = Option Value} (λ x. Some x) (alike_sorted max_number v w a (find_tidy k ms v t e)) ∙
      sym (ap (mapped sorted) f) ∙
      sym (find_sorted k ns u)

  pub required_alike : {A : Type 0} (kind : Value → Result A) (a b : A) → AlikeMember k ms ns → required kind k (sorted_of ms) ≡ ok a →
      required kind k (sorted_of ns) ≡ ok b → b ≡ a
  required_alike {A} kind a b h e f =
      let x : ◌≡◌ {A = Result A} (ok b) (ok a) = sym f ∙ ap {B = Result A} (λ o. or_else o wrong_sheet >>= kind) (sym (found_alike h)) ∙ e in
      let y : b ≡ a = cc in
      y

  pub optional_alike :
      {A : Type 0} (kind : Value → Result A) (a b : Option A) → AlikeMember k ms ns → optional kind k (sorted_of ms) ≡ ok a →
      optional kind k (sorted_of ns) ≡ ok b → b ≡ a
  optional_alike {A} kind a b h e f =
      let x : ◌≡◌ {A = Result (Option A)} (ok b) (ok a) = sym f ∙
      ap {B = Result (Option A)} (λ o. elim o [ None ↦ ok None | Some v ↦ (kind v >>= (λ a. ok (Some a))) ]) (sym (found_alike h)) ∙
      e in
      let y : b ≡ a = cc in
      y

pub alike_rules :
    (s s' : Bytes) (ms ns : Members) (old new : Sheet Condition) → json s ≡ ok (object ms) → json s' ≡ ok (object ns) → read_sheet s ≡ ok old →
    read_sheet s' ≡ ok new → AlikeRules ms ns → SameRules old new
alike_rules s s' ms ns old new e f r q a =
    let x = read_from s ms old e r in
    let y = read_from s' ns new f q in
    record {
      rules = required_alike x.is_tidy y.is_tidy (ascii "preconditions") _ old.preconditions new.preconditions a.rules x.parts.preconditions y.parts.preconditions;
      outcomes = required_alike x.is_tidy y.is_tidy (ascii "outcomes") _ old.outcomes new.outcomes a.outcomes x.parts.outcomes y.parts.outcomes;
      state = optional_alike x.is_tidy y.is_tidy (ascii "state") a_text old.state new.state a.state x.parts.state y.parts.state;
      states = required_alike x.is_tidy y.is_tidy (ascii "states") _ old.states new.states a.states x.parts.states y.parts.states;
    }
