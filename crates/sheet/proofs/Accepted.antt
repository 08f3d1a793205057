-- The shape of a sheet, by what code has found: refused as `read_sheet` refuses, or accepted with the node of each member.
-- Assumes nothing.
use mathlib.Core.Bool.{Bool, false, true}
use mathlib.Core.List.{List}
use Rattle.std.specs.Prelude.{Option, None, Some, Ok, Err, unwrap_or}
use mathlib.Core.Path.{ap, refl, subst, sym, ◌∙◌, ◌≡◌}
use Prim.Native.Nat.{ℕ}
use native.Mathlib.Omega.{arith}
use Rattle.json_text.proofs.Complete.{read_exactly}
use Rattle.json_text.proofs.Laws.{bind_ok}
use Rattle.strings.specs.Answers.{FoundIn, FoundTold, found_of}
use Rattle.json_text.specs.Bytes.{Bytes, ascii, find}
use Rattle.json_text.specs.Json.{Members, Value, entries, object}
use Rattle.json_text.specs.Limits.{max_number, tidy, tidy_of}
use Rattle.json_text.specs.Refusal.{Refusal, Result, not_carried, ok, or_else, refused, wrong_shape, wrong_sheet, ◌>>=◌}
use Rattle.json_text.specs.Sorted.{sorted, sorted_of}
use Rattle.json_text.specs.Table.{after_at, kind_at, members_at, value_at}
use Rattle.members.proofs.Nine.{nine, sheet_nine}
use Rattle.sheet.proofs.Rules.{no_object, object_is}
use Rattle.members.proofs.Shapes.{tagged}
use Rattle.sheet.proofs.SortedKinds.{bind_inv, okay}
use Rattle.sheet.proofs.SortedMembers.{find_sorted, find_tidy, mapped}
use Rattle.sheet.proofs.SortedSheet.{SheetParts, sheet_sorted}
use Rattle.members.proofs.Soundness.{soundness_of}
use Rattle.members.proofs.Walks.{full}
use Rattle.members.proofs.Verdicts.{never}
use Rattle.sheet.specs.Accepted.{Accepted, Gives, MayGive, Shaped, Stored, members_of, misshapen_by, node_of}
use Rattle.members.specs.Answers.{fault_is}
use Rattle.members.specs.declared.told.Fault.{Fault}
use Rattle.members.specs.declared.told.Fault.TheVariants as faults
use Rattle.members.specs.Condition.{Condition, condition}
use Rattle.members.specs.Kinds.{a_text, a_version, an_array_of, an_object, not_null, optional, required}
use Rattle.sheet.specs.Named.{SheetNamed}
use Rattle.members.specs.Outcome.{an_outcome}
use Rattle.members.specs.Rule.{a_rule}
use Rattle.members.specs.Sheet.{Sheet, a_sheet, checked, read_sheet, sound, written}
use Rattle.members.specs.Verdicts.{fault_of, is_ok}
use Rattle.sheet.specs.declared.shape.Members.{Members as SheetPlaces}
use Rattle.sheet.specs.declared.shape.Misshapen.TheVariants as misshapen
use Rattle.sheet.specs.declared.sheet.SheetMembers.{SheetMembers}

-- ---- a member's node gives what is read under its name
module _ {A : Type 0} (kind : Value → Result A) {s : Bytes} {w : List ℕ} (ms : Members) (t : tidy_of max_number ms ≡ true) (k : Bytes)
    (r : Option ℕ) (f : FoundTold s w (find k (entries ms)) r) where
  found_sorted : find k (entries (sorted_of ms)) ≡ mapped sorted (found_of s w r)
  found_sorted = find_sorted k ms t ∙ ap (mapped sorted) f.answers

  node_gives : (n : ℕ) (a : A) → r ≡ Some n → kind (sorted (value_at s w n)) ≡ ok a → Gives kind s w n a
  unfolding found_of FoundIn
  node_gives n a e i = record { node = full (subst (FoundIn s w) e f.bounds); is_tidy = find_tidy k ms (value_at s w n) t (f.answers ∙ ap (found_of s w) e); is = i }

  pub gives : (a : A) → required kind k (sorted_of ms) ≡ ok a → Gives kind s w (node_of r) a
  unfolding node_of found_of
  gives a e = go r refl (sym (ap {B = Result A} (λ x. or_else x wrong_sheet >>= kind) found_sorted) ∙ e)
    where
      go : (x : Option ℕ) → r ≡ x → (or_else (mapped sorted (found_of s w x)) wrong_sheet >>= kind) ≡ ok a → Gives kind s w (node_of x) a
      go None i j = never wrong_sheet a j
      go (Some n) i j = node_gives n a i j

  pub may_give : (o : Option A) → optional kind k (sorted_of ms) ≡ ok o → MayGive kind s w r o
  unfolding found_of MayGive
  may_give o e = go r refl (sym (ap {B = Result (Option A)} (λ x. elim x [ None ↦ ok None | Some v ↦ (kind v >>= (λ a. ok (Some a))) ]) found_sorted) ∙ e)
    where
      go : (x : Option ℕ) → r ≡
          x → ◌≡◌ {A = Result (Option A)}
          (elim (mapped sorted (found_of s w x)) [ None ↦ ok None | Some v ↦ (kind v >>= (λ a. ok (Some a))) ]) (ok o) → MayGive kind s w x
          o
      go None i j = let z : None ≡ o = cc in sym z
      go (Some n) i j =
          let y = bind_inv (kind (sorted (value_at s w n))) (λ a. ok (Some a)) (o, j) in
          let z : ◌≡◌ {A = Option A} (Some y.0) o = cc (sym (bind_ok (λ a. ok (Some a)) y.1), j) in
          (y.0, sym z, node_gives n y.0 i y.1)

pub node_is : (r : Option ℕ) → unwrap_or r 0 ≡ node_of r
unfolding node_of
node_is None = refl
node_is (Some n) = refl

-- ---- a tree as a sheet
fault_refused : {A : Type 0} (x : Result A) (r : Refusal) → fault_of x ≡ Some r → x ≡ refused r
fault_refused (ok a) r e = cc
fault_refused (refused q) r e = cc

fault_none : {A : Type 0} (x : Result A) → fault_of x ≡ None → (a : A) × (x ≡ ok a)
fault_none (ok a) e = (a, refl)
fault_none (refused q) e = let z : ◌≡◌ {A = ℕ} 0 1 = cc in absurd (omega arith)

refused_bind : {A B : Type 0} {x : Result A} {r : Refusal} (f : A → Result B) → x ≡ refused r → (x >>= f) ≡ refused r
refused_bind {A} {B} f e = ap {B = Result B} (λ y. y >>= f) e

checked_nine : (v : Value) → false ≡ is_ok (a_sheet not_null v) → checked v ≡ refused wrong_sheet
unfolding checked
checked_nine v h = refused_bind _ (nine (a_sheet not_null v) (sheet_nine v) h)

module _ (ms : Members) (h : is_ok (a_sheet not_null (object ms)) ≡ true) where
  checked_fault : (r : Refusal) → soundness_of ms ≡ Some r → checked (object ms) ≡ refused r
  unfolding checked
  checked_fault r e = let o = okay (a_sheet not_null (object ms)) h in bind_ok _ o.1 ∙ refused_bind _ (fault_refused (sound (written (entries ms))) r e)

  checked_ok : (sheet : Sheet Condition) → soundness_of ms ≡ None → a_sheet condition (object (sorted_of ms)) ≡ ok sheet → checked (object ms) ≡ ok sheet
  unfolding checked sorted
  checked_ok sheet e i =
      let o = okay (a_sheet not_null (object ms)) h in
      let q = fault_none (sound (written (entries ms))) e in
      bind_ok _ o.1 ∙ bind_ok _ q.1 ∙ i

-- ---- the whole
read_as : (s : Bytes) (w : List ℕ) → Stored s w → read_sheet s ≡ checked (value_at s w 0)
unfolding read_sheet
read_as s w t = bind_ok checked t.reads

module _ {s : Bytes} {w : List ℕ} (t : Stored s w) (k : ℕ) (p : k ≡ kind_at w 0) where
  pub shape_no_object : (k ≡ 6 → ⊥) → Shaped s w (Err misshapen.WrongSheet)
  unfolding Shaped a_sheet
  shape_no_object f = read_as s w t ∙ checked_nine (value_at s w 0) (no_object (value_at s w 0) _ (λ q. f (tagged t.node k p ∙ q)))

  module _ (q : k ≡ 6) (e : ℕ) (j : e ≡ after_at w 0) where
    the_object : value_at s w 0 ≡ object (members_at s w 1 e)
    the_object = object_is t.node k p q e j

    read_object : read_sheet s ≡ checked (object (members_at s w 1 e))
    read_object = read_as s w t ∙ ap checked the_object

    tidy_members : tidy_of max_number (members_at s w 1 e) ≡ true
    unfolding tidy
    tidy_members = sym (ap (tidy max_number) the_object) ∙ ((read_exactly s (value_at s w 0)).0 t.reads).is_tidy

    module _ (b : Bool) (i : b ≡ is_ok (a_sheet not_null (object (members_at s w 1 e)))) where
      pub shape_wrong : b ≡ false → Shaped s w (Err misshapen.WrongSheet)
      unfolding Shaped
      shape_wrong f = read_object ∙ checked_nine (object (members_at s w 1 e)) (sym f ∙ i)

      pub shape_fault : (r : Fault) → b ≡ true → soundness_of (members_at s w 1 e) ≡ fault_is (Err r) → Shaped s w (Err (misshapen_by r))
      unfolding Shaped fault_is
      shape_fault faults.Shape f g = read_object ∙ checked_fault (members_at s w 1 e) (sym i ∙ f) wrong_shape g
      shape_fault faults.NotCarried f g = read_object ∙ checked_fault (members_at s w 1 e) (sym i ∙ f) not_carried g

      pub shape_is : b ≡ true → soundness_of (members_at s w 1 e) ≡ None → (m : SheetMembers) → SheetNamed s w (members_at s w 1 e) m →
          (sheet : Sheet Condition) × Accepted s w (members_of m) sheet
      unfolding members_of
      shape_is f g m n = let x = sheet_sorted (members_at s w 1 e) tidy_members g (sym i ∙ f) in (x.0, accepted_by x.0 x.1)
        where
          accepted_by : (sheet : Sheet Condition) → SheetParts (sorted_of (members_at s w 1 e)) sheet → Accepted s w (members_of m) sheet
          accepted_by sheet y =
              record {
                reads = read_object ∙ checked_ok (members_at s w 1 e) (sym i ∙ f) sheet g y.whole;
                stored = t;
                id = may_give a_text (members_at s w 1 e) tidy_members (ascii "id") m.id n.id sheet.id y.id;
                entity = gives a_text (members_at s w 1 e) tidy_members (ascii "entity") m.entity n.entity sheet.entity y.entity;
                version = gives a_version (members_at s w 1 e) tidy_members (ascii "version") m.version n.version sheet.version y.version;
                args = gives an_object (members_at s w 1 e) tidy_members (ascii "args") m.args n.args sheet.args y.args;
                fields = gives an_object (members_at s w 1 e) tidy_members (ascii "fields") m.fields n.fields sheet.fields y.fields;
                old_fields = gives an_object (members_at s w 1 e) tidy_members (ascii "old_fields") m.old_fields n.old_fields sheet.old_fields y.old_fields;
                from_state = may_give a_text (members_at s w 1 e) tidy_members (ascii "from_state") m.from_state n.from_state sheet.from_state y.from_state;
                to_state = gives a_text (members_at s w 1 e) tidy_members (ascii "to_state") m.to_state n.to_state sheet.to_state y.to_state;
                state = may_give a_text (members_at s w 1 e) tidy_members (ascii "state") m.state n.state sheet.state y.state;
                states = gives (an_array_of a_text) (members_at s w 1 e) tidy_members (ascii "states") m.states n.states sheet.states y.states;
                its_condition = may_give condition (members_at s w 1 e) tidy_members (ascii "condition") m.condition n.condition sheet.condition y.its_condition;
                preconditions =
                    gives (an_array_of (a_rule condition)) (members_at s w 1 e) tidy_members (ascii "preconditions") m.preconditions
                    n.preconditions sheet.preconditions y.preconditions;
                invariants = gives (an_array_of (a_rule condition)) (members_at s w 1 e) tidy_members (ascii "invariants") m.invariants n.invariants sheet.invariants y.invariants;
                outcomes = gives (an_array_of (an_outcome condition)) (members_at s w 1 e) tidy_members (ascii "outcomes") m.outcomes n.outcomes sheet.outcomes y.outcomes;
              }

-- ---- the members, as code puts them together
pub same_members : (m : SheetMembers) (x0 x1 x2 x3 x4 x5 x6 x7 x8 x9 : ℕ) → x0 ≡ node_of m.entity → x1 ≡ node_of m.version → x2 ≡
    node_of m.args → x3 ≡ node_of m.fields → x4 ≡ node_of m.old_fields → x5 ≡ node_of m.to_state → x6 ≡
    node_of m.states → x7 ≡ node_of m.preconditions → x8 ≡ node_of m.invariants → x9 ≡
    node_of m.outcomes → ◌≡◌ {A = SheetPlaces}
    (record {
      id = m.id;
      entity = x0;
      version = x1;
      args = x2;
      fields = x3;
      old_fields = x4;
      from_state = m.from_state;
      to_state = x5;
      state = m.state;
      states = x6;
      condition = m.condition;
      preconditions = x7;
      invariants = x8;
      outcomes = x9;
    }) (members_of m)
unfolding members_of
same_members m x0 x1 x2 x3 x4 x5 x6 x7 x8 x9 e0 e1 e2 e3 e4 e5 e6 e7 e8 e9 = rw (e0, e1, e2, e3, e4, e5, e6, e7, e8, e9)

pub accepted_at : {s : Bytes} {w : List ℕ} (m : SheetMembers) (r : SheetPlaces) → r ≡ members_of m →
    (sheet : Sheet Condition) × Accepted s w (members_of m) sheet → Shaped s w (Ok r)
unfolding Shaped
accepted_at {s} {w} m r e x = (x.0, subst (λ (y : SheetPlaces). Accepted s w y x.0) (sym e) x.1)
