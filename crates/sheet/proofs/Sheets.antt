-- A sheet gives a value where its names are known and each member is what it must be.
-- Assumes nothing.
use mathlib.Core.Bool.{Bool, ◌&&◌}
use mathlib.Core.List.{List}
use mathlib.Core.Path.{sym, ◌∙◌, ◌≡◌}
use Prim.Native.Nat.{ℕ}
use Rattle.strings.specs.Answers.{found_of}
use Rattle.json_text.specs.Bytes.{Bytes, ascii, find}
use Rattle.json_text.specs.Json.{Members, entries, keys, object}
use Rattle.sheet.proofs.Rules.{left3}
use Rattle.members.proofs.Verdicts.{ok_bind, ok_last, optional_ok, required_ok}
use Rattle.members.specs.Kinds.{a_text, a_version, an_array_of, an_object, not_null, only, optional, required}
use Rattle.sheet.specs.Named.{SheetNamed}
use Rattle.members.specs.Outcome.{an_outcome}
use Rattle.members.specs.Rule.{a_rule}
use Rattle.members.specs.Sheet.{a_sheet, sheet_names}
use Rattle.members.specs.Verdicts.{is_ok}
use Rattle.members.specs.Wants.{allowed, needed}
use Rattle.sheet.specs.declared.sheet.SheetMembers.{SheetMembers}

-- ---- the sheet
module _ (ms : Members) where
  pub sheet_parts : is_ok (a_sheet not_null (object ms)) ≡
      (is_ok (only sheet_names (keys ms)) &&
      (is_ok (optional a_text (ascii "id") ms) &&
      (is_ok (required a_text (ascii "entity") ms) &&
      (is_ok (required a_version (ascii "version") ms) &&
      (is_ok (required an_object (ascii "args") ms) &&
      (is_ok (required an_object (ascii "fields") ms) &&
      (is_ok (required an_object (ascii "old_fields") ms) &&
      (is_ok (optional a_text (ascii "from_state") ms) &&
      (is_ok (required a_text (ascii "to_state") ms) &&
      (is_ok (optional a_text (ascii "state") ms) &&
      (is_ok (required (an_array_of a_text) (ascii "states") ms) &&
      (is_ok (optional not_null (ascii "condition") ms) &&
      (is_ok
      (required (an_array_of (a_rule not_null)) (ascii "preconditions") ms) &&
      (is_ok
      (required (an_array_of (a_rule not_null)) (ascii "invariants")
      ms) &&
      is_ok
      (required (an_array_of (an_outcome not_null)) (ascii "outcomes")
      ms)))))))))))))))
  unfolding a_sheet
  sheet_parts =
      ok_bind (only sheet_names (keys ms)) _ _
      (λ _. ok_bind (optional a_text (ascii "id") ms) _ _
      (λ x0. ok_bind (required a_text (ascii "entity") ms) _ _
      (λ x1. ok_bind (required a_version (ascii "version") ms) _ _
      (λ x2. ok_bind (required an_object (ascii "args") ms) _ _
      (λ x3. ok_bind (required an_object (ascii "fields") ms) _ _
      (λ x4. ok_bind (required an_object (ascii "old_fields") ms) _ _
      (λ x5. ok_bind (optional a_text (ascii "from_state") ms) _ _
      (λ x6. ok_bind (required a_text (ascii "to_state") ms) _ _
      (λ x7. ok_bind (optional a_text (ascii "state") ms) _ _
      (λ x8. ok_bind (required (an_array_of a_text) (ascii "states") ms) _ _
      (λ x9. ok_bind (optional not_null (ascii "condition") ms) _ _
      (λ x10. ok_bind (required (an_array_of (a_rule not_null)) (ascii "preconditions") ms) _ _
      (λ x11. ok_bind (required (an_array_of (a_rule not_null)) (ascii "invariants") ms) _ _
      (λ x12. ok_last (required (an_array_of (an_outcome not_null)) (ascii "outcomes") ms) _))))))))))))))

  pub sheet_ok : is_ok (a_sheet not_null (object ms)) ≡
      ((((((((((((((is_ok (only sheet_names (keys ms)) &&
      allowed (λ v. is_ok (a_text v)) (find (ascii "id") (entries ms))) &&
      needed (λ v. is_ok (a_text v)) (find (ascii "entity") (entries ms))) &&
      needed (λ v. is_ok (a_version v)) (find (ascii "version") (entries ms))) &&
      needed (λ v. is_ok (an_object v)) (find (ascii "args") (entries ms))) &&
      needed (λ v. is_ok (an_object v)) (find (ascii "fields") (entries ms))) &&
      needed (λ v. is_ok (an_object v)) (find (ascii "old_fields") (entries ms))) &&
      allowed (λ v. is_ok (a_text v)) (find (ascii "from_state") (entries ms))) &&
      needed (λ v. is_ok (a_text v)) (find (ascii "to_state") (entries ms))) &&
      allowed (λ v. is_ok (a_text v)) (find (ascii "state") (entries ms))) &&
      needed (λ v. is_ok (an_array_of a_text v)) (find (ascii "states") (entries ms))) &&
      allowed (λ v. is_ok (not_null v)) (find (ascii "condition") (entries ms))) &&
      needed (λ v. is_ok (an_array_of (a_rule not_null) v)) (find (ascii "preconditions") (entries ms))) &&
      needed (λ v. is_ok (an_array_of (a_rule not_null) v)) (find (ascii "invariants") (entries ms))) &&
      needed (λ v. is_ok (an_array_of (an_outcome not_null) v)) (find (ascii "outcomes") (entries ms)))
  sheet_ok =
      sheet_parts ∙
      rw (
        optional_ok a_text (ascii "id") ms,
        required_ok a_text (ascii "entity") ms,
        required_ok a_version (ascii "version") ms,
        required_ok
            an_object (ascii "args") ms,
        required_ok an_object (ascii "fields") ms,
        required_ok an_object (ascii "old_fields") ms,
        optional_ok
            a_text (ascii "from_state") ms,
        required_ok a_text (ascii "to_state") ms,
        optional_ok a_text (ascii "state") ms,
        required_ok
            (an_array_of a_text) (ascii "states") ms,
        optional_ok not_null (ascii "condition") ms,
        required_ok (an_array_of (a_rule not_null))
            (ascii "preconditions") ms,
        required_ok (an_array_of (a_rule not_null)) (ascii "invariants") ms,
        required_ok
            (an_array_of (an_outcome not_null)) (ascii "outcomes") ms,
      ) (simp left3)

  pub is_sheet :
      {s : Bytes} {w : List ℕ} (m : SheetMembers) → SheetNamed s w ms m → (b0 b1 b2 b3 b4 b5 b6 b7 b8 b9 b10 b11 b12 b13 b14 : Bool) →
      b0 ≡ is_ok (only sheet_names (keys ms)) → b1 ≡ allowed (λ v. is_ok (a_text v)) (found_of s w m.id) →
      b2 ≡ needed (λ v. is_ok (a_text v)) (found_of s w m.entity) → b3 ≡ needed (λ v. is_ok (a_version v)) (found_of s w m.version) →
      b4 ≡ needed (λ v. is_ok (an_object v)) (found_of s w m.args) → b5 ≡ needed (λ v. is_ok (an_object v)) (found_of s w m.fields) →
      b6 ≡ needed (λ v. is_ok (an_object v)) (found_of s w m.old_fields) → b7 ≡ allowed (λ v. is_ok (a_text v)) (found_of s w m.from_state) →
      b8 ≡ needed (λ v. is_ok (a_text v)) (found_of s w m.to_state) → b9 ≡ allowed (λ v. is_ok (a_text v)) (found_of s w m.state) →
      b10 ≡ needed (λ v. is_ok (an_array_of a_text v)) (found_of s w m.states) → b11 ≡ allowed (λ v. is_ok (not_null v)) (found_of s w m.condition) →
      b12 ≡ needed (λ v. is_ok (an_array_of (a_rule not_null) v)) (found_of s w m.preconditions) →
      b13 ≡ needed (λ v. is_ok (an_array_of (a_rule not_null) v)) (found_of s w m.invariants) →
      b14 ≡ needed (λ v. is_ok (an_array_of (an_outcome not_null) v)) (found_of s w m.outcomes) →
      ((((((((((((((b0 && b1) && b2) && b3) && b4) && b5) && b6) && b7) && b8) && b9) && b10) && b11) && b12) && b13) && b14) ≡
      is_ok (a_sheet not_null (object ms))
  is_sheet m t b0 b1 b2 b3 b4 b5 b6 b7 b8 b9 b10 b11 b12 b13 b14 i0 i1 i2 i3 i4 i5 i6 i7 i8 i9 i10 i11 i12 i13 i14 =
      sym
      (sheet_ok ∙
      rw (
        t.id.answers,
        t.entity.answers,
        t.version.answers,
        t.args.answers,
        t.fields.answers,
        t.old_fields.answers,
        t.from_state.answers,
        t.to_state.answers,
        t.state.answers,
        t.states.answers,
        t.condition.answers,
        t.preconditions.answers,
        t.invariants.answers,
        t.outcomes.answers,
        ← i0,
        ← i1,
        ← i2,
        ← i3,
        ← i4,
        ← i5,
        ← i6,
        ← i7,
        ← i8,
        ← i9,
        ← i10,
        ← i11,
        ← i12,
        ← i13,
        ← i14,
      ))
