-- A sheet that was read keeps within the limits that evaluation rests on.
-- Assumes nothing.
use mathlib.Core.Path.{◌≡◌, refl}
use mathlib.Core.List.{[]}
use Rattle.std.specs.Prelude.{Some}
use Prim.Native.Nat.{◌≤◌, max, Ordering}
use native.Mathlib.Omega.{arith}
use Rattle.paths.proofs.Nesting.{Low, LowSheet, Shallow, members_low}
use Rattle.semantics.proofs.Parts.{All, Hereditary, condition_has, find_entry, sheet_has}
use Rattle.semantics.specs.Semantics.{kernel}
use Rattle.json_text.proofs.Complete.{read_exactly}
use Rattle.json_text.proofs.Sound.{bind_with}
use Rattle.json_text.specs.Bytes.{Bytes, find, order_bytes}
use Rattle.json_text.specs.Json.{Members, Value, Values, array, bool, cons, elements, empty, entries, member, nil, null, number, object, text}
use Rattle.json_text.specs.Limits.{depth, depth_in, depth_of}
use Rattle.json_text.specs.Reader.{json}
use Rattle.json_text.specs.Refusal.{ok}
use Rattle.json_text.specs.Sorted.{insert, sorted, sorted_in, sorted_of}
use Rattle.members.specs.Condition.{Condition, condition}
use Rattle.members.specs.Kinds.{an_object, not_null}
use Rattle.members.specs.Sheet.{Sheet, a_sheet, read_sheet, sound, written}
use Rattle.semantics.specs.Evaluate.{evaluate}
use Rattle.comparison.specs.Judge.{judge}
use Rattle.comparison.proofs.Judge.{judge_whole}

-- sorting adds no bracket
insert_depth : (k : Bytes) (v : Value) (ms : Members) → depth_of (insert k v ms) ≤ max (depth v) (depth_of ms)
unfolding order_bytes depth_of
insert_depth k v empty = omega arith
insert_depth k v (member l w ms) = go (insert_depth k v ms) (order_bytes k l) refl
  where
    go : depth_of (insert k v ms) ≤ max (depth v) (depth_of ms) → (o : Ordering) → order_bytes k l ≡ o →
        depth_of (insert k v (member l w ms)) ≤ max (depth v) (max (depth w) (depth_of ms))
    go h Ordering.lt q = rw (q, insert) (omega arith)
    go h Ordering.eq q = rw (q, insert) (omega arith)
    go h Ordering.gt q = rw (q, insert) (omega arith)

mutual
  unfolding sorted depth

  pub sorted_depth : (v : Value) → depth (sorted v) ≤ depth v
  sorted_depth null = omega arith
  sorted_depth (bool b) = omega arith
  sorted_depth (number s) = omega arith
  sorted_depth (text s) = omega arith
  sorted_depth (array vs) = let h = sorted_in_depth vs in omega arith
  sorted_depth (object ms) = let h = sorted_of_depth ms in omega arith

  sorted_in_depth : (vs : Values) → depth_in (sorted_in vs) ≤ depth_in vs
  sorted_in_depth nil = omega arith
  sorted_in_depth (cons v vs) = let h = sorted_depth v in let k = sorted_in_depth vs in omega arith

  sorted_of_depth : (ms : Members) → depth_of (sorted_of ms) ≤ depth_of ms
  sorted_of_depth empty = omega arith
  sorted_of_depth (member k v ms) =
      let h = sorted_depth v in
      let j = sorted_of_depth ms in
      let l = insert_depth k (sorted v) (sorted_of ms) in
      omega arith

-- a part has no more brackets than the whole
pub find_shallow : (k : Bytes) (ms : Members) (v : Value) → find k (entries ms) ≡ Some v → depth v ≤ depth_of ms
find_shallow k ms v e = find_entry (λ x. depth x ≤ depth_of ms) k (entries ms) (members_low (depth_of ms) ms (omega arith)) e

elements_low : (vs : Values) → depth_in vs ≤ 64 → All Shallow (elements vs)
unfolding depth_in
elements_low nil h = tt
elements_low (cons v vs) h = (omega arith, elements_low vs (omega arith))

parts_low : Hereditary Shallow
unfolding depth
parts_low = record { in_array = λ vs h. elements_low vs (omega arith); in_object = λ ms h. members_low 64 ms (omega arith) }

-- a condition's operands are parts of the value that it was read from
pub condition_low : (v : Value) (c : Condition) → depth v ≤ 64 → condition v ≡ ok c → Low c
condition_low v c h e = condition_has Shallow parts_low v c h e

-- What evaluation rests on holds of every sheet that is read.
pub read_low : (s : Bytes) (sheet : Sheet Condition) → read_sheet s ≡ ok sheet → LowSheet sheet
unfolding read_sheet
read_low s sheet e =
    bind_with (json s) _ e λ v q e₁.
    bind_with (a_sheet not_null v) _ e₁ λ _ _ e₂.
    bind_with (an_object v) _ e₂ λ ms _ e₃.
    bind_with (sound (written (entries ms))) _ e₃ λ _ _ e₄.
    let w = (read_exactly s v).0 q in
    let b = w.brackets in
    let k = sorted_depth v in
    let h = sheet_has Shallow parts_low (sorted v) sheet (omega arith) e₄ in
    record { args = h.args; fields = h.fields; old_fields = h.old_fields }

-- so its conditions are judged as they are defined
pub judge_read : (s : Bytes) (sheet : Sheet Condition) → read_sheet s ≡ ok sheet → (c : Condition) → Low c → judge sheet [] c ≡ evaluate kernel sheet [] c
judge_read s sheet e c h = judge_whole sheet (read_low s sheet e) c h
