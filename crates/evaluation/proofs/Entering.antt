-- An accepted sheet is ready for evaluation, and its conditions are judged there as they are defined.
-- Assumes nothing.
use mathlib.Core.List.{List, []}
use Rattle.std.specs.Prelude.{Option, Some, None, Result as Fallible}
use mathlib.Core.Path.{ap, subst, sym, ◌∙◌, ◌≡◌}
use Prim.Native.Nat.{ℕ, ◌≤◌}
use native.Mathlib.Omega.{arith}
use lib.ListN.{length}
use Rattle.json_text.proofs.Complete.{read_exactly}
use Rattle.json_text.proofs.Walk.{value_is}
use Rattle.json_text.specs.Bytes.{Bytes}
use Rattle.json_text.specs.Held.{IsNode}
use Rattle.json_text.specs.Json.{Members, Value}
use Rattle.json_text.specs.Limits.{depth, depth_in, depth_of}
use Rattle.json_text.specs.Refusal.{Result}
use Rattle.json_text.specs.Sorted.{sorted}
use Rattle.json_text.specs.Spans.{
  Fields,
  Node,
  Nodes,
  Plain,
  arr,
  deep,
  deep_in,
  deep_of,
  erase,
  erase_in,
  erase_of,
  field,
  is_false,
  is_null,
  is_number,
  is_text,
  is_true,
  leaf,
  no_field,
  no_node,
  node,
  obj,
}
use Rattle.json_text.specs.Table.{value_at}
use Rattle.sheet.proofs.Given.{object_given, text_given, version_given}
use Rattle.sheet.specs.Accepted.{Accepted, Gives, Known, MayGive}
use Rattle.members.specs.Condition.{Condition, condition}
use Rattle.members.specs.Kinds.{a_text, a_version, an_object}
use Rattle.members.specs.Sheet.{Sheet, or_no_sheet, sheet_in}
use Rattle.sheet.specs.declared.shape.Members.{Members as Places}
use Rattle.semantics.specs.Evaluate.{evaluate}
use Rattle.semantics.specs.Semantics.{kernel}
use Rattle.paths.specs.Ready.{Ready}
use Rattle.paths.specs.Rooted.{IsNumber, IsObject, IsText, MayBeText, Rooted}
use Rattle.paths.specs.Stack.{Named, top}
use Rattle.paths.specs.Stored.{Bound, fields_of, framed, frames_of, table, tree}
use Rattle.paths.specs.declared.frames.Frames.{Frames}
use Rattle.paths.specs.declared.roots.Roots.{Roots}
use Rattle.comparison.specs.Answers.{EvaluatedAs}
use Rattle.comparison.specs.Entry.{roots_of}
use Rattle.comparison.specs.Judge.{judge}
use Rattle.paths.specs.declared.operand.EvalError.{EvalError}
use Rattle.semantics.specs.declared.truth.Truth.{Truth}
use Rattle.evaluation.proofs.After.{gives_table, linked_table}
use Rattle.evaluation.proofs.Limits.{condition_low, judge_read, sorted_depth}

-- ---- a node's tree has no more brackets open than the node's rows
leaf_depth : (s : Bytes) (k : Plain) (a e : ℕ) → depth (erase s (leaf k a e)) ≤ 0
unfolding erase depth
leaf_depth s is_null a e = omega arith
leaf_depth s is_true a e = omega arith
leaf_depth s is_false a e = omega arith
leaf_depth s is_number a e = omega arith
leaf_depth s is_text a e = omega arith

mutual
  unfolding erase depth deep

  erase_depth : (s : Bytes) (t : Node) → depth (erase s t) ≤ deep t
  erase_depth s (leaf k a e) = leaf_depth s k a e
  erase_depth s (arr a e ts) = let h = erase_in_depth s ts in omega arith
  erase_depth s (obj a e fs) = let h = erase_of_depth s fs in omega arith

  erase_in_depth : (s : Bytes) (ts : Nodes) → depth_in (erase_in s ts) ≤ deep_in ts
  erase_in_depth s no_node = omega arith
  erase_in_depth s (node t ts) = let h = erase_depth s t in let k = erase_in_depth s ts in omega arith

  erase_of_depth : (s : Bytes) (fs : Fields) → depth_of (erase_of s fs) ≤ deep_of fs
  erase_of_depth s no_field = omega arith
  erase_of_depth s (field a e t fs) = let h = erase_depth s t in let k = erase_of_depth s fs in omega arith

pub tree_depth : {s : Bytes} {t : List ℕ} {left n : ℕ} → IsNode s t left n → depth (tree s t n) ≤ left
unfolding tree
tree_depth {s} {t} {left} {n} h =
    let e = ap depth (value_is s t h.depth h.held) in
    omega (arith, e, sorted_depth (value_at s t n), erase_depth s h.tree, h.held.shallow)

-- ---- the members that expressions start from
module _ {s : Bytes} {t : List ℕ} {n : ℕ} where
  text_row : {b : Bytes} → Gives a_text s t n b → IsText s t n b
  text_row g = let x = text_given g in record { row = record { node = record { left = 64; is_node = g.node }; kind = x.is_kind }; is = sym x.bytes }

  number_row : {b : Bytes} → Gives a_version s t n b → IsNumber s t n b
  number_row g = let x = version_given g in record { row = record { node = record { left = 64; is_node = g.node }; kind = x.0 }; is = sym x.1 }

  object_row : {ms : Members} → Gives an_object s t n ms → IsObject s t n ms
  unfolding fields_of
  object_row g = let x = object_given g in record { row = record { node = record { left = 64; is_node = g.node }; kind = x.0.is_kind }; is = sym x.1 }

module _ {s : Bytes} {w : List ℕ} {m : Places} {sheet : Sheet Condition} (a : Accepted s w m sheet) where
  may_be_text : (f : Option ℕ) (o : Option Bytes) → MayGive a_text s w f o → MayBeText s (table w) f o
  unfolding MayGive MayBeText
  may_be_text None o h = h
  may_be_text (Some n) o (b, e, g) = (b, e, text_row (gives_table g))

  sheet_is : sheet_in s ≡ sheet
  unfolding sheet_in
  sheet_is = ap or_no_sheet a.reads

  pub rooted : Rooted (sheet_in s) s (table w) (roots_of m)
  unfolding roots_of
  rooted =
      rw sheet_is
      (record {
        id = may_be_text m.id sheet.id a.id;
        entity = text_row (gives_table a.entity);
        version = number_row (gives_table a.version);
        from_state = may_be_text m.from_state sheet.from_state a.from_state;
        to_state = text_row (gives_table a.to_state);
        args = object_row (gives_table a.args);
        fields = object_row (gives_table a.fields);
        old_fields = object_row (gives_table a.old_fields);
      })

  -- ---- ready, with no binder in force
  pub ready_for : {r : Roots} {f : Frames} → 16384 ≤ length w → r ≡ roots_of m → f.depth ≡ 0 → Ready s w r f
  unfolding top Named Bound
  ready_for {r} {f} l e z =
      record {
        rows = l;
        short = ((read_exactly s (value_at s w 0)).0 a.stored.reads).bytes;
        rooted = rw e rooted;
        linked = linked_table a.stored.linked;
        bound =
            record {
              within = omega arith;
              names = subst (λ (d : ℕ). Named s (top d f.slots)) (sym z) tt;
              operands = subst (λ (d : ℕ). Bound s (table w) (top d f.slots)) (sym z) tt;
            };
      }

  -- judged is what is defined
  pub judged_as : {w' : List ℕ} (f : Frames) {n : ℕ} {c : Condition} {r : Fallible Truth EvalError} → f.depth ≡ 0 → Gives condition s w n c →
      EvaluatedAs s w w' r (judge (sheet_in s) (frames_of s (table w) f) c) → EvaluatedAs s w w' r (evaluate kernel sheet [] c)
  unfolding top framed tree
  judged_as {w'} f {n} {c} {r} z g h =
      let low = condition_low (sorted (value_at s w n)) c (tree_depth g.node) g.is in
      subst (EvaluatedAs s w w' r)
      (ap (λ (x : Sheet Condition). judge x (frames_of s (table w) f) c) sheet_is ∙
      ap (λ (d : ℕ). judge sheet (framed s (table w) (top d f.slots)) c) z ∙
      judge_read s sheet a.reads c low) h

pub given_here : {s : Bytes} {w : List ℕ} {n : ℕ} → (k : Known (Gives condition s w n)) → Known (Gives condition s (table w) n) × (depth (tree s (table w) n) ≤ 64)
given_here k = let g = gives_table k.known in (record { given = k.given; known = g }, tree_depth g.node)
