-- What stands inside nests less deep than what holds it.
-- Assumes nothing.
use mathlib.Core.List.{List}
use Rattle.std.specs.Prelude.{Some}
use mathlib.Core.Path.{ap, refl, sym, ◌∙◌, ◌≡◌}
use Prim.Native.Nat.{ℕ, ◌+◌, ◌<◌}
use native.Mathlib.Omega.{arith}
use Rattle.json_text.proofs.Laws.{ok_injective}
use Rattle.json_text.specs.Bytes.{Bytes, find}
use Rattle.json_text.specs.Json.{Value, array, bool, cons, entries, nil, null, number, object, text}
use Rattle.json_text.specs.Limits.{depth, depth_in, depth_of}
use Rattle.json_text.specs.Refusal.{ok, wrong_shape}
use Rattle.json_text.specs.Sorted.{sorted, sorted_in, sorted_of}
use Rattle.json_text.specs.Table.{after_at, members_at, value_at, values_at}
use Rattle.sheet.proofs.Given.{ObjectHere}
use Rattle.sheet.proofs.SortedMembers.{find_sorted, mapped}
use Rattle.members.proofs.Verdicts.{never}
use Rattle.members.specs.Condition.{Condition, Form, pair, two_of}
use Rattle.paths.proofs.Trees.{array_row}
use Rattle.paths.specs.Stored.{HasKind, items_of, tree}
use Rattle.evaluation.proofs.Limits.{find_shallow}

module _ {s : Bytes} {t : List ℕ} {n : ℕ} where
  pub array_depth : HasKind s t n 5 → depth (tree s t n) ≡ 1 + depth_in (sorted_in (values_at s t (n + 1) (after_at t n)))
  unfolding depth items_of
  array_depth h = ap depth (array_row h).value

  -- a member that is found in an object
  pub member_shallow :
      ObjectHere s t n → (k : Bytes) (j : ℕ) → find k (entries (members_at s t (n + 1) (after_at t n))) ≡ Some (value_at s t j) →
      depth (tree s t j) < depth (tree s t n)
  unfolding tree sorted depth
  member_shallow x k j e =
      let d : depth (sorted (value_at s t n)) ≡ 1 + depth_of (sorted_of (members_at s t (n + 1) (after_at t n))) = ap (λ (v : Value). depth (sorted v)) x.value in
      let l = find_shallow k (sorted_of (members_at s t (n + 1) (after_at t n))) (sorted (value_at s t j))
      (find_sorted k (members_at s t (n + 1) (after_at t n)) x.is_tidy ∙ ap (mapped sorted) e) in
      omega arith

-- the two operands of a pair form
two_of_lem : (f : Form) (v : Value) (c : Condition) → two_of f v ≡ ok c → (a : Value) × (b : Value) × (v ≡ array (cons a (cons b nil))) × (c ≡ pair f a b)
two_of_lem f null c e = never wrong_shape c e
two_of_lem f (bool b) c e = never wrong_shape c e
two_of_lem f (number s) c e = never wrong_shape c e
two_of_lem f (text s) c e = never wrong_shape c e
two_of_lem f (object ms) c e = never wrong_shape c e
two_of_lem f (array nil) c e = never wrong_shape c e
two_of_lem f (array (cons v nil)) c e = never wrong_shape c e
two_of_lem f (array (cons v (cons w nil))) c e = (v, w, refl, sym (ok_injective e))
two_of_lem f (array (cons v (cons w (cons x vs)))) c e = never wrong_shape c e

pub pair_shallow : (f : Form) (v a b : Value) (c : Condition) → two_of f v ≡ ok c → c ≡ pair f a b → (depth a < depth v) × (depth b < depth v)
unfolding depth
pair_shallow f v a b c e q =
    let x = two_of_lem f v c e in
    let i : x.0 ≡ a = cc (x.3, q) in
    let j : x.1 ≡ b = cc (x.3, q) in
    let d = ap depth x.2 in
    (omega (arith, ap depth i), omega (arith, ap depth j))
