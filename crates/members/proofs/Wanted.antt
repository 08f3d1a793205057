-- What a test asks of a node, by the kind and the places that code has read; and a member that must be there or may be missing.
-- Assumes nothing.
use Rattle.std.specs.Prelude.{Option, Some, None}
use mathlib.Core.Bool.{Bool, false, true}
use mathlib.Core.List.{List}
use mathlib.Core.Path.{ap, subst, sym, ◌∙◌, ◌≡◌}
use Prim.Native.Nat.{ℕ, ◌+◌, ◌-◌, ◌≤◌}
use native.Mathlib.Omega.{arith}
use lib.ListN.{drop, length, take}
use Rattle.std.proofs.lemmas.List.{drop-take}
use Rattle.strings.specs.Answers.{FoundIn, found_of}
use Rattle.json_text.specs.Bytes.{Bytes}
use Rattle.json_text.specs.Held.{AreNodes, IsNode}
use Rattle.json_text.specs.Json.{Value}
use Rattle.json_text.specs.Table.{after_at, end_at, kind_at, start_at, value_at}
use lib.Seq.{slice}
use Rattle.members.proofs.Shapes.{array_at, number_at, version_of}
use Rattle.members.proofs.Walks.{full, full_nodes}
use Rattle.members.specs.Kinds.{a_version, is_version}
use Rattle.members.specs.Verdicts.{is_ok}
use Rattle.members.specs.Wants.{allowed, needed}

module _ {s : Bytes} {w : List ℕ} {n : ℕ} (h : IsNode s w 64 n) where
  -- a version's places
  pub version_places : 3 ≡ kind_at w n → (a e : ℕ) → a ≡ start_at w n → e ≡ end_at w n → (a ≤ e) × (e ≤ length s)
  version_places q a e i j = let x = (number_at h (sym q)).1 in (omega (arith, x.order), omega (arith, x.upto))

  pub version_told : 3 ≡ kind_at w n → (a e : ℕ) → a ≡ start_at w n → e ≡ end_at w n → {b : Bool} →
      b ≡ is_version (take (e - a) (drop a s)) → b ≡ is_ok (a_version (value_at s w n))
  version_told q a e i j {b} g =
      let z : a + (e - a) ≡ e = omega (arith, (version_places q a e i j).0) in
      let cut : slice a e s ≡ take (e - a) (drop a s) = ap (λ (x : ℕ). drop a (take x s)) (sym z) ∙ drop-take a (e - a) s in
      let f : b ≡ is_version (slice a e s) = g ∙ ap is_version (sym cut) in
      rw (i, j) at f ∙ version_of (slice (start_at w n) (end_at w n) s) ∙ ap (λ (v : Value). is_ok (a_version v)) (sym (number_at h (sym q)).0)

  -- an array's elements
  pub array_nodes : (k : ℕ) → k ≡ kind_at w n → k ≡ 5 → (e : ℕ) → e ≡ after_at w n → AreNodes s w 64 (n + 1) e
  array_nodes k p q e j = subst (AreNodes s w 64 (n + 1)) (sym j) (full_nodes (array_at h (sym p ∙ q)).1)

-- a member by what was found
pub found_node : {s : Bytes} {w : List ℕ} {r : Option ℕ} (n : ℕ) → r ≡ Some n → FoundIn s w r → IsNode s w 64 n
unfolding FoundIn
found_node {s} {w} n e f = full (subst (FoundIn s w) e f)

module _ (s : Bytes) (w : List ℕ) (p : Value → Bool) where
  pub needs_nothing : (r : Option ℕ) → r ≡ None → false ≡ needed p (found_of s w r)
  unfolding found_of
  needs_nothing r e = sym (ap (λ (x : Option ℕ). needed p (found_of s w x)) e)

  pub needs_found : (r : Option ℕ) (n : ℕ) (b : Bool) → r ≡ Some n → b ≡ p (value_at s w n) → b ≡ needed p (found_of s w r)
  unfolding found_of
  needs_found r n b e q = q ∙ sym (ap (λ (x : Option ℕ). needed p (found_of s w x)) e)

  pub allows_nothing : (r : Option ℕ) → r ≡ None → true ≡ allowed p (found_of s w r)
  unfolding found_of
  allows_nothing r e = sym (ap (λ (x : Option ℕ). allowed p (found_of s w x)) e)

  pub allows_found : (r : Option ℕ) (n : ℕ) (b : Bool) → r ≡ Some n → b ≡ p (value_at s w n) → b ≡ allowed p (found_of s w r)
  unfolding found_of
  allows_found r n b e q = q ∙ sym (ap (λ (x : Option ℕ). allowed p (found_of s w x)) e)
