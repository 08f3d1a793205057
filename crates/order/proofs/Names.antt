-- An object's names in the table, one after the other: their rows, that their nodes ascend, how many there are.
-- Assumes nothing.
use mathlib.Core.Bool.{Bool, false, true}
use mathlib.Core.List.Memᴰ
use mathlib.Core.List.{List, Memᴰ, [], ◌∷◌}
use mathlib.Core.Logic.{⊎_elim, ◌⊎◌}
use mathlib.Core.Path.{ap, refl, subst, ◌≡◌}
use Prim.Native.Nat.{suc, zero, ℕ, ◌*◌, ◌+◌, ◌-◌, ◌<◌, ◌≤◌}
use native.Mathlib.Decide.{dec_lt}
use native.Mathlib.Omega.{arith}
use lib.Dec.{ltb}
use lib.ListN.{length}
use borrow.Author.Tests.{le-ltb, lt-ltb, ltb-true}
use Rattle.json_text.proofs.Walk.{members_more}
use Rattle.json_text.specs.Bytes.{Bytes}
use Rattle.json_text.specs.Held.{AreMembers, HasMembers, HasNode}
use Rattle.json_text.specs.KeyOrder.{names_at, names_by, nodes_of}
use Rattle.json_text.specs.Spans.{text_at}
use Rattle.json_text.specs.Table.{after_at, end_at, kind_at, start_at}
use Rattle.order.specs.ByText.{TextNode}

-- each less than those behind it
unfoldable pub Ascends : List ℕ → Type 0
Ascends [] = Unit {0}
Ascends (n ∷ ns) = ((m : ℕ) → Memᴰ m ns → n < m) × Ascends ns

-- the row of a name among the members from k up to e
pub record NameRow (s : Bytes) (w : List ℕ) (k e j : ℕ) : Type 0 where
  pub is_kind : kind_at w j ≡ 4
  pub from : k ≤ j
  pub upto : j + 1 < e
  pub is_text : TextNode s w j
  pub value : HasNode s w (j + 1)

module _ (s : Bytes) (w : List ℕ) where
  -- the bound on their number does not matter where it is no less
  names_enough : (m n : ℕ) {left k e : ℕ} → AreMembers s w left k e → e - k ≤ m → e - k ≤ n → names_by s w m k e ≡ names_by s w n k e
  unfolding names_by
  names_enough zero zero h p q = refl
  names_enough zero (suc n) {left} {k} {e} h p q = let l : e ≤ k = omega arith in rw (le-ltb k e l, names_by)
  names_enough (suc m) zero {left} {k} {e} h p q = let l : e ≤ k = omega arith in rw (le-ltb k e l, names_by)
  names_enough (suc m) (suc n) {left} {k} {e} h p q = go (λ h' p' q'. names_enough m n h' p' q') (ltb k e) refl
    where
      k' : ℕ
      k' = after_at w (k + 1)

      go : (AreMembers s w left k' e → e - k' ≤ m → e - k' ≤ n → names_by s w m k' e ≡ names_by s w n k' e) → (b : Bool) → ltb k e ≡ b →
          names_by s w (suc m) k e ≡ names_by s w (suc n) k e
      go below false r = rw (r, names_by)
      go below true r =
          let x = members_more s w h (ltb-true k e r) in
          rw (r, names_by) (ap {B = List (Bytes × ℕ)} (λ l. (text_at s (start_at w k), k) ∷ l) (below x.others (omega (arith, x.past)) (omega (arith, x.past))))

  pub names_more : {left k e : ℕ} → AreMembers s w left k e → k < e → names_at s w k e ≡ (text_at s (start_at w k), k) ∷ names_at s w (after_at w (k + 1)) e
  unfolding names_at names_by
  names_more {left} {k} {e} h l =
      let x = members_more s w h l in
      let q : e - k ≡ suc (e - (k + 1)) = omega arith in
      rw (q, lt-ltb k e l, names_by)
      (ap {B = List (Bytes × ℕ)} (λ y. (text_at s (start_at w k), k) ∷ y)
      (names_enough (e - (k + 1)) (e - after_at w (k + 1)) x.others (omega (arith, x.past)) (omega arith)))

  pub names_done : {k e : ℕ} → e ≤ k → names_at s w k e ≡ []
  unfolding names_at names_by
  names_done {k} {e} h = let q : e - k ≡ 0 = omega arith in rw q

  -- a name among those from k on: the first one, or one of the others
  pub name_none : {k e j : ℕ} → e ≤ k → Memᴰ j (nodes_of (names_at s w k e)) → ⊥
  unfolding nodes_of
  name_none {k} {e} {j} l m = Memᴰ.not-nil (subst (λ (xs : List (Bytes × ℕ)). Memᴰ j (nodes_of xs)) (names_done l) m)

  pub name_cases : {left k e j : ℕ} → AreMembers s w left k e → k < e → Memᴰ j (nodes_of (names_at s w k e)) →
      (j ≡ k) ⊎ Memᴰ j (nodes_of (names_at s w (after_at w (k + 1)) e))
  unfolding nodes_of
  name_cases {j = j} h l m = Memᴰ.cases_cons (subst (λ (xs : List (Bytes × ℕ)). Memᴰ j (nodes_of xs)) (names_more h l) m)

  -- what holds where there are no members, and before a member if behind it
  module _ {left e : ℕ} (P : ℕ → Type 0) (done : (k : ℕ) → e ≤ k → P k) (more : (k : ℕ) → AreMembers s w left k e → k < e → P (after_at w (k + 1)) → P k) where
    by_length : (m k : ℕ) → e - k ≤ m → AreMembers s w left k e → P k
    by_length zero k q h = done k (omega arith)
    by_length (suc m) k q h =
        elim (dec_lt k e) [
          | yes l ↦ let x = members_more s w h l in more k h l (by_length m (after_at w (k + 1)) (omega (arith, x.past)) x.others)
          | no l
              ↦ done k (omega arith)
        ]

    pub by_members : (k : ℕ) → AreMembers s w left k e → P k
    by_members k h = by_length (e - k) k (omega arith) h

  -- A name's row.
  pub name_row : {k e j : ℕ} → HasMembers s w k e → Memᴰ j (nodes_of (names_at s w k e)) → NameRow s w k e j
  name_row {k} {e} {j} h =
      by_members (λ i. Memᴰ j (nodes_of (names_at s w i e)) → NameRow s w i e j) (λ i l m. absurd (name_none l m))
      (λ i a l below m. ⊎_elim (first i a l) (λ b. later i a l (below b)) (name_cases a l m)) k h.members
    where
      first : (i : ℕ) → AreMembers s w h.left i e → i < e → j ≡ i → NameRow s w i e j
      first i a l q =
          let x = members_more s w a l in
          rw q record {
            is_kind = x.is_kind;
            from = omega arith;
            upto = omega (arith, x.past, x.upto);
            is_text = record { small = omega (arith, a.most); on_text = record { stop = end_at w i; text = x.name; few = omega arith } };
            value = record { left = h.left; is_node = x.here };
          }

      later : (i : ℕ) → AreMembers s w h.left i e → i < e → NameRow s w (after_at w (i + 1)) e j → NameRow s w i e j
      later i a l r = record { is_kind = r.is_kind; from = omega (arith, r.from, (members_more s w a l).past); upto = r.upto; is_text = r.is_text; value = r.value }

  -- The nodes of the names ascend.
  pub names_ascend : {k e : ℕ} → HasMembers s w k e → Ascends (nodes_of (names_at s w k e))
  unfolding nodes_of Ascends
  names_ascend {k} {e} h =
      by_members (λ i. Ascends (nodes_of (names_at s w i e))) (λ i l. rw (names_done l) tt)
      (λ i a l below. rw (names_more a l) ((λ m b. before i a l m b), below)) k h.members
    where
      before : (i : ℕ) → AreMembers s w h.left i e → i < e → (m : ℕ) → Memᴰ m (nodes_of (names_at s w (after_at w (i + 1)) e)) → i < m
      before i a l m b = let x = members_more s w a l in omega (arith, x.past, (name_row (record { left = h.left; members = x.others }) b).from)

  -- Each name has a value behind it, so that the names are half of the nodes at most.
  pub names_few : {k e : ℕ} → HasMembers s w k e → 2 * length (nodes_of (names_at s w k e)) ≤ e - k
  unfolding nodes_of
  names_few {k} {e} h =
      by_members (λ i. 2 * length (nodes_of (names_at s w i e)) ≤ e - i) (λ i l. rw (names_done l) (omega arith))
      (λ i a l below. let x = members_more s w a l in rw (names_more a l) (omega (arith, x.past, x.upto))) k h.members
