-- Members and elements counted, turn by turn.
-- Assumes nothing.
use mathlib.Core.List.{List}
use mathlib.Core.Path.{refl, ◌≡◌}
use Prim.Native.Nat.{ℕ, ◌+◌, ◌<◌, ◌≤◌}
use native.Mathlib.Omega.{arith}
use lib.ListN.{length}
use Rattle.json_text.specs.Bytes.{Bytes}
use Rattle.json_text.specs.Held.{AreMembers, AreNodes}
use Rattle.json_text.specs.Json.{elements, entries}
use Rattle.json_text.specs.Table.{after_at, members_at, start_at, values_at}
use Rattle.members.proofs.Walks.{OverMembers, OverNodes, a_member, an_element, element_on, no_element, no_member, on}

-- so many so far, and those from here on
pub record MembersCounted (s : Bytes) (w : List ℕ) (e whole n k : ℕ) : Type 0 where
  pub over : OverMembers s w e whole (λ ms. n + length (entries ms)) k

pub record ElementsCounted (s : Bytes) (w : List ℕ) (e whole n k : ℕ) : Type 0 where
  pub over : OverNodes s w 64 e whole (λ vs. n + length (elements vs)) k

pub members_counted : (s : Bytes) (w : List ℕ) (k e : ℕ) → AreMembers s w 64 k e → MembersCounted s w e (length (entries (members_at s w k e))) 0 k
members_counted s w k e h = record { over = record { members = h; rest = omega arith } }

pub elements_counted : (s : Bytes) (w : List ℕ) (k e : ℕ) → AreNodes s w 64 k e → ElementsCounted s w e (length (elements (values_at s w k e))) 0 k
elements_counted s w k e h = record { over = record { nodes = h; rest = omega arith } }

module _ {s : Bytes} {w : List ℕ} {e whole n k : ℕ} (l : MembersCounted s w e whole n k) where
  pub members_all : e ≤ k → n ≡ whole
  members_all h = omega (arith, no_member l.over h)

  pub member_counted : (h : k < e) (k' : ℕ) → k' ≡ after_at w (k + 1) → MembersCounted s w e whole (n + 1) k'
  member_counted h k' p = record { over = on l.over h k' p (omega (arith, a_member l.over h (start_at w k) refl)) }

module _ {s : Bytes} {w : List ℕ} {e whole n k : ℕ} (l : ElementsCounted s w e whole n k) where
  pub elements_all : e ≤ k → n ≡ whole
  elements_all h = omega (arith, no_element l.over h)

  pub element_counted : (h : k < e) (k' : ℕ) → k' ≡ after_at w k → ElementsCounted s w e whole (n + 1) k'
  element_counted h k' p = record { over = element_on l.over h k' p (omega (arith, an_element l.over h)) }
