-- The nodes of an object's names, gathered one after the other.
-- Assumes nothing.
use mathlib.Core.Bool.{Bool, false, true}
use mathlib.Core.List.{List, append_assoc, append-nil, ◌++◌, ◌∷◌}
use mathlib.Core.Path.{ap, refl, sym, ◌∙◌, ◌≡◌}
use Prim.Native.Nat.{suc, zero, ℕ, ◌*◌, ◌+◌, ◌-◌, ◌<◌, ◌≤◌}
use native.Mathlib.Numerals.{add-one}
use native.Mathlib.Omega.{arith}
use lib.Dec.{ltb}
use lib.ListN.{length, length-set, set, take}
use lib.Seq.{take-suc-set}
use Rattle.json_text.proofs.Walk.{members_more, ordered_members}
use Rattle.json_text.specs.Bytes.{Bytes}
use Rattle.json_text.specs.Held.{HasMembers}
use Rattle.json_text.specs.KeyOrder.{names_at, names_by, nodes_of}
use Rattle.json_text.specs.Table.{after_at}
use Rattle.order.proofs.Names.{names_done, names_more}
use Rattle.order.specs.Chained.{CanGather, Gathered}

-- the nodes are the same for any bytes
nodes_by : (s t : Bytes) (w : List ℕ) (m k e : ℕ) → nodes_of (names_by s w m k e) ≡ nodes_of (names_by t w m k e)
unfolding names_by nodes_of
nodes_by s t w zero k e = refl
nodes_by s t w (suc m) k e = go (ltb k e) refl (nodes_by s t w m (after_at w (k + 1)) e)
  where
    go : (b : Bool) → ltb k e ≡ b → nodes_of (names_by s w m (after_at w (k + 1)) e) ≡ nodes_of (names_by t w m (after_at w (k + 1)) e) →
        nodes_of (names_by s w (suc m) k e) ≡ nodes_of (names_by t w (suc m) k e)
    go true q below = rw (q, names_by) (ap {B = List ℕ} (λ l. k ∷ l) below)
    go false q below = rw (q, names_by)

nodes_same : (s t : Bytes) (w : List ℕ) (k e : ℕ) → nodes_of (names_at s w k e) ≡ nodes_of (names_at t w k e)
unfolding names_at
nodes_same s t w k e = nodes_by s t w (e - k) k e

-- the loop: those gathered, and those from k on, are all
pub record Gathering (w : List ℕ) (from end : ℕ) (names : List ℕ) (count k : ℕ) : Type 0 where
  pub sheet : Bytes
  pub members : HasMembers sheet w k end
  pub passed : from + 2 * count ≤ k
  pub enough : end ≤ from + 2 * length names
  pub all : take count names ++ nodes_of (names_at sheet w k end) ≡ nodes_of (names_at sheet w from end)

pub gathering : {w : List ℕ} {from end : ℕ} (names : List ℕ) → CanGather w from end (length names) → Gathering w from end names 0 from
gathering names can = record { sheet = can.sheet; members = can.members; passed = omega arith; enough = can.enough; all = refl }

-- a further one
pub record Turn (w : List ℕ) (end room count k : ℕ) : Type 0 where
  pub small : k + 1 < 4096
  pub within : count < room
  pub falls : end - after_at w (k + 1) < end - k

module _ {w : List ℕ} {from end : ℕ} {names : List ℕ} {count k : ℕ} (g : Gathering w from end names count k) where
  pub turn : k < end → Turn w end (length names) count k
  turn l =
      let x = members_more g.sheet w g.members.members l in
      record { small = omega (arith, x.past, x.upto, g.members.members.most); within = omega (arith, g.passed, g.enough); falls = omega (arith, x.past, x.upto) }

  pub gathered_one : k < end → Gathering w from end (set names count k) (count + 1) (after_at w (k + 1))
  unfolding nodes_of
  gathered_one l =
      let x = members_more g.sheet w g.members.members l in
      let within : count < length names = (turn l).within in
      record {
        sheet = g.sheet;
        members = record { left = g.members.left; members = x.others };
        passed = omega (arith, g.passed, x.past);
        enough = omega (arith, g.enough, length-set names count k);
        all =
            rw (add-one count, take-suc-set names count k within, append_assoc)
            (ap (λ (l : List (Bytes × ℕ)). take count names ++ nodes_of l) (sym (names_more g.sheet w g.members.members l)) ∙ g.all);
      }

  pub gathered_all : end ≤ k → Gathered w from end names count
  unfolding nodes_of
  gathered_all l = record {
    few = omega (arith, g.passed, g.enough, ordered_members g.sheet w g.members.members);
    nodes =
        λ t. sym (append-nil (take count names)) ∙
        ap (λ (l : List (Bytes × ℕ)). take count names ++ nodes_of l) (sym (names_done g.sheet w l)) ∙
        g.all ∙
        nodes_same g.sheet t w from end;
  }
