-- A walk over children, child by child.
-- Assumes nothing.
use Rattle.std.specs.Prelude.{Option, Some, None}
use mathlib.Core.Bool.{Bool, false, true}
use mathlib.Core.List.{List, []}
use mathlib.Core.Path.{ap, refl, subst, sym, ◌∙◌, ◌≡◌}
use Prim.Native.Nat.{suc, zero, ℕ, ◌-◌, ◌<◌, ◌≤◌}
use native.Mathlib.Omega.{arith}
use lib.Dec.{ltb}
use lib.ListN.{length}
use borrow.Author.Tests.{le-ltb, lt-ltb}
use Rattle.json_text.proofs.Decoded.{size_pos}
use Rattle.json_text.specs.Bytes.{Bytes}
use Rattle.json_text.specs.Cursor.{OnText}
use Rattle.json_text.specs.Held.{HasNode}
use Rattle.json_text.specs.Table.{start_at}
use Rattle.paths.specs.Children.{ChildrenAt, EachAt, Given, Named, children_by, children_of, next_by, next_of, onward}
use Rattle.paths.specs.Stored.{Room, table}
use Rattle.paths.specs.declared.children.Children.{Children}
use Rattle.paths.specs.declared.children.Next.{Next}

pub node_below : (s : Bytes) (t : List ℕ) {n : ℕ} → HasNode s t n → n < 4096
node_below s t h = omega (arith, h.is_node.most, size_pos h.is_node.tree)

-- what the comparisons of two names ask
pub on_name : {s : Bytes} {t : List ℕ} {k a : ℕ} → Named s t k → a ≡ start_at t k → OnText s a 0
on_name {s} n e = subst (λ (x : ℕ). OnText s x 0) (sym e) n.text

pub name_room : (s : Bytes) (w : List ℕ) {k : ℕ} → 16384 ≤ length w → Named s (table w) k → Room w k
name_room s w {k} h n = record { rows = h; node = omega (arith, node_below s (table w) n.value) }

-- one step, as the code takes it
module _ (t : List ℕ) (c : Children) where
  pub next_out : c.left ≡ 0 → None ≡ next_of t c
  unfolding next_by
  next_out e = rw e

  pub next_past : c.end ≤ c.at → None ≡ next_of t c
  unfolding next_by
  next_past h = go c.left
    where
      go : (m : ℕ) → None ≡ next_by t c.named c.end c.at m
      go zero = refl
      go (suc m) = rw (le-ltb c.at c.end h, next_by)

  pub next_is : {a : ℕ} → (c.left ≡ 0 → ⊥) → c.at < c.end → a ≡ onward t c.named c.at →
      Some (record { node = c.at; rest = record { named = c.named; end = c.end; at = a; left = c.left - 1 } }) ≡ next_of t c
  unfolding next_by
  next_is n h e = let q : c.left ≡ suc (c.left - 1) = omega arith in rw e (sym (ap (next_by t c.named c.end c.at) q ∙ rw (lt-ltb c.at c.end h, next_by)))

-- and as a child of the list
unfoldable ChildTold : Bytes → List ℕ → Children → Option Next → Type 0
unfolding children_by
ChildTold s t c None = children_of t c ≡ []
ChildTold s t c (Some x) = Given s t c x.node x.rest

next_told : (s : Bytes) (t : List ℕ) (named : Bool) (e k m : ℕ) → ChildrenAt s t (record { named = named; end = e; at = k; left = m }) →
    ChildTold s t (record { named = named; end = e; at = k; left = m }) (next_by t named e k m)
unfolding ChildTold children_by next_by EachAt
next_told s t named e k zero a = refl
next_told s t named e k (suc m) a = go (ltb k e) refl
  where
    c : Children
    c = record { named = named; end = e; at = k; left = suc m }

    go : (b : Bool) → ltb k e ≡ b → ChildTold s t c (next_by t named e k (suc m))
    go false q = let z : children_by t named e k (suc m) ≡ [] = rw (q, children_by) in rw (q, next_by) z
    go true q =
        let g = rw (q, children_by) at a.each in
        rw (q, next_by) (record { children = rw (q, children_by); child = g.0; walk = record { within = a.within; each = g.1 }; same = refl; falls = omega arith })

module _ {s : Bytes} {t : List ℕ} {c : Children} (a : ChildrenAt s t c) {r : Option Next} (h : r ≡ next_of t c) where
  told : ChildTold s t c (next_of t c)
  told = next_told s t c.named c.end c.at c.left a

  pub child_end : r ≡ None → children_of t c ≡ []
  unfolding ChildTold
  child_end e = subst (ChildTold s t c) (sym h ∙ e) told

  pub child_given : (x : Next) → r ≡ Some x → Given s t c x.node x.rest
  unfolding ChildTold
  child_given x e = subst (ChildTold s t c) (sym h ∙ e) told
