-- Links written along nodes: what stays, and where they lead.
-- Assumes nothing.
use mathlib.Core.Bool.{Bool, false, true}
use mathlib.Core.List.{List, Memᴰ, [], ◌∷◌}
use mathlib.Core.Logic.{◌≢◌}
use mathlib.Core.Path.{ap, refl, sym, ◌∙◌, ◌≡◌}
use Prim.Native.Nat.{suc, zero, ℕ, ◌*◌, ◌+◌, ◌/◌, ◌<◌, ◌≤◌}
use native.Mathlib.Numerals.{add-one}
use native.Mathlib.Omega.{arith}
use lib.Dec.{ltb}
use lib.ListN.{drop, drop_of_length-le, get_or, length, length-set, take}
use lib.Seq.{drop-cons, drop-set-lt, get_or-set_other, get_or-set_same, take-set-le}
use borrow.Author.Tests.{le-ltb, lt-ltb}
use Rattle.json_text.specs.Limits.{max_nodes}
use Rattle.json_text.specs.Links.{link_at, linked_by}
use Rattle.json_text.specs.Marks.{first_mark}
use Rattle.order.proofs.Distinct.{Distinct, one_more}
use Rattle.order.specs.Chained.{AllSmall, chained, linked}

-- ---- the loop
pub record Chaining (w₀ : List ℕ) (node : ℕ) (ns : List ℕ) (end : ℕ) (w : List ℕ) (at i : ℕ) : Type 0 where
  pub long : length w ≡ length w₀
  pub here : at < max_nodes
  pub within : i ≤ length ns
  pub same : chained w at (drop i ns) end ≡ chained w₀ node ns end

pub chained_step :
    {w₀ : List ℕ} {node : ℕ} {ns : List ℕ} {end : ℕ} {w : List ℕ} {at i : ℕ} → Chaining w₀ node ns end w at i → i < length ns → AllSmall ns →
    Chaining w₀ node ns end (linked w at (get_or ns i 0)) (get_or ns i 0) (i + 1)
unfolding chained
chained_step {w₀} {node} {ns} {end} {w} {at} {i} c h small = record {
  long = length-set w (first_mark + at) (2 * get_or ns i 0) ∙ c.long;
  here = small i h;
  within = omega arith;
  same = rw add-one (ap (λ (l : List ℕ). chained w at l end) (sym (drop-cons ns i 0 h)) ∙ c.same);
}

pub chained_end : {w₀ : List ℕ} {node : ℕ} {ns : List ℕ} {end : ℕ} {w : List ℕ} {at i : ℕ} → Chaining w₀ node ns end w at i → length ns ≤ i →
    linked w at end ≡ chained w₀ node ns end
unfolding chained
chained_end {ns = ns} {end = end} {w = w} {at = at} {i = i} c h = ap (λ (l : List ℕ). chained w at l end) (sym (drop_of_length-le ns h)) ∙ c.same

-- ---- what stays
pub chained_rows : (w : List ℕ) (at : ℕ) (ns : List ℕ) (e : ℕ) → take first_mark (chained w at ns e) ≡ take first_mark w
unfolding chained
chained_rows w at [] e = take-set-le first_mark w (first_mark + at) (2 * e) (omega arith)
chained_rows w at (n ∷ ns) e = chained_rows (linked w at n) n ns e ∙ take-set-le first_mark w (first_mark + at) (2 * n) (omega arith)

pub chained_further : (w : List ℕ) (at : ℕ) (ns : List ℕ) (e : ℕ) → at < max_nodes → AllSmall ns → drop 16384 (chained w at ns e) ≡ drop 16384 w
unfolding chained
chained_further w at [] e h small = drop-set-lt 16384 w (first_mark + at) (2 * e) (omega arith)
chained_further w at (n ∷ ns) e h small =
    chained_further (linked w at n) n ns e (small 0 (omega arith)) (λ i l. small (suc i) (omega arith)) ∙
    drop-set-lt 16384 w (first_mark + at) (2 * n) (omega arith)

-- one link
link_here : (w : List ℕ) (at next : ℕ) → 16384 ≤ length w → at < max_nodes → link_at (linked w at next) at ≡ next
link_here w at next l h = omega (arith, get_or-set_same w (first_mark + at) (2 * next) 0 (omega arith))

link_elsewhere : (w : List ℕ) (at next j : ℕ) → (j ≡ at → ⊥) → get_or (linked w at next) (first_mark + j) 0 ≡ get_or w (first_mark + j) 0
link_elsewhere w at next j f = let ne : first_mark + j ≢ first_mark + at = λ e. f (omega arith) in get_or-set_other w (first_mark + at) (first_mark + j) (2 * next) 0 ne

-- ---- where they lead
pub chained_other : (w : List ℕ) (at : ℕ) (ns : List ℕ) (e j : ℕ) → (j ≡ at → ⊥) → (Memᴰ j ns → ⊥) → link_at (chained w at ns e) j ≡ link_at w j
unfolding chained
chained_other w at [] e j f g = ap (λ (x : ℕ). x / 2) (link_elsewhere w at e j f)
chained_other w at (n ∷ ns) e j f g =
    chained_other (linked w at n) n ns e j (λ q. g (Memᴰ.head q)) (λ m. g (Memᴰ.tail m)) ∙
    ap (λ (x : ℕ). x / 2) (link_elsewhere w at n j f)

leads_out : (w : List ℕ) (m e : ℕ) → linked_by w m e e ≡ []
unfolding linked_by
leads_out w zero e = refl
leads_out w (suc m) e = rw (le-ltb e e (omega arith), linked_by)

pub chained_leads : (w : List ℕ) (at : ℕ) (ns : List ℕ) (e m : ℕ) → 16384 ≤ length w → Distinct (at ∷ ns) → at < max_nodes → AllSmall ns →
    ((j : ℕ) → Memᴰ j ns → j < e) → length ns ≤ m → linked_by (chained w at ns e) m (link_at (chained w at ns e) at) e ≡ ns
unfolding chained linked_by
chained_leads w at [] e m l d h small below few = ap (λ (k : ℕ). linked_by (linked w at e) m k e) (link_here w at e l h) ∙ leads_out (linked w at e) m e
chained_leads w at (n ∷ ns) e zero l d h small below few = absurd (omega arith)
chained_leads w at (n ∷ ns) e (suc m) l (one_more f d) h small below few =
    let w₁ = linked w at n in
    let w' = chained w₁ n ns e in
    let next : link_at w' at ≡ n = chained_other w₁ n ns e at (λ q. f (Memᴰ.head q)) (λ k. f (Memᴰ.tail k)) ∙ link_here w at n l h in
    let others = chained_leads w₁ n ns e m (omega (arith, length-set w (first_mark + at) (2 * n))) d (small 0 (omega arith))
    (λ i q. small (suc i) (omega arith)) (λ j k. below j (Memᴰ.tail k)) (omega arith) in
    ap (λ (k : ℕ). linked_by w' (suc m) k e) next ∙ rw (lt-ltb n e (below n (Memᴰ.head refl)), linked_by) (ap {B = List ℕ} (λ l. n ∷ l) others)

-- links elsewhere lead where they led
pub leads_still : (w w' : List ℕ) (m k e : ℕ) → ((j : ℕ) → Memᴰ j (linked_by w m k e) → link_at w' j ≡ link_at w j) → linked_by w' m k e ≡ linked_by w m k e
unfolding linked_by
leads_still w w' zero k e same = refl
leads_still w w' (suc m) k e same = go (leads_still w w' m (link_at w k) e) (ltb k e) refl
  where
    go : (((j : ℕ) → Memᴰ j (linked_by w m (link_at w k) e) → link_at w' j ≡ link_at w j) → linked_by w' m (link_at w k) e ≡
        linked_by w m (link_at w k) e) → (b : Bool) → ltb k e ≡ b → linked_by w' (suc m) k e ≡ linked_by w (suc m) k e
    go below true q =
        let also : (j : ℕ) → Memᴰ j (k ∷ linked_by w m (link_at w k) e) → link_at w' j ≡ link_at w j = rw (q, linked_by) at same in
        rw (q, linked_by) (rw (also k (Memᴰ.head refl)) (ap {B = List ℕ} (λ l. k ∷ l) (below (λ j m. also j (Memᴰ.tail m)))))
    go below false q = rw (q, linked_by)
