-- Walks along the table's rows, turn by turn: where one may stand, and what a loop over it knows.
-- Assumes nothing.
use mathlib.Core.List.{List, [], ◌∷◌}
use mathlib.Core.Path.{ap, sym, subst, ◌∙◌, ◌≡◌}
use Rattle.std.specs.Prelude.{Some}
use Rattle.std.specs.Iterator.{Yields}
use lib.ListN.{length}
use native.Mathlib.Omega.{arith}
use Prim.Native.Nat.{ℕ, suc, zero, ◌+◌, ◌<◌, ◌≤◌}
use Rattle.json_text.specs.Table.{after_at}
use Rattle.strings.specs.Leads.{Ahead, Leads, Walked, leads_for, row}
use Rattle.strings.specs.Nodes.{Steps, Walk}

module _ (w : List ℕ) (v : Walked) (e : ℕ) where
  -- the row at a walk's node, and the walk behind it
  pub ahead : {k : ℕ} → Leads w v e k → k < e → Ahead w v k
  unfolding Leads leads_for
  ahead l h = (l 1 h).0

  pub leads_on : {k : ℕ} → Leads w v e k → k < e → Leads w v e (after_at w (row v k))
  unfolding Leads leads_for
  leads_on l h = λ n. (l (suc n) h).1

  -- what holds at a node, says that its row is ahead, and holds at the next one
  module _ (P : ℕ → Type 0) (step : (k : ℕ) → P k → k < e → Ahead w v k × P (after_at w (row v k))) where
    for_each : (n k : ℕ) → P k → leads_for w v e n k
    unfolding leads_for
    for_each zero k p = tt
    for_each (suc n) k p = λ h. let q = step k p h in (q.0, for_each n (after_at w (row v k)) q.1)

    pub leads_while : {k : ℕ} → P k → Leads w v e k
    unfolding Leads
    leads_while {k} p = λ n. for_each n k p

-- what a loop knows of a walk, and of the node where it stands
pub record Along (w : List ℕ) (v : Walked) (e : ℕ) (Inv : ℕ → Type 0) (l : Walk) : Type 0 where
  pub at : ℕ
  pub is : l ≡ record { words = w; along = v; upto = e; place = at }
  pub rest : Inv at

module _ {w : List ℕ} {v : Walked} {e : ℕ} where
  pub begun : {Inv : ℕ → Type 0} {l : Walk} {k : ℕ} → l ≡ record { words = w; along = v; upto = e; place = k } → Inv k → Along w v e Inv l
  begun {Inv} {l} {k} q i = record { at = k; is = q; rest = i }

  module _ {Inv : ℕ → Type 0} {l : Walk} (a : Along w v e Inv l) where
    -- a turn at the node x: what the loop knows there, and what it has to know of the next one
    pub record Turn (m : Walk) (x : ℕ) : Type 1 where
      pub more : x < e
      pub here : Inv x
      pub on : {Next : ℕ → Type 0} → Next (after_at w (row v x)) → Along w v e Next m

    pub turn : {m : Walk} {x : ℕ} → Steps l (Some x) m → Turn m x
    turn {m} {x} s =
        let t : Steps (record { words = w; along = v; upto = e; place = a.at }) (Some x) m = subst (λ (i : Walk). Steps i (Some x) m) a.is s in
        let p : x ≡ a.at = t.0 in
        record {
          more = t.1;
          here = subst Inv (sym p) a.rest;
          on = λ {Next} n. begun (t.2 ∙ ap {B = Walk} (λ (i : ℕ). record { words = w; along = v; upto = e; place = after_at w (row v i) }) (sym p)) n;
        }

    -- no node is left
    pub over : l.upto ≤ l.place → e ≤ a.at
    over h = subst (λ (i : Walk). i.upto ≤ i.place) a.is h

-- along so many steps of an iterator over nodes, what a count and a node have in common is kept
module _ {w : List ℕ} {v : Walked} {e : ℕ} {S : Type 0} (view : S → Walk) (Inv : ℕ → ℕ → Type 0) (step : (n k : ℕ) → Inv n k → k < e → Inv (n + 1) (after_at w (row v k))) where
  pub counted : (n : ℕ) (xs : List ℕ) {s t : S} → Yields (λ it r rest. Steps (view it) r (view rest)) s xs t → Along w v e (Inv n) (view s) → Along w v e (Inv (n + length xs)) (view t)
  counted n [] {s} {t} y a =
      let p : n ≡ n + length {A = ℕ} [] = omega arith in
      subst (λ (m : ℕ). Along w v e (Inv m) (view t)) p (subst (λ (i : S). Along w v e (Inv n) (view i)) y a)
  counted n (x ∷ xs) {s} {t} y a =
      let i = turn a y.1 in
      let p : n + 1 + length xs ≡ n + length (x ∷ xs) = omega arith in
      subst (λ (m : ℕ). Along w v e (Inv m) (view t)) p (counted (n + 1) xs y.2 (i.on (step n x i.here i.more)))
