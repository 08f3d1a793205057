-- Lists of an accepted sheet, node by node: what stands from a node on settles the whole.
-- Assumes nothing.
use mathlib.Core.List.{List, [], ◌∷◌}
use mathlib.Core.Path.{ap, subst, sym, ◌∙◌, ◌≡◌}
use Prim.Native.Nat.{ℕ, ◌*◌, ◌+◌, ◌<◌, ◌≤◌}
use native.Mathlib.Omega.{arith}
use lib.ListN.{length}
use Rattle.json_text.specs.Bytes.{Bytes}
use Rattle.json_text.specs.Json.{Value}
use Rattle.json_text.specs.Refusal.{Result, ok}
use Rattle.json_text.specs.Table.{after_at}
use Rattle.sheet.proofs.Given.{NextGives, array_given, each_done, each_next}
use Rattle.members.proofs.Walks.{room}
use Rattle.sheet.specs.Accepted.{EachGives, Gives}
use Rattle.members.specs.Kinds.{an_array_of}
use Rattle.sheet.specs.Accepted.{Known}

-- nodes give one list only
one_list : {A : Type 0} {kind : Value → Result A} {s : Bytes} {w : List ℕ} {k e : ℕ} {xs ys : List A} → EachGives kind s w k e xs → EachGives kind s w k e ys → xs ≡ ys
one_list {A} {kind} {s} {w} {k} {e} {xs} {ys} g h = let z : ◌≡◌ {A = Result (List A)} (ok xs) (ok ys) = sym g.is ∙ h.is in let q : xs ≡ ys = cc in q

-- the elements of an array, behind its node
pub behind_array :
    {A : Type 0} (kind : Value → Result A) {s : Bytes} {w : List ℕ} {n e : ℕ} {xs : List A} → Gives (an_array_of kind) s w n xs →
    e ≡ after_at w n → EachGives kind s w (n + 1) e xs
behind_array kind {s} {w} {n} {e} {xs} g q = subst (λ (x : ℕ). EachGives kind s w (n + 1) x xs) (sym q) (array_given kind g).1

-- from the node k on, what is left answers as the whole list does
pub record Walking {A B : Type 0} (kind : Value → Result A) (s : Bytes) (w : List ℕ) (from e : ℕ) (whole here : List A → B) (k : ℕ) : Type 0 where
  pub rest : List A
  pub gives : EachGives kind s w k e rest
  pub same : (xs : List A) → EachGives kind s w from e xs → whole xs ≡ here rest

pub starts :
    {A B : Type 0} {kind : Value → Result A} {s : Bytes} {w : List ℕ} {from e : ℕ} (f : List A → B) → Known (EachGives kind s w from e) →
    Walking kind s w from e f f from
starts f g = record { rest = g.given; gives = g.known; same = λ xs h. ap f (one_list h g.known) }

module _ {A B : Type 0} {kind : Value → Result A} {s : Bytes} {w : List ℕ} {from e : ℕ} {whole here : List A → B} {k : ℕ} (l : Walking kind s w from e whole here k) where
  pub ended : e ≤ k → (xs : List A) → EachGives kind s w from e xs → here [] ≡ whole xs
  ended h xs g = sym (l.same xs g ∙ ap here (each_done kind l.gives h))

  module _ (h : k < e) where
    pub next : NextGives kind s w k e l.rest
    next = each_next kind l.gives h

    pub element_room : (3 * k + 3 ≤ length w) × (k < 4096)
    element_room = room next.here.node

    pub falls : (k' : ℕ) → k' ≡ after_at w k → (k < k') × (k' ≤ e)
    falls k' q = (omega (arith, next.past), omega (arith, next.upto))

    pub settled : (v : B) → v ≡ here (next.first ∷ next.others) → (xs : List A) → EachGives kind s w from e xs → v ≡ whole xs
    settled v q xs g = q ∙ sym (l.same xs g ∙ ap here next.is_cons)

    pub goes_on : (here' : List A → B) → here (next.first ∷ next.others) ≡ here' next.others → (k' : ℕ) → k' ≡ after_at w k →
        Walking kind s w from e whole here' k'
    goes_on here' q k' i =
        subst (Walking kind s w from e whole here') (sym i)
        (record { rest = next.others; gives = next.rest; same = λ xs g. l.same xs g ∙ ap here next.is_cons ∙ q })
