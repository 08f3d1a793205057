-- Nodes in a row, each by one test, turn by turn; and an array by its elements.
-- Assumes nothing.
use mathlib.Core.Bool.{Bool, false, true, ◌&&◌}
use mathlib.Core.List.{List}
use mathlib.Core.Path.{ap, refl, sym, ◌∙◌, ◌≡◌}
use Prim.Native.Nat.{ℕ, ◌+◌, ◌<◌, ◌≤◌}
use Rattle.json_text.specs.Bytes.{Bytes}
use Rattle.json_text.specs.Held.{AreNodes, IsNode}
use Rattle.json_text.specs.Json.{Value}
use Rattle.json_text.specs.Table.{after_at, kind_at, value_at, values_at}
use Rattle.members.proofs.Shapes.{array_at}
use Rattle.members.proofs.Walks.{OverNodes, an_element, element_node, element_on, no_element}
use Rattle.members.specs.Verdicts.{all_of}
use Rattle.members.specs.Wants.{array_where}

-- what is known of a test decides: of the whole, what it is of the elements from a node on
pub record Testing (s : Bytes) (w : List ℕ) (e : ℕ) (Is : (Value → Bool) → Type 0) (whole : (Value → Bool) → Bool) (k : ℕ) : Type 0 where
  pub nodes : AreNodes s w 64 k e
  pub rest : (p : Value → Bool) → Is p → whole p ≡ all_of p (values_at s w k e)

-- at first
pub testing : {s : Bytes} {w : List ℕ} {k e : ℕ} {Is : (Value → Bool) → Type 0} → AreNodes s w 64 k e →
    Testing s w e Is (λ p. all_of p (values_at s w k e)) k
testing h = record { nodes = h; rest = λ p i. refl }

-- an array, by what is said of its elements
pub array_told : {s : Bytes} {w : List ℕ} {n : ℕ} → IsNode s w 64 n → (k : ℕ) → k ≡ kind_at w n → k ≡ 5 → (e : ℕ) → e ≡ after_at w n →
    (p : Value → Bool) → {b : Bool} → b ≡ all_of p (values_at s w (n + 1) e) → b ≡ array_where p (value_at s w n)
array_told {s} {w} {n} h k i q e j p g =
    g ∙ ap (λ (x : ℕ). all_of p (values_at s w (n + 1) x)) j ∙ sym (ap (array_where p) (array_at h (sym i ∙ q)).0)

module _ {s : Bytes} {w : List ℕ} {e : ℕ} {Is : (Value → Bool) → Type 0} {whole : (Value → Bool) → Bool} {k : ℕ} (l : Testing s w e Is whole k) where
  over : (p : Value → Bool) → Is p → OverNodes s w 64 e (whole p) (all_of p) k
  over p i = record { nodes = l.nodes; rest = l.rest p i }

  pub all_right : e ≤ k → (p : Value → Bool) → Is p → true ≡ whole p
  all_right h p i = sym (no_element (over p i) h)

  module _ (h : k < e) where
    -- the nodes alone, of which nothing is said
    bare : OverNodes s w 64 e true (λ vs. true) k
    bare = record { nodes = l.nodes; rest = refl }

    pub this_node : IsNode s w 64 k
    this_node = element_node bare h

    pub wrong_here : (p : Value → Bool) → Is p → false ≡ p (value_at s w k) → false ≡ whole p
    wrong_here p i q = sym (an_element (over p i) h ∙ ap {B = Bool} (λ b. b && all_of p (values_at s w (after_at w k) e)) (sym q))

    pub right_here : ((p : Value → Bool) → Is p → true ≡ p (value_at s w k)) → (k' : ℕ) → k' ≡ after_at w k → Testing s w e Is whole k'
    right_here q k' j =
        record {
          nodes = (element_on bare h {whole' = true} {f' = λ vs. true} k' j refl).nodes;
          rest = λ p i. (element_on (over p i) h {whole' = whole p} {f' = all_of p} k' j
              (an_element (over p i) h ∙ ap {B = Bool} (λ b. b && all_of p (values_at s w (after_at w k) e)) (sym (q p i)))).rest;
        }
