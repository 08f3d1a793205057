-- Loops over members and over elements: from a node on, what is left is the whole.
-- Assumes nothing.
use mathlib.Core.List.{List}
use mathlib.Core.Path.{ap, subst, sym, ◌∙◌, ◌≡◌}
use Prim.Native.Nat.{ℕ, ◌*◌, ◌+◌, ◌<◌, ◌≤◌}
use native.Mathlib.Omega.{arith}
use lib.ListN.{length}
use Rattle.json_text.proofs.Walk.{More, MoreMembers, after_node, inside, members_done, members_more, values_done, values_more}
use Rattle.json_text.specs.Bytes.{Bytes}
use Rattle.json_text.specs.Cursor.{OnText}
use Rattle.json_text.specs.Held.{AreMembers, AreNodes, HasNode, IsNode}
use Rattle.json_text.specs.Json.{Members, Values, cons, empty, member, nil}
use Rattle.json_text.specs.Spans.{text_at}
use Rattle.json_text.specs.Table.{after_at, end_at, members_at, start_at, value_at, values_at}

-- a node's row is inside the table
pub room : {s : Bytes} {w : List ℕ} {left n : ℕ} → IsNode s w left n → (3 * n + 3 ≤ length w) × (n < 4096)
room {s} {w} h = (inside s w h, omega (arith, (after_node s w h).0, (after_node s w h).1))

-- however many brackets are left there, no more than 64 are open
pub full : {s : Bytes} {w : List ℕ} {n : ℕ} → HasNode s w n → IsNode s w 64 n
full h =
    let i = h.is_node in
    record {
      tree = i.tree;
      held = record { words = i.held.words; shallow = omega (arith, i.held.shallow, i.depth); fits = i.held.fits };
      depth = omega arith;
      most = i.most;
    }

pub full_members : {s : Bytes} {w : List ℕ} {left k e : ℕ} → AreMembers s w left k e → AreMembers s w 64 k e
full_members i =
    record {
      tree = i.tree;
      held =
          record {
            words = i.held.words;
            upto = i.held.upto;
            shallow = omega (arith, i.held.shallow, i.depth);
            fits = i.held.fits;
          };
      depth = omega arith;
      most = i.most;
    }

pub full_nodes : {s : Bytes} {w : List ℕ} {left k e : ℕ} → AreNodes s w left k e → AreNodes s w 64 k e
full_nodes i =
    record {
      tree = i.tree;
      held =
          record {
            words = i.held.words;
            upto = i.held.upto;
            shallow = omega (arith, i.held.shallow, i.depth);
            fits = i.held.fits;
          };
      depth = omega arith;
      most = i.most;
    }

-- ---- members
pub record OverMembers {A : Type 0} (s : Bytes) (w : List ℕ) (e : ℕ) (whole : A) (f : Members → A) (k : ℕ) : Type 0 where
  pub members : AreMembers s w 64 k e
  pub rest : whole ≡ f (members_at s w k e)

module _ {A : Type 0} {s : Bytes} {w : List ℕ} {e : ℕ} {whole : A} {f : Members → A} {k : ℕ} (l : OverMembers s w e whole f k) where
  pub no_member : e ≤ k → whole ≡ f empty
  no_member h = l.rest ∙ ap f (members_done s w l.members h)

  module _ (h : k < e) where
    more : MoreMembers s w 64 k e
    more = members_more s w l.members h

    pub value_node : IsNode s w 64 (k + 1)
    value_node = more.here

    pub name_room : (3 * k + 3 ≤ length w) × (k < 4096)
    name_room = (omega (arith, inside s w more.here), omega (arith, l.members.most))

    pub value_room : (3 * (k + 1) + 3 ≤ length w) × (k + 1 < 4096)
    value_room = (inside s w more.here, omega (arith, l.members.most, more.past, more.upto))

    pub on_name : (a : ℕ) → a ≡ start_at w k → OnText s a 0
    on_name a q = subst (λ (x : ℕ). OnText s x 0) (sym q) (record { stop = end_at w k; text = more.name; few = omega arith })

    pub a_member : (a : ℕ) → a ≡ start_at w k → whole ≡ f (member (text_at s a) (value_at s w (k + 1)) (members_at s w (after_at w (k + 1)) e))
    a_member a q = l.rest ∙ ap f (more.value ∙ ap (λ (x : ℕ). member (text_at s x) (value_at s w (k + 1)) (members_at s w (after_at w (k + 1)) e)) (sym q))

    pub on :
        {B : Type 0} {whole' : B} {f' : Members → B} (k' : ℕ) → k' ≡ after_at w (k + 1) → whole' ≡ f' (members_at s w (after_at w (k + 1)) e) →
        OverMembers s w e whole' f' k'
    on {whole' = whole'} {f' = f'} k' p q = subst (OverMembers s w e whole' f') (sym p) (record { members = more.others; rest = q })

-- ---- elements
pub record OverNodes {A : Type 0} (s : Bytes) (w : List ℕ) (left e : ℕ) (whole : A) (f : Values → A) (k : ℕ) : Type 0 where
  pub nodes : AreNodes s w left k e
  pub rest : whole ≡ f (values_at s w k e)

module _ {A : Type 0} {s : Bytes} {w : List ℕ} {left e : ℕ} {whole : A} {f : Values → A} {k : ℕ} (l : OverNodes s w left e whole f k) where
  pub no_element : e ≤ k → whole ≡ f nil
  no_element h = l.rest ∙ ap f (values_done s w l.nodes h)

  module _ (h : k < e) where
    further : More s w left k e
    further = values_more s w l.nodes h

    pub element_node : IsNode s w left k
    element_node = further.here

    pub an_element : whole ≡ f (cons (value_at s w k) (values_at s w (after_at w k) e))
    an_element = l.rest ∙ ap f further.value

    pub element_on : {B : Type 0} {whole' : B} {f' : Values → B} (k' : ℕ) → k' ≡ after_at w k → whole' ≡ f' (values_at s w (after_at w k) e) →
        OverNodes s w left e whole' f' k'
    element_on {whole' = whole'} {f' = f'} k' p q = subst (OverNodes s w left e whole' f') (sym p) (record { nodes = further.others; rest = q })
