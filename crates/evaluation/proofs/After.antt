-- Marking leaves what the rows give: a node, nodes one after the other, the sheet's members; and the names that are marked.
-- Assumes nothing.
use mathlib.Core.Bool.{Bool, false, true}
use mathlib.Core.List.Memᴰ
use mathlib.Core.List.{List, ◌∷◌}
use mathlib.Core.Logic.{⊎_elim}
use Rattle.std.specs.Prelude.{Option, None, Some}
use mathlib.Core.Path.{ap, refl, sym, ◌∙◌, ◌≡◌}
use Prim.Native.Nat.{suc, zero, ℕ, ◌%◌, ◌*◌, ◌+◌, ◌-◌, ◌/◌, ◌<◌, ◌≤◌}
use native.Mathlib.Omega.{arith}
use lib.Dec.{eqb, ltb}
use lib.ListN.{get_or, length}
use borrow.Author.Tests.{eqb-false, eqb-true, ltb-true}
use Rattle.json_text.proofs.Decoded.{length_rows, length_rows_in}
use Rattle.json_text.proofs.Prefix.{begins_prefix}
use Rattle.json_text.proofs.Walk.{after_node, members_more, value_is, values_are}
use Rattle.json_text.specs.Bytes.{Bytes}
use Rattle.json_text.specs.Held.{AreMembers, AreNodes, Begins, HasMembers, HasNode, IsNode, NodeAt, NodesAt}
use Rattle.json_text.specs.Json.{Value, Values, elements}
use Rattle.json_text.specs.KeyOrder.{in_order, names_at, names_by, nodes_of}
use Rattle.json_text.specs.Limits.{max_number, tidy, tidy_in}
use Rattle.json_text.specs.Links.{Linked, LinkedAt, link_at, linked_by}
use Rattle.json_text.specs.Marks.{is_marked, marked, marked_from}
use Rattle.json_text.specs.Refusal.{Result, ok}
use Rattle.json_text.specs.Sorted.{sorted, sorted_in}
use Rattle.json_text.specs.Spans.{text_at}
use Rattle.json_text.specs.Table.{after_at, kind_at, rows, rows_in, start_at, value_at, values_at}
use Rattle.sheet.specs.Accepted.{Accepted, EachGives, Gives, MayGive, Stored}
use Rattle.members.specs.Condition.{Condition, condition}
use Rattle.members.specs.Kinds.{a_text, each_of}
use Rattle.members.specs.Sheet.{Sheet}
use Rattle.sheet.specs.declared.shape.Members.{Members}
use Rattle.semantics.proofs.Names.{ascending_set}
use Rattle.semantics.specs.Names.{Named, Names, ascending}
use Rattle.paths.proofs.Trees.{object_row}
use Rattle.paths.proofs.Words.{row_word, same_link, same_row_word, same_rows, table_twice}
use Rattle.paths.specs.Marks.{Left, Marked}
use Rattle.paths.specs.Stored.{table}

-- ---- words of the rows
begins_rows : (w w' : List ℕ) (i : ℕ) (vs : List ℕ) → table w' ≡ table w → i + length vs ≤ 12288 → Begins w i vs → Begins w' i vs
begins_rows w w' i vs e h b = begins_prefix w w' 12288 (same_rows w w' e) i vs h b

-- ---- nodes
pub node_rows : {s : Bytes} {w w' : List ℕ} {left n : ℕ} → table w' ≡ table w → IsNode s w left n → IsNode s w' left n × (value_at s w' n ≡ value_at s w n)
node_rows {s} {w} {w'} {left} {n} e h = (
  record { tree = h.tree; held = held; depth = h.depth; most = h.most },
  value_is s w' h.depth held ∙
      sym (value_is s w h.depth h.held),
)
  where
    held : NodeAt s w' left n h.tree
    held =
        record {
          words = begins_rows w w' (3 * n) (rows h.tree n) e (omega (arith, length_rows h.tree n, h.most)) h.held.words;
          shallow = h.held.shallow;
          fits = h.held.fits;
        }

nodes_rows : {s : Bytes} {w w' : List ℕ} {left k e : ℕ} → table w' ≡ table w → AreNodes s w left k e → AreNodes s w' left k e × (values_at s w' k e ≡ values_at s w k e)
nodes_rows {s} {w} {w'} {left} {k} {e} q h = (
  record { tree = h.tree; held = held; depth = h.depth; most = h.most },
  values_are s w' h.depth held ∙
      sym (values_are s w h.depth h.held),
)
  where
    held : NodesAt s w' left k e h.tree
    held =
        record {
          words = begins_rows w w' (3 * k) (rows_in h.tree k) q (omega (arith, length_rows_in h.tree k, h.held.upto, h.most))
              h.held.words;
          upto = h.held.upto;
          shallow = h.held.shallow;
          fits = h.held.fits;
        }

-- ---- links
module _ (s : Bytes) (w w' : List ℕ) (same : table w' ≡ table w) where
  names_rows : (m : ℕ) {left k e : ℕ} → AreMembers s w left k e → names_by s w' m k e ≡ names_by s w m k e
  unfolding names_by
  names_rows zero h = refl
  names_rows (suc m) {left} {k} {e} h = go (λ i. names_rows m i) (ltb k e) refl
    where
      go : (AreMembers s w left (after_at w (k + 1)) e → names_by s w' m (after_at w (k + 1)) e ≡ names_by s w m (after_at w (k + 1)) e) →
          (b : Bool) → ltb k e ≡ b → names_by s w' (suc m) k e ≡ names_by s w (suc m) k e
      go below false q = rw (q, names_by)
      go below true q =
          let x = members_more s w h (ltb-true k e q) in
          let l = after_node s w x.here in
          let a : after_at w' (k + 1) ≡ after_at w (k + 1) = same_row_word w w' same (3 * (k + 1) + 2) (omega (arith, l)) in
          let b : start_at w' k ≡ start_at w k = ap (λ (y : ℕ). y / 8) (same_row_word w w' same (3 * k) (omega (arith, l))) in
          rw (q, names_by, a, b) (ap {B = List (Bytes × ℕ)} (λ ns. (text_at s (start_at w k), k) ∷ ns) (below x.others))

  links_rows : (m k e : ℕ) → e ≤ 4096 → linked_by w' m k e ≡ linked_by w m k e
  unfolding linked_by
  links_rows zero k e h = refl
  links_rows (suc m) k e h = go (links_rows m (link_at w k) e h) (ltb k e) refl
    where
      go : linked_by w' m (link_at w k) e ≡ linked_by w m (link_at w k) e → (b : Bool) → ltb k e ≡ b → linked_by w' (suc m) k e ≡ linked_by w (suc m) k e
      go below false q = rw (q, linked_by)
      go below true q =
          let l = ltb-true k e q in
          let a : link_at w' k ≡ link_at w k = same_link w w' same k (omega arith) in
          rw (q, linked_by, a) (ap {B = List ℕ} (λ ns. k ∷ ns) below)

  linked_at : {n : ℕ} → HasNode s w n → HasMembers s w (n + 1) (after_at w n) → LinkedAt s w n → LinkedAt s w' n
  unfolding names_at
  linked_at {n} h k l =
      let u = after_node s w h.is_node in
      let a : after_at w' n ≡ after_at w n = same_row_word w w' same (3 * n + 2) (omega (arith, u)) in
      let b : link_at w' n ≡ link_at w n = same_link w w' same n (omega (arith, u)) in
      let e = after_at w n in
      rw (a, b) (links_rows (e - (n + 1)) (link_at w n) e u.1 ∙ l ∙ ap (λ (ns : List (Bytes × ℕ)). nodes_of (in_order ns)) (sym (names_rows (e - (n + 1)) k.members)))

pub linked_rows : {s : Bytes} {w w' : List ℕ} → table w' ≡ table w → Linked s w → Linked s w'
linked_rows {s} {w} {w'} e l = record { links = λ n h k. go n h k }
  where
    go : (n : ℕ) → HasNode s w' n → kind_at w' n ≡ 6 → LinkedAt s w' n
    go n h k =
        let h' : HasNode s w n = record { left = h.left; is_node = (node_rows (sym e) h.is_node).0 } in
        let k' : kind_at w n ≡ 6 = ap (λ (y : ℕ). y % 8) (sym (same_row_word w w' e (3 * n) (omega (arith, after_node s w h'.is_node)))) ∙ k in
        linked_at s w w' e h' (object_row (record { node = h'; kind = k' })).members (l.links n h' k')

-- ---- what they give
pub gives_rows : {A : Type 0} {kind : Value → Result A} {s : Bytes} {w w' : List ℕ} {n : ℕ} {a : A} → table w' ≡ table w → Gives kind s w n a → Gives kind s w' n a
gives_rows {kind = kind} e g =
    let x = node_rows e g.node in
    record { node = x.0; is_tidy = ap (tidy max_number) x.1 ∙ g.is_tidy; is = ap (λ (v : Value). kind (sorted v)) x.1 ∙ g.is }

pub may_give_rows : {A : Type 0} (kind : Value → Result A) (s : Bytes) (w w' : List ℕ) (f : Option ℕ) (o : Option A) → table w' ≡ table w →
    MayGive kind s w f o → MayGive kind s w' f o
unfolding MayGive
may_give_rows kind s w w' None o e g = g
may_give_rows kind s w w' (Some n) o e (a, i, g) = (a, i, gives_rows e g)

pub each_gives_rows : {A : Type 0} {kind : Value → Result A} {s : Bytes} {w w' : List ℕ} {k e : ℕ} {xs : List A} → table w' ≡ table w →
    EachGives kind s w k e xs → EachGives kind s w' k e xs
each_gives_rows {kind = kind} q g =
    let x = nodes_rows q g.nodes in
    record {
      nodes = x.0;
      is_tidy = ap (tidy_in max_number) x.1 ∙ g.is_tidy;
      is = ap (λ (v : Values). each_of kind (elements (sorted_in v))) x.1 ∙ g.is;
    }

stored_rows : {s : Bytes} {w w' : List ℕ} → table w' ≡ table w → Stored s w → Stored s w'
stored_rows e g = let x = node_rows e g.node in record { reads = g.reads ∙ ap {B = Result Value} (λ v. ok v) (sym x.1); node = x.0; linked = linked_rows e g.linked }

pub accepted_rows : {s : Bytes} {w w' : List ℕ} {m : Members} {sheet : Sheet Condition} → table w' ≡ table w → Accepted s w m sheet → Accepted s w' m sheet
accepted_rows {s} {w} {w'} {m} {sheet} e a =
    record {
      reads = a.reads;
      stored = stored_rows e a.stored;
      id = may_give_rows a_text s w w' m.id sheet.id e a.id;
      entity = gives_rows e a.entity;
      version = gives_rows e a.version;
      args = gives_rows e a.args;
      fields = gives_rows e a.fields;
      old_fields = gives_rows e a.old_fields;
      from_state = may_give_rows a_text s w w' m.from_state sheet.from_state e a.from_state;
      to_state = gives_rows e a.to_state;
      state = may_give_rows a_text s w w' m.state sheet.state e a.state;
      states = gives_rows e a.states;
      its_condition = may_give_rows condition s w w' m.condition sheet.condition e a.its_condition;
      preconditions = gives_rows e a.preconditions;
      invariants = gives_rows e a.invariants;
      outcomes = gives_rows e a.outcomes;
    }

-- the table alone gives the same
pub linked_table : {s : Bytes} {w : List ℕ} → Linked s w → Linked s (table w)
linked_table {w = w} l = linked_rows (table_twice w) l

pub gives_table : {A : Type 0} {kind : Value → Result A} {s : Bytes} {w : List ℕ} {n : ℕ} {a : A} → Gives kind s w n a → Gives kind s (table w) n a
gives_table {w = w} g = gives_rows (table_twice w) g

-- ---- the texts of the marked nodes are those that are marked
module _ (s : Bytes) (w : List ℕ) (x : Bytes) where
  same_text : (n : ℕ) → n < 4096 → text_at s (start_at w n) ≡ text_at s (start_at (table w) n)
  same_text n h = ap (λ (y : ℕ). text_at s (y / 8)) (row_word w (3 * n) (omega arith))

  from_marked : (m k : ℕ) → k + m ≤ 4096 → Named x (marked_from s w m k) → Marked s w x
  unfolding marked_from
  from_marked zero k h n = absurd (Memᴰ.not-nil n)
  from_marked (suc m) k h n = go (λ j. from_marked m (k + 1) (omega arith) j) (is_marked w k) refl n
    where
      go : (Named x (marked_from s w m (k + 1)) → Marked s w x) → (b : Bool) → is_marked w k ≡ b → Named x (marked_from s w (suc m) k) → Marked s w x
      go below true q j =
          ⊎_elim
          (λ e.
          record {
            node = k;
            small = omega arith;
            mark = eqb-true (get_or w (12288 + k) 0 % 2) 1 q;
            text = sym (same_text k (omega arith)) ∙ sym e;
          }) below (Memᴰ.cases_cons (rw (q, marked_from) at j))
      go below false q j = below (rw (q, marked_from) at j)

  to_marked : (m k : ℕ) (y : Marked s w x) → k ≤ y.node → y.node < k + m → Named x (marked_from s w m k)
  unfolding marked_from
  to_marked zero k y l h = absurd (omega arith)
  to_marked (suc m) k y l h = go (λ i. to_marked m (k + 1) y i (omega arith)) (is_marked w k) refl (eqb k y.node) refl
    where
      go : (k + 1 ≤ y.node → Named x (marked_from s w m (k + 1))) → (b : Bool) → is_marked w k ≡ b → (d : Bool) → eqb k y.node ≡ d → Named x (marked_from s w (suc m) k)
      go below true q true r =
          let e = eqb-true k y.node r in rw (q, marked_from)
          (Memᴰ.head (sym y.text ∙ sym (same_text y.node y.small) ∙ ap (λ (n : ℕ). text_at s (start_at w n)) (sym e)))
      go below true q false r = let e = eqb-false k y.node r in rw (q, marked_from) (Memᴰ.tail (below (omega arith)))
      go below false q true r = let e = eqb-true k y.node r in absurd (eqb-false (get_or w (12288 + k) 0 % 2) 1 q (ap (λ (n : ℕ). get_or w (12288 + n) 0 % 2) e ∙ y.mark))
      go below false q false r = let e = eqb-false k y.node r in rw (q, marked_from) (below (omega arith))

-- over a table without marks, what is marked after are the names met
pub names_marked : {s : Bytes} {w w' : List ℕ} {ns : Names} → ((i : ℕ) → 12288 ≤ i → i < 16384 → get_or w i 0 % 2 ≡ 0) → Left s w w' ns →
    ascending (marked s w') ≡ ascending ns
unfolding marked
names_marked {s} {w} {w'} {ns} z l =
    ascending_set (marked s w') ns λ x. (
      λ n. ⊎_elim (λ m. None x m) (λ m. m) (l.only x (from_marked s w' x 4096 0 (omega arith) n)),
      λ n. let y = l.added x n in to_marked
          s w' x 4096 0 y (omega arith) (omega (arith, y.small)),
    )
  where
    None : (x : Bytes) → Marked s w x → Named x ns
    None x y = absurd (omega (arith, z (12288 + y.node) (omega arith) (omega (arith, y.small)), y.mark))
