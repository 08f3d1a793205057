-- Nodes and names are told by the words up to the end of their rows: another table that begins with these holds the same.
-- Assumes nothing.
use mathlib.Core.List.{List}
use mathlib.Core.Path.{sym, ◌∙◌, ◌≡◌}
use Prim.Native.Nat.{ℕ, ◌*◌, ◌+◌, ◌<◌}
use native.Mathlib.Omega.{arith}
use lib.ListN.{take}
use Rattle.json_text.proofs.Decoded.{length_rows, length_rows_of, node_after}
use Rattle.json_text.proofs.Prefix.{begins_prefix, word_prefix}
use Rattle.json_text.proofs.Walk.{members_more, value_is}
use Rattle.json_text.specs.Bytes.{Bytes}
use Rattle.json_text.specs.Held.{AreMembers, HasMembers, IsNode, NodeAt}
use Rattle.json_text.specs.KeyOrder.{names_at}
use Rattle.json_text.specs.Table.{after_at, rows, rows_of, value_at}
use Rattle.order.proofs.Names.{by_members, names_done, names_more}

module _ (s : Bytes) (w v : List ℕ) where
  -- ---- a node
  pub node_rows : {left n : ℕ} → take (3 * after_at w n) v ≡ take (3 * after_at w n) w → IsNode s w left n → IsNode s v left n × (value_at s v n ≡ value_at s w n)
  node_rows {left} {n} e h = (record { tree = h.tree; held = held; depth = h.depth; most = h.most }, value_is s v h.depth held ∙ sym (value_is s w h.depth h.held))
    where
      held : NodeAt s v left n h.tree
      held =
          record {
            words = begins_prefix w v (3 * after_at w n) e (3 * n) (rows h.tree n)
                (omega (arith, length_rows h.tree n, node_after s w left n h.tree h.held)) h.held.words;
            shallow = h.held.shallow;
            fits = h.held.fits;
          }

  -- ---- members and their names
  module _ {e : ℕ} (same : take (3 * e) v ≡ take (3 * e) w) where
    are_members : {left k : ℕ} → AreMembers s w left k e → AreMembers s v left k e
    are_members {left} {k} h =
        let f = h.held in
        record {
          tree = h.tree;
          held =
              record {
                words = begins_prefix w v (3 * e) same (3 * k) (rows_of h.tree k)
                    (omega (arith, length_rows_of h.tree k, f.upto)) f.words;
                upto = f.upto;
                shallow = f.shallow;
                fits = f.fits;
              };
          depth = h.depth;
          most = h.most;
        }

    pub names_rows : {k : ℕ} → HasMembers s w k e → names_at s v k e ≡ names_at s w k e
    names_rows {k} h = by_members s w (λ i. names_at s v i e ≡ names_at s w i e) (λ i l. names_done s v l ∙ sym (names_done s w l)) more k h.members
      where
        more : (i : ℕ) → AreMembers s w h.left i e → i < e → names_at s v (after_at w (i + 1)) e ≡ names_at s w (after_at w (i + 1)) e → names_at s v i e ≡ names_at s w i e
        more i a l below =
            let x = members_more s w a l in
            let p = word_prefix w v (3 * e) same (3 * i) (omega arith) in
            let q = word_prefix w v (3 * e) same (3 * (i + 1) + 2) (omega (arith, x.past, x.upto)) in
            names_more s v (are_members a) l ∙ rw (p, q, below) (sym (names_more s w a l))
