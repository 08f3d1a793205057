-- A sorted list with each text once is the list of names, ascending.
-- Assumes nothing.
use mathlib.Core.Bool.{Bool, cond, false, true, true≢false}
use mathlib.Core.List.{List, [], ◌∷◌}
use Rattle.std.specs.Prelude.{None, Some}
use mathlib.Core.Path.{ap, refl, sym, ◌∙◌, ◌≡◌}
use Prim.Native.Nat.{Ordering, suc, zero, ℕ, ◌+◌}
use Rattle.order.specs.ByText.{by_key, insert, key_at}
use Rattle.json_text.proofs.Laws.{same_bytes_refl, same_bytes_true}
use Rattle.json_text.proofs.Sorted.{Less, OrderView, is_eq', is_gt, is_lt, less_order, less_trans, order_view, same_order}
use Rattle.json_text.specs.Bytes.{Bytes, order_bytes, same_bytes}
use Rattle.json_text.specs.Limits.{max_nodes}
use Rattle.json_text.specs.Marks.{is_marked, marked, marked_from}
use Rattle.semantics.specs.Names.{ascending, insert_name}
use Rattle.writer.specs.Once.{is_again, marked_nodes, marked_nodes_from, once_after, texts_of}

-- ---- texts as the order of the nodes puts them, the same ones still side by side
unfoldable insert_text : Bytes → List Bytes → List Bytes
unfolding order_bytes
insert_text t [] = t ∷ []
insert_text t (u ∷ us) = elim (order_bytes t u) [ Ordering.lt ↦ t ∷ u ∷ us | Ordering.eq ↦ t ∷ u ∷ us | Ordering.gt ↦ u ∷ insert_text t us ]

unfoldable in_order : List Bytes → List Bytes
unfolding insert_text
in_order [] = []
in_order (t ∷ ts) = insert_text t (in_order ts)

module _ (s : Bytes) (w : List ℕ) where
  texts_insert : (n : ℕ) (ms : List ℕ) → texts_of s w (insert (key_at s w) n ms) ≡ insert_text (key_at s w n) (texts_of s w ms)
  unfolding texts_of insert insert_text
  texts_insert n [] = refl
  texts_insert n (m ∷ ms) = go (order_bytes (key_at s w n) (key_at s w m)) refl (texts_insert n ms)
    where
      go : (o : Ordering) → order_bytes (key_at s w n) (key_at s w m) ≡ o →
          texts_of s w (insert (key_at s w) n ms) ≡ insert_text (key_at s w n) (texts_of s w ms) →
          texts_of s w (insert (key_at s w) n (m ∷ ms)) ≡ insert_text (key_at s w n) (texts_of s w (m ∷ ms))
      go Ordering.lt e below = rw (e, insert, insert_text)
      go Ordering.eq e below = rw (e, insert, insert_text)
      go Ordering.gt e below = rw (e, insert, insert_text) (ap {B = List Bytes} (λ l. key_at s w m ∷ l) below)

  texts_sorted : (ns : List ℕ) → texts_of s w (by_key (key_at s w) ns) ≡ in_order (texts_of s w ns)
  unfolding texts_of by_key in_order
  texts_sorted [] = refl
  texts_sorted (n ∷ ns) = texts_insert n (by_key (key_at s w) ns) ∙ ap (insert_text (key_at s w n)) (texts_sorted ns)

  texts_marked : (m k : ℕ) → texts_of s w (marked_nodes_from w m k) ≡ marked_from s w m k
  unfolding texts_of marked_nodes_from marked_from
  texts_marked zero k = refl
  texts_marked (suc m) k = go (is_marked w k) refl (texts_marked m (k + 1))
    where
      go : (b : Bool) → is_marked w k ≡ b → texts_of s w (marked_nodes_from w m (k + 1)) ≡ marked_from s w m (k + 1) →
          texts_of s w (marked_nodes_from w (suc m) k) ≡ marked_from s w (suc m) k
      go true q below = rw (q, marked_nodes_from, marked_from) (ap {B = List Bytes} (λ l. key_at s w k ∷ l) below)
      go false q below = rw (q, marked_nodes_from, marked_from) below

-- ---- each text once
again : {t u : Bytes} → t ≡ u → is_again (Some t) u ≡ true
unfolding is_again
again {t} {u} e = ap (same_bytes t) (sym e) ∙ same_bytes_refl t

not_again : {t u : Bytes} → (t ≡ u → ⊥) → is_again (Some t) u ≡ false
unfolding is_again
not_again {t} {u} n = go (same_bytes t u) refl
  where
    go : (b : Bool) → same_bytes t u ≡ b → b ≡ false
    go true q = absurd (n (same_bytes_true t u q))
    go false q = refl

apart : {t u : Bytes} → Less t u → t ≡ u → ⊥
apart {t} l e = let z : ◌≡◌ {A = Bool} true false = cc (less_order l, ap (order_bytes t) (sym e), same_order t) in true≢false z

-- a text that comes after the last one: put in among the rest, it is put among the rest once
once_insert : (l t : Bytes) (us : List Bytes) → Less l t → once_after (Some l) (insert_text t us) ≡ insert_name t (once_after (Some l) us)
unfolding once_after insert_text insert_name
once_insert l t [] h = rw (not_again (apart h))
once_insert l t (u ∷ us) h = go (order_bytes t u) (order_view t u) refl (once_insert u t us)
  where
    rest : List Bytes
    rest = once_after (Some u) us

    seen : {b : Bool} → is_again (Some l) u ≡ b → once_after (Some l) (u ∷ us) ≡ cond b rest (u ∷ rest)
    seen q = ap {B = List Bytes} (λ b. cond b rest (u ∷ rest)) q

    first : once_after (Some l) (t ∷ u ∷ us) ≡ t ∷ once_after (Some t) (u ∷ us)
    first = rw (not_again (apart h))

    go : (o : Ordering) → OrderView t u o → order_bytes t u ≡ o → (Less u t → once_after (Some u) (insert_text t us) ≡ insert_name t rest) →
        once_after (Some l) (insert_text t (u ∷ us)) ≡ insert_name t (once_after (Some l) (u ∷ us))
    go o (is_lt k) e below = rw (e, insert_text, first, not_again (apart k), seen (not_again (apart (less_trans h k))), e, insert_name)
    go o (is_eq' k) e below = rw (e, insert_text, first, again k, seen (not_again (λ q. apart h (q ∙ sym k))), e, insert_name) (ap {B = List Bytes} (λ x. x ∷ rest) k)
    go o (is_gt k) e below = by (is_again (Some l) u) refl (below k)
      where
        by : (b : Bool) → is_again (Some l) u ≡ b → once_after (Some u) (insert_text t us) ≡ insert_name t rest →
            once_after (Some l) (insert_text t (u ∷ us)) ≡ insert_name t (once_after (Some l) (u ∷ us))
        by true q i = rw (e, insert_text, q) i
        by false q i = rw (e, insert_text, q, e, insert_name) (ap {B = List Bytes} (λ x. u ∷ x) i)

once_first : (t : Bytes) (us : List Bytes) → once_after None (insert_text t us) ≡ insert_name t (once_after None us)
unfolding once_after insert_text insert_name is_again
once_first t [] = refl
once_first t (u ∷ us) = go (order_bytes t u) (order_view t u) refl
  where
    go : (o : Ordering) → OrderView t u o → order_bytes t u ≡ o → once_after None (insert_text t (u ∷ us)) ≡ insert_name t (once_after None (u ∷ us))
    go o (is_lt k) e = rw (e, insert_text, not_again (apart k), insert_name)
    go o (is_eq' k) e = rw (e, insert_text, again k, insert_name) (ap {B = List Bytes} (λ x. x ∷ once_after (Some u) us) k)
    go o (is_gt k) e = rw (e, insert_text, insert_name) (ap {B = List Bytes} (λ x. u ∷ x) (once_insert u t us k))

once_sorted : (ts : List Bytes) → once_after None (in_order ts) ≡ ascending ts
unfolding once_after in_order ascending
once_sorted [] = refl
once_sorted (t ∷ ts) = once_first t (in_order ts) ∙ ap (insert_name t) (once_sorted ts)

pub all_marked : (s : Bytes) (w : List ℕ) → marked_from s w max_nodes 0 ≡ marked s w
unfolding marked
all_marked s w = refl

-- The marked nodes by their texts, each text once: the names, ascending.
pub names_once : (s : Bytes) (w : List ℕ) → once_after None (texts_of s w (by_key (key_at s w) (marked_nodes w))) ≡ ascending (marked s w)
unfolding marked_nodes marked
names_once s w = ap (once_after None) (texts_sorted s w (marked_nodes w) ∙ ap in_order (texts_marked s w max_nodes 0)) ∙ once_sorted (marked s w)
