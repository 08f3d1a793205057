-- Sorted nodes are the same nodes, and an object's names sorted are its names in order.
-- Assumes nothing.
use mathlib.Core.Bool.{Bool, false, false≢true, not, true, ◌&&◌}
use mathlib.Core.List.Memᴰ
use mathlib.Core.List.{List, Memᴰ, [], ◌++◌, ◌∷◌}
use mathlib.Core.Logic.{inl, inr, ◌⊎◌}
use mathlib.Core.Path.{ap, refl, sym, ◌∙◌, ◌≡◌}
use Prim.Native.Nat.{Ordering, suc, zero, ℕ, ◌+◌, ◌-◌, ◌<◌}
use lib.Dec.{ltb}
use lib.ListN.{drop, get_or, length, take}
use lib.Seq.{drop-cons}
use native.Mathlib.Omega.{arith}
use borrow.Author.Tests.{not-true}
use Rattle.order.specs.ByText.{TextNode, TextNodes, by_key, insert, key_at}
use Rattle.json_text.proofs.Sorted.{OrderView, is_eq', is_gt, is_lt, order_view}
use Rattle.json_text.proofs.KeyOrder.{Each, each_in_order}
use Rattle.json_text.proofs.Laws.{both_true, same_bytes_refl}
use Rattle.json_text.specs.Bytes.{Bytes, is_one_of, order_bytes, same_bytes}
use Rattle.json_text.specs.Json.{Members, Value, keys}
use Rattle.json_text.specs.KeyOrder.{in_order, names_at, names_by, nodes_of, put}
use Rattle.json_text.specs.Limits.{tidy, tidy_of}
use Rattle.json_text.specs.Table.{after_at, members_at, members_by, value_at}

-- ---- the same nodes
module _ (key : ℕ → Bytes) where
  length_insert : (n : ℕ) (l : List ℕ) → length (insert key n l) ≡ suc (length l)
  unfolding insert
  length_insert n [] = refl
  length_insert n (m ∷ ms) = go (order_bytes (key n) (key m)) refl (length_insert n ms)
    where
      go : (o : Ordering) → order_bytes (key n) (key m) ≡ o → length (insert key n ms) ≡ suc (length ms) → length (insert key n (m ∷ ms)) ≡ suc (length (m ∷ ms))
      go Ordering.lt e more = rw (e, insert)
      go Ordering.eq e more = rw (e, insert)
      go Ordering.gt e more = rw (e, insert) (ap suc more)

  pub length_by_key : (l : List ℕ) → length (by_key key l) ≡ length l
  unfolding by_key
  length_by_key [] = refl
  length_by_key (n ∷ ns) = length_insert n (by_key key ns) ∙ ap suc (length_by_key ns)

  insert_within : {x : ℕ} (n : ℕ) (l : List ℕ) → Memᴰ x (insert key n l) → Memᴰ x (n ∷ l)
  unfolding insert
  insert_within n [] i = i
  insert_within {x} n (m ∷ ms) i = go (order_bytes (key n) (key m)) refl (insert_within n ms)
    where
      further : (x ≡ n) ⊎ Memᴰ x ms → Memᴰ x (n ∷ m ∷ ms)
      further (inl e) = Memᴰ.head e
      further (inr j) = Memᴰ.tail (Memᴰ.tail j)

      past : (Memᴰ x (insert key n ms) → Memᴰ x (n ∷ ms)) → (x ≡ m) ⊎ Memᴰ x (insert key n ms) → Memᴰ x (n ∷ m ∷ ms)
      past more (inl e) = Memᴰ.tail (Memᴰ.head e)
      past more (inr j) = further (Memᴰ.cases_cons (more j))

      go : (o : Ordering) → order_bytes (key n) (key m) ≡ o → (Memᴰ x (insert key n ms) → Memᴰ x (n ∷ ms)) → Memᴰ x (n ∷ m ∷ ms)
      go Ordering.lt e more = rw (e, insert) at i
      go Ordering.eq e more = rw (e, insert) at i
      go Ordering.gt e more = past more (Memᴰ.cases_cons (rw (e, insert) at i))

  pub by_key_within : {x : ℕ} (l : List ℕ) → Memᴰ x (by_key key l) → Memᴰ x l
  unfolding by_key
  by_key_within [] i = i
  by_key_within {x} (n ∷ ns) i = go (Memᴰ.cases_cons (insert_within n (by_key key ns) i)) (by_key_within ns)
    where
      go : (x ≡ n) ⊎ Memᴰ x (by_key key ns) → (Memᴰ x (by_key key ns) → Memᴰ x ns) → Memᴰ x (n ∷ ns)
      go (inl e) more = Memᴰ.head e
      go (inr j) more = Memᴰ.tail (more j)

-- ---- nodes whose texts can be compared
module _ (s : Bytes) (w : List ℕ) where
  pub text_all : (ns : List ℕ) → ((n : ℕ) → Memᴰ n ns → TextNode s w n) → TextNodes s w ns
  unfolding TextNodes
  text_all [] f = tt
  text_all (n ∷ ns) f = (f n (Memᴰ.head refl), text_all ns (λ m i. f m (Memᴰ.tail i)))

  pub text_one : {n : ℕ} (ns : List ℕ) → TextNodes s w ns → Memᴰ n ns → TextNode s w n
  unfolding TextNodes
  text_one ns t (Memᴰ.head e) = rw e t.0
  text_one ns t (Memᴰ.tail {xs = ms} i) = text_one ms t.1 i

  pub text_nodes_sorted : (ns : List ℕ) → TextNodes s w ns → TextNodes s w (by_key (key_at s w) ns)
  text_nodes_sorted ns t = text_all (by_key (key_at s w) ns) (λ n i. text_one ns t (by_key_within (key_at s w) ns i))

  pub text_get_d : (ns : List ℕ) (i : ℕ) → TextNodes s w ns → i < length ns → TextNode s w (get_or ns i 0)
  unfolding TextNodes
  text_get_d [] i t h = absurd (omega arith)
  text_get_d (n ∷ ns) zero t h = t.0
  text_get_d (n ∷ ns) (suc i) t h = text_get_d ns i t.1 (omega arith)

  -- the first of those behind a place
  pub text_next : (ns : List ℕ) (i : ℕ) → TextNodes s w (drop i ns) → i < length ns → TextNode s w (get_or ns i 0)
  unfolding TextNodes
  text_next ns i t h = (rw (drop-cons ns i 0 h) at t).0

  pub text_take : (ns : List ℕ) (i : ℕ) → TextNodes s w ns → TextNodes s w (take i ns)
  unfolding TextNodes
  text_take ns zero t = tt
  text_take [] (suc i) t = tt
  text_take (n ∷ ns) (suc i) t = (t.0, text_take ns i t.1)

  pub text_drop : (ns : List ℕ) (i : ℕ) → TextNodes s w ns → TextNodes s w (drop i ns)
  unfolding TextNodes
  text_drop ns zero t = t
  text_drop [] (suc i) t = t
  text_drop (n ∷ ns) (suc i) t = text_drop ns i t.1

  pub text_append : (ns ms : List ℕ) → TextNodes s w ns → TextNodes s w ms → TextNodes s w (ns ++ ms)
  unfolding TextNodes
  text_append [] ms t u = u
  text_append (n ∷ ns) ms t u = (t.0, text_append ns ms t.1 u)

-- ---- an object's names
-- a name with its node that is another than this one
abbrev Other : (ℕ → Bytes) → Bytes → Bytes × ℕ → Type 0
Other key k x = (x.0 ≡ key x.1) × (k ≡ x.0 → ⊥)

put_nodes : (key : ℕ → Bytes) (n : ℕ) (ys : List (Bytes × ℕ)) → Each (Other key (key n)) ys → insert key n (nodes_of ys) ≡ nodes_of (put (key n, n) ys)
unfolding insert put nodes_of Each
put_nodes key n [] h = refl
put_nodes key n (y ∷ ys) h = go (order_bytes (key n) y.0) (order_view (key n) y.0) refl (put_nodes key n ys h.1)
  where
    go : (o : Ordering) → OrderView (key n) y.0 o → order_bytes (key n) y.0 ≡ o →
        insert key n (nodes_of ys) ≡ nodes_of (put (key n, n) ys) → insert key n (nodes_of (y ∷ ys)) ≡ nodes_of (put (key n, n) (y ∷ ys))
    go o (is_lt l) e more = rw (← h.0.0, e, insert, put, nodes_of)
    go o (is_eq' l) e more = absurd (h.0.1 l)
    go o (is_gt l) e more = rw (← h.0.0, e, insert, put, nodes_of) (ap (λ (l : List ℕ). y.1 ∷ l) more)

-- what a name that is none of these has before it
not_one : (k : Bytes) (l : Bytes) (ls : List Bytes) → is_one_of k (l ∷ ls) ≡ false → (k ≡ l → ⊥) × (is_one_of k ls ≡ false)
unfolding is_one_of
not_one k l ls e = go (same_bytes k l) refl
  where
    go : (b : Bool) → same_bytes k l ≡ b → (k ≡ l → ⊥) × (is_one_of k ls ≡ false)
    go true q = absurd (false≢true (sym e ∙ rw (q, is_one_of) refl))
    go false q = (λ p. false≢true (sym q ∙ rw p (same_bytes_refl l)), rw (q, is_one_of) at e)

others : (f : ℕ → Value) (s : Bytes) (w : List ℕ) (n : Bytes) (m k e : ℕ) → is_one_of n (keys (members_by f s w m k e)) ≡ false → Each (Other (key_at s w) n) (names_by s w m k e)
unfolding members_by names_by Each
others f s w n zero k e d = tt
others f s w n (suc m) k e d = go (ltb k e) refl (others f s w n m (after_at w (k + 1)) e)
  where
    go : (b : Bool) → ltb k e ≡ b →
        (is_one_of n (keys (members_by f s w m (after_at w (k + 1)) e)) ≡
        false → Each (Other (key_at s w) n) (names_by s w m (after_at w (k + 1)) e)) → Each (Other (key_at s w) n) (names_by s w (suc m) k e)
    go true q more =
        let z = not_one n (key_at s w k) (keys (members_by f s w m (after_at w (k + 1)) e)) (rw (q, members_by) at d) in
        rw (q, names_by) ((refl, z.0), more z.1)
    go false q more = rw (q, names_by) tt

names_by_lem : (limit : ℕ) (f : ℕ → Value) (s : Bytes) (w : List ℕ) (m k e : ℕ) → tidy_of limit (members_by f s w m k e) ≡ true →
    by_key (key_at s w) (nodes_of (names_by s w m k e)) ≡ nodes_of (in_order (names_by s w m k e))
unfolding members_by names_by by_key in_order nodes_of tidy_of
names_by_lem limit f s w zero k e t = refl
names_by_lem limit f s w (suc m) k e t = go (ltb k e) refl (names_by_lem limit f s w m (after_at w (k + 1)) e)
  where
    ns : List (Bytes × ℕ)
    ns = names_by s w m (after_at w (k + 1)) e

    ms : Members
    ms = members_by f s w m (after_at w (k + 1)) e

    go : (b : Bool) → ltb k e ≡ b → (tidy_of limit ms ≡ true → by_key (key_at s w) (nodes_of ns) ≡ nodes_of (in_order ns)) →
        by_key (key_at s w) (nodes_of (names_by s w (suc m) k e)) ≡ nodes_of (in_order (names_by s w (suc m) k e))
    go true q more =
        let y = both_true (not (is_one_of (key_at s w k) (keys ms))) (tidy limit (f (k + 1)) && tidy_of limit ms) (rw (q, members_by, tidy_of) at t) in
        let z = both_true (tidy limit (f (k + 1))) (tidy_of limit ms) y.1 in
        rw (q, names_by)
        (ap (insert (key_at s w) k) (more z.1) ∙
        put_nodes (key_at s w) k (in_order ns)
        (each_in_order (Other (key_at s w) (key_at s w k)) ns
        (others f s w (key_at s w k) m (after_at w (k + 1)) e (not-true _ y.0))))
    go false q more = rw (q, names_by)

-- Where no name stands twice, an object's names sorted are its names in order.
pub names_sorted : (limit : ℕ) (s : Bytes) (w : List ℕ) (k e : ℕ) → tidy_of limit (members_at s w k e) ≡ true →
    by_key (key_at s w) (nodes_of (names_at s w k e)) ≡ nodes_of (in_order (names_at s w k e))
unfolding members_at names_at
names_sorted limit s w k e t = names_by_lem limit (value_at s w) s w (e - k) k e t
